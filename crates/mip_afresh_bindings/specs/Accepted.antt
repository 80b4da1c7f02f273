-- What a node accepted, as the definitions of bindings have it.
use Rattle.std.specs.Prelude.{map}
use Rattle.mip_binding.specs.Acceptance as bindings
use Rattle.mip_binding.specs.Acceptance.{Binding, binding_of}
use Rattle.mip_history.specs.Bound as bound
use Rattle.mip_afresh_bindings.specs.declared.acceptance.Acceptance.{Acceptance}
use Rattle.mip_afresh_bindings.specs.declared.lived.Lived.{Lived}

abbrev pub acceptance_seen : Acceptance → bindings.Acceptance
acceptance_seen a = record {
  at = a.at.0;
  home = a.home.0;
  number = a.number;
  careof = a.careof.0;
  sequence = a.sequence;
  end = a.end.0;
}

abbrev pub binding_seen : Acceptance → Binding
binding_seen a = binding_of (acceptance_seen a)

abbrev pub lived_seen : Lived → bound.Lived
lived_seen l = record { at = l.at.0; accepted = map acceptance_seen l.accepted.items }
