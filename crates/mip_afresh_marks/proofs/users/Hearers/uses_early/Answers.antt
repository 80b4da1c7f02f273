use Rattle.std.proofs.Common.{false, sym, ap, ◌∙◌}
use Rattle.std.specs.Option.{option_map_or}
use Rattle.std.specs.Str.{bytes_eq}
use Rattle.mip_provenance.specs.Causes.{early}
use Rattle.mip_afresh_marks.specs.declared.sight.Sight.{Sight}
use Rattle.mip_afresh_marks.specs.Sighting.{said_of, sight_seen}
use Rattle.mip_afresh_marks.proofs.Walks.{early_same}
use Rattle.mip_afresh_marks.proofs.users.Hearers.uses_early.Goals as goal

pub returns-in-Injected : goal.returns-in-Injected
returns-in-Injected c = λ named front heard.
    c.uses.ensures.result
    ∙ early_same c.args.self.now.heard c.args.token.0 front heard c.in-Injected.number c.in-Injected.outsider c.uses.ensures.within (said_of c.in-Injected.said)
    ∙ sym (ap (λ (s : Sight). option_map_or (bytes_eq c.args.token.0) (early front (sight_seen named s)) false) c.in-Injected.is)
