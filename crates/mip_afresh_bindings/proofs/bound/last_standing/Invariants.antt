use Rattle.std.proofs.Common.{◌≡◌, drop, map}
use Rattle.std.specs.Prelude.{option_map}
use Rattle.mip_words.specs.Last.{or_else, last_where}
use Rattle.mip_binding.specs.Held.{is_standing}
use Rattle.mip_afresh_bindings.specs.Accepted.{binding_seen}
use Rattle.mip_afresh_bindings.proofs.bound.last_standing.Given as goal

abbrev pub invariant-loop-binding : goal.invariant-loop-binding
invariant-loop-binding l =
    or_else (last_where (is_standing l.home.0 l.now.0) (map binding_seen (drop l.binding-index l.live))) (option_map binding_seen l.last)
    ≡ last_where (is_standing l.home.0 l.now.0) (map binding_seen l.live)
