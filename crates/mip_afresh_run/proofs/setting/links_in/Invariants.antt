use Rattle.std.proofs.Common.{◌≡◌, map, take}
use Rattle.mip_history.specs.Setup.{links_in}
use Rattle.mip_afresh_run.proofs.setting.links_in.Given as goal

abbrev pub invariant-loop-d : goal.invariant-loop-d
invariant-loop-d l = map (λ p. p.0) l.links.items ≡ links_in (take l.d-index l.ds)
