use Rattle.std.proofs.Common.{refl}
use Rattle.std.specs.Prelude.{Some}
use Rattle.mip_engine.proofs.GoesLaws.{goes_after, gone_noted}
use Rattle.mip_replay.proofs.AdvertLaws.{quiet_advertised}
use Rattle.mip_replay.proofs.advertising.hear_router.Goals as goal

pub returns : goal.returns
returns c = goes_after (gone_noted c.in_ok-note.ensures (quiet_advertised c.args.node.0 c.args.link.0 (Some c.args.router.address))) c.act.ensures (λ s run at. refl)
