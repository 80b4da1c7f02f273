use Rattle.std.proofs.Common.{◌∙◌}
use Rattle.mip_history.specs.Advertising.{mobiles_told}
use Rattle.mip_engine.proofs.QuietLaws.{at_run}
use Rattle.mip_replay.proofs.AdvertLaws.{told_more}
use Rattle.mip_replay.proofs.advertising.tell_mobiles.Goals as goal

pub loop-node-preserved : goal.loop-node-preserved
loop-node-preserved c = record {
  stands = λ s run at is.
      let so_far = mobiles_told s c.args.link.0 c.loop-node.node run in
      at_run (told_more s c.args.link.0 c.loop-node.node run) (c.in_ok-tell_mobile.ensures.stands s so_far (c.loop-node.invariant.stands s run at is) is);
  kept = c.in_ok-tell_mobile.ensures.kept ∙ c.loop-node.invariant.kept;
}
