use Rattle.std.proofs.Common.{refl, sym, ◌∙◌}
use Rattle.mip_engine.proofs.GoesLaws.{goes_to}
use Rattle.mip_replay.proofs.WaitLaws.{come_stays, come_passes}
use Rattle.mip_replay.proofs.waiting.come_to.Goals as goal

pub returns-then-is_told : goal.returns-then-is_told
returns-then-is_told c = record {
  stands = λ s run at. come_stays c.args.engine.now s run at c.args.to.moment.0 c.args.told (sym c.is_told.ensures ∙ c.if-is_told.true);
  kept = refl;
}

pub returns : goal.returns
returns c =
    goes_to c.pass_to.ensures refl refl
    (λ s run at. come_passes c.args.engine.now s run at c.args.to.moment.0 c.args.told (sym c.is_told.ensures ∙ c.if-is_told.false))
