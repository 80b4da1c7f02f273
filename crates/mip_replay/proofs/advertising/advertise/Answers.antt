use Rattle.std.proofs.Common.{ℕ, ◌∙◌, subst}
use Rattle.std.proofs.lemmas.Result.{on_ok_weaker}
use Rattle.std.specs.Prelude.{OnOk}
use Rattle.mip_history.specs.Advertising.{agents_hear, mobiles_told}
use Rattle.mip_engine.specs.Standing.{IsAt}
use Rattle.mip_replay.proofs.AdvertLaws.{prefix_is}
use Rattle.mip_replay.proofs.advertising.advertise.Goals as goal

pub returns : goal.returns
returns c =
    let l = c.args.link.0 in
    record {
      stands = λ s run at.
          subst (λ (n : ℕ). OnOk c.tell_mobiles.result (IsAt c.tell_mobiles.new.engine s (mobiles_told s l n (agents_hear s l n run)))) (c.count-count.ensures.is ∙ at.count)
          (c.tell_mobiles.ensures.stands s (agents_hear s l c.count-count.result run) (c.in_ok-tell_agents.ensures.stands s run at) (c.prefix-prefix.ensures ∙ prefix_is c.args.engine.now s run at l));
      kept = on_ok_weaker c.tell_mobiles.result (λ still. still ∙ c.in_ok-tell_agents.ensures.kept) c.tell_mobiles.ensures.kept;
    }
