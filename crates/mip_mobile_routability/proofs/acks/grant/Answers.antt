use Rattle.std.proofs.Common.{ℕ, [], ◌∷◌, sym, ap, subst, OnOk}
use Rattle.std.specs.Prelude.{Option}
use Rattle.mip_words.specs.declared.address.Address.{Address}
use Rattle.mip_bulist.specs.declared.work.Work.TheVariants.{Resend}
use Rattle.mip_entries.proofs.TransitionLaws.{noted_all-is}
use Rattle.mip_rules_mobile.specs.Questions.{after}
use Rattle.mip_rules_mobile.specs.Trials.{Acknowledge}
use Rattle.mip_rules_mobile.specs.Steps.{Stops, Tries}
use Rattle.mip_rules_mobile.specs.Transitions.{Transition, noted}
use Rattle.mip_rules_mobile.specs.PeerRules.{ends_for, is_granted}
use Rattle.mip_mobile_context.specs.Seen.{Shows}
use Rattle.mip_mobile_routability.specs.Waits.{IsOf}
use Rattle.mip_mobile_routability.proofs.acks.grant.Goals as goal

pub returns : goal.returns
unfolding is_granted
returns c = λ u t is shows.
    let acked = c.acknowledge_trial.ensures _ (c.stop.ensures t shows) in
    let moment = ap (λ (v : Transition). v.now) (noted_all-is after (Stops (Resend c.args.waiting.now.at.row) ∷ Tries c.args.waiting.now.at.row (Acknowledge c.args.sequence c.args.lifetime) ∷ []) t) in
    let still = subst (λ (n : ℕ). IsOf c.args.waiting.now n u) (sym moment) is in
    subst (λ (o : Option Address). OnOk c.end.result (Shows c.end.new.context (ends_for o u c.args.waiting.now.at.row c.args.lifetime
    (noted (Tries c.args.waiting.now.at.row (Acknowledge c.args.sequence c.args.lifetime)) (noted (Stops (Resend c.args.waiting.now.at.row)) t))))) is.binds_to
    (c.end.ensures u _ still acked)
