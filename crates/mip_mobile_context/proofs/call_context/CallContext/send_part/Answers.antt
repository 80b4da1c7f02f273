use Rattle.std.proofs.Common.{sym, ap, subst, arith}
use Rattle.std.proofs.lemmas.List.{append-nil}
use Rattle.std.specs.List.{AllByRecursion}
use Rattle.mip_words.specs.declared.moment.Moment.{Moment}
use Rattle.mip_rules_correspondent.specs.Calls as parts
use Rattle.mip_rules_correspondent.specs.Seen.{CorrespondentSeen}
use Rattle.mip_rules_mobile.specs.Questions.{after}
use Rattle.mip_rules_mobile.specs.Steps.{Parts}
use Rattle.mip_mobile_context.specs.Outgoing.{CanPass}
use Rattle.mip_mobile_state.specs.Seen.{seen}
use Rattle.mip_mobile_context.proofs.Entering.{part-passes}
use Rattle.mip_mobile_context.proofs.Noted.{shown}
use Rattle.mip_mobile_context.proofs.PartSteps.{part-sound}
use Rattle.mip_mobile_context.proofs.call_context.CallContext.send_part.Goals as goal

pub invariant_of-self-2 : goal.invariant_of-self-2
invariant_of-self-2 c =
    part-sound (record { moment = c.self.inside.moment.0; known = seen c.self.inside.known; answers = c.self.inside.answers }) c.self.inside.known.home c.send.new.self c.self.invariant
    (ap (λ (p : CorrespondentSeen). p.identity) c.in_ok-answers.ensures.after) (omega (arith, ap (λ (m : Moment). m.0) c.in_ok-answers.ensures.last))

pub returns-clause-shows : goal.returns-clause-shows
unfolding after
returns-clause-shows c = λ t shows.
    shown (Parts (parts.Send c.args.to c.args.data.now.proto c.args.data.now.payload.now)) c.args.self.now c.self.inside.moment.0 (seen c.self.inside.known) _ c.self.inside.answers c.self.inside.answers t c.self.view_is (sym (append-nil c.self.inside.answers))
    (ap (λ (p : CorrespondentSeen). record (seen c.self.inside.known) { part = p }) c.in_ok-answers.ensures.after) shows

pub returns-clause-pass : goal.returns-clause-pass
returns-clause-pass c =
    subst (AllByRecursion CanPass) (sym c.in_ok-answers.ensures.answers)
    (part-passes c.self.inside.known.part.identity c.self.inside.known.part.known c.self.inside.moment.0 (parts.Send c.args.to c.args.data.now.proto c.args.data.now.payload.now) c.args.data.now.short)
