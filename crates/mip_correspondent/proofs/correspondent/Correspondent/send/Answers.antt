use Rattle.std.proofs.Common.{refl, ap, sym, subst, ◌∙◌}
use Rattle.std.specs.Prelude.{Option}
use Rattle.mip_words.specs.declared.address.Address.{Address}
use Rattle.mip_bcache.specs.Seen.{CacheSeen}
use Rattle.mip_rules_correspondent.specs.Steps.{Sends}
use Rattle.mip_rules_correspondent.specs.Transitions.{noted}
use Rattle.mip_rules_correspondent.specs.Questions.{held_of}
use Rattle.mip_rules_correspondent.specs.Doing.{data_sent}
use Rattle.mip_rules_correspondent.specs.Calls as calls
use Rattle.mip_rules_correspondent.specs.declared.known.Known.{Known}
use Rattle.mip_rules_correspondent.specs.Transitions.{Stands, with_transition}
use Rattle.mip_rules_correspondent.specs.Seen.{CorrespondentSeen, transition_at}
use Rattle.mip_rules_correspondent.proofs.Calls.{call-stands}
use Rattle.mip_correspondent.specs.Showing.{Shows}
use Rattle.mip_correspondent.proofs.CallTransitions.{transmits-shown}
use Rattle.mip_correspondent.proofs.CallTransitions.{Ends, ends}
use Rattle.mip_correspondent.proofs.correspondent.Correspondent.send.Goals as goal

ended : (c : goal.After-commit_call) → Ends c.args.self.now c.commit_call.new.self c.send_data.new.answers c.args.now.0 (calls.Send c.args.to c.args.proto c.args.payload.now)
ended c =
    let inside : CorrespondentSeen = record { identity = c.self.inside.identity; known = c.self.inside.known } in
    let now = c.args.now.0 in
    let shown = Shows now inside.known.cache c.send_data.new.answers in
    let packet = data_sent inside.identity c.args.to c.args.proto c.args.payload.now in
    ends c.args.self.now inside c.commit_call.new.self now (calls.Send c.args.to c.args.proto c.args.payload.now) c.in_ok-answers.answers
    (λ (cache : CacheSeen). cache) c.send_data.new.answers refl c.in_ok-answers.ensures c.self.view_is
    (λ t begins. subst shown (sym (transmits-shown inside.identity c.args.to c.args.proto c.args.payload.now now inside.known.cache c.in_ok-answers.answers t begins))
    (subst (λ (o : Option Address). shown (noted (Sends (packet o)) t)) (c.route-held.ensures.found ∙ ap (λ (s : CorrespondentSeen). held_of s.known now c.args.to) (sym c.self.view_is)) (c.in_ok-send_data.ensures now inside.known.cache t begins)))
    c.commit_call.ensures

pub returns-clause-answers : goal.returns-clause-answers
returns-clause-answers c = (ended c).answered

pub returns-clause-after : goal.returns-clause-after
returns-clause-after c = (ended c).after

pub returns-clause-stands : goal.returns-clause-stands
returns-clause-stands c = λ room numbers past stands.
    let s = c.args.self.now in
    let call = calls.Send c.args.to c.args.proto c.args.payload.now in
    subst (λ (k : Known). Stands room numbers (with_transition past (transition_at s c.args.now.0 call)) k) (sym (ap (λ (s : CorrespondentSeen). s.known) (ended c).after))
    (call-stands room numbers past s.known c.args.now.0 s.identity call stands)
