use Rattle.std.proofs.Common.{◌≡◌, List, true, refl, ap, sym, subst, ◌∙◌}
use Rattle.std.specs.List.{list_any}
use Rattle.mip_entries.specs.declared.answer.Answer.{Answer}
use Rattle.mip_reception.specs.Refusing.{refuses}
use Rattle.std.specs.Prelude.{Option}
use Rattle.mip_ipv6.specs.Packet.{packet as tree}
use Rattle.mip_mobhdr.specs.Said.{Said}
use Rattle.mip_bcache.specs.Seen.{CacheSeen}
use Rattle.mip_rules_correspondent.specs.Rules.{by_message}
use Rattle.mip_rules_correspondent.specs.Doing.{parts}
use Rattle.mip_rules_correspondent.specs.Calls as calls
use Rattle.mip_rules_correspondent.specs.declared.known.Known.{Known}
use Rattle.mip_rules_correspondent.specs.Transitions.{Stands, with_transition}
use Rattle.mip_rules_correspondent.specs.Seen.{CorrespondentSeen, transition_at}
use Rattle.mip_rules_correspondent.proofs.Calls.{call-stands}
use Rattle.mip_rules_correspondent.proofs.Refusals.{refused-call}
use Rattle.mip_correspondent.specs.Showing.{left, Shows, with_kept}
use Rattle.mip_correspondent.proofs.CallTransitions.{Ends, ends}
use Rattle.mip_correspondent.proofs.correspondent.Correspondent.part.Goals as goal

ended : (c : goal.After-commit_call) → Ends c.args.self.now c.commit_call.new.self c.answer_message.new.answers c.args.now.0 (calls.Part c.args.number (tree c.args.packet.now))
unfolding parts
ended c =
    let inside : CorrespondentSeen = record { identity = c.self.inside.identity; known = c.self.inside.known } in
    let kept = λ (s : CorrespondentSeen). (let t : CorrespondentSeen = record { identity = s.identity; known = left c.args.now.0 (with_kept c.args.now.0 c.in_ok-kept.kept s.known.cache) } in t) in
    ends c.args.self.now inside c.commit_call.new.self c.args.now.0 (calls.Part c.args.number (tree c.args.packet.now)) c.in_ok-answers.answers
    (λ (cache : CacheSeen). with_kept c.args.now.0 c.in_ok-kept.kept cache) c.answer_message.new.answers refl c.in_ok-answers.ensures (c.self.view_is ∙ c.keep_token.ensures)
    (λ t begins. subst (λ (m : Option Said). Shows c.args.now.0 (with_kept c.args.now.0 c.in_ok-kept.kept inside.known.cache) c.answer_message.new.answers (by_message inside.identity c.args.number (tree c.args.packet.now) m t))
    c.message_in-message.ensures.value (c.in_ok-kept.ensures.shows t begins))
    (c.commit_call.ensures ∙ ap kept c.keep_token.ensures)

pub returns-clause-answers : goal.returns-clause-answers
returns-clause-answers c = (ended c).answered

pub returns-clause-after : goal.returns-clause-after
returns-clause-after c = (ended c).after

pub returns-clause-stands : goal.returns-clause-stands
returns-clause-stands c = λ room numbers past stands.
    let s = c.args.self.now in
    let call = calls.Part c.args.number (tree c.args.packet.now) in
    subst (λ (k : Known). Stands room numbers (with_transition past (transition_at s c.args.now.0 call)) k) (sym (ap (λ (s : CorrespondentSeen). s.known) (ended c).after))
    (call-stands room numbers past s.known c.args.now.0 s.identity call stands)

pub returns-clause-refused : goal.returns-clause-refused
returns-clause-refused c = λ told.
    let s = c.args.self.now in
    ap (λ (s' : CorrespondentSeen). s'.known.cache) (ended c).after
    ∙ refused-call s.identity s.known c.args.now.0 (calls.Part c.args.number (tree c.args.packet.now)) refl (subst (λ (l : List Answer). list_any refuses l ≡ true) (ended c).answered told)
