-- What a call under way shows, and how a rule that asks of what is known is that of what the code found.
use Rattle.std.proofs.Common.{◌≡◌, ℕ, List, [], refl, sym, ap, subst, ◌∙◌}
use Rattle.std.specs.Prelude.{Option, Some, None, unwrap_or, Result, OnOk}
use Rattle.std.specs.Option.{option_map_or}
use Rattle.mip_words.specs.declared.moment.Moment.{Moment}
use Rattle.mip_entries.specs.declared.answer.Answer.{Answer}
use Rattle.mip_rules_correspondent.specs.declared.identity.Identity.{Identity}
use Rattle.mip_rules_correspondent.specs.Calls as parts
use Rattle.mip_rules_correspondent.specs.Steps as part_steps
use Rattle.mip_rules_correspondent.specs.Doing.{transition_of}
use Rattle.mip_rules_mobile.specs.OutRules.{part_answers}
use Rattle.mip_rules_mobile.specs.Known.{Known}
use Rattle.mip_rules_mobile.specs.Steps.{answers_of}
use Rattle.mip_rules_mobile.specs.Transitions.{Transition, begun}
use Rattle.mip_afresh_mobile_state.specs.declared.turn.Turn.{Turn}
use Rattle.mip_afresh_mobile_state.specs.Mobiles.{seen_of}
use Rattle.mip_afresh_mobile_state.specs.Turns.{Shows}

pub shows-now : (turn : Turn) (t : Transition) → Shows turn t → t.now ≡ turn.now.0
unfolding Shows
shows-now turn t s = s.0

pub shows-seen : (turn : Turn) (t : Transition) → Shows turn t → seen_of t.known ≡ turn.mobile
unfolding Shows
shows-seen turn t s = s.1

pub shows-answers : (turn : Turn) (t : Transition) → Shows turn t → answers_of t.steps ≡ turn.answers
unfolding Shows
shows-answers turn t s = s.2

-- a call begins
pub shows-begun : (turn : Turn) (k : Known) → seen_of k ≡ turn.mobile → turn.answers ≡ [] → Shows turn (begun turn.now.0 k)
unfolding Shows
shows-begun turn k seen none = (refl, seen, sym none)

-- what the code found, by what is known and the moment
pub found : {A : Type 0} (turn : Turn) (t : Transition) (q : Known → ℕ → A) (answer : A) → ((k : Known) → seen_of k ≡ turn.mobile → answer ≡ q k turn.now.0) → Shows turn t → answer ≡ q t.known t.now
found turn t q answer is s = is t.known (shows-seen turn t s) ∙ ap (q t.known) (sym (shows-now turn t s))

-- a rule with what the code found is the rule with what is known
pub asked : {A R E : Type 0} (result : Result R E) (new : Turn) (rule : A → Transition) (found known : A) → found ≡ known → OnOk result (Shows new (rule found)) → OnOk result (Shows new (rule known))
asked result new rule found known is goes = subst (λ a. OnOk result (Shows new (rule a))) is goes

-- what the correspondent part answers
pub part-answered : (turn : Turn) (t : Transition) (me : Identity) (call : parts.Call) (answers : List Answer) → Shows turn t → me ≡ t.known.part.identity
    → answers ≡ part_steps.answers_of (transition_of me t.known.part.known turn.now.0 call).steps → answers ≡ part_answers t call
part-answered turn t me call answers s is said =
    let by = λ (who : Identity) (n : ℕ). part_steps.answers_of (transition_of who t.known.part.known n call).steps in
    said ∙ ap (λ (who : Identity). by who turn.now.0) is ∙ ap (λ (n : ℕ). by t.known.part.identity n) (sym (shows-now turn t s))

-- when an update was sent, or now
pub sent-is : (sent : Option Moment) (now : Moment) (n : ℕ) → n ≡ now.0 → (unwrap_or sent now).0 ≡ option_map_or (λ m. m.0) sent n
sent-is None now n is = sym is
sent-is (Some m) now n is = refl
