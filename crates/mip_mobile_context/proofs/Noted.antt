-- How what a context shows goes on with a step.
use Rattle.std.proofs.Common.{◌≡◌, ℕ, List, ◌++◌, refl, sym, subst}
use Rattle.mip_entries.specs.declared.answer.Answer.{Answer}
use Rattle.mip_entries.specs.Shows.{ShowsBy}
use Rattle.mip_entries.proofs.ShowLaws.{shows-noted, shows-known as known_of, shows-now as now_of}
use Rattle.mip_rules_mobile.specs.Sendings.{Sending, FromHome, ByTunnel, AsksCareof, SendsData, Discovers}
use Rattle.mip_rules_mobile.specs.Steps.{Step, Sends, answer_of}
use Rattle.mip_rules_mobile.specs.Known.{Known}
use Rattle.mip_rules_mobile.specs.Questions.{after}
use Rattle.mip_rules_mobile.specs.Transitions.{Transition, noted}
use Rattle.mip_mobile_context.specs.Seen.{ContextSeen, Shows, IsNeutral}

-- a step whose answer was appended, and that left this known
pub shown : (step : Step) (old : ContextSeen) (now : ℕ) (k l : Known) (answers more : List Answer) (t : Transition) → record { moment = now; known = k; answers = answers } ≡ old
    → more ≡ answers ++ answer_of step → l ≡ after k (record { at = now; step = step }) → Shows old t → ShowsBy answer_of now l more (noted step t)
shown step old now k l answers more t is appended left shows =
    subst (λ (m : List Answer). ShowsBy answer_of now l m (noted step t)) (sym appended)
    (subst (λ (m : Known). ShowsBy answer_of now m (answers ++ answer_of step) (noted step t)) (sym left)
    (shows-noted answer_of after step now k answers t (subst (λ (d : ContextSeen). Shows d t) (sym is) shows)))

-- a neutral sending changes nothing
pub neutral-same : (k : Known) (at : ℕ) (x : Sending) → IsNeutral x → k ≡ after k (record { at = at; step = Sends x })
unfolding after
neutral-same k at (FromHome home inner) is = refl
neutral-same k at (ByTunnel home careof agent inner) is = refl
neutral-same k at (AsksCareof careof peer cookie) is = refl
neutral-same k at (SendsData home careof to held proto payload) is = refl
neutral-same k at (Discovers home careof identifier) is = refl
neutral-same k at _ is = absurd is

-- what a transition knows is what the context knows
pub shows-known : (d : ContextSeen) (t : Transition) → Shows d t → t.known ≡ d.known
shows-known d t shows = known_of answer_of d.moment d.known d.answers t shows

pub shows-moment : (d : ContextSeen) (t : Transition) → Shows d t → t.now ≡ d.moment
shows-moment d t shows = now_of answer_of d.moment d.known d.answers t shows
