-- How what a turn shows goes on with the steps of a mobile.
use Rattle.std.proofs.Common.{◌≡◌, ℕ, List, [], ◌++◌, refl, sym, ap, ◌∙◌}
use Rattle.std.proofs.lemmas.List.{append-nil}
use Rattle.mip_entries.specs.declared.answer.Answer.{Answer}
use Rattle.mip_entries.proofs.TransitionLaws as transitions
use Rattle.mip_entries.proofs.ShowLaws as shows
use Rattle.mip_rules_correspondent.specs.Calls as parts
use Rattle.mip_rules_correspondent.specs.Steps as part_steps
use Rattle.mip_rules_correspondent.specs.declared.identity.Identity.{Identity}
use Rattle.mip_rules_correspondent.specs.declared.known.Known as part_known
use Rattle.mip_rules_correspondent.specs.Questions as part_questions
use Rattle.mip_rules_correspondent.specs.Transitions as part_transitions
use Rattle.mip_rules_correspondent.specs.Doing as part_doing
use Rattle.mip_rules_correspondent.proofs.Walks.{every-call}
use Rattle.mip_rules_mobile.specs.Sendings.{Sending, FromHome, ByTunnel, AsksCareof, RegistersHome, DeregistersHome, SendsData, Discovers, Solicits}
use Rattle.mip_rules_mobile.specs.Steps.{Step, Parts, Sends, Waits, answer_of}
use Rattle.mip_rules_mobile.specs.Known.{Known}
use Rattle.mip_bulist.specs.declared.work.Work.{Work}
use Rattle.mip_bulist.specs.declared.work.Work.TheVariants.{Resend, Renew, End, Home}
use Rattle.mip_bulist.specs.Timers.{with_timer}
use Rattle.mip_rules_mobile.specs.TimerQuestions.{later}
use Rattle.mip_rules_mobile.specs.Questions.{after}
use Rattle.mip_rules_mobile.specs.Transitions.{Transition, noted}
use Rattle.mip_afresh_mobile_state.specs.declared.turn.Turn.{Turn}
use Rattle.mip_afresh_mobile_state.specs.Mobiles.{MobileSeen, seen_of, known_of, waited}
use Rattle.mip_afresh_mobile_state.specs.Turns.{Shows, IsNeutral}

-- what a step makes of what is known
abbrev pub stepped : ℕ → Step → MobileSeen → MobileSeen
stepped at step m = seen_of (after (known_of m) (record { at = at; step = step }))

-- the bindings of the correspondent part do not matter for it
abbrev pub IsSeen : ℕ → Step → Type 0
IsSeen at step = (k : Known) → seen_of (after k (record { at = at; step = step })) ≡ stepped at step (seen_of k)

-- a step whose answers were appended
pub left : (step : Step) (old : Turn) (mobile : MobileSeen) (new : Turn) → IsSeen old.now.0 step → mobile ≡ stepped old.now.0 step old.mobile
    → new ≡ (record { now = old.now; mobile = mobile; answers = old.answers ++ answer_of step }) → (t : Transition) → Shows old t → Shows new (noted step t)
unfolding Shows
left step old mobile new is makes more t s = (
  transitions.noted-now after step t ∙ s.0 ∙ ap (λ (n : Turn). n.now.0) (sym more),
  ap seen_of (transitions.noted-known after step t) ∙ ap (λ (n : ℕ). seen_of (after t.known (record { at = n; step = step }))) s.0 ∙ is t.known ∙ ap (stepped old.now.0 step) s.1 ∙ sym makes
      ∙ ap (λ (n : Turn). n.mobile) (sym more),
  shows.answers-noted answer_of after step t ∙ ap (λ (l : List Answer). l ++ answer_of step) s.2 ∙ ap (λ (n : Turn). n.answers) (sym more),
)

-- a step that is silent
pub silent : (step : Step) (old : Turn) (mobile : MobileSeen) → answer_of step ≡ [] → IsSeen old.now.0 step → mobile ≡ stepped old.now.0 step old.mobile
    → (t : Transition) → Shows old t → Shows (record { now = old.now; mobile = mobile; answers = old.answers }) (noted step t)
silent step old mobile none is makes t s =
    let new : Turn = record { now = old.now; mobile = mobile; answers = old.answers } in
    left step old mobile new is makes
    (ap (λ (l : List Answer). let n : Turn = record { now = old.now; mobile = mobile; answers = l } in n) (sym (append-nil old.answers) ∙ ap (λ (l : List Answer). old.answers ++ l) (sym none))) t s

-- a call of the correspondent part leaves how many numbers bindings may have
same-numbers : (k : part_known.Known) (at : ℕ) (step : part_steps.Step) → (let l : part_known.Known = part_questions.after k (record { at = at; step = step }) in l.cache.numbers) ≡ k.cache.numbers
unfolding part_questions.after
same-numbers k at (part_steps.Called parts.Tick) = refl
same-numbers k at (part_steps.Called (parts.Take number shield packet)) = refl
same-numbers k at (part_steps.Called (parts.Part number packet)) = refl
same-numbers k at (part_steps.Called (parts.Refresh home)) = refl
same-numbers k at (part_steps.Called (parts.Send to proto payload)) = refl
same-numbers k at (part_steps.Accepts number home binding accepted) = refl
same-numbers k at _ = refl

noted-numbers : (n : ℕ) (step : part_steps.Step) (t : part_transitions.Transition) → t.known.cache.numbers ≡ n → (part_transitions.noted step t).known.cache.numbers ≡ n
noted-numbers n step t is = ap (λ (k : part_known.Known). k.cache.numbers) (transitions.noted-known part_questions.after step t) ∙ same-numbers t.known t.now step ∙ is

part-numbers : (me : Identity) (k : part_known.Known) (at : ℕ) (c : parts.Call) → (part_doing.transition_of me k at c).known.cache.numbers ≡ k.cache.numbers
part-numbers me k at c =
    every-call me c (λ (t : part_transitions.Transition). t.known.cache.numbers ≡ k.cache.numbers)
    (λ step t other own is. noted-numbers k.cache.numbers step t is)
    (λ t is. noted-numbers k.cache.numbers (part_steps.Called c) t is)
    (part_transitions.begun at k) refl

pub asks-part : (at : ℕ) (call : parts.Call) (k : Known) → seen_of (after k (record { at = at; step = Parts call })) ≡ seen_of k
unfolding after
asks-part at call k = ap (λ (n : ℕ). let m : MobileSeen = record (seen_of k) { numbers = n } in m) (part-numbers k.part.identity k.part.known at call)

-- a packet whose sending changes nothing
pub sends-neutral : (at : ℕ) (sending : Sending) → IsNeutral sending → (k : Known) → seen_of (after k (record { at = at; step = Sends sending })) ≡ seen_of k
unfolding after
sends-neutral at (FromHome home inner) is k = refl
sends-neutral at (ByTunnel home careof agent inner) is k = refl
sends-neutral at (AsksCareof careof peer cookie) is k = refl
sends-neutral at (SendsData home careof to held proto payload) is k = refl
sends-neutral at (Discovers home careof identifier) is k = refl
sends-neutral at (RegistersHome home careof agent sequence) is k = absurd is
sends-neutral at (DeregistersHome home agent sequence) is k = absurd is
sends-neutral at (Solicits home careof agent identifier) is k = absurd is

-- a step that changes nothing
abbrev pub Stays : ℕ → Step → Type 0
Stays at step = (k : Known) → seen_of (after k (record { at = at; step = step })) ≡ seen_of k

pub stays : (at : ℕ) (step : Step) → Stays at step → IsSeen at step
stays at step is k = is k ∙ sym (is (known_of (seen_of k)))

-- work that is set
pub waits : (at : ℕ) (work : Work) (ms : ℕ) → IsSeen at (Waits work ms)
unfolding after
waits at (Resend row) ms k = refl
waits at (Renew row) ms k = refl
waits at (End row) ms k = refl
waits at (Home timer) ms k = refl

pub waits-makes : (at : ℕ) (work : Work) (ms : ℕ) (m : MobileSeen) → waited work ms (record m { list = record { rows = m.list.rows; timers = with_timer (later at ms) work m.list.timers } }) ≡ stepped at (Waits work ms) m
unfolding after
waits-makes at (Resend row) ms m = refl
waits-makes at (Renew row) ms m = refl
waits-makes at (End row) ms m = refl
waits-makes at (Home timer) ms m = refl
