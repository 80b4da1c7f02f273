-- Each packet that a mobile sends under a shield is sent under that of its own home address, which is the same after every
-- past.
use Rattle.std.proofs.Common.{◌≡◌, ℕ, List, [], ◌∷◌, ◌++◌, Bool, true, false, refl, ◌∙◌, subst}
use Rattle.std.specs.Prelude.{fold, Option, None, if◌then◌else◌}
use Rattle.mip_words.specs.declared.address.Address.{Address}
use Rattle.mip_nonce.specs.Secrets.{Life}
use Rattle.mip_entries.specs.declared.answer.Answer.{Answer}
use Rattle.mip_entries.specs.Stamped.{Stamped}
use Rattle.mip_rules_mobile.specs.Calls.{Call}
use Rattle.mip_rules_mobile.specs.Sendings.{Sending, FromHome, ByTunnel, AsksCareof, RegistersHome, DeregistersHome, SendsData, Discovers, Solicits, is_signal, shield_to, shield_of}
use Rattle.mip_rules_mobile.specs.Steps.{Step, answer_of, answers_of}
use Rattle.mip_rules_mobile.specs.Known.{Known}
use Rattle.mip_rules_mobile.specs.HomeQuestions.{home_of}
use Rattle.mip_rules_mobile.specs.Questions.{after, fresh, known}
use Rattle.mip_rules_mobile.specs.Doing.{transition_of}
use Rattle.mip_rules_mobile.specs.Fitting.{IsSentBy}
use Rattle.mip_rules_mobile.specs.Answering.{EachAnswer}
use Rattle.mip_rules_mobile.specs.Shielding.{IsFromHome, IsShieldedFrom, AreShieldedFrom}
use Rattle.mip_rules_mobile.proofs.Told.{home-kept}
use Rattle.mip_rules_mobile.proofs.Fits.{call-fits}
use Rattle.mip_rules_mobile.proofs.Answers.{each-answer}

sent-shielded : (c : Call) (now : ℕ) (k : Known) (x : Sending) → IsSentBy c now k x → IsFromHome (home_of k) (shield_of x)
sent-shielded c now k (FromHome home inner) is = tt
sent-shielded c now k (ByTunnel home careof agent inner) is = by (is_signal inner)
  where
    by : (signal : Bool) → IsFromHome (home_of k) (if signal then shield_to home agent else None)
    by true = is.0.1
    by false = tt
sent-shielded c now k (AsksCareof careof peer cookie) is = tt
sent-shielded c now k (RegistersHome home careof agent sequence) is = is.1
sent-shielded c now k (DeregistersHome home agent sequence) is = is.1
sent-shielded c now k (SendsData home careof to held proto payload) is = tt
sent-shielded c now k (Discovers home careof identifier) is = tt
sent-shielded c now k (Solicits home careof agent identifier) is = is.1

-- the home address of what is known where the answer is given
abbrev IsShielded : Known → Answer → Type 0
IsShielded k answer = IsShieldedFrom (home_of k) answer

each-shielded : (k : Known) (now : ℕ) (c : Call) → EachAnswer IsShielded now k (transition_of k now c).steps
each-shielded k now c =
    each-answer IsShielded (λ k. Unit {0}) c now (λ k step i. tt) (λ k e is. tt) (λ k x i is. sent-shielded c now k x is) (λ k row u i is. tt)
    k (transition_of k now c).steps tt (call-fits k now c)

both : (home : Address) (first second : List Answer) → AreShieldedFrom home first → AreShieldedFrom home second → AreShieldedFrom home (first ++ second)
both home [] second one two = two
both home (a ∷ first) second one two = (one.0, both home first second one.1 two)

-- no step changes it
along : (now : ℕ) (home : Address) (k : Known) (steps : List Step) → home_of k ≡ home → EachAnswer IsShielded now k steps → AreShieldedFrom home (answers_of steps)
along now home k [] same each = tt
along now home k (step ∷ steps) same each =
    let s : Stamped Step = record { at = now; step = step } in
    both home (answer_of step) (answers_of steps) (subst (λ (h : Address). AreShieldedFrom h (answer_of step)) same each.0)
    (along now home (after k s) steps (home-kept k s ∙ same) each.1)

pub call-shielded : (k : Known) (now : ℕ) (c : Call) → AreShieldedFrom (home_of k) (answers_of (transition_of k now c).steps)
call-shielded k now c = along now (home_of k) k (transition_of k now c).steps refl (each-shielded k now c)

home-along : (k : Known) (past : List (Stamped Step)) → home_of (fold after k past) ≡ home_of k
home-along k [] = refl
home-along k (s ∷ past) = home-along (after k s) past ∙ home-kept k s

pub past-home : (home : Address) (declared : Option Address) (numbers : ℕ) (secrets : Life) (past : List (Stamped Step)) → home_of (known home declared numbers secrets past) ≡ home
unfolding known
past-home home declared numbers secrets past = home-along (fresh home declared numbers secrets) past
