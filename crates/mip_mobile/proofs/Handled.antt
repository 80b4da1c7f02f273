-- A call whose context shows the definition's transition is handled, once its answers are after_put.
use Rattle.std.proofs.Common.{◌≡◌, ℕ, zero, suc, List, [], ◌∷◌, ◌++◌, take, map, Bool, sym, ap, subst, ◌∙◌, lit≤}
use Rattle.std.proofs.lemmas.List.{append-nil}
use Rattle.std.specs.Prelude.{Option, Result, Ok, Err, IfOk, OnErr, option_map}
use Rattle.mip_outside.specs.declared.put.Put.{Put}
use Rattle.mip_outside.specs.declared.put.Put.TheVariants.{Sent, NoRoute, Oversize}
use Rattle.mip_words.specs.declared.address.Address.{Address}
use Rattle.mip_words.specs.declared.shield.Shield.{Shield}
use Rattle.mip_entries.specs.declared.answer.Answer.{Answer}
use Rattle.mip_entries.specs.declared.answer.Answer.TheVariants.{Send, Note}
use Rattle.mip_entries.proofs.ShowLaws.{shows-answers}
use Rattle.mip_rules_mobile.specs.Calls.{Call}
use Rattle.mip_rules_mobile.specs.Steps.{answer_of, answers_of}
use Rattle.mip_rules_mobile.specs.Known.{Known}
use Rattle.mip_rules_mobile.specs.Transitions.{Stands, with_transition}
use Rattle.mip_rules_mobile.specs.Doing.{transition_of}
use Rattle.mip_rules_mobile.specs.Answering.{IsFrom, AreFrom}
use Rattle.mip_rules_mobile.proofs.Away.{away-call}
use Rattle.mip_rules_mobile.proofs.Calls.{call-stands, call-now}
use Rattle.mip_mobile_calls.specs.Seen.{ContextSeen, Shows}
use Rattle.mip_mobile_calls.proofs.Noted.{shows-known, shows-moment}
use Rattle.mip_transmission.specs.Putting.{after_put, Puts, PutsAll, PutsFront, Told, Answered, sends_of, puts_of}
use Rattle.mip_mobile.specs.Handling.{Handles, BreaksOff, IsLeft}
use Rattle.mip_rules_mobile.specs.Refusing.{tables_of}
use Rattle.mip_transmission.proofs.PutLaws.{out-none}
use Rattle.mip_mobile.proofs.Refused.{refused-call}

pub if-both : {A E : Type 0} (P Q R : A → Type 0) (r : Result A E) → ((x : A) → P x → Q x → R x) → IfOk r P → IfOk r Q → IfOk r R
if-both P Q R (Ok x) f p q = f x p q
if-both P Q R (Err e) f p q = tt

pub on-errs : {A E P Q : Type 0} (r : Result A E) → (P → Q) → OnErr r P → OnErr r Q
on-errs (Ok x) f p = tt
on-errs (Err e) f p = f p

-- a packet that the wire took leaves from where it left before
from-after_put : (gives : Put → Bool) (careof : Address) (asked bs : List Answer) → PutsAll gives asked bs → AreFrom careof asked → AreFrom careof bs
from-after_put gives careof [] [] all from = tt
from-after_put gives careof [] (b ∷ bs) all from = absurd all
from-after_put gives careof (a ∷ asked) [] all from = absurd all
from-after_put gives careof (a ∷ asked) (b ∷ bs) all from = (one a all.0 from.0, from-after_put gives careof asked bs all.1 from.1)
  where
    by : (put : Put) (shield : Option Shield) (packet : List ℕ) → b ≡ after_put put shield packet → IsFrom careof (Send shield packet) → IsFrom careof b
    by Sent shield packet is leaves = subst (IsFrom careof) (sym is) leaves
    by NoRoute shield packet is leaves = subst (IsFrom careof) (sym is) tt
    by Oversize shield packet is leaves = subst (IsFrom careof) (sym is) tt

    one : (a : Answer) → Puts gives a b → IsFrom careof a → IsFrom careof b
    one (Note entry) is leaves = subst (IsFrom careof) (sym is) tt
    one (Send shield packet) is leaves = by is.0 shield packet is.2 leaves

pub handled : (gives : Put → Bool) (k : Known) (now : ℕ) (call : Call) (context : ContextSeen) (asked : List Answer) (left : Known) (out told : Told) (puts puts_after : Answered) (answers : List Answer)
    → Shows context (transition_of k now call) → asked ≡ context.answers → left ≡ context.known → PutsAll gives asked answers → told ≡ option_map (λ items. items ++ sends_of answers) out
    → puts_after ≡ puts ++ puts_of asked answers → Handles gives k now call out puts answers left told puts_after
handled gives k now call context asked left out told puts puts_after answers shows is known took sent answered =
    let same : left ≡ (transition_of k now call).known = known ∙ sym (shows-known context (transition_of k now call) shows) in
    let own : asked ≡ answers_of (transition_of k now call).steps = is ∙ sym (shows-answers answer_of context.moment context.known context.answers (transition_of k now call) shows) in
    let all : PutsAll gives (answers_of (transition_of k now call).steps) answers = subst (λ (xs : List Answer). PutsAll gives xs answers) own took in
    record {
      taken = all;
      away = λ careof here elsewhere stays. from-after_put gives careof (answers_of (transition_of k now call).steps) answers all (away-call k now call careof here elsewhere stays);
      known = same;
      stands = λ home declared numbers secrets past stands.
          subst (λ (l : Known). Stands home declared numbers secrets (with_transition past (transition_of k now call)) l) (sym same) (call-stands home declared numbers secrets past k now call stands);
      sent = sent;
      answered = subst (λ (xs : List Answer). puts_after ≡ puts ++ puts_of xs answers) own answered;
      refused = λ number shield packet is_take some. ap tables_of same ∙ refused-call gives k now call answers all number shield packet is_take some;
    }

-- where nothing was handed to the wire, it sent nothing
pub breaks-none : (gives : Put → Bool) (k : Known) (now : ℕ) (call : Call) (out : Told) (puts : Answered) → BreaksOff gives k now call out puts out puts
breaks-none gives k now call out puts = record {
  count = 0;
  answers = [];
  taken = tt;
  away = λ careof here elsewhere stays. tt;
  sent = out-none out;
  failed = [];
  few = lit≤ tt;
  answered = sym (append-nil puts);
}

from-front : (careof : Address) (n : ℕ) (asked : List Answer) → AreFrom careof asked → AreFrom careof (take n asked)
from-front careof zero asked from = tt
from-front careof (suc n) [] from = tt
from-front careof (suc n) (a ∷ asked) from = (from.0, from-front careof n asked from.1)

-- a call whose context shows the definition's transition breaks off in it, where its wire took a front of its answers
pub breaks-off : (gives : Put → Bool) (k : Known) (now : ℕ) (call : Call) (context : ContextSeen) (asked : List Answer) (out told : Told) (puts puts_after : Answered)
    → Shows context (transition_of k now call) → asked ≡ context.answers → PutsFront gives asked out told puts puts_after → BreaksOff gives k now call out puts told puts_after
breaks-off gives k now call context asked out told puts puts_after shows is front =
    let own : List Answer = answers_of (transition_of k now call).steps in
    let same : asked ≡ own = is ∙ sym (shows-answers answer_of context.moment context.known context.answers (transition_of k now call) shows) in
    let all : PutsAll gives (take front.count own) front.answers = subst (λ (xs : List Answer). PutsAll gives (take front.count xs) front.answers) same front.taken in
    record {
      count = front.count;
      answers = front.answers;
      taken = all;
      away = λ careof here elsewhere stays. from-after_put gives careof (take front.count own) front.answers all (from-front careof front.count own (away-call k now call careof here elsewhere stays));
      sent = front.sent;
      failed = front.failed;
      few = front.few;
      answered = subst (λ (xs : List Answer). puts_after ≡ puts ++ (puts_of (take front.count xs) front.answers ++ map Err front.failed)) same front.answered;
    }

-- a context that shows the definition's transition keeps what that leaves, once its answers are taken
pub is-left : (k : Known) (now : ℕ) (call : Call) (context after : ContextSeen) → Shows context (transition_of k now call) → after ≡ record context { answers = [] } → IsLeft after k now call
is-left k now call context after shows is =
    (ap (λ (d : ContextSeen). d.known) is ∙ sym (shows-known context (transition_of k now call) shows), ap (λ (d : ContextSeen). d.moment) is ∙ sym (shows-moment context (transition_of k now call) shows) ∙ call-now k now call)
