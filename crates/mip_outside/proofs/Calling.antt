-- Calls of a link one after another.
use Rattle.std.proofs.Common.{◌≡◌, List, [], ◌∷◌, ◌++◌, true, refl, sym, ap, ◌∙◌, append_assoc, append-nil}
use Rattle.std.specs.Prelude.{None, Some}
use Rattle.mip_outside.specs.declared.asked.Asked.{Asked}
use Rattle.mip_outside.specs.declared.asked.Asked.TheVariants.{Listen, Send, Receive}
use Rattle.mip_outside.specs.declared.link_call.LinkCall.{LinkCall}
use Rattle.mip_outside.specs.declared.put_fault.PutFault.{PutFault}
use Rattle.mip_outside.specs.LinkCalls.{called, granted, are_of_turns, Granted, Refused}

granted-more : (xs ys : List Asked) → granted xs ++ granted ys ≡ granted (xs ++ ys)
unfolding granted
granted-more [] ys = refl
granted-more (x ∷ xs) ys = ap (λ (l : List LinkCall). called x None ∷ l) (granted-more xs ys)

turns-more : (xs ys : List Asked) → are_of_turns xs ≡ true → are_of_turns ys ≡ true → are_of_turns (xs ++ ys) ≡ true
unfolding are_of_turns
turns-more [] ys first next = next
turns-more (Listen ∷ xs) ys first next = absurd cc
turns-more (Send ∷ xs) ys first next = turns-more xs ys first next
turns-more (Receive ∷ xs) ys first next = turns-more xs ys first next

-- nothing was asked
pub asked_none : (a b : List LinkCall) → b ≡ a → b ≡ a ++ granted []
unfolding granted
asked_none a b e = e ∙ sym (append-nil a)

pub granted_none : (a b : List LinkCall) → b ≡ a → Granted a b
unfolding are_of_turns
granted_none a b e = record { asked = []; turns = refl; is = asked_none a b e }

-- calls that were granted, then others
pub granted_on : (a b c : List LinkCall) → Granted a b → Granted b c → Granted a c
granted_on a b c first next = record {
  asked = first.asked ++ next.asked;
  turns = turns-more first.asked next.asked first.turns next.turns;
  is = next.is ∙ ap (λ (l : List LinkCall). l ++ granted next.asked) first.is ∙ append_assoc a (granted first.asked) (granted next.asked)
      ∙ ap (λ (l : List LinkCall). a ++ l) (granted-more first.asked next.asked);
}

pub refused_on : (fault : PutFault) (a b c : List LinkCall) → Granted a b → Refused fault b c → Refused fault a c
refused_on fault a b c first next =
    let tail : List LinkCall = called next.last (Some fault) ∷ [] in
    record {
      asked = first.asked ++ next.asked;
      turns = turns-more first.asked next.asked first.turns next.turns;
      last = next.last;
      turn = next.turn;
      is = next.is ∙ ap (λ (l : List LinkCall). l ++ (granted next.asked ++ tail)) first.is ∙ append_assoc a (granted first.asked) (granted next.asked ++ tail)
          ∙ ap (λ (l : List LinkCall). a ++ l)
          (sym (append_assoc (granted first.asked) (granted next.asked) tail) ∙ ap (λ (l : List LinkCall). l ++ tail) (granted-more first.asked next.asked));
    }

-- one call
pub send_granted : (a b : List LinkCall) → b ≡ a ++ called Send None ∷ [] → Granted a b
unfolding granted are_of_turns
send_granted a b e = record { asked = Send ∷ []; turns = refl; is = e }

pub receive_granted : (a b : List LinkCall) → b ≡ a ++ called Receive None ∷ [] → Granted a b
unfolding granted are_of_turns
receive_granted a b e = record { asked = Receive ∷ []; turns = refl; is = e }

pub send_refused : (fault : PutFault) (a b : List LinkCall) → b ≡ a ++ called Send (Some fault) ∷ [] → Refused fault a b
unfolding granted are_of_turns
send_refused fault a b e = record { asked = []; turns = refl; last = Send; turn = refl; is = e }

pub receive_refused : (fault : PutFault) (a b : List LinkCall) → b ≡ a ++ called Receive (Some fault) ∷ [] → Refused fault a b
unfolding granted are_of_turns
receive_refused fault a b e = record { asked = []; turns = refl; last = Receive; turn = refl; is = e }

-- one datagram was asked to be sent
pub asked_send : (a b : List LinkCall) → b ≡ a ++ called Send None ∷ [] → b ≡ a ++ granted (Send ∷ [])
unfolding granted
asked_send a b e = e
