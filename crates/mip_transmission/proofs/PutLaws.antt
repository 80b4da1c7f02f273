-- Answers that are after_put one by one.
use Rattle.std.proofs.Common.{◌≡◌, ℕ, ◌<◌, ◌≤◌, List, [], ◌∷◌, ◌++◌, length, map, take, get_or, Bool, refl, sym, ap, ◌∙◌, subst, lit≤}
use Rattle.std.specs.Prelude.{Option, Some, None, option_map, Result, Ok, Err, OnErr}
use Rattle.std.proofs.lemmas.List.{append-nil, append_assoc, take_more, length_push}
use Rattle.mip_words.specs.declared.shield.Shield.{Shield}
use Rattle.mip_outside.specs.declared.put.Put.{Put}
use Rattle.mip_outside.specs.declared.put_fault.PutFault.{PutFault}
use Rattle.mip_entries.specs.declared.answer.Answer.{Answer}
use Rattle.mip_transmission.specs.Putting.{Puts, PutsAll, PutsFront, Told, Answered, puts_for, puts_of, sends_in, sends_of}

pub puts-more : (gives : Put → Bool) (asked bs : List Answer) (a b : Answer) → PutsAll gives asked bs → Puts gives a b → PutsAll gives (asked ++ a ∷ []) (bs ++ b ∷ [])
puts-more gives [] [] a b all one = (one, tt)
puts-more gives [] (c ∷ bs) a b all one = absurd all
puts-more gives (x ∷ asked) [] a b all one = absurd all
puts-more gives (x ∷ asked) (c ∷ bs) a b all one = (all.0, puts-more gives asked bs a b all.1 one)

sends-more : (bs : List Answer) (b : Answer) → sends_of (bs ++ b ∷ []) ≡ sends_of bs ++ sends_in b
sends-more [] b = append-nil (sends_in b)
sends-more (c ∷ bs) b =
    ap (λ (l : List (Option Shield × List ℕ)). sends_in c ++ l) (sends-more bs b) ∙ sym (append_assoc (sends_in c) (sends_of bs) (sends_in b))

pub out-more : (first then last : Told) (bs : List Answer) (b : Answer) → then ≡ option_map (λ items. items ++ sends_of bs) first → last ≡ option_map (λ items. items ++ sends_in b) then
    → last ≡ option_map (λ items. items ++ sends_of (bs ++ b ∷ [])) first
out-more first then last bs b one two = two ∙ ap (λ (o : Told). option_map (λ items. items ++ sends_in b) o) one ∙ by first
  where
    by : (o : Told) → option_map (λ items. items ++ sends_in b) (option_map (λ items. items ++ sends_of bs) o) ≡ option_map (λ items. items ++ sends_of (bs ++ b ∷ [])) o
    by None = refl
    by (Some items) = ap (λ (l : List (Option Shield × List ℕ)). Some l) (append_assoc items (sends_of bs) (sends_in b) ∙ ap (λ (l : List (Option Shield × List ℕ)). items ++ l) (sym (sends-more bs b)))

pub out-none : (o : Told) → o ≡ option_map (λ items. items ++ sends_of []) o
out-none None = refl
out-none (Some items) = ap (λ (l : List (Option Shield × List ℕ)). Some l) (sym (append-nil items))

pub on-err : {A E P : Type 0} (r : Result A E) → P → OnErr r P
on-err (Ok x) p = tt
on-err (Err e) p = p

-- the answers so far are the first of all, and stay so with the next one
pub first-more : (all : List Answer) (xs : List Answer) (a : Answer) → take (length xs) all ≡ xs → (length xs < length all) × (a ≡ get_or all (length xs) a)
    → take (length (xs ++ a ∷ [])) all ≡ xs ++ a ∷ []
first-more all xs a first yielded =
    ap (λ (n : ℕ). take n all) (length_push xs a) ∙ take_more all (length xs) a yielded.0 ∙ ap (λ (l : List Answer). l ++ get_or all (length xs) a ∷ []) first ∙ ap (λ (b : Answer). xs ++ b ∷ []) (sym yielded.1)

-- the calls for the answers so far, and for one more
puts_of-more : (gives : Put → Bool) (asked bs : List Answer) (a b : Answer) → PutsAll gives asked bs → puts_of (asked ++ a ∷ []) (bs ++ b ∷ []) ≡ puts_of asked bs ++ puts_for a b
puts_of-more gives [] [] a b all = append-nil (puts_for a b)
puts_of-more gives [] (c ∷ bs) a b all = absurd all
puts_of-more gives (x ∷ asked) [] a b all = absurd all
puts_of-more gives (x ∷ asked) (c ∷ bs) a b all =
    ap (λ (l : Answered). puts_for x c ++ l) (puts_of-more gives asked bs a b all.1) ∙ sym (append_assoc (puts_for x c) (puts_of asked bs) (puts_for a b))

pub answered-more : (gives : Put → Bool) (first then last : Answered) (asked bs : List Answer) (a b : Answer) → PutsAll gives asked bs → then ≡ first ++ puts_of asked bs → last ≡ then ++ puts_for a b
    → last ≡ first ++ puts_of (asked ++ a ∷ []) (bs ++ b ∷ [])
answered-more gives first then last asked bs a b all one two =
    two ∙ ap (λ (l : Answered). l ++ puts_for a b) one ∙ append_assoc first (puts_of asked bs) (puts_for a b) ∙ ap (λ (l : Answered). first ++ l) (sym (puts_of-more gives asked bs a b all))

-- what a wire took before its calls ended, with the one that failed, if one did
module _ (gives : Put → Bool) (asked xs answers : List Answer) (out left : Told) (before after : Answered) where
  taken-front : (failed : List PutFault) → length failed ≤ 1 → take (length xs) asked ≡ xs → PutsAll gives xs answers → left ≡ option_map (λ items. items ++ sends_of answers) out
      → after ≡ before ++ (puts_of xs answers ++ map Err failed) → PutsFront gives asked out left before after
  taken-front failed few first all sent is = record {
    count = length xs;
    answers = answers;
    taken = subst (λ (l : List Answer). PutsAll gives l answers) (sym first) all;
    sent = sent;
    failed = failed;
    few = few;
    answered = is ∙ ap (λ (l : List Answer). before ++ (puts_of l answers ++ map Err failed)) (sym first);
  }

  -- no call failed: memory ran out behind the last one
  pub front-puts : take (length xs) asked ≡ xs → PutsAll gives xs answers → left ≡ option_map (λ items. items ++ sends_of answers) out → after ≡ before ++ puts_of xs answers
      → PutsFront gives asked out left before after
  front-puts first all sent is = taken-front [] (lit≤ tt) first all sent (is ∙ ap (λ (l : Answered). before ++ l) (sym (append-nil (puts_of xs answers))))

  -- the last call failed
  pub front-failed : (then : Answered) (fault : PutFault) → take (length xs) asked ≡ xs → PutsAll gives xs answers → left ≡ option_map (λ items. items ++ sends_of answers) out
      → then ≡ before ++ puts_of xs answers → after ≡ then ++ Err fault ∷ [] → PutsFront gives asked out left before after
  front-failed then fault first all sent one two =
      taken-front (fault ∷ []) (lit≤ tt) first all sent (two ∙ ap (λ (l : Answered). l ++ Err fault ∷ []) one ∙ append_assoc before (puts_of xs answers) (Err fault ∷ []))

-- nothing was handed to the wire
pub front-none : (gives : Put → Bool) (asked : List Answer) (out : Told) (puts : Answered) → PutsFront gives asked out out puts puts
front-none gives asked out puts = front-puts gives asked [] [] out out puts puts refl tt (out-none out) (sym (append-nil puts))
