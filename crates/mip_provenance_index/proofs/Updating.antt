-- The index of updates stands for the sights after one more.
use Rattle.std.proofs.Common.{◌≡◌, ℕ, ◌+◌, ◌≤◌, List, [], ◌∷◌, ◌++◌, length, Bool, true, false, refl, sym, ap, ◌∙◌, subst, arith, length-append}
use Rattle.std.specs.Prelude.{Option, Some, None, ◌==◌, if◌then◌else◌, unwrap_or}
use Rattle.std.specs.Option.{option_or, option_and_then, option_map_or}
use Rattle.std.proofs.lemmas.List.{take-append-le, take_all}
use Rattle.std.proofs.lemmas.Bool.{eqb-true, false≢true, false_from_ne_true}
use Rattle.mip_packets.specs.Says.{UpdateIdentity}
use Rattle.mip_provenance.specs.Lists.{first_some}
use Rattle.mip_provenance.specs.Sights.{Sight}
use Rattle.mip_provenance.specs.Reached.{values}
use Rattle.mip_provenance.specs.Firsts.{Post, post_with, post_at, is_post, number_of, key_in, key_at, same_key, carries_key, first_update}
use Rattle.mip_provenance.proofs.ListLaws.{until_at}
use Rattle.mip_provenance.proofs.Plain.{is_post-some, unposted, key_same, same_self}
use Rattle.mip_provenance_index.specs.declared.arrival.Arrival.{Arrival}
use Rattle.mip_provenance_index.specs.declared.first.First.{First}
use Rattle.mip_provenance_index.specs.declared.updates.Updates.{Updates}
use Rattle.mip_provenance_index.specs.Heard.{heard_by}
use Rattle.mip_provenance_index.specs.Updates.{Posting, update_posted, update_at, AreOf, fresh, chosen, look_step, at_step}
use Rattle.mip_provenance_index.specs.Stands.{numbers, IsNumber, AreNumberedFrom, AreAlike, IsFirst, IsFirstIf, IsFirstAt, IsFirstAtIf, UpdatesStand}
use Rattle.mip_provenance_index.proofs.Steps.{first_one}
use Rattle.mip_provenance_index.proofs.Numbers.{unposted_at, key_stays, key_new}
use Rattle.mip_provenance_index.proofs.FirstSteps.{posts_of, none_posted, other_posted, first_none, first_new, is_first_more}

module _ (arrivals more : List Arrival) (ss : List Sight) (s : Sight) (numbered : AreNumberedFrom 0 ss) (next : IsNumber (number_of s) (length (numbers ss)))
    (come : (o : ℕ) → AreAlike (heard_by o arrivals) (values o ss)) where
  -- the number of a posting is that of no packet yet
  fresh_number : (n : ℕ) → number_of s ≡ Some n → post_at ss n ≡ None
  fresh_number n number = unposted_at 0 ss n numbered (by (number_of s) number next)
    where
      by : (o : Option ℕ) → o ≡ Some n → IsNumber o (length (numbers ss)) → 0 + length (numbers ss) ≤ n
      by None e next = absurd cc
      by (Some m) e next = let same : m ≡ n = cc in omega (arith, same, next)

  -- the update of a packet with a fresh number is that of the sight
  carries_new : (key : UpdateIdentity) (n : ℕ) → number_of s ≡ Some n → carries_key (ss ++ s ∷ []) key n ≡ option_map_or (same_key key) (option_and_then (λ p. key_in p.carried) (post_with n s)) false
  carries_new key n number = ap (λ (o : Option UpdateIdentity). option_map_or (same_key key) o false) (key_new ss s n (fresh_number n number))

  -- no update, or another one
  quiet_none : (key : UpdateIdentity) → update_posted s ≡ None → (n : ℕ) → number_of s ≡ Some n → carries_key (ss ++ s ∷ []) key n ≡ false
  quiet_none key none n number = carries_new key n number ∙ ap (λ (o : Option UpdateIdentity). option_map_or (same_key key) o false) (none_posted n s none)

  quiet_other : (key : UpdateIdentity) (p : Posting) → update_posted s ≡ Some p → same_key p.key key ≡ false → (n : ℕ) → number_of s ≡ Some n → carries_key (ss ++ s ∷ []) key n ≡ false
  quiet_other key p is other n number =
      let d = posts_of s p is in
      let same : p.number ≡ n = (let e : Some p.number ≡ Some n = sym d.number ∙ number in cc) in
      carries_new key n number
      ∙ ap (λ (m : ℕ). option_map_or (same_key key) (option_and_then (λ p. key_in p.carried) (post_with m s)) false) (sym same)
      ∙ ap (λ (o : Option Post). option_map_or (same_key key) (option_and_then (λ p. key_in p.carried) o) false) d.post_is
      ∙ ap (λ (o : Option UpdateIdentity). option_map_or (same_key key) o false) d.key
      ∙ false_from_ne_true (same_key key p.key) (λ e. false≢true (sym other ∙ ap (λ (k : UpdateIdentity). same_key p.key k) (key_same key p.key e) ∙ same_self p.key))

  -- the packet of a new update is its first
  first_is_new : (p : Posting) → update_posted s ≡ Some p → first_update ss p.key ≡ None → IsFirst (arrivals ++ more) (ss ++ s ∷ []) p.key (fresh (length arrivals) p)
  first_is_new p is none =
      let d = posts_of s p is in
      let unposted_yet : post_at ss p.number ≡ None = fresh_number p.number d.number in
      record {
        first = first_new ss s p.key p.number d.number
            (carries_new p.key p.number d.number
            ∙ ap (λ (o : Option Post). option_map_or (same_key p.key) (option_and_then (λ p. key_in p.carried) o) false) d.post_is
            ∙ ap (λ (o : Option UpdateIdentity). option_map_or (same_key p.key) o false) d.key ∙ same_self p.key) none;
        post = d.post;
        post_is = first_one (post_with p.number) ss s ∙ ap (λ (o : Option Post). option_or o (post_with p.number s)) unposted_yet ∙ d.post_is;
        maker = d.maker;
        within = omega (arith, length-append arrivals more);
        come = λ o says.
            ap (λ (l : List Arrival). first_some says (heard_by o l)) (take-append-le (length arrivals) arrivals more (omega arith) ∙ take_all (length arrivals) arrivals (omega arith))
            ∙ come o says
            ∙ ap (λ (l : List Sight). first_some says (values o l)) (sym (until_at (is_post p.number) ss s [] (unposted p.number ss unposted_yet) (is_post-some p.number s d.post d.post_is)));
      }

  stays : (key : UpdateIdentity) (o : Option First) → ((n : ℕ) → number_of s ≡ Some n → carries_key (ss ++ s ∷ []) key n ≡ false) → IsFirstIf arrivals ss key o → IsFirstIf (arrivals ++ more) (ss ++ s ∷ []) key o
  stays key None quiet is = first_none ss s key quiet is
  stays key (Some f) quiet is = is_first_more arrivals more ss s key f numbered next is

  chosen_is : (p : Posting) (look : UpdateIdentity → Option First) → update_posted s ≡ Some p → (o : Option First) → IsFirstIf arrivals ss p.key o
      → IsFirst (arrivals ++ more) (ss ++ s ∷ []) p.key (unwrap_or o (fresh (length arrivals) p))
  chosen_is p look is None none = first_is_new p is none
  chosen_is p look is (Some f) old = is_first_more arrivals more ss s p.key f numbered next old

  keys_more : (m : Option Posting) → update_posted s ≡ m → (look : UpdateIdentity → Option First) → ((key : UpdateIdentity) → IsFirstIf arrivals ss key (look key))
      → (key : UpdateIdentity) → IsFirstIf (arrivals ++ more) (ss ++ s ∷ []) key (look_step (length arrivals) m look key)
  keys_more None is look are key = stays key (look key) (quiet_none key is) (are key)
  keys_more (Some p) is look are key = by (same_key p.key key) refl
    where
      by : (b : Bool) → same_key p.key key ≡ b → IsFirstIf (arrivals ++ more) (ss ++ s ∷ []) key (if b then Some (chosen (length arrivals) p look) else look key)
      by true same =
          subst (λ (k : UpdateIdentity). IsFirst (arrivals ++ more) (ss ++ s ∷ []) k (chosen (length arrivals) p look)) (key_same p.key key same)
          (chosen_is p look is (look p.key) (are p.key))
      by false other = stays key (look key) (quiet_other key p is other) (are key)

  at_stays : (k : ℕ) (o : Option First) → (post_at ss k ≡ None → option_and_then (λ p. key_in p.carried) (post_with k s) ≡ None) → IsFirstAtIf arrivals ss k o
      → IsFirstAtIf (arrivals ++ more) (ss ++ s ∷ []) k o
  at_stays k None quiet is = by (post_at ss k) refl
    where
      by : (p : Option Post) → post_at ss k ≡ p → key_at (ss ++ s ∷ []) k ≡ None
      by None none = key_new ss s k none ∙ quiet none
      by (Some x) there = key_stays ss s k (λ none. absurd (let e : Some x ≡ None = sym there ∙ none in cc)) ∙ is
  at_stays k (Some f) quiet is = record {
    key = is.key;
    carries = key_stays ss s k (λ none. absurd (let e : key_at ss k ≡ None = ap (λ (o : Option Post). option_and_then (λ p. key_in p.carried) o) none in let g = is.carries in cc)) ∙ is.carries;
    first = is_first_more arrivals more ss s is.key f numbered next is.first;
  }

  numbers_more : (m : Option Posting) → update_posted s ≡ m → (look : UpdateIdentity → Option First) → ((key : UpdateIdentity) → IsFirstIf arrivals ss key (look key)) → (at : ℕ → Option First)
      → ((k : ℕ) → IsFirstAtIf arrivals ss k (at k)) → (k : ℕ) → IsFirstAtIf (arrivals ++ more) (ss ++ s ∷ []) k (at_step (length arrivals) m look at k)
  numbers_more None is look are at old k = at_stays k (at k) (λ none. none_posted k s is) (old k)
  numbers_more (Some p) is look are at old k = by (p.number == k) refl
    where
      here : IsFirstAt (arrivals ++ more) (ss ++ s ∷ []) p.number (chosen (length arrivals) p look)
      here =
          let d = posts_of s p is in
          record {
            key = p.key;
            carries = key_new ss s p.number (fresh_number p.number d.number) ∙ ap (λ (o : Option Post). option_and_then (λ p. key_in p.carried) o) d.post_is ∙ d.key;
            first = chosen_is p look is (look p.key) (are p.key);
          }

      by : (b : Bool) → (p.number == k) ≡ b → IsFirstAtIf (arrivals ++ more) (ss ++ s ∷ []) k (if b then Some (chosen (length arrivals) p look) else at k)
      by true same = subst (λ (n : ℕ). IsFirstAt (arrivals ++ more) (ss ++ s ∷ []) n (chosen (length arrivals) p look)) (eqb-true p.number k same) here
      by false other = at_stays k (at k) (λ none. other_posted k s p is other) (old k)

  pub updates_more : (u v : Updates) → UpdatesStand u arrivals ss
      → ((look : UpdateIdentity → Option First) → AreOf u look → AreOf v (look_step (length arrivals) (update_posted s) look))
      → ((look : UpdateIdentity → Option First) → AreOf u look → (k : ℕ) → update_at v k ≡ at_step (length arrivals) (update_posted s) look (update_at u) k)
      → UpdatesStand v (arrivals ++ more) (ss ++ s ∷ [])
  updates_more u v old keys at = record {
    look = look_step (length arrivals) (update_posted s) old.look;
    are = keys old.look old.are;
    keys = keys_more (update_posted s) refl old.look old.keys;
    numbers = λ k. subst (IsFirstAtIf (arrivals ++ more) (ss ++ s ∷ []) k) (sym (at old.look old.are k))
        (numbers_more (update_posted s) refl old.look old.keys (update_at u) old.numbers k);
  }
