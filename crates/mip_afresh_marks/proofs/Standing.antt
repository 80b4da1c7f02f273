-- Sights stand for a history that goes on, and are its sights.
use Rattle.std.proofs.Common.{◌≡◌, ℕ, zero, suc, ◌<◌, ◌≤◌, List, [], ◌∷◌, ◌++◌, length, Bool, true, inl, inr, refl, sym, ap, ◌∙◌, arith}
use Rattle.std.specs.Prelude.{map, Option, Some, None, ◌==◌, if◌then◌else◌, option_map, option_to_list, slice_get}
use Rattle.std.specs.Option.{option_or, option_and_then}
use Rattle.std.proofs.lemmas.List.{map-append, length-append, append-nil}
use Rattle.std.proofs.lemmas.Bool.{eqb-true, eq-eqb, ne_eqb, cases_order}
use Rattle.std.proofs.lemmas.Option.{slice_get_past}
use Rattle.mip_packets.specs.Says.{carried}
use Rattle.mip_entries.specs.declared.entry.Entry.{Entry}
use Rattle.mip_entries.specs.declared.entry.Entry.TheVariants as entries
use Rattle.mip_provenance.specs.declared.maker.Maker.TheVariants.{Node, Outsider}
use Rattle.mip_provenance.specs.Lists.{first_some}
use Rattle.mip_provenance.specs.Entries.{packet_told}
use Rattle.mip_provenance.specs.Sights.{Sight, token_in, token_at, sight_with, sight, sights}
use Rattle.mip_provenance.specs.Sights.Sight.{Heard, Handed}
use Rattle.mip_provenance.specs.Firsts.{Post, post_with}
use Rattle.mip_provenance.proofs.Plain.{packet_first, post_says, posts_same}
use Rattle.mip_afresh_marks.specs.declared.post.Post.{Post as KeptPost}
use Rattle.mip_afresh_marks.specs.declared.sight.Sight.{Sight as KeptSight}
use Rattle.mip_afresh_marks.specs.declared.sights.Sights.{Sights}
use Rattle.mip_afresh_marks.specs.Sighting.{post_of, sight_seen, post_numbered, token_numbered, sights_in, AreNumbered, post_told, is_next, post_in, StandFor}

-- one more item
first_one : {X Y : Type 0} (says : X → Option Y) (xs : List X) (x : X) → first_some says (xs ++ x ∷ []) ≡ option_or (first_some says xs) (says x)
first_one {Y = Y} says [] x = by (says x)
  where
    by : (o : Option Y) → option_or o None ≡ o
    by None = refl
    by (Some y) = refl
first_one {Y = Y} says (y ∷ xs) x = ap (option_or (says y)) (first_one says xs x) ∙ by (says y)
  where
    by : (o : Option Y) → option_or o (option_or (first_some says xs) (says x)) ≡ option_or (option_or o (first_some says xs)) (says x)
    by None = refl
    by (Some y) = refl

-- a packet is posted by an entry whatever the tokens
post_with-token : (f g : ℕ → Option (List ℕ)) (k : ℕ) (e : Entry) → post_with k (sight_with f e) ≡ post_with k (sight_with g e)
post_with-token f g k (entries.Sent number node shielded packet) = refl
post_with-token f g k (entries.Injected number outsider link packet) = refl
post_with-token f g k _ = refl

first_post-token : (f g : ℕ → Option (List ℕ)) (k : ℕ) (es : List Entry) → first_some (post_with k) (map (sight_with f) es) ≡ first_some (post_with k) (map (sight_with g) es)
first_post-token f g k [] = refl
first_post-token f g k (e ∷ es) = two (post_with-token f g k e) (first_post-token f g k es)
  where
    two : {a b c d : Option Post} → a ≡ b → c ≡ d → option_or a c ≡ option_or b d
    two {a} {b} {c} {d} x y = cc

-- a sight is the same where the tokens are
sight_with-agree : (f g : ℕ → Option (List ℕ)) → ((k : ℕ) → f k ≡ g k) → (e : Entry) → sight_with f e ≡ sight_with g e
sight_with-agree f g agree (entries.Heard number outsider) = ap (Heard outsider) (agree number)
sight_with-agree f g agree (entries.Handed number node) = ap (Handed node.0) (agree number)
sight_with-agree f g agree _ = refl

sights_with-agree : (f g : ℕ → Option (List ℕ)) → ((k : ℕ) → f k ≡ g k) → (es : List Entry) → map (sight_with f) es ≡ map (sight_with g) es
sights_with-agree f g agree [] = refl
sights_with-agree f g agree (e ∷ es) = two (sight_with-agree f g agree e) (sights_with-agree f g agree es)
  where
    two : {x y : Sight} {l m : List Sight} → x ≡ y → l ≡ m → x ∷ l ≡ y ∷ m
    two {x} {y} {l} {m} a b = cc

abbrev nothing : ℕ → Option (List ℕ)
nothing = λ _. None

module _ (s : Sights) (past : List Entry) (is : StandFor s past) where
  token_same : (k : ℕ) → token_numbered s.posts.items k ≡ token_at past k
  token_same k =
      ap (λ (o : Option Post). option_and_then (λ p. token_in p.carried) o) (is.posts k ∙ first_post-token nothing (token_at past) k past)
      ∙ by (first_some (post_with k) (map (sight past) past)) (first_some (packet_told k) past) (posts_same past k past)
      ∙ ap (λ (o : Option (List ℕ)). option_and_then (λ bytes. token_in (carried bytes)) o) (sym (packet_first k past))
    where
      by : (o : Option Post) (p : Option (List ℕ)) → post_says o ≡ option_map carried p → option_and_then (λ q. token_in q.carried) o ≡ option_and_then (λ bytes. token_in (carried bytes)) p
      by None None e = refl
      by (Some x) (Some y) e = let same : x.carried ≡ carried y = cc in ap token_in same
      by None (Some y) e = absurd cc
      by (Some x) None e = absurd cc

  pub sights_same : sights_in s ≡ sights past
  unfolding sights
  sights_same = is.seen (token_numbered s.posts.items) ∙ sights_with-agree (token_numbered s.posts.items) (token_at past) token_same past

  pub numbered : AreNumbered s
  numbered k =
      is.posts k ∙ first_post-token nothing (token_numbered s.posts.items) k past
      ∙ ap (first_some (post_with k)) (sym (is.seen (token_numbered s.posts.items)))

-- items of a list with one more
get_front : {X : Type 0} (xs : List X) (y : X) (i : ℕ) → i < length xs → slice_get (xs ++ y ∷ []) i ≡ slice_get xs i
get_front [] y i inside = absurd (omega (arith, inside))
get_front (x ∷ xs) y zero inside = refl
get_front (x ∷ xs) y (suc i) inside = get_front xs y i (omega (arith, inside))

get_seam : {X : Type 0} (xs : List X) (y : X) (i : ℕ) → i ≡ length xs → slice_get (xs ++ y ∷ []) i ≡ Some y
get_seam [] y zero is = refl
get_seam [] y (suc i) is = absurd (omega (arith, is))
get_seam (x ∷ xs) y zero is = absurd (omega (arith, is))
get_seam (x ∷ xs) y (suc i) is = get_seam xs y i (omega (arith, is))

or_nothing : (o : Option Post) → option_or o None ≡ o
or_nothing None = refl
or_nothing (Some p) = refl

-- the next packet is posted
posted_more : (posts : List KeptPost) (p : KeptPost) (known : ℕ → Option Post) → ((k : ℕ) → post_numbered posts k ≡ known k) → (n : ℕ) → (n == length posts) ≡ true → (q : Post) → post_of p ≡ q
    → (k : ℕ) → post_numbered (posts ++ p ∷ []) k ≡ option_or (known k) (if n == k then Some q else None)
posted_more posts p known same n next q is k = elim (cases_order k (length posts)) as (λ _. post_numbered (posts ++ p ∷ []) k ≡ option_or (known k) (if n == k then Some q else None)) [
  | inl at ↦
      ap (option_map post_of) (get_seam posts p k at) ∙ ap Some is
      ∙ sym (ap (λ (o : Option Post). option_or o (if n == k then Some q else None)) (none k (omega (arith, at)))
      ∙ ap (λ (b : Bool). if b then Some q else None) (eq-eqb n k (here ∙ sym at)))
  | inr (inl below) ↦
      ap (option_map post_of) (get_front posts p k below) ∙ same k
      ∙ sym (ap (λ (b : Bool). option_or (known k) (if b then Some q else None)) (ne_eqb n k (λ (e : n ≡ k). absurd (omega (arith, below, e, here)))) ∙ or_nothing (known k))
  | inr (inr above) ↦
      ap (option_map post_of) (slice_get_past (posts ++ p ∷ []) k (omega (arith, length-append posts (p ∷ []), above)))
      ∙ sym (ap (λ (b : Bool). option_or (known k) (if b then Some q else None)) (ne_eqb n k (λ (e : n ≡ k). absurd (omega (arith, above, e, here)))) ∙ or_nothing (known k) ∙ none k (omega (arith, above)))
]
  where
    here : n ≡ length posts
    here = eqb-true n (length posts) next

    none : (k : ℕ) → length posts ≤ k → known k ≡ None
    none k past = sym (same k) ∙ ap (option_map post_of) (slice_get_past posts k past)

-- one more entry
pub stands_more : (s t : Sights) (past : List Entry) (e : Entry) (sight : KeptSight) (o : Option KeptPost) → StandFor s past → is_next (length s.posts.items) e ≡ true
    → t.seen.items ≡ s.seen.items ++ sight ∷ [] → t.posts.items ≡ s.posts.items ++ option_to_list o
    → ((token : ℕ → Option (List ℕ)) → sight_seen token sight ≡ sight_with token e) → option_map post_of o ≡ post_told e → StandFor t (past ++ e ∷ [])
stands_more s t past e sight o is next seen_is posts_are saw posts = record {
  seen = λ token.
      ap (map (sight_seen token)) seen_is ∙ map-append (sight_seen token) s.seen.items (sight ∷ []) ∙ two (is.seen token) (saw token)
      ∙ sym (map-append (sight_with token) past (e ∷ []));
  posts = λ k.
      ap (λ (l : List KeptPost). post_numbered l k) posts_are
      ∙ by e o next posts k
      ∙ sym (ap (first_some (post_with k)) (map-append (sight_with nothing) past (e ∷ [])) ∙ first_one (post_with k) (map (sight_with nothing) past) (sight_with nothing e));
}
  where
    two : {l m : List Sight} {x y : Sight} → l ≡ m → x ≡ y → l ++ x ∷ [] ≡ m ++ y ∷ []
    two {l} {m} {x} {y} a b = cc

    kept : List KeptPost
    kept = s.posts.items

    quiet : (o : Option KeptPost) → option_map post_of o ≡ None → (k : ℕ) → post_numbered (kept ++ option_to_list o) k ≡ option_or (post_in past k) None
    quiet None e k = ap (λ (l : List KeptPost). post_numbered l k) (append-nil kept) ∙ is.posts k ∙ sym (or_nothing (post_in past k))
    quiet (Some p) e k = absurd cc

    posted : (o : Option KeptPost) (n : ℕ) (q : Post) → option_map post_of o ≡ Some q → (n == length kept) ≡ true → (k : ℕ) → post_numbered (kept ++ option_to_list o) k ≡ option_or (post_in past k) (if n == k then Some q else None)
    posted None n q e next k = absurd cc
    posted (Some p) n q e next k = posted_more kept p (post_in past) is.posts n next q (let same : post_of p ≡ q = cc in same) k

    by : (e : Entry) (o : Option KeptPost) → is_next (length kept) e ≡ true → option_map post_of o ≡ post_told e → (k : ℕ)
        → post_numbered (kept ++ option_to_list o) k ≡ option_or (post_in past k) (post_with k (sight_with nothing e))
    by (entries.Sent number node shielded packet) o next posts k = posted o number (record { maker = Node node; carried = carried packet }) posts next k
    by (entries.Injected number outsider link packet) o next posts k = posted o number (record { maker = Outsider outsider; carried = carried packet }) posts next k
    by _ o next posts k = quiet o posts k
