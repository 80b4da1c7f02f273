-- The first packets of updates after one more sight.
use Rattle.std.proofs.Common.{⊎_elim, ◌≡◌, ℕ, ◌<◌, List, [], ◌∷◌, ◌++◌, length, Bool, true, false, refl, sym, ap, ◌∙◌, subst, arith, length-append}
use Rattle.std.specs.Prelude.{fold, Option, Some, None, ◌||◌, ◌==◌, nat_lt, if◌then◌else◌}
use Rattle.std.specs.List.{list_any, cons_option}
use Rattle.std.specs.Option.{option_and_then, option_map_or}
use Rattle.std.proofs.lemmas.List.{take-append-le}
use Rattle.std.proofs.lemmas.Bool.{eq-eqb, le-ltb, and_right, cases_lt, false≢true}
use Rattle.mip_packets.specs.Says.{Carried, UpdateIdentity}
use Rattle.mip_packets.specs.Says.Carried.{Test, Update, Other}
use Rattle.mip_provenance.specs.declared.maker.Maker.{Maker}
use Rattle.mip_provenance.specs.declared.maker.Maker.TheVariants.{Node, Outsider}
use Rattle.mip_provenance.specs.Lists.{first_some, until, lesser}
use Rattle.mip_provenance.specs.Sights.{Sight}
use Rattle.mip_provenance.specs.Sights.Sight.{Sent, Injected}
use Rattle.mip_provenance.specs.Reached.{values}
use Rattle.mip_provenance.specs.Firsts.{Post, post_with, post_at, is_post, number_of, key_in, same_key, carries_key, first_update}
use Rattle.mip_provenance.proofs.ListLaws.{first_some-found, any_at, least_passes}
use Rattle.mip_provenance.proofs.Plain.{is_post-some}
use Rattle.mip_provenance_index.specs.declared.arrival.Arrival.{Arrival}
use Rattle.mip_provenance_index.specs.declared.first.First.{First}
use Rattle.mip_provenance_index.specs.Heard.{heard_by}
use Rattle.mip_provenance_index.specs.Updates.{Posting, update_posted}
use Rattle.mip_provenance_index.specs.Stands.{numbers, IsNumber, AreNumberedFrom, IsFirst}
use Rattle.mip_provenance_index.proofs.Numbers.{unposted_at, post_stays, first_step}

-- what a sight posts
pub record Posts (s : Sight) (p : Posting) : Type 0 where
  pub number : number_of s ≡ Some p.number
  pub post : Post
  pub post_is : post_with p.number s ≡ Some post
  pub maker : post.maker ≡ p.maker
  pub key : key_in post.carried ≡ Some p.key

abbrev posted_by : Maker → Carried → Post
posted_by maker c = record { maker = maker; carried = c }

pub posts_of : (s : Sight) (p : Posting) → update_posted s ≡ Some p → Posts s p
posts_of (Sent number node (Update key)) p e =
    subst (λ (q : Posting). Posts (Sent number node (Update key)) q) (let same : record { number = number; maker = Node (record { 0 = node }); key = key } ≡ p = cc in same)
    (record {
      number = refl;
      post = posted_by (Node (record { 0 = node })) (Update key);
      post_is = ap (λ (b : Bool). if b then Some (posted_by (Node (record { 0 = node })) (Update key)) else None) (eq-eqb number number refl);
      maker = refl;
      key = refl;
    })
posts_of (Injected number outsider (Update key)) p e =
    subst (λ (q : Posting). Posts (Injected number outsider (Update key)) q) (let same : record { number = number; maker = Outsider outsider; key = key } ≡ p = cc in same)
    (record {
      number = refl;
      post = posted_by (Outsider outsider) (Update key);
      post_is = ap (λ (b : Bool). if b then Some (posted_by (Outsider outsider) (Update key)) else None) (eq-eqb number number refl);
      maker = refl;
      key = refl;
    })
posts_of _ p e = absurd cc

-- the update of packet k, where a sight posts it
abbrev key_posted_by : ℕ → Sight → Option UpdateIdentity
key_posted_by k s = option_and_then (λ p. key_in p.carried) (post_with k s)

pub none_posted : (k : ℕ) (s : Sight) → update_posted s ≡ None → key_posted_by k s ≡ None
none_posted k (Sent number node c) e = by (number == k) c e
  where
    by : (b : Bool) (c : Carried) → update_posted (Sent number node c) ≡ None → option_and_then (λ p. key_in p.carried) (if b then Some (posted_by (Node (record { 0 = node })) c) else None) ≡ None
    by true (Update key) e = absurd cc
    by true (Test a b c d) e = refl
    by true Other e = refl
    by false c e = refl
none_posted k (Injected number outsider c) e = by (number == k) c e
  where
    by : (b : Bool) (c : Carried) → update_posted (Injected number outsider c) ≡ None → option_and_then (λ p. key_in p.carried) (if b then Some (posted_by (Outsider outsider) c) else None) ≡ None
    by true (Update key) e = absurd cc
    by true (Test a b c d) e = refl
    by true Other e = refl
    by false c e = refl
none_posted k _ e = refl

pub other_posted : (k : ℕ) (s : Sight) (p : Posting) → update_posted s ≡ Some p → (p.number == k) ≡ false → key_posted_by k s ≡ None
other_posted k (Sent number node (Update key)) p e other =
    ap (λ (b : Bool). option_and_then (λ p. key_in p.carried) (if b then Some (posted_by (Node (record { 0 = node })) (Update key)) else None))
    (ap (λ (n : ℕ). n == k) (let same : record { number = number; maker = Node (record { 0 = node }); key = key } ≡ p = cc in ap (λ (q : Posting). q.number) same) ∙ other)
other_posted k (Injected number outsider (Update key)) p e other =
    ap (λ (b : Bool). option_and_then (λ p. key_in p.carried) (if b then Some (posted_by (Outsider outsider) (Update key)) else None))
    (ap (λ (n : ℕ). n == k) (let same : record { number = number; maker = Outsider outsider; key = key } ≡ p = cc in ap (λ (q : Posting). q.number) same) ∙ other)
other_posted k _ p e other = absurd cc

-- a packet that carries the update has a number that is taken
carried_below : (ss : List Sight) (key : UpdateIdentity) (m : ℕ) → AreNumberedFrom 0 ss → carries_key ss key m ≡ true → m < length (numbers ss)
carried_below ss key m numbered e =
    ⊎_elim (λ below. below)
    (λ above. absurd (false≢true (sym (ap (λ (o : Option Post). option_map_or (same_key key) (option_and_then (λ p. key_in p.carried) o) false) (unposted_at 0 ss m numbered (omega (arith, above)))) ∙ e)))
    (cases_lt m (length (numbers ss)))

pub first_stays : (ss : List Sight) (s : Sight) (key : UpdateIdentity) (m : ℕ) → AreNumberedFrom 0 ss → IsNumber (number_of s) (length (numbers ss)) → first_update ss key ≡ Some m → first_update (ss ++ s ∷ []) key ≡ Some m
unfolding first_update
first_stays ss s key m numbered next is = first_step ss s key ∙ by (number_of s) next
  where
    carries : carries_key ss key m ≡ true
    carries = least_passes (carries_key ss key) None (numbers ss) m (λ b none. absurd cc) is

    by : (o : Option ℕ) → IsNumber o (length (numbers ss)) → fold (lesser (carries_key (ss ++ s ∷ []) key)) (first_update ss key) (cons_option o []) ≡ Some m
    by None next = is
    by (Some n) next =
        ap (λ (o : Option ℕ). lesser (carries_key (ss ++ s ∷ []) key) o n) is
        ∙ ap (λ (b : Bool). if b then Some n else Some m)
        (and_right (carries_key (ss ++ s ∷ []) key n) (nat_lt n m) (le-ltb n m (let below = carried_below ss key m numbered carries in omega (arith, below, next))))

pub first_none : (ss : List Sight) (s : Sight) (key : UpdateIdentity) → ((n : ℕ) → number_of s ≡ Some n → carries_key (ss ++ s ∷ []) key n ≡ false) → first_update ss key ≡ None → first_update (ss ++ s ∷ []) key ≡ None
first_none ss s key quiet is = first_step ss s key ∙ by (number_of s) quiet
  where
    by : (o : Option ℕ) → ((n : ℕ) → o ≡ Some n → carries_key (ss ++ s ∷ []) key n ≡ false) → fold (lesser (carries_key (ss ++ s ∷ []) key)) (first_update ss key) (cons_option o []) ≡ None
    by None quiet = is
    by (Some n) quiet =
        ap (λ (o : Option ℕ). lesser (carries_key (ss ++ s ∷ []) key) o n) is ∙ ap (λ (b : Bool). if b then Some n else None) (quiet n refl)

pub first_new : (ss : List Sight) (s : Sight) (key : UpdateIdentity) (n : ℕ) → number_of s ≡ Some n → carries_key (ss ++ s ∷ []) key n ≡ true → first_update ss key ≡ None → first_update (ss ++ s ∷ []) key ≡ Some n
first_new ss s key n number carries is =
    first_step ss s key
    ∙ ap (λ (o : Option ℕ). fold (lesser (carries_key (ss ++ s ∷ []) key)) (first_update ss key) (cons_option o [])) number
    ∙ ap (λ (o : Option ℕ). lesser (carries_key (ss ++ s ∷ []) key) o n) is
    ∙ ap (λ (b : Bool). if b then Some n else None) carries

-- what stood before a place that is there stands there still
until_there : {X : Type 0} (p : X → Bool) (xs ys : List X) → list_any p xs ≡ true → until p (xs ++ ys) ≡ until p xs
until_there p [] ys e = absurd cc
until_there {X = X} p (x ∷ xs) ys e = by (p x) (until_there p xs ys) e
  where
    by : (b : Bool) → (list_any p xs ≡ true → until p (xs ++ ys) ≡ until p xs) → (b || list_any p xs) ≡ true → (if b then [] else x ∷ until p (xs ++ ys)) ≡ (if b then [] else x ∷ until p xs)
    by true later e = refl
    by false later e = ap (λ (l : List X). x ∷ l) (later e)

posted_any : (ss : List Sight) (k : ℕ) (post : Post) → post_at ss k ≡ Some post → list_any (is_post k) ss ≡ true
posted_any ss k post e =
    let s = first_some-found (post_with k) ss post e in
    ap (list_any (is_post k)) s.whole ∙ any_at (is_post k) s.before s.here s.after (is_post-some k s.here post s.says_it)

pub is_first_more : (arrivals more : List Arrival) (ss : List Sight) (s : Sight) (key : UpdateIdentity) (f : First) → AreNumberedFrom 0 ss → IsNumber (number_of s) (length (numbers ss))
    → IsFirst arrivals ss key f → IsFirst (arrivals ++ more) (ss ++ s ∷ []) key f
is_first_more arrivals more ss s key f numbered next is = record {
  first = first_stays ss s key f.number numbered next is.first;
  post = is.post;
  post_is = post_stays ss s f.number is.post is.post_is;
  maker = is.maker;
  within = omega (arith, is.within, length-append arrivals more);
  come = λ o says.
      ap (λ (l : List Arrival). first_some says (heard_by o l)) (take-append-le f.heard arrivals more is.within)
      ∙ is.come o says
      ∙ ap (λ (l : List Sight). first_some says (values o l)) (sym (until_there (is_post f.number) ss (s ∷ []) (posted_any ss f.number is.post is.post_is)));
}
