-- One more sight along a walk over sights.
use Rattle.std.proofs.Common.{◌≡◌, ℕ, zero, suc, take, drop, ◌+◌, ◌<◌, ◌≤◌, List, [], ◌∷◌, ◌++◌, length, Bool, true, false, not, refl, sym, ap, ◌∙◌, subst, get_or, arith}
use Rattle.std.specs.Prelude.{fold, map, Option, Some, None, ◌||◌, ◌&&◌, ◌==◌, if◌then◌else◌, option_map, slice_set, slice_index_or, replicate}
use Rattle.std.specs.List.{list_any, find, cons_option}
use Rattle.std.specs.Option.{option_map_or}
use Rattle.std.specs.Str.{bytes_eq}
use Rattle.std.proofs.lemmas.List.{get_or-set_same, get_or-set_other, map-append, take_more}
use Rattle.std.proofs.Math.Seq.{drop-cons}
use Rattle.std.proofs.lemmas.List.Folds.{list_any-append}
use Rattle.std.proofs.lemmas.List.Sums.{fold-append}
use Rattle.std.proofs.lemmas.Bool.{eqb-true, eq-eqb, ne_eqb}
use Rattle.mip_words.specs.Last.{or_else}
use Rattle.mip_packets.specs.Says.{Carried}
use Rattle.mip_packets.specs.Says.Carried.{Test}
use Rattle.mip_provenance.specs.Lists.{along}
use Rattle.mip_provenance.specs.Sights.{Sight, token_in}
use Rattle.mip_provenance.specs.Sights.Sight.{Sent, Injected, Agent, Restarted}
use Rattle.mip_provenance.specs.Reached.{is_heard}
use Rattle.mip_provenance.specs.Names.{Naming, is_agent, lives, life_at, number_of_naming, naming, is_own, is_other}
use Rattle.mip_provenance.specs.Causes.{Claim, new_to, early}
use Rattle.mip_provenance.proofs.Tokens.{same_bytes, bytes_same}
use Rattle.mip_provenance.specs.declared.known.Known.{Known}
use Rattle.mip_afresh_marks.specs.declared.lives.Lives.{Lives}
use Rattle.mip_afresh_marks.specs.declared.names.Named.{Named}
use Rattle.mip_afresh_marks.specs.declared.sight.Sight.{Sight as KeptSight}
use Rattle.mip_afresh_marks.specs.Searches.{stranger, known_at, known_of, AreKnown, known_step, naming_known, named_step, has_heard, HaveHeard}

-- a node is put into the place of its number
pub put_at : (nodes : List Known) (m n : ℕ) (known : Known) → m < length nodes → slice_index_or (slice_set nodes m known) n stranger ≡ (if m == n then known else slice_index_or nodes n stranger)
put_at nodes m n known inside = by (m == n) refl
  where
    by : (b : Bool) → (m == n) ≡ b → slice_index_or (slice_set nodes m known) n stranger ≡ (if b then known else slice_index_or nodes n stranger)
    by true is = ap (λ (k : ℕ). slice_index_or (slice_set nodes m known) k stranger) (sym (eqb-true m n is)) ∙ get_or-set_same nodes m known stranger inside
    by false is = get_or-set_other nodes m n known stranger (λ (e : n ≡ m). absurd (let t : true ≡ false = sym (eq-eqb m n (sym e)) ∙ is in cc))

-- nothing is known of a node before the first sight
pub unknown : (m n : ℕ) → slice_index_or (replicate m stranger) n stranger ≡ stranger
unknown zero n = refl
unknown (suc m) zero = refl
unknown (suc m) (suc n) = unknown m n

known_parts : (b c : Bool) (d e : ℕ) → b ≡ c → d ≡ e → (let k : Known = record { is_agent = b; life = d } in k) ≡ (let k : Known = record { is_agent = c; life = e } in k)
known_parts b c d e f g = cc

or_false : (b : Bool) → b ≡ (b || false)
or_false true = refl
or_false false = refl

or_true : (b : Bool) → true ≡ (b || true)
or_true true = refl
or_true false = refl

-- what a sight adds to what is known of a node
pub agent_step : (known : ℕ → Known) (m n : ℕ) → (if m == n then (let k : Known = record { is_agent = true; life = (known m).life } in k) else known n) ≡ known_step n (Agent m) (known n)
agent_step known m n = by (m == n) refl
  where
    by : (b : Bool) → (m == n) ≡ b → (if b then (let k : Known = record { is_agent = true; life = (known m).life } in k) else known n) ≡ (let k : Known = record { is_agent = (known n).is_agent || (m == n); life = (known n).life } in k)
    by true is = known_parts true ((known n).is_agent || (m == n)) (known m).life (known n).life (or_true (known n).is_agent ∙ ap (λ (b : Bool). (known n).is_agent || b) (sym is)) (ap (λ (k : ℕ). (known k).life) (eqb-true m n is))
    by false is = known_parts (known n).is_agent ((known n).is_agent || (m == n)) (known n).life (known n).life (or_false (known n).is_agent ∙ ap (λ (b : Bool). (known n).is_agent || b) (sym is)) refl

pub restart_step : (known : ℕ → Known) (m n : ℕ) → (if m == n then (let k : Known = record { is_agent = (known m).is_agent; life = (known m).life + 1 } in k) else known n) ≡ known_step n (Restarted m) (known n)
restart_step known m n = by (m == n) refl
  where
    by : (b : Bool) → (m == n) ≡ b → (if b then (let k : Known = record { is_agent = (known m).is_agent; life = (known m).life + 1 } in k) else known n)
        ≡ (let k : Known = record { is_agent = (known n).is_agent || false; life = if n == m then suc (known n).life else (known n).life } in k)
    by true is =
        let same : m ≡ n = eqb-true m n is in
        known_parts (known m).is_agent ((known n).is_agent || false) ((known m).life + 1) (if n == m then suc (known n).life else (known n).life)
        (ap (λ (k : ℕ). (known k).is_agent) same ∙ or_false (known n).is_agent)
        (ap (λ (k : ℕ). (known k).life + 1) same ∙ (let next : (known n).life + 1 ≡ suc (known n).life = omega arith in next) ∙ sym (ap (λ (b : Bool). if b then suc (known n).life else (known n).life) (eq-eqb n m (sym same))))
    by false is =
        known_parts (known n).is_agent ((known n).is_agent || false) (known n).life (if n == m then suc (known n).life else (known n).life)
        (or_false (known n).is_agent)
        (sym (ap (λ (b : Bool). if b then suc (known n).life else (known n).life) (ne_eqb n m (λ (e : n ≡ m). absurd (let t : true ≡ false = sym (eq-eqb m n (sym e)) ∙ is in cc)))))

pub any_more : {X : Type 0} (p : X → Bool) (xs : List X) (x : X) → (list_any p xs || p x) ≡ list_any p (xs ++ x ∷ [])
any_more p xs x = by (p x) ∙ sym (list_any-append p xs (x ∷ []))
  where
    by : (b : Bool) → (list_any p xs || b) ≡ (list_any p xs || (b || false))
    by true = refl
    by false = refl

known_on : (n : ℕ) (front : List Sight) (s : Sight) → known_step n s (known_of n front) ≡ known_of n (front ++ s ∷ [])
known_on n front s =
    known_parts (list_any (is_agent n) front || is_agent n s) (list_any (is_agent n) (front ++ s ∷ [])) (lives n (life_at n front) s) (life_at n (front ++ s ∷ []))
    (any_more (is_agent n) front s) (sym (fold-append (lives n) 0 front (s ∷ [])))

pub known_more : (l m : Lives) (front : List Sight) (s : Sight) → AreKnown l front → ((n : ℕ) → n < 256 → known_at m n ≡ known_step n s (known_at l n)) → AreKnown m (front ++ s ∷ [])
known_more l m front s known step n below = step n below ∙ ap (known_step n s) (known n below) ∙ known_on n front s

-- no life is longer than the front
life_from : (n c : ℕ) (front : List Sight) → fold (lives n) c front ≤ c + length front
life_from n c [] = omega arith
life_from n c (s ∷ front) = omega (arith, life_from n (lives n c s) front, once s)
  where
    once : (s : Sight) → lives n c s ≤ suc c
    once (Restarted m) = by (n == m)
      where
        by : (b : Bool) → (if b then suc c else c) ≤ suc c
        by true = omega arith
        by false = omega arith
    once _ = omega arith

pub life_short : (l : Lives) (front : List Sight) → AreKnown l front → (n : ℕ) → n < 256 → (known_at l n).life ≤ length front
life_short l front known n below = omega (arith, ap (λ (k : Known). k.life) (known n below), life_from n 0 front)

-- a node names a token as the front has it
pub naming_same : (l : Lives) (front : List Sight) → AreKnown l front → (number node : ℕ) → node < 256 → (c : Carried) → naming_known (known_at l) (Sent number node c) ≡ naming front (Sent number node c)
naming_same l front known number node within (Test kind index token destination) =
    ap (λ (k : Known). if k.is_agent then None
    else Some (let a : Naming = record { number = number; token = token; name = record { node = node; life = k.life; kind = kind; address = destination; index = index } } in a))
    (known node within)
naming_same l front known number node within _ = refl

-- one more naming
abbrev found_of : Claim → List Naming → Option ℕ
found_of c ns = option_map number_of_naming (find (is_own c.token c.name) ns)

-- what a walk has found, and what is still to come, is what the whole has
pub record IsNamed (c : Claim) (named : Named) (rest : List Naming) (whole : Named) : Type 0 where
  pub first : or_else named.first (found_of c rest) ≡ whole.first
  pub otherwise : (named.otherwise || list_any (is_other c.token c.name) rest) ≡ whole.otherwise

pub named_more : (c : Claim) (named : Named) (o : Option Naming) (rest : List Naming) (whole : Named) → IsNamed c named (cons_option o rest) whole → IsNamed c (named_step c o named) rest whole
named_more c named None rest whole is = is
named_more c named (Some n) rest whole is = record { first = first named.first (is_own c.token c.name n) ∙ is.first; otherwise = other named.otherwise (is_other c.token c.name n) ∙ is.otherwise }
  where
    first : (o : Option ℕ) (b : Bool) → or_else (or_else o (if b then Some n.number else None)) (found_of c rest) ≡ or_else o (option_map number_of_naming (if b then Some n else find (is_own c.token c.name) rest))
    first (Some k) b = refl
    first None true = refl
    first None false = refl

    other : (a b : Bool) → ((a || b) || list_any (is_other c.token c.name) rest) ≡ (a || (b || list_any (is_other c.token c.name) rest))
    other true b = refl
    other false b = refl

-- nobody has heard a token before the first sight
pub unheard : (m o : ℕ) → has_heard (replicate m false) o ≡ false
unheard zero o = refl
unheard (suc m) zero = refl
unheard (suc m) (suc o) = unheard m o

-- an outsider is put among those that have heard a token
pub heard_at : (h : List Bool) (m o : ℕ) → m < length h → has_heard (slice_set h m true) o ≡ (has_heard h o || (m == o))
heard_at h m o inside = by (m == o) refl
  where
    by : (b : Bool) → (m == o) ≡ b → has_heard (slice_set h m true) o ≡ (has_heard h o || b)
    by true is = ap (has_heard (slice_set h m true)) (sym (eqb-true m o is)) ∙ get_or-set_same h m true false inside ∙ or_true (has_heard h o)
    by false is = get_or-set_other h m o true false (λ (e : o ≡ m). absurd (let t : true ≡ false = sym (eq-eqb m o (sym e)) ∙ is in cc)) ∙ or_false (has_heard h o)

-- an outsider hears a token, or does not
pub heard_more : (h i : List Bool) (token : List ℕ) (front : List Sight) (s : Sight) → HaveHeard h token front → ((o : ℕ) → o < 256 → has_heard i o ≡ (has_heard h o || is_heard o token s)) → HaveHeard i token (front ++ s ∷ [])
heard_more h i token front s heard step o below = step o below ∙ ap (λ (b : Bool). b || is_heard o token s) (heard o below) ∙ any_more (is_heard o token) front s

bytes_self : (a : List ℕ) → bytes_eq a a ≡ true
bytes_self a = bytes_same a a refl

bytes_swap : (a b : List ℕ) → bytes_eq b a ≡ bytes_eq a b
bytes_swap a b = by (bytes_eq a b) refl (bytes_eq b a) refl
  where
    by : (x : Bool) → bytes_eq a b ≡ x → (y : Bool) → bytes_eq b a ≡ y → bytes_eq b a ≡ bytes_eq a b
    by true e y f = bytes_same b a (sym (same_bytes a b e)) ∙ sym e
    by false e true f = absurd (let t : true ≡ false = sym (bytes_same a b (sym (same_bytes b a f))) ∙ e in cc)
    by false e false f = f ∙ sym e

-- what an outsider uses early, the front has
pub early_same : (h : List Bool) (token : List ℕ) (front : List Sight) → HaveHeard h token front → (number outsider : ℕ) → outsider < 256 → (c : Carried)
    → (option_map_or (λ t. bytes_eq t token) (token_in c) false && not (has_heard h outsider)) ≡ option_map_or (bytes_eq token) (early front (Injected number outsider c)) false
early_same h token front heard number outsider within c = by (token_in c)
  where
    known : has_heard h outsider ≡ list_any (is_heard outsider token) front
    known = heard outsider within

    two : (t : List ℕ) → t ≡ token → (d : Bool) → not d ≡ option_map_or (bytes_eq token) (if d then None else Some t) false
    two t same true = refl
    two t same false = sym (ap (bytes_eq token) same ∙ bytes_self token)

    one : (t : List ℕ) (b : Bool) → bytes_eq t token ≡ b → (d : Bool) → list_any (is_heard outsider t) front ≡ d
        → (b && not (has_heard h outsider)) ≡ option_map_or (bytes_eq token) (if d then None else Some t) false
    one t true is d at =
        let same : t ≡ token = same_bytes t token is in
        ap (λ (x : Bool). not x) (known ∙ ap (λ (x : List ℕ). list_any (is_heard outsider x) front) (sym same) ∙ at) ∙ two t same d
    one t false is true at = refl
    one t false is false at = sym (bytes_swap t token ∙ is)

    by : (o : Option (List ℕ)) → (option_map_or (λ t. bytes_eq t token) o false && not (has_heard h outsider)) ≡ option_map_or (bytes_eq token) (new_to front outsider o) false
    by None = refl
    by (Some t) = one t (bytes_eq t token) refl (list_any (is_heard outsider t) front) refl

-- one more sight along a list
pub take_on : (f : KeptSight → Sight) (xs : List KeptSight) (i : ℕ) (x : KeptSight) → i < length xs → x ≡ get_or xs i x → map f (take (i + 1) xs) ≡ map f (take i xs) ++ f x ∷ []
take_on f xs i x inside is =
    ap (map f) (take_more xs i x inside) ∙ map-append f (take i xs) (get_or xs i x ∷ []) ∙ ap (λ (y : KeptSight). map f (take i xs) ++ f y ∷ []) (sym is)

pub drop_on : (f : KeptSight → Sight) (xs : List KeptSight) (i : ℕ) (x : KeptSight) → i < length xs → x ≡ get_or xs i x → map f (drop i xs) ≡ f x ∷ map f (drop (i + 1) xs)
drop_on f xs i x inside is =
    ap (map f) (drop-cons xs i x inside)
    ∙ ap (λ (y : KeptSight). f y ∷ map f (drop (suc i) xs)) (sym is)
    ∙ ap (λ (n : ℕ). f x ∷ map f (drop n xs)) (let next : suc i ≡ i + 1 = omega arith in next)

any_cons : (p : List ℕ → Bool) (o : Option (List ℕ)) (l : List (List ℕ)) → list_any p (cons_option o l) ≡ (option_map_or p o false || list_any p l)
any_cons p None l = refl
any_cons p (Some x) l = refl

-- the walk for an early use finds one, or goes on
module _ (f : KeptSight → Sight) (xs : List KeptSight) (i : ℕ) (x : KeptSight) (inside : i < length xs) (is : x ≡ get_or xs i x) (token : List ℕ) (whole : Bool)
    (rest : list_any (bytes_eq token) (along early (map f (take i xs)) (map f (drop i xs))) ≡ whole) where
  here : (option_map_or (bytes_eq token) (early (map f (take i xs)) (f x)) false || list_any (bytes_eq token) (along early (map f (take i xs) ++ f x ∷ []) (map f (drop (i + 1) xs)))) ≡ whole
  here =
      sym (any_cons (bytes_eq token) (early (map f (take i xs)) (f x)) (along early (map f (take i xs) ++ f x ∷ []) (map f (drop (i + 1) xs))))
      ∙ ap (λ (l : List Sight). list_any (bytes_eq token) (along early (map f (take i xs)) l)) (sym (drop_on f xs i x inside is))
      ∙ rest

  pub early_found : true ≡ option_map_or (bytes_eq token) (early (map f (take i xs)) (f x)) false → true ≡ whole
  early_found e = ap (λ (b : Bool). b || list_any (bytes_eq token) (along early (map f (take i xs) ++ f x ∷ []) (map f (drop (i + 1) xs)))) e ∙ here

  pub early_passed : false ≡ option_map_or (bytes_eq token) (early (map f (take i xs)) (f x)) false → list_any (bytes_eq token) (along early (map f (take (i + 1) xs)) (map f (drop (i + 1) xs))) ≡ whole
  early_passed e =
      ap (λ (l : List Sight). list_any (bytes_eq token) (along early l (map f (drop (i + 1) xs)))) (take_on f xs i x inside is)
      ∙ ap (λ (b : Bool). b || list_any (bytes_eq token) (along early (map f (take i xs) ++ f x ∷ []) (map f (drop (i + 1) xs)))) e
      ∙ here

-- the walk for how a token is named goes on
pub named_on : (f : KeptSight → Sight) (xs : List KeptSight) (i : ℕ) (x : KeptSight) → i < length xs → x ≡ get_or xs i x → (c : Claim) (before after whole : Named)
    → IsNamed c before (along naming (map f (take i xs)) (map f (drop i xs))) whole → after ≡ named_step c (naming (map f (take i xs)) (f x)) before
    → IsNamed c after (along naming (map f (take (i + 1) xs)) (map f (drop (i + 1) xs))) whole
named_on f xs i x inside is c before after whole named step =
    subst (λ (front : List Sight). IsNamed c after (along naming front (map f (drop (i + 1) xs))) whole) (sym (take_on f xs i x inside is))
    (subst (λ (n : Named). IsNamed c n (along naming (map f (take i xs) ++ f x ∷ []) (map f (drop (i + 1) xs))) whole) (sym step)
    (named_more c before (naming (map f (take i xs)) (f x)) (along naming (map f (take i xs) ++ f x ∷ []) (map f (drop (i + 1) xs))) whole
    (subst (λ (l : List Sight). IsNamed c before (along naming (map f (take i xs)) l) whole) (drop_on f xs i x inside is) named)))
