-- Where the tokens of an update had reached its maker, its mark is not forged by cause 1; and what cause a forged mark has.
use Rattle.std.proofs.Common.{◌≡◌, ℕ, ◌≤◌, List, [], ◌∷◌, ◌++◌, Bool, true, false, inl, inr, refl, sym, ap, ◌∙◌, arith}
use Rattle.std.specs.Prelude.{fold, map, Option, Some, None, ◌&&◌, ◌||◌, ◌==◌, nat_lt, if◌then◌else◌, option_map}
use Rattle.std.specs.List.{list_any, filter_map, cons_option}
use Rattle.std.specs.Option.{option_map_or, option_and_then, option_or}
use Rattle.std.proofs.lemmas.Bool.{eq-eqb, eqb-true}
use Rattle.std.proofs.lemmas.List.{map-append}
use Rattle.std.proofs.lemmas.List.Elements.{filter_map-append}
use Rattle.mip_words.specs.declared.address.Address.{Address}
use Rattle.mip_words.specs.declared.ids.NodeId.{NodeId}
use Rattle.mip_packets.specs.Says.{UpdateIdentity, carried}
use Rattle.mip_tokens.specs.Token.{authenticator_over}
use Rattle.mip_entries.specs.declared.entry.Entry.{Entry}
use Rattle.mip_entries.specs.declared.entry.Entry.TheVariants as entries
use Rattle.mip_provenance.specs.declared.maker.Maker.{Maker}
use Rattle.mip_provenance.specs.declared.maker.Maker.TheVariants.{Node, Outsider}
use Rattle.mip_provenance.specs.declared.accepted_update.AcceptedUpdate.{AcceptedUpdate}
use Rattle.mip_provenance.specs.declared.mark.Mark.{Mark}
use Rattle.mip_provenance.specs.declared.mark.Mark.TheVariants.{Forged}
use Rattle.mip_provenance.specs.Keys.{kbm_of_tokens}
use Rattle.mip_provenance.specs.Lists.{first_some, until, if_passes, lesser}
use Rattle.mip_provenance.specs.Entries.{declared_in}
use Rattle.mip_provenance.specs.Sights.{Sight, token_in, token_at, sight, sights}
use Rattle.mip_provenance.specs.Reached.{values, value_heard}
use Rattle.mip_provenance.specs.Names.{is_misnamed}
use Rattle.mip_provenance.specs.Firsts.{Post, post_with, post_at, is_post, number_of, key_at, carries_key, first_update}
use Rattle.mip_provenance.specs.Pairs.{Pair, alone, both, gives, made_with, as_asked, pair_made, first_with, first_pair, pair_by}
use Rattle.mip_provenance.specs.Causes.{Claim, home_claim, careof_claim, is_early, is_used_early, is_named_otherwise}
use Rattle.mip_provenance.specs.Marks.{origin_of, by_claims, by_pair, by_post, by_first, by_key, mark_of, mark_in}
use Rattle.mip_provenance.specs.Origins.{IsFirstOf, HasReached, HasCareof, poster}
use Rattle.mip_provenance.specs.Means.{made_told, IsMadeOf, HadTokens, IsUsedEarly, IsSentOtherwise, IsCause}
use Rattle.mip_provenance.proofs.ListLaws.{until_at, least_passes, least_least}
use Rattle.mip_provenance.proofs.Tokens.{bytes_same}
use Rattle.mip_provenance.proofs.Plain.{post_says, posts_same, packet_first, carries_of_key, key_of_carries, is_post-some, unposted}
use Rattle.mip_provenance.proofs.Standing.{key_of_test, post_of_key, test_of_key}

-- a first answer that is there is found
some_of : {X Y : Type 0} (says : X → Option Y) (before : List X) (x : X) (after : List X) → (says x ≡ None → ⊥) → first_some says (before ++ x ∷ after) ≡ None → ⊥
some_of {Y = Y} says [] x after here e = here (none (says x) e)
  where
    none : (o : Option Y) → option_or o (first_some says after) ≡ None → o ≡ None
    none None e = refl
    none (Some y) e = absurd cc
some_of {X = X} {Y = Y} says (z ∷ before) x after here e = some_of says before x after here (none (says z) e)
  where
    none : (o : Option Y) → option_or o (first_some says (before ++ x ∷ after)) ≡ None → first_some says (before ++ x ∷ after) ≡ None
    none None e = e
    none (Some y) e = absurd cc

first_behind : {X Y : Type 0} (says : X → Option Y) (before rest : List X) → first_some says before ≡ None → first_some says (before ++ rest) ≡ first_some says rest
first_behind says [] rest none = refl
first_behind {X = X} {Y = Y} says (x ∷ before) rest none = by (says x) (first_behind says before rest) none
  where
    by : (o : Option Y) → (first_some says before ≡ None → first_some says (before ++ rest) ≡ first_some says rest) → option_or o (first_some says before) ≡ None
        → option_or o (first_some says (before ++ rest)) ≡ first_some says rest
    by None more none = more none
    by (Some y) more none = absurd cc

-- a least number that is there is found
some_least : (p : ℕ → Bool) (b : ℕ) (ks : List ℕ) → fold (lesser p) (Some b) ks ≡ None → ⊥
some_least p b [] e = absurd cc
some_least p b (k ∷ ks) e = by (p k && nat_lt k b) (some_least p k ks) (some_least p b ks) e
  where
    by : (t : Bool) → (fold (lesser p) (Some k) ks ≡ None → ⊥) → (fold (lesser p) (Some b) ks ≡ None → ⊥) → fold (lesser p) (if t then Some k else Some b) ks ≡ None → ⊥
    by true less stays e = less e
    by false less stays e = stays e

least_there : (p : ℕ → Bool) (ks : List ℕ) (k : ℕ) → fold (lesser p) None ks ≡ None → list_any (λ x. x == k) ks ≡ true → p k ≡ true → ⊥
least_there p [] k e member passes = absurd cc
least_there p (x ∷ ks) k e member passes = by (p x) refl (λ e member. least_there p ks k e member passes) e
  where
    rest : (t : Bool) → (x == k) ≡ t → p x ≡ false → (list_any (λ x. x == k) ks ≡ true → ⊥) → (t || list_any (λ x. x == k) ks) ≡ true → ⊥
    rest true same not_it more member = absurd (let both : true ≡ false = sym passes ∙ ap p (sym (eqb-true x k same)) ∙ not_it in cc)
    rest false other not_it more member = more member

    by : (t : Bool) → p x ≡ t → (fold (lesser p) None ks ≡ None → list_any (λ x. x == k) ks ≡ true → ⊥) → fold (lesser p) (if t then Some x else None) ks ≡ None → ⊥
    by true is more e = some_least p x ks e
    by false is more e = rest (x == k) refl is (more e) member

-- the least packet with the update is the one of an origin
first_is : (past : List Entry) (key : UpdateIdentity) (update : ℕ) (maker : Maker) (earlier : List Entry) → IsFirstOf past key update maker earlier → first_update (sights past) key ≡ Some update
unfolding first_update
first_is past key update maker earlier f = by (fold (lesser passes) None numbers) refl
  where
    passes : ℕ → Bool
    passes = carries_key (sights past) key

    numbers : List ℕ
    numbers = filter_map number_of (sights past)

    at : key_at (sights past) update ≡ Some key
    at = key_of_carries past update key f.carries

    member : list_any (λ x. x == update) numbers ≡ true
    member = post_of_key (sights past) key update at

    by : (o : Option ℕ) → fold (lesser passes) None numbers ≡ o → o ≡ Some update
    by None e = absurd (least_there passes numbers update e member (test_of_key (sights past) key update at))
    by (Some m) e =
        let below : m ≤ update = least_least passes None numbers m update e member (test_of_key (sights past) key update at) in
        let above : update ≤ m = f.least m (carries_of_key past m key (key_of_test (sights past) key m (least_passes passes None numbers m (λ b none. absurd cc) e))) in
        ap (λ (n : ℕ). Some n) (let same : m ≡ update = omega (arith, below, above) in same)

-- who posted it, and what stood before
record IsPostedBy (seen : List Sight) (k : ℕ) (maker : Maker) (front : List Sight) : Type 0 where
  post : Post
  is : post_at seen k ≡ Some post
  by : post.maker ≡ maker
  before : until (is_post k) seen ≡ front

record SaysPost (k : ℕ) (s : Sight) (maker : Maker) : Type 0 where
  post : Post
  says : post_with k s ≡ Some post
  by : post.maker ≡ maker

says_post : (past : List Entry) (k : ℕ) (e : Entry) (maker : Maker) → poster k e ≡ Some maker → SaysPost k (sight past e) maker
says_post past k (entries.Sent number node shielded packet) maker is = at (number == k) refl is
  where
    post : Post
    post = record { maker = Node node; carried = carried packet }

    at : (b : Bool) → (number == k) ≡ b → (if b then Some (Node node) else None) ≡ Some maker → SaysPost k (sight past (entries.Sent number node shielded packet)) maker
    at true test is = record { post = post; says = ap (λ (b : Bool). if b then Some post else None) test; by = cc }
    at false test is = absurd cc
says_post past k (entries.Injected number outsider link packet) maker is = at (number == k) refl is
  where
    post : Post
    post = record { maker = Outsider outsider; carried = carried packet }

    at : (b : Bool) → (number == k) ≡ b → (if b then Some (Outsider outsider) else None) ≡ Some maker → SaysPost k (sight past (entries.Injected number outsider link packet)) maker
    at true test is = record { post = post; says = ap (λ (b : Bool). if b then Some post else None) test; by = cc }
    at false test is = absurd cc
says_post past k _ maker is = absurd cc

posted_is : (past : List Entry) (key : UpdateIdentity) (k : ℕ) (maker : Maker) (earlier : List Entry) → IsFirstOf past key k maker earlier → IsPostedBy (sights past) k maker (map (sight past) earlier)
unfolding sights
posted_is past key k maker earlier f =
    let s = says_post past k f.entry maker f.posts in
    let whole : map (sight past) past ≡ map (sight past) earlier ++ sight past f.entry ∷ map (sight past) f.later = ap (map (sight past)) f.whole ∙ map-append (sight past) earlier (f.entry ∷ f.later) in
    let none : first_some (post_with k) (map (sight past) earlier) ≡ None =
    nobody (first_some (post_with k) (map (sight past) earlier)) (posts_same past k earlier ∙ ap (λ (o : Option (List ℕ)). option_map carried o) (sym (packet_first k earlier) ∙ f.unposted)) in
    record {
      post = s.post;
      is =
          ap (first_some (post_with k)) whole ∙ first_behind (post_with k) (map (sight past) earlier) (sight past f.entry ∷ map (sight past) f.later) none
          ∙ ap (λ (o : Option Post). option_or o (first_some (post_with k) (map (sight past) f.later))) s.says;
      by = s.by;
      before =
          ap (until (is_post k)) whole
          ∙ until_at (is_post k) (map (sight past) earlier) (sight past f.entry) (map (sight past) f.later) (unposted k (map (sight past) earlier) none) (is_post-some k (sight past f.entry) s.post s.says);
    }
  where
    nobody : (o : Option Post) → post_says o ≡ None → o ≡ None
    nobody None e = refl
    nobody (Some p) e = absurd cc

-- a token that an outsider heard is among its values
record IsAmong (vs : List (List ℕ)) (token : List ℕ) : Type 0 where
  before : List (List ℕ)
  after : List (List ℕ)
  whole : vs ≡ before ++ token ∷ after

among : (past earlier : List Entry) (o : ℕ) (token : List ℕ) → HasReached past earlier (Outsider o) token → IsAmong (values o (map (sight past) earlier)) token
among past earlier o token r = record {
  before = values o (map (sight past) r.before);
  after = values o (map (sight past) r.after);
  whole =
      ap (λ (l : List Entry). values o (map (sight past) l)) r.whole
      ∙ ap (values o) (map-append (sight past) r.before (entries.Heard r.number o ∷ r.after))
      ∙ filter_map-append (value_heard o) (map (sight past) r.before) (sight past (entries.Heard r.number o) ∷ map (sight past) r.after)
      ∙ ap (λ (x : Option (List ℕ)). values o (map (sight past) r.before) ++ cons_option x (values o (map (sight past) r.after))) heard;
}
  where
    token_is : token_at past r.number ≡ Some token
    token_is = ap (λ (x : Option (List ℕ)). option_and_then (λ bytes. token_in (carried bytes)) x) r.test.posted ∙ ap token_in r.test.says

    heard : value_heard o (sight past (entries.Heard r.number o)) ≡ Some token
    heard = ap (λ (b : Bool). if b then token_at past r.number else None) (eq-eqb o o refl) ∙ token_is

-- a pair that passes is found by who had both tokens
passed_some : (test : Pair → Bool) (pair : Pair) → test pair ≡ true → if_passes test pair ≡ None → ⊥
passed_some test pair passes none = absurd (let both : (let o : Option Pair = Some pair in o) ≡ None = sym (ap (λ (b : Bool). if b then Some pair else None) passes) ∙ none in cc)

heard_pair : (past earlier : List Entry) (a : AcceptedUpdate) (o : ℕ) (test : Pair → Bool) (home : List ℕ) (j : Option ℕ) (q : Option (List ℕ)) (cot : Option ℕ)
    → HasReached past earlier (Outsider o) home → HasCareof past a earlier (Outsider o) j q cot → test (record { home = home; careof = q }) ≡ true
    → first_pair j test (values o (map (sight past) earlier)) ≡ None → ⊥
heard_pair past earlier a o test home None None None reached tt passes none =
    let at = among past earlier o home reached in
    some_of (λ p. if_passes test (alone p)) at.before home at.after (passed_some test (alone home) passes) (ap (first_some (λ p. if_passes test (alone p))) (sym at.whole) ∙ none)
heard_pair past earlier a o test home (Some j) (Some q) (Some cot) reached careof passes none =
    let vs : List (List ℕ) = values o (map (sight past) earlier) in
    let at = among past earlier o home reached in
    let with = among past earlier o q careof.1 in
    some_of (first_with test vs) at.before home at.after
    (λ e. some_of (λ x. if_passes test (both home x)) with.before q with.after (passed_some test (both home q) passes) (ap (first_some (λ x. if_passes test (both home x))) (sym with.whole) ∙ e))
    (ap (first_some (first_with test vs)) (sym at.whole) ∙ none)
heard_pair past earlier a o test home None None (Some cot) reached careof passes none = absurd careof
heard_pair past earlier a o test home None (Some q) cot reached careof passes none = absurd careof
heard_pair past earlier a o test home (Some j) None cot reached careof passes none = absurd careof
heard_pair past earlier a o test home (Some j) (Some q) None reached careof passes none = absurd careof

-- a mobile's entry tells its pair
told_same : (past : List Entry) (node : NodeId) (k : ℕ) (e : Entry) → made_with node.0 k (sight past e) ≡ made_told node k e
told_same past node k (entries.Made n peer number home careof) = refl
told_same past node k _ = refl

tells_same : (past : List Entry) (node : NodeId) (k : ℕ) (es : List Entry) → first_some (made_with node.0 k) (map (sight past) es) ≡ first_some (made_told node k) es
tells_same past node k [] = refl
tells_same past node k (e ∷ es) =
    ap (λ (o : Option Pair). option_or o (first_some (made_with node.0 k) (map (sight past) es))) (told_same past node k e)
    ∙ ap (λ (o : Option Pair). option_or (made_told node k e) o) (tells_same past node k es)

made_pair : (past earlier : List Entry) (a : AcceptedUpdate) (node : NodeId) (k : ℕ) (test : Pair → Bool) (home : List ℕ) (j : Option ℕ) (q : Option (List ℕ)) (cot : Option ℕ)
    → HasCareof past a earlier (Node node) j q cot → test (record { home = home; careof = q }) ≡ true
    → first_some (made_told node k) past ≡ Some (record { home = home; careof = q }) → pair_made (sights past) j test node k ≡ None → ⊥
unfolding sights
made_pair past earlier a node k test home j q cot careof passes told none =
    let found : first_some (made_with node.0 k) (map (sight past) past) ≡ Some (record { home = home; careof = q }) = tells_same past node k past ∙ told in
    asked j q cot careof passes (sym (ap (λ (o : Option Pair). option_and_then (if_passes test) (option_and_then (as_asked j) o)) found) ∙ none)
  where
    asked : (j : Option ℕ) (q : Option (List ℕ)) (cot : Option ℕ) → HasCareof past a earlier (Node node) j q cot → test (record { home = home; careof = q }) ≡ true
        → option_and_then (if_passes test) (as_asked j (record { home = home; careof = q })) ≡ None → ⊥
    asked None None None careof passes none = passed_some test (alone home) passes none
    asked (Some j) (Some q) (Some cot) careof passes none = passed_some test (both home q) passes none
    asked None None (Some cot) careof passes none = absurd careof
    asked None (Some q) cot careof passes none = absurd careof
    asked (Some j) None cot careof passes none = absurd careof
    asked (Some j) (Some q) None careof passes none = absurd careof

-- so where both tokens had reached the maker, cause 1 does not hold
pub not_forged : (past : List Entry) (a : AcceptedUpdate) (hot : ℕ) (cot : Option ℕ) (update : ℕ) → HadTokens past a hot cot update → mark_in past a ≡ Forged 1 → ⊥
unfolding mark_in mark_of
not_forged past a hot cot update h forged =
    let o = h.origin in
    let p = posted_is past o.key update o.maker o.earlier o.first in
    let test : Pair → Bool = gives o.own a.careof o.key in
    let passes : gives o.own a.careof o.key (record { home = o.home_token; careof = o.careof_token }) ≡ true =
    bytes_same (authenticator_over (kbm_of_tokens o.home_token o.careof_token) a.careof o.own o.key.message) o.key.authenticator o.authentic in
    let here : by_pair (sights past) a update (pair_by (sights past) a.careof_index test update p.post.maker) ≡ Forged 1 =
    sym (ap (λ (x : Option Post). by_post (sights past) a o.own o.key update x) p.is)
    ∙ sym (ap (λ (x : Option ℕ). by_first (sights past) a o.own o.key x) (first_is past o.key update o.maker o.earlier o.first))
    ∙ sym (ap (λ (x : Option UpdateIdentity). by_key (sights past) a o.own x) (key_of_carries past a.number o.key o.carries))
    ∙ sym (ap (λ (x : Option Address). mark_of (sights past) a x) o.own_is)
    ∙ forged in
    of_pair (pair_by (sights past) a.careof_index test update p.post.maker) refl here
    (λ none. of_maker o.maker o.home_reached o.careof h.made passes p.before
    (sym (ap (λ (m : Maker). pair_by (sights past) a.careof_index test update m) p.by) ∙ none))
  where
    of_pair : (x : Option Pair) → {y : Option Pair} → y ≡ x → by_pair (sights past) a update y ≡ Forged 1 → (y ≡ None → ⊥) → ⊥
    of_pair None is e some = some is
    of_pair (Some pair) is e some = absurd (not_one (sym (ap (by_pair (sights past) a update) is) ∙ e))
      where
        not_one : by_claims (sights past) (home_claim (sights past) a pair.home) (careof_claim (sights past) a pair) update ≡ Forged 1 → ⊥
        not_one e = by (is_used_early (sights past) (home_claim (sights past) a pair.home) (careof_claim (sights past) a pair)) (is_named_otherwise (sights past) (home_claim (sights past) a pair.home) (careof_claim (sights past) a pair)) e
          where
            by : (b c : Bool) → (if b then Forged 2 else if c then Forged 3 else origin_of (sights past) (home_claim (sights past) a pair.home) (careof_claim (sights past) a pair) update) ≡ Forged 1 → ⊥
            by true c e = cc
            by false true e = cc
            by false false e = cc

    of_maker : (m : Maker) → HasReached past h.origin.earlier m h.origin.home_token → HasCareof past a h.origin.earlier m a.careof_index h.origin.careof_token cot → IsMadeOf past m update h.origin.home_token h.origin.careof_token
        → gives h.origin.own a.careof h.origin.key (record { home = h.origin.home_token; careof = h.origin.careof_token }) ≡ true → until (is_post update) (sights past) ≡ map (sight past) h.origin.earlier
        → pair_by (sights past) a.careof_index (gives h.origin.own a.careof h.origin.key) update m ≡ None → ⊥
    of_maker (Outsider o) reached careof made passes before none =
        heard_pair past h.origin.earlier a o (gives h.origin.own a.careof h.origin.key) h.origin.home_token a.careof_index h.origin.careof_token cot reached careof passes
        (ap (λ (front : List Sight). first_pair a.careof_index (gives h.origin.own a.careof h.origin.key) (values o front)) (sym before) ∙ none)
    of_maker (Node node) reached careof made passes before none =
        made_pair past h.origin.earlier a node update (gives h.origin.own a.careof h.origin.key) h.origin.home_token a.careof_index h.origin.careof_token cot careof passes made none

-- the cause of a forged mark
module _ (seen : List Sight) (home : Claim) (careof : Option Claim) where
  used : is_used_early seen home careof ≡ true → IsUsedEarly seen
  used e = by (is_early seen home.token) refl e
    where
      rest : (o : Option Claim) → option_map_or (λ c. is_early seen c.token) o false ≡ true → IsUsedEarly seen
      rest None e = absurd cc
      rest (Some c) e = record { token = c.token; early = e }

      by : (b : Bool) → is_early seen home.token ≡ b → (b || option_map_or (λ c. is_early seen c.token) careof false) ≡ true → IsUsedEarly seen
      by true is e = record { token = home.token; early = is }
      by false is e = rest careof e

  otherwise : is_named_otherwise seen home careof ≡ true → IsSentOtherwise seen
  otherwise e = by (is_misnamed seen home.token home.name) refl e
    where
      rest : (o : Option Claim) → option_map_or (λ c. is_misnamed seen c.token c.name) o false ≡ true → IsSentOtherwise seen
      rest None e = absurd cc
      rest (Some c) e = record { token = c.token; name = c.name; other = e }

      by : (b : Bool) → is_misnamed seen home.token home.name ≡ b → (b || option_map_or (λ c. is_misnamed seen c.token c.name) careof false) ≡ true → IsSentOtherwise seen
      by true is e = record { token = home.token; name = home.name; other = is }
      by false is e = rest careof e

  claims_cause : (update cause : ℕ) → by_claims seen home careof update ≡ Forged cause → IsCause seen cause
  claims_cause update cause e = by (is_used_early seen home careof) refl (is_named_otherwise seen home careof) refl e
    where
      by : (b : Bool) → is_used_early seen home careof ≡ b → (c : Bool) → is_named_otherwise seen home careof ≡ c
          → (if b then Forged 2 else if c then Forged 3 else origin_of seen home careof update) ≡ Forged cause → IsCause seen cause
      by true early c other e = let two : cause ≡ 2 = cc in inr (inl (two, used early))
      by false early true other e = let three : cause ≡ 3 = cc in inr (inr (three, otherwise other))
      by false early false other e = absurd cc

pub forged_cause : (past : List Entry) (a : AcceptedUpdate) (cause : ℕ) → mark_in past a ≡ Forged cause → IsCause (sights past) cause
unfolding mark_in mark_of
forged_cause past a cause e = of_own (declared_in past a.node.0) e
  where
    one : (let m : Mark = Forged 1 in m) ≡ Forged cause → IsCause (sights past) cause
    one e = let first : cause ≡ 1 = cc in inl first

    of_pair : (update : ℕ) (o : Option Pair) → by_pair (sights past) a update o ≡ Forged cause → IsCause (sights past) cause
    of_pair update None e = one e
    of_pair update (Some pair) e = claims_cause (sights past) (home_claim (sights past) a pair.home) (careof_claim (sights past) a pair) update cause e

    of_post : (own : Address) (key : UpdateIdentity) (update : ℕ) (o : Option Post) → by_post (sights past) a own key update o ≡ Forged cause → IsCause (sights past) cause
    of_post own key update None e = one e
    of_post own key update (Some post) e = of_pair update (pair_by (sights past) a.careof_index (gives own a.careof key) update post.maker) e

    of_first : (own : Address) (key : UpdateIdentity) (o : Option ℕ) → by_first (sights past) a own key o ≡ Forged cause → IsCause (sights past) cause
    of_first own key None e = one e
    of_first own key (Some update) e = of_post own key update (post_at (sights past) update) e

    of_key : (own : Address) (o : Option UpdateIdentity) → by_key (sights past) a own o ≡ Forged cause → IsCause (sights past) cause
    of_key own None e = one e
    of_key own (Some key) e = of_first own key (first_update (sights past) key) e

    of_own : (o : Option Address) → mark_of (sights past) a o ≡ Forged cause → IsCause (sights past) cause
    of_own None e = one e
    of_own (Some own) e = of_key own (key_at (sights past) a.number) e
