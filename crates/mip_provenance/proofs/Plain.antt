-- From sights back to the entries of a history.
use Rattle.std.proofs.Common.{◌≡◌, ℕ, List, [], ◌∷◌, Bool, true, false, refl, sym, ap, ◌∙◌}
use Rattle.std.specs.Prelude.{map, fold, Option, Some, None, ◌||◌, ◌&&◌, ◌==◌, if◌then◌else◌, option_map}
use Rattle.std.specs.List.{list_any, filter_map, cons_option}
use Rattle.std.specs.Option.{option_or, option_and_then}
use Rattle.std.specs.Str.{bytes_eq}
use Rattle.std.proofs.lemmas.Bool.{and_parts, and_from, or_left, or_right, eq-eqb, eqb-true, false≢true}
use Rattle.mip_words.specs.declared.address.Address.{Address}
use Rattle.mip_packets.specs.Says.{Carried, UpdateIdentity, carried}
use Rattle.mip_packets.specs.Says.Carried.{Test, Update, Other}
use Rattle.mip_entries.specs.declared.entry.Entry.{Entry}
use Rattle.mip_entries.specs.declared.entry.Entry.TheVariants as entries
use Rattle.mip_provenance.specs.declared.maker.Maker.{Maker}
use Rattle.mip_provenance.specs.declared.maker.Maker.TheVariants.{Node, Outsider}
use Rattle.mip_provenance.specs.Lists.{first_some}
use Rattle.mip_provenance.specs.Entries.{packet_told, packet_in, restarts}
use Rattle.mip_provenance.specs.Sights.{Sight, sight, sights}
use Rattle.mip_provenance.specs.Sights.Sight.{Sent, Injected}
use Rattle.mip_provenance.specs.Names.{lives}
use Rattle.mip_provenance.specs.Firsts.{Post, post_with, post_at, is_post, number_of, key_in, key_at, same_key}
use Rattle.mip_provenance.specs.Origins.{Carries, poster}
use Rattle.mip_provenance.proofs.ListLaws.{fold_first}
use Rattle.mip_provenance.proofs.Tokens.{same_bytes, bytes_same}

-- lives are told by the same entries
life_step : (past : List Entry) (n c : ℕ) (e : Entry) → lives n c (sight past e) ≡ restarts n c e
life_step past n c (entries.Restarted node) = refl
life_step past n c _ = refl

pub lives_same : (past : List Entry) (n c : ℕ) (es : List Entry) → fold (lives n) c (map (sight past) es) ≡ fold (restarts n) c es
lives_same past n c [] = refl
lives_same past n c (e ∷ es) = ap (λ (d : ℕ). fold (lives n) d (map (sight past) es)) (life_step past n c e) ∙ lives_same past n (restarts n c e) es

-- packets are told by the same entries
abbrev pub post_says : Option Post → Option Carried
post_says o = option_map (λ p. p.carried) o

abbrev pub posted_by : Maker → Carried → Post
posted_by maker c = record { maker = maker; carried = c }

pub post_step : (past : List Entry) (k : ℕ) (e : Entry) → post_says (post_with k (sight past e)) ≡ option_map carried (packet_told k e)
post_step past k (entries.Sent number node shielded packet) = by (number == k)
  where
    by : (b : Bool) → post_says (if b then Some (posted_by (Node node) (carried packet)) else None) ≡ option_map carried (if b then Some packet else None)
    by true = refl
    by false = refl
post_step past k (entries.Injected number outsider link packet) = by (number == k)
  where
    by : (b : Bool) → post_says (if b then Some (posted_by (Outsider outsider) (carried packet)) else None) ≡ option_map carried (if b then Some packet else None)
    by true = refl
    by false = refl
post_step past k _ = refl

pub posts_same : (past : List Entry) (k : ℕ) (es : List Entry) → post_says (first_some (post_with k) (map (sight past) es)) ≡ option_map carried (first_some (packet_told k) es)
posts_same past k [] = refl
posts_same past k (e ∷ es) = by (post_with k (sight past e)) (packet_told k e) (post_step past k e) (posts_same past k es)
  where
    by : (o : Option Post) (p : Option (List ℕ)) → post_says o ≡ option_map carried p → post_says (first_some (post_with k) (map (sight past) es)) ≡ option_map carried (first_some (packet_told k) es)
        → post_says (option_or o (first_some (post_with k) (map (sight past) es))) ≡ option_map carried (option_or p (first_some (packet_told k) es))
    by None None here rest = rest
    by (Some x) (Some y) here rest = here
    by None (Some y) here rest = absurd cc
    by (Some x) None here rest = absurd cc

pub packet_first : (k : ℕ) (es : List Entry) → packet_in es k ≡ first_some (packet_told k) es
packet_first k es = fold_first (packet_told k) None es

-- the update of a packet
key_posted : (past : List Entry) (k : ℕ) → key_at (sights past) k ≡ option_and_then (λ packet. key_in (carried packet)) (packet_in past k)
unfolding sights
key_posted past k = by (post_at (sights past) k) (first_some (packet_told k) past) (posts_same past k past) ∙ ap (λ (o : Option (List ℕ)). option_and_then (λ packet. key_in (carried packet)) o) (sym (packet_first k past))
  where
    by : (o : Option Post) (p : Option (List ℕ)) → post_says o ≡ option_map carried p → option_and_then (λ q. key_in q.carried) o ≡ option_and_then (λ packet. key_in (carried packet)) p
    by None None e = refl
    by (Some x) (Some y) e = let same : x.carried ≡ carried y = cc in ap key_in same
    by None (Some y) e = absurd cc
    by (Some x) None e = absurd cc

key_in-update : (c : Carried) (key : UpdateIdentity) → key_in c ≡ Some key → c ≡ Update key
key_in-update (Update x) key e = cc
key_in-update (Test kind index token destination) key e = absurd cc
key_in-update Other key e = absurd cc

pub carries_of_key : (past : List Entry) (k : ℕ) (key : UpdateIdentity) → key_at (sights past) k ≡ Some key → Carries past k key
carries_of_key past k key e = by (packet_in past k) refl (sym (key_posted past k) ∙ e)
  where
    by : (o : Option (List ℕ)) → packet_in past k ≡ o → option_and_then (λ packet. key_in (carried packet)) o ≡ Some key → Carries past k key
    by None is e = absurd cc
    by (Some packet) is e = record { packet = packet; posted = is; says = key_in-update (carried packet) key e }

pub key_of_carries : (past : List Entry) (k : ℕ) (key : UpdateIdentity) → Carries past k key → key_at (sights past) k ≡ Some key
key_of_carries past k key c =
    key_posted past k ∙ ap (λ (o : Option (List ℕ)). option_and_then (λ packet. key_in (carried packet)) o) c.posted ∙ ap key_in c.says

-- who posts a packet
pub poster_step : (past : List Entry) (k : ℕ) (e : Entry) (post : Post) → post_with k (sight past e) ≡ Some post → poster k e ≡ Some post.maker
poster_step past k (entries.Sent number node shielded packet) post is = by (number == k) is
  where
    by : (b : Bool) → (if b then Some (posted_by (Node node) (carried packet)) else None) ≡ Some post → (if b then Some (Node node) else None) ≡ Some post.maker
    by true is = let same : posted_by (Node node) (carried packet) ≡ post = cc in ap (λ (p : Post). Some p.maker) same
    by false is = absurd cc
poster_step past k (entries.Injected number outsider link packet) post is = by (number == k) is
  where
    by : (b : Bool) → (if b then Some (posted_by (Outsider outsider) (carried packet)) else None) ≡ Some post → (if b then Some (Outsider outsider) else None) ≡ Some post.maker
    by true is = let same : posted_by (Outsider outsider) (carried packet) ≡ post = cc in ap (λ (p : Post). Some p.maker) same
    by false is = absurd cc
poster_step past k _ post is = absurd cc

-- a packet is posted where it says something
pub is_post-some : (k : ℕ) (s : Sight) (post : Post) → post_with k s ≡ Some post → is_post k s ≡ true
is_post-some k (Sent number node c) post is = by (number == k) is
  where
    by : (b : Bool) → (if b then Some (posted_by (Node (record { 0 = node })) c) else None) ≡ Some post → b ≡ true
    by true is = refl
    by false is = absurd cc
is_post-some k (Injected number outsider c) post is = by (number == k) is
  where
    by : (b : Bool) → (if b then Some (posted_by (Outsider outsider) c) else None) ≡ Some post → b ≡ true
    by true is = refl
    by false is = absurd cc
is_post-some k _ post is = absurd cc

is_post-none : (k : ℕ) (s : Sight) → post_with k s ≡ None → is_post k s ≡ false
is_post-none k (Sent number node c) is = by (number == k) is
  where
    by : (b : Bool) → (if b then Some (posted_by (Node (record { 0 = node })) c) else None) ≡ None → b ≡ false
    by true is = absurd cc
    by false is = refl
is_post-none k (Injected number outsider c) is = by (number == k) is
  where
    by : (b : Bool) → (if b then Some (posted_by (Outsider outsider) c) else None) ≡ None → b ≡ false
    by true is = absurd cc
    by false is = refl
is_post-none k _ is = refl

pub unposted : (k : ℕ) (seen : List Sight) → first_some (post_with k) seen ≡ None → list_any (is_post k) seen ≡ false
unposted k [] e = refl
unposted k (s ∷ seen) e = by (post_with k s) refl (unposted k seen) e
  where
    by : (o : Option Post) → post_with k s ≡ o → (first_some (post_with k) seen ≡ None → list_any (is_post k) seen ≡ false) → option_or o (first_some (post_with k) seen) ≡ None → (is_post k s || list_any (is_post k) seen) ≡ false
    by None is later e = ap (λ (b : Bool). b || list_any (is_post k) seen) (is_post-none k s is) ∙ later e
    by (Some p) is later e = absurd cc

-- a packet that is posted has its number among those posted
pub number_member : (k : ℕ) (seen : List Sight) (post : Post) → first_some (post_with k) seen ≡ Some post → list_any (λ x. x == k) (filter_map number_of seen) ≡ true
number_member k [] post e = absurd cc
number_member k (s ∷ seen) post e = by (post_with k s) refl (number_member k seen post) e
  where
    here : (s : Sight) → is_post k s ≡ true → list_any (λ x. x == k) (cons_option (number_of s) (filter_map number_of seen)) ≡ true
    here (Sent number node c) is = or_left (number == k) (list_any (λ x. x == k) (filter_map number_of seen)) is
    here (Injected number outsider c) is = or_left (number == k) (list_any (λ x. x == k) (filter_map number_of seen)) is
    here _ is = absurd (false≢true is)

    there : (o : Option ℕ) → list_any (λ x. x == k) (filter_map number_of seen) ≡ true → list_any (λ x. x == k) (cons_option o (filter_map number_of seen)) ≡ true
    there None e = e
    there (Some n) e = or_right (n == k) (list_any (λ x. x == k) (filter_map number_of seen)) e

    by : (o : Option Post) → post_with k s ≡ o → (first_some (post_with k) seen ≡ Some post → list_any (λ x. x == k) (filter_map number_of seen) ≡ true)
        → option_or o (first_some (post_with k) seen) ≡ Some post → list_any (λ x. x == k) (filter_map number_of (s ∷ seen)) ≡ true
    by None is later e = there (number_of s) (later e)
    by (Some p) is later e = here s (is_post-some k s p is)

-- updates that are the same by the test are the same
pub key_same : (a b : UpdateIdentity) → same_key a b ≡ true → a ≡ b
key_same a b e =
    let first = and_parts (a.home.0 == b.home.0 && a.careof.0 == b.careof.0 && bytes_eq a.authenticator b.authenticator) (bytes_eq a.message b.message) e in
    let second = and_parts (a.home.0 == b.home.0 && a.careof.0 == b.careof.0) (bytes_eq a.authenticator b.authenticator) first.0 in
    let third = and_parts (a.home.0 == b.home.0) (a.careof.0 == b.careof.0) second.0 in
    let home : a.home ≡ b.home = ap (λ (n : ℕ). (let h : Address = record { 0 = n } in h)) (eqb-true a.home.0 b.home.0 third.0) in
    let careof : a.careof ≡ b.careof = ap (λ (n : ℕ). (let h : Address = record { 0 = n } in h)) (eqb-true a.careof.0 b.careof.0 third.1) in
    let authenticator = same_bytes a.authenticator b.authenticator second.1 in
    let message = same_bytes a.message b.message first.1 in
    joined a.home b.home a.careof b.careof a.message b.message a.authenticator b.authenticator home careof message authenticator
  where
    joined : (h i c d : Address) (m n x y : List ℕ) → h ≡ i → c ≡ d → m ≡ n → x ≡ y
        → ◌≡◌ {A = UpdateIdentity} (record { home = h; careof = c; message = m; authenticator = x }) (record { home = i; careof = d; message = n; authenticator = y })
    joined h i c d m n x y e f g k = cc

pub same_self : (a : UpdateIdentity) → same_key a a ≡ true
same_self a =
    and_from (a.home.0 == a.home.0 && a.careof.0 == a.careof.0 && bytes_eq a.authenticator a.authenticator) (bytes_eq a.message a.message)
    (and_from (a.home.0 == a.home.0 && a.careof.0 == a.careof.0) (bytes_eq a.authenticator a.authenticator)
    (and_from (a.home.0 == a.home.0) (a.careof.0 == a.careof.0) (eq-eqb a.home.0 a.home.0 refl) (eq-eqb a.careof.0 a.careof.0 refl))
    (bytes_same a.authenticator a.authenticator refl))
    (bytes_same a.message a.message refl)
