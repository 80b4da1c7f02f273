-- A packet that is kept leaves those that were kept before.
use Rattle.std.proofs.Common.{Bor, ◌≡◌, ℕ, zero, suc, ◌+◌, ◌-◌, ◌==◌, ◌≤◌, List, [], ◌∷◌, ◌++◌, length, take, drop, if◌then◌else◌, refl, sym, ap, subst, ◌∙◌, arith, length-append, length-drop}
use Rattle.std.proofs.lemmas.List.{take_all}
use Rattle.std.proofs.lemmas.Bool.Decides.{nat_tests}
use lib.Seq.{take-append-le, drop-append-le, drop-append_seam}
use Rattle.std.specs.Prelude.{slice_range, slice_get, Option, Some, None, Result, Ok, Err, OnErr, option_map}
use Rattle.mip_words.specs.declared.shield.Shield.{Shield}
use Rattle.mip_links.specs.Table.{Post}
use Rattle.mip_links.specs.Kept.{AreKept, IsLeft, end_before, from_of, post_in, post_of, posts_in, room_of, shield_of}
use Rattle.mip_links.specs.declared.flight.Flight.{Flight}
use Rattle.mip_links.specs.declared.kept_post.KeptPost.{KeptPost}

pub on_err : {A E : Type 0} {P : Type 0} (r : Result A E) → P → OnErr r P
on_err (Ok x) p = tt
on_err (Err e) p = p

same_range : (bytes more : List ℕ) (a b : ℕ) → a ≤ b → b ≤ length bytes → slice_range (bytes ++ more) a b ≡ slice_range bytes a b
same_range bytes more a b some in_it =
    ap (take (b - a)) (drop-append-le a bytes more (omega arith))
    ∙ take-append-le (b - a) (drop a bytes) more (omega (arith, length-drop a bytes))

last_range : (bytes more : List ℕ) → slice_range (bytes ++ more) (length bytes) (length (bytes ++ more)) ≡ more
last_range bytes more =
    ap (take (length (bytes ++ more) - length bytes)) (drop-append_seam bytes more)
    ∙ take_all (length (bytes ++ more) - length bytes) more (omega (arith, length-append bytes more))

abbrev with_packet : ℕ → Option Shield → List ℕ → Post
with_packet from shield packet = record { from = from; shield = shield; packet = packet }

-- the packets end within the bytes that stand
kept-within : (bytes : List ℕ) (shields : List Shield) (start : ℕ) (posts : List KeptPost) → AreKept bytes shields start posts → start ≤ length bytes
kept-within bytes shields start [] kept = omega (arith, kept)
kept-within bytes shields start (p ∷ ps) kept = let rest = kept-within bytes shields p.end ps kept.2 in omega (arith, rest, kept.0)

-- where packet n begins, where the first begins at start
abbrev start_at : ℕ → List KeptPost → ℕ → ℕ
start_at start posts n = if n == 0 then start else end_before posts n

start_at-suc : (start : ℕ) (p : KeptPost) (ps : List KeptPost) (n : ℕ) → start_at start (p ∷ ps) (suc n) ≡ start_at p.end ps n
start_at-suc start p ps zero = grind (arith, nat_tests)
start_at-suc start p ps (suc n) = grind (arith, nat_tests)

-- one of the packets
got : (bytes : List ℕ) (shields : List Shield) (start : ℕ) (posts : List KeptPost) (n : ℕ)
    → slice_get (posts_in bytes shields start posts) n ≡ option_map (λ p. post_in bytes shields (start_at start posts n) p) (slice_get posts n)
got bytes shields start [] n = refl
got bytes shields start (p ∷ ps) zero = refl
got bytes shields start (p ∷ ps) (suc n) =
    got bytes shields p.end ps n ∙ ap (λ (a : ℕ). option_map (post_in bytes shields a) (slice_get ps n)) (sym (start_at-suc start p ps n))

-- its bytes are a fixed header at least, and stand
stands : (bytes : List ℕ) (shields : List Shield) (start : ℕ) (posts : List KeptPost) (n : ℕ) (p : KeptPost) → AreKept bytes shields start posts
    → slice_get posts n ≡ Some p → (start_at start posts n + 40 ≤ p.end) × (p.end ≤ length bytes)
stands bytes shields start [] n p kept is = grind (arith, is)
stands bytes shields start (q ∷ ps) zero p kept is =
    let within = kept-within bytes shields q.end ps kept.2 in
    let same : q ≡ p = grind (arith, is) in
    subst (λ (x : KeptPost). (start + 40 ≤ x.end) × (x.end ≤ length bytes)) same (kept.0, within)
stands bytes shields start (q ∷ ps) (suc n) p kept is =
    subst (λ (a : ℕ). (a + 40 ≤ p.end) × (p.end ≤ length bytes)) (sym (start_at-suc start q ps n)) (stands bytes shields q.end ps n p kept.2 is)

last : (bytes packet : List ℕ) (after : List Shield) (start : ℕ) (p : KeptPost) (from : ℕ) (shield : Option Shield)
    → start ≡ length bytes → p.end ≡ length bytes + length packet → from_of p.flight ≡ from → shield_of after p.flight ≡ shield
    → post_in (bytes ++ packet) after start p ≡ with_packet from shield packet
last bytes packet after start p from shield begins ends sent under =
    ap (λ (f : ℕ). with_packet f (shield_of after p.flight) (slice_range (bytes ++ packet) start p.end)) sent
    ∙ ap (λ (s : Option Shield). with_packet from s (slice_range (bytes ++ packet) start p.end)) under
    ∙ ap (λ (a : ℕ). with_packet from shield (slice_range (bytes ++ packet) a p.end)) begins
    ∙ ap (λ (b : ℕ). with_packet from shield (slice_range (bytes ++ packet) (length bytes) b)) (omega (arith, ends, length-append bytes packet))
    ∙ ap (with_packet from shield) (last_range bytes packet)

-- the first begins at 0
begins : (posts : List KeptPost) (n : ℕ) → start_at 0 posts n ≡ end_before posts n
begins posts zero = grind (arith, nat_tests)
begins posts (suc n) = grind (arith, nat_tests)

-- the packet with this number, where it begins at start
pub fits : (bytes : List ℕ) (shields : List Shield) (posts : List KeptPost) (n start : ℕ) (p : KeptPost) → AreKept bytes shields 0 posts
    → slice_get posts n ≡ Some p → start ≡ end_before posts n → (start + 40 ≤ p.end) × (p.end ≤ length bytes)
fits bytes shields posts n start p kept is begin =
    subst (λ (a : ℕ). (a + 40 ≤ p.end) × (p.end ≤ length bytes)) (begins posts n ∙ sym begin) (stands bytes shields 0 posts n p kept is)

pub found : (bytes : List ℕ) (shields : List Shield) (posts : List KeptPost) (n start : ℕ) (p : KeptPost)
    → slice_get posts n ≡ Some p → start ≡ end_before posts n → Some (post_in bytes shields start p) ≡ slice_get (posts_in bytes shields 0 posts) n
found bytes shields posts n start p is begin =
    sym (got bytes shields 0 posts n
    ∙ ap (λ (q : Option KeptPost). option_map (post_in bytes shields (start_at 0 posts n)) q) is
    ∙ ap (λ (a : ℕ). Some (post_in bytes shields a p)) (begins posts n ∙ sym begin))

pub absent : (bytes : List ℕ) (shields : List Shield) (posts : List KeptPost) (n : ℕ) → slice_get posts n ≡ None → None ≡ slice_get (posts_in bytes shields 0 posts) n
absent bytes shields posts n is = sym (got bytes shields 0 posts n ∙ ap (λ (q : Option KeptPost). option_map (post_in bytes shields (start_at 0 posts n)) q) is)

-- what is looked at is the packet
pub looked_at : (bytes : List ℕ) (shields : List Shield) (start : ℕ) (p : KeptPost) (flight : Flight) (part : Bor (List ℕ)) → flight.from.0 ≡ from_of p.flight → flight.shield ≡ shield_of shields p.flight
    → part.now ≡ slice_range bytes start p.end → Some (post_of record { flight = flight; packet = part }) ≡ Some (post_in bytes shields start p)
looked_at bytes shields start p flight part from shield is =
    ap (λ (f : ℕ). Some (with_packet f flight.shield part.now)) from
    ∙ ap (λ (s : Option Shield). Some (with_packet (from_of p.flight) s part.now)) shield
    ∙ ap (λ (l : List ℕ). Some (with_packet (from_of p.flight) (shield_of shields p.flight) l)) is

-- one packet more
pub one_more : (bytes packet : List ℕ) (shields after : List Shield) (start : ℕ) (posts : List KeptPost) (p : KeptPost) (from : ℕ) (shield : Option Shield)
    → IsLeft shields after → AreKept bytes shields start posts
    → p.end ≡ length bytes + length packet → from_of p.flight ≡ from → shield_of after p.flight ≡ shield
    → posts_in (bytes ++ packet) after start (posts ++ p ∷ []) ≡ posts_in bytes shields start posts ++ with_packet from shield packet ∷ []
one_more bytes packet shields after start [] p from shield left kept ends sent under =
    ap (λ (x : Post). x ∷ []) (last bytes packet after start p from shield kept ends sent under)
one_more bytes packet shields after start (q ∷ qs) p from shield left kept ends sent under =
    let within = kept-within bytes shields q.end qs kept.2 in
    ap (λ (l : List ℕ). with_packet (from_of q.flight) (shield_of after q.flight) l ∷ posts_in (bytes ++ packet) after q.end (qs ++ p ∷ [])) (same_range bytes packet start q.end (omega (arith, kept.0)) within)
    ∙ ap (λ (s : Option Shield). with_packet (from_of q.flight) s (slice_range bytes start q.end) ∷ posts_in (bytes ++ packet) after q.end (qs ++ p ∷ [])) (left.same q.flight kept.1)
    ∙ ap (λ (l : List Post). post_in bytes shields start q ∷ l) (one_more bytes packet shields after q.end qs p from shield left kept.2 ends sent under)

-- and the bytes of all are still those that stand
pub one_kept : (bytes packet : List ℕ) (shields after : List Shield) (start : ℕ) (posts : List KeptPost) (p : KeptPost)
    → IsLeft shields after → AreKept bytes shields start posts → 40 ≤ length packet
    → p.end ≡ length bytes + length packet → room_of p.flight ≤ length after
    → AreKept (bytes ++ packet) after start (posts ++ p ∷ [])
one_kept bytes packet shields after start [] p left kept long ends room = (omega (arith, kept, ends, long), room, omega (arith, ends, length-append bytes packet))
one_kept bytes packet shields after start (q ∷ qs) p left kept long ends room =
    (kept.0, omega (arith, kept.1, left.room), one_kept bytes packet shields after q.end qs p left kept.2 long ends room)

-- where nothing was appended and no packet was taken
pub same_kept : (bytes : List ℕ) (shields after : List Shield) (start : ℕ) (posts : List KeptPost) → IsLeft shields after → AreKept bytes shields start posts
    → AreKept bytes after start posts
same_kept bytes shields after start [] left kept = kept
same_kept bytes shields after start (p ∷ ps) left kept = (kept.0, omega (arith, kept.1, left.room), same_kept bytes shields after p.end ps left kept.2)

pub same_posts : (bytes : List ℕ) (shields after : List Shield) (start : ℕ) (posts : List KeptPost) → IsLeft shields after → AreKept bytes shields start posts
    → posts_in bytes after start posts ≡ posts_in bytes shields start posts
same_posts bytes shields after start [] left kept = refl
same_posts bytes shields after start (p ∷ ps) left kept =
    ap (λ (s : Option Shield). with_packet (from_of p.flight) s (slice_range bytes start p.end) ∷ posts_in bytes after p.end ps) (left.same p.flight kept.1)
    ∙ ap (λ (l : List Post). post_in bytes shields start p ∷ l) (same_posts bytes shields after p.end ps left kept.2)

pub count : (bytes : List ℕ) (shields : List Shield) (start : ℕ) (posts : List KeptPost) → length (posts_in bytes shields start posts) ≡ length posts
count bytes shields start [] = refl
count bytes shields start (p ∷ ps) = ap suc (count bytes shields p.end ps)
