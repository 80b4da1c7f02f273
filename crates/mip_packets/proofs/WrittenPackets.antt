-- A packet that was written is read, if at all, with its protocol, its body and the bytes of its destination.
use Rattle.std.proofs.Common.{◌≡◌, ℕ, ◌+◌, ◌≤◌, List, [], ◌∷◌, ◌++◌, length, take, drop, refl, sym, ap, ◌∙◌, false, true, arith}
use Rattle.std.proofs.lemmas.List.{take_all, drop_at, take_at}
use Rattle.std.specs.Prelude.{slice_index, Option, Some, None, Ok}
use Rattle.mip_words.specs.Numbers.{number_at, number_bytes}
use Rattle.mip_words.specs.Addresses.{address_at, address_bytes}
use Rattle.mip_words.specs.declared.address.Address.{Address}
use Rattle.mip_words.proofs.Fields.{length-number_bytes, number_at-append, number_bytes-number_at, IsBytes-number_bytes}
use Rattle.mip_ipv6.specs.declared.head.Head.{Head}
use Rattle.mip_ipv6.specs.Packet.{Packet, names_no_body}
use Rattle.mip_ipv6.specs.Reading.{packet_of}
use Rattle.mip_ipv6.specs.Spelling.{IsRouting, IsOptions, IsPacket, routing_bytes, options_bytes, second_number, first_number, behind_bytes, fixed_bytes, packet_bytes}
use Rattle.mip_ipv6.proofs.Canonical.{length_fixed}
use Rattle.mip_ipv6.proofs.Packets.{packet_takes}
use Rattle.mip_packets.specs.Written.{IsBack}

-- two ways to cut a list at one place
cut : (a b c d : List ℕ) → a ++ b ≡ c ++ d → length a ≡ length c → (a ≡ c) × (b ≡ d)
cut a b c d e long = (
  sym (take_at a b (length c) long) ∙ ap (take (length c)) e ∙ take_at c d (length c) refl,
  sym (drop_at a b (length c) long) ∙ ap (drop (length c)) e ∙ drop_at c d (length c) refl,
)

-- the fields that are read of the first 40 bytes, whatever they are
next_written : (head : Head) (next size : ℕ) (rest : List ℕ) → slice_index (fixed_bytes head next size ++ rest) 6 ≡ next
unfolding fixed_bytes number_bytes
next_written head next size rest = refl

behind_24 : (head : Head) (next size : ℕ) (rest : List ℕ) → number_at 16 24 (fixed_bytes head next size ++ rest) ≡ number_at 16 0 (number_bytes 16 head.destination.0 ++ rest)
unfolding fixed_bytes number_bytes number_at
behind_24 head next size rest = refl

destination_written : (head : Head) (next size : ℕ) (rest : List ℕ) → address_bytes (address_at 24 (fixed_bytes head next size ++ rest)) ≡ address_bytes head.destination
destination_written head next size rest =
    let a : List ℕ = number_bytes 16 head.destination.0 in
    let long : length a ≡ 16 = length-number_bytes 16 head.destination.0 in
    let inside : 0 + 16 ≤ length a = omega (arith, long) in
    ap (number_bytes 16) (behind_24 head next size rest ∙ number_at-append 16 0 a rest inside)
    ∙ number_bytes-number_at 16 0 a (IsBytes-number_bytes 16 head.destination.0) inside
    ∙ take_all 16 a (omega (arith, long))

-- these numbers name no body
no_number : (n k : ℕ) → names_no_body n ≡ false → n ≡ k → names_no_body k ≡ true → ⊥
no_number n k plain e is = let both = sym plain ∙ ap names_no_body e ∙ is in cc

-- what is read behind a Destination Options header, or where none stands
after_options : (home found : Option Address) (second proto proto' : ℕ) (options body body' : List ℕ) → names_no_body proto ≡ false → names_no_body proto' ≡ false
    → second ≡ second_number home proto → IsOptions found second proto' options → options_bytes home proto ++ body ≡ options ++ body'
    → (proto' ≡ proto) × (body' ≡ body)
unfolding options_bytes
after_options None found second proto proto' [] body body' plain plain' s is e = (sym is.1 ∙ s, sym e)
after_options None found second proto proto' (next ∷ []) body body' plain plain' s is e = absurd is
after_options None found second proto proto' (next ∷ size ∷ area) body body' plain plain' s is e = absurd (no_number proto 60 plain (sym s ∙ is.0) refl)
after_options (Some h) found second proto proto' [] body body' plain plain' s is e = absurd (no_number proto' 60 plain' (sym is.1 ∙ s) refl)
after_options (Some h) found second proto proto' (next ∷ []) body body' plain plain' s is e = absurd is
after_options (Some h) found second proto proto' (next ∷ size ∷ area) body body' plain plain' s is e =
    let first : proto ≡ next = ap (λ (l : List ℕ). slice_index l 0) e in
    let two : 2 ≡ size = ap (λ (l : List ℕ). slice_index l 1) e in
    let front : List ℕ = proto ∷ 2 ∷ 1 ∷ 2 ∷ 0 ∷ 0 ∷ 201 ∷ 16 ∷ address_bytes h in
    let long : length front ≡ length (next ∷ size ∷ area) = omega (arith, length-number_bytes 16 h.0, is.2, two) in
    (sym is.1 ∙ sym first, sym (cut front body (next ∷ size ∷ area) body' e long).1)

-- and before it, a routing header
behind : (route found home found' : Option Address) (next second proto proto' : ℕ) (routing options body body' : List ℕ) → names_no_body proto ≡ false → names_no_body proto' ≡ false
    → next ≡ first_number route (second_number home proto) → IsRouting found next second routing → IsOptions found' second proto' options
    → routing_bytes route (second_number home proto) ++ (options_bytes home proto ++ body) ≡ routing ++ (options ++ body')
    → (proto' ≡ proto) × (body' ≡ body)
unfolding routing_bytes
behind None None home found' next second proto proto' routing options body body' plain plain' n is opts e =
    after_options home found' second proto proto' options body body' plain plain' (sym is.0 ∙ n) opts (e ∙ ap (λ (l : List ℕ). l ++ (options ++ body')) is.1)
behind None (Some f) home found' next second proto proto' routing options body body' plain plain' n is opts e = absurd (by home (sym n ∙ is.0))
  where
    by : (home : Option Address) → second_number home proto ≡ 43 → ⊥
    by None e = no_number proto 43 plain e refl
    by (Some h) e = omega arith
behind (Some r) None home found' next second proto proto' routing options body body' plain plain' n is opts e = absurd (by options opts (sym is.0 ∙ n))
  where
    by : (options : List ℕ) → IsOptions found' second proto' options → second ≡ 43 → ⊥
    by [] is e = no_number proto' 43 plain' (sym is.1 ∙ e) refl
    by (a ∷ []) is e = is
    by (a ∷ b ∷ area) is e = omega (arith, is.0, e)
behind (Some r) (Some f) home found' next second proto proto' routing options body body' plain plain' n is opts e =
    let front : List ℕ = second_number home proto ∷ 2 ∷ 2 ∷ 1 ∷ 0 ∷ 0 ∷ 0 ∷ 0 ∷ address_bytes r in
    let long : length front ≡ length routing = omega (arith, length-number_bytes 16 r.0, is.1) in
    let both = cut front (options_bytes home proto ++ body) routing (options ++ body') e long in
    let second_is : second ≡ second_number home proto = sym is.2 ∙ sym (ap (λ (l : List ℕ). slice_index l 0) both.0) in
    after_options home found' second proto proto' options body body' plain plain' second_is opts both.1

pub read_back : (p q : Packet) → names_no_body p.head.proto ≡ false → packet_of (packet_bytes p) ≡ Ok q → IsBack p q
unfolding packet_bytes behind_bytes
read_back p q plain read =
    let second : ℕ = second_number p.head.home p.head.proto in
    let first : ℕ = first_number p.head.route second in
    let size : ℕ = length (behind_bytes p) in
    let front : List ℕ = fixed_bytes p.head first size in
    let is : IsPacket q (packet_bytes p) = packet_takes (packet_bytes p) q read in
    let next : slice_index (packet_bytes p) 6 ≡ first = next_written p.head first size (behind_bytes p) in
    let whole = sym (drop_at front (behind_bytes p) 40 (length_fixed p.head first size)) ∙ is.whole in
    let both = behind p.head.route q.head.route p.head.home q.head.home (slice_index (packet_bytes p) 6) is.second p.head.proto q.head.proto is.routing is.options p.body q.body plain is.is_body next is.is_routing is.is_options whole in
    record {
      proto = both.0;
      body = both.1;
      destination = ap address_bytes (sym is.destination) ∙ destination_written p.head first size (behind_bytes p);
    }
