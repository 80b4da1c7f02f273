-- What is known of lowering a hop limit, and of tunnel packets.
use Rattle.std.proofs.Common.{◌≡◌, ℕ, suc, ◌+◌, ◌-◌, ◌/◌, ◌%◌, ◌^◌, ◌<◌, ◌≤◌, List, [], ◌∷◌, ◌++◌, length, set, drop, refl, sym, ap, ◌∙◌, subst, inl, inr, arith, length-append, length-set}
use Rattle.std.specs.Prelude.{Bool, true, false, slice_index, Option, None, Result, Ok, Err, cond, IsOk}
use Rattle.std.proofs.lemmas.List.{drop-set-lt, take-set-le, get_or-set_same, get_or-set_other}
use Rattle.std.proofs.lemmas.Bool.{cases_lt, cond-true, cond-false, lt-ltb, eq-eqb, not_from_true}
use Rattle.mip_words.specs.Numbers.{number_at}
use Rattle.mip_words.specs.Addresses.{address_at}
use Rattle.mip_words.specs.Steps.{◌>>=◌}
use Rattle.mip_words.specs.declared.address.Address.{Address}
use Rattle.mip_words.proofs.Fields.{number_at-drop}
use Rattle.mip_words.proofs.StepLaws.{ok_is, done}
use Rattle.mip_ipv6.specs.declared.head.Head.{Head}
use Rattle.mip_ipv6.specs.declared.not_packet.NotPacket.{NotPacket}
use Rattle.mip_ipv6.specs.declared.not_packet.NotPacket.TheVariants.{Short, Header}
use Rattle.mip_ipv6.specs.Packet.{Packet, names_no_body}
use Rattle.mip_ipv6.specs.PacketLaws.{IsInRange}
use Rattle.mip_ipv6.specs.Reading.{Walk, packet_of, fixed_header, routing_header, options_header, head_of}
use Rattle.mip_ipv6.specs.Spelling.{IsPacket, fixed_bytes, routing_bytes, options_bytes, behind_bytes, packet_bytes}
use Rattle.mip_ipv6.proofs.OptionLaws.{number_at-take}
use Rattle.mip_ipv6.proofs.Packets.{packet_takes}
use Rattle.mip_ipv6.proofs.Canonical.{packet_back, length_fixed, length_behind, length_routing, length_options}
use Rattle.mip_ipv6.specs.Tunnel.{hop_of, lowered, lowered_packet, outer_head, tunnel_packet, encapsulated, inner, opened}
use Rattle.mip_ipv6.specs.TunnelLaws.{lowered_if_read}

-- what else of a packet is read, is the same in a lowered one
pub length_lowered : (packet : List ℕ) → length (lowered packet) ≡ length packet
unfolding lowered
length_lowered packet = length-set packet 7 (hop_of packet - 1)

behind_lowered : (n : ℕ) (packet : List ℕ) → 7 < n → drop n (lowered packet) ≡ drop n packet
unfolding lowered
behind_lowered n packet past = drop-set-lt n packet 7 (hop_of packet - 1) past

number_behind : (n place : ℕ) (packet : List ℕ) → 7 < place → number_at n place (lowered packet) ≡ number_at n place packet
number_behind n place packet past =
    number_at-drop n place (lowered packet) ∙ ap (number_at n 0) (behind_lowered place packet past) ∙ sym (number_at-drop n place packet)

number_before : (n place : ℕ) (packet : List ℕ) → place + n ≤ 7 → 7 ≤ length packet → number_at n place (lowered packet) ≡ number_at n place packet
unfolding lowered
number_before n place packet before long =
    sym (number_at-take n place 7 (lowered packet) before (omega (arith, length_lowered packet)))
    ∙ ap (number_at n place) (take-set-le 7 packet 7 (hop_of packet - 1) (omega arith))
    ∙ number_at-take n place 7 packet before long

address_behind : (place : ℕ) (packet : List ℕ) → 7 < place → address_at place (lowered packet) ≡ address_at place packet
address_behind place packet past = ap (λ (n : ℕ). let a : Address = record { 0 = n } in a) (number_behind 16 place packet past)

hop_lowered : (packet : List ℕ) → 7 < length packet → slice_index (lowered packet) 7 ≡ hop_of packet - 1
unfolding lowered
hop_lowered packet long = get_or-set_same packet 7 (hop_of packet - 1) 0 long

next_lowered : (packet : List ℕ) → slice_index (lowered packet) 6 ≡ slice_index packet 6
unfolding lowered
next_lowered packet = get_or-set_other packet 7 6 (hop_of packet - 1) 0 (λ e. omega (arith, e))

-- a packet that is read has its first 40 bytes
pub long_if_read : (packet : List ℕ) → IsOk (packet_of packet) → 40 ≤ length packet
long_if_read packet is = by (packet_of packet) refl is
  where
    by : (r : Result Packet NotPacket) → packet_of packet ≡ r → IsOk r → 40 ≤ length packet
    by (Ok p) e is = let spelled : IsPacket p packet = packet_takes packet p e in spelled.long
    by (Err fault) e is = absurd cc

-- a tunnel packet has no extension header
pub length_tunnel : (entry exit : Address) (packet : List ℕ) → length (behind_bytes (tunnel_packet entry exit packet)) ≡ length packet
length_tunnel entry exit packet =
    length_behind (tunnel_packet entry exit packet)
    ∙ omega (arith, length_routing None 41, length_options None 41, length_lowered packet)

-- the packet as the body of a packet without extension headers
abbrev around : Address → Address → List ℕ → Packet
around entry exit packet = record { head = outer_head entry exit; body = packet }

pub length_inside : (entry exit : Address) (packet : List ℕ) → length (behind_bytes (around entry exit packet)) ≡ length packet
length_inside entry exit packet =
    length_behind (around entry exit packet)
    ∙ omega (arith, length_routing None 41, length_options None 41)

pub length_around : (entry exit : Address) (packet bytes : List ℕ) → bytes ≡ packet_bytes (around entry exit packet) → length bytes ≡ length packet + 40
unfolding packet_bytes
length_around entry exit packet bytes is =
    let behind = behind_bytes (around entry exit packet) in
    let front = fixed_bytes (outer_head entry exit) 41 (length behind) in
    omega (
      arith,
      ap (λ (l : List ℕ). length l) is,
      length-append front behind,
      length_fixed (outer_head entry exit) 41 (length behind),
      length_inside entry exit packet,
    )

-- a byte behind a first part
set_behind : (p q : List ℕ) (i a : ℕ) → set (p ++ q) (length p + i) a ≡ p ++ set q i a
set_behind [] q i a = let e : 0 + i ≡ i = omega arith in ap (λ (k : ℕ). set q k a) e
set_behind (x ∷ p) q i a =
    let e : suc (length p) + i ≡ suc (length p + i) = omega arith in
    ap (λ (k : ℕ). set (x ∷ (p ++ q)) k a) e ∙ ap (λ (l : List ℕ). x ∷ l) (set_behind p q i a)

-- a tunnel packet is the packet behind the header, with its hop limit lowered there
pub lowered_behind : (entry exit : Address) (packet bytes : List ℕ) → bytes ≡ packet_bytes (around entry exit packet) → set bytes 47 (hop_of packet - 1) ≡ encapsulated entry exit packet
unfolding encapsulated packet_bytes behind_bytes routing_bytes options_bytes lowered
lowered_behind entry exit packet bytes is =
    let hop = hop_of packet - 1 in
    let front = fixed_bytes (outer_head entry exit) 41 (length packet) in
    let place : 47 ≡ length front + 7 = omega (arith, length_fixed (outer_head entry exit) 41 (length packet)) in
    ap (λ (l : List ℕ). set l 47 hop) is
    ∙ ap (λ (k : ℕ). set (front ++ packet) k hop) place
    ∙ set_behind front packet 7 hop
    ∙ ap (λ (n : ℕ). fixed_bytes (outer_head entry exit) 41 n ++ set packet 7 hop) (sym (length-set packet 7 hop))

-- the steps of reading a packet, from the last
abbrev last : List ℕ → Walk → Walk → Result Packet NotPacket
last bytes routing options =
    cond (names_no_body options.next) (Err (Header options.next)) (Ok (record { head = head_of bytes routing.found options.found options.next; body = options.rest }))

abbrev after_routing : List ℕ → Walk → Result Packet NotPacket
after_routing bytes routing = options_header routing.next routing.rest >>= last bytes routing

abbrev after_fixed : List ℕ → List ℕ → ℕ → Result Packet NotPacket
after_fixed bytes behind first = routing_header first behind >>= after_routing bytes

bind_lowered : {A : Type 0} (r : Result A NotPacket) (f g : A → Result Packet NotPacket) → ((x : A) → g x ≡ lowered_if_read (f x)) → (r >>= g) ≡ lowered_if_read (r >>= f)
bind_lowered (Ok x) f g same = same x
bind_lowered (Err fault) f g same = refl

head_lowered : (bytes : List ℕ) (route home : Option Address) (proto : ℕ) → 40 ≤ length bytes
    → head_of (lowered bytes) route home proto ≡ record (head_of bytes route home proto) { hop = slice_index bytes 7 - 1 }
head_lowered bytes route home proto long =
    by (address_behind 8 bytes (omega arith)) (address_behind 24 bytes (omega arith)) (hop_lowered bytes (omega arith)) (number_before 4 0 bytes (omega arith) (omega arith))
  where
    by : {s d t e : Address} {h k w v : ℕ} → s ≡ t → d ≡ e → h ≡ k → w ≡ v
        → (let x : Head = record { source = s; destination = d; hop = h; class = w / 2 ^ 20 % 256; flow = w % 2 ^ 20; route = route; home = home; proto = proto } in x)
        ≡ (let x : Head = record { source = t; destination = e; hop = k; class = v / 2 ^ 20 % 256; flow = v % 2 ^ 20; route = route; home = home; proto = proto } in x)
    by a b c d = cc

last_lowered : (bytes : List ℕ) (routing options : Walk) → 40 ≤ length bytes → last (lowered bytes) routing options ≡ lowered_if_read (last bytes routing options)
last_lowered bytes routing options long = by (names_no_body options.next) (head_of (lowered bytes) routing.found options.found options.next) (head_of bytes routing.found options.found options.next) (head_lowered bytes routing.found options.found options.next long)
  where
    by : (b : Bool) (h k : Head) → h ≡ record k { hop = k.hop - 1 }
        → cond b (Err (Header options.next)) (Ok (let p : Packet = record { head = h; body = options.rest } in p)) ≡ lowered_if_read (cond b (Err (Header options.next)) (Ok (record { head = k; body = options.rest })))
    by true h k e = refl
    by false h k e = ap (λ (x : Head). done {E = NotPacket} (let p : Packet = record { head = x; body = options.rest } in p)) e

fixed_lowered : (bytes : List ℕ) → 40 ≤ length bytes → fixed_header (lowered bytes) ≡ fixed_header bytes
unfolding fixed_header
fixed_lowered bytes long = rw (length_lowered bytes, number_before 4 0 bytes (omega arith) (omega arith), number_before 2 4 bytes (omega arith) (omega arith), next_lowered bytes) refl

fixed_short : (bytes : List ℕ) → length bytes < 40 → fixed_header bytes ≡ Err Short
unfolding fixed_header
fixed_short bytes short = cond-true _ _ _ (lt-ltb _ 40 short)

-- lowering the hop limit of any bytes changes what is read in the hop limit alone
pub packet_of_lowered : (bytes : List ℕ) → packet_of (lowered bytes) ≡ lowered_if_read (packet_of bytes)
unfolding packet_of
packet_of_lowered bytes =
    elim (cases_lt (length bytes) 40) as (λ _. (fixed_header (lowered bytes) >>= after_fixed (lowered bytes) (drop 40 (lowered bytes))) ≡ lowered_if_read (fixed_header bytes >>= after_fixed bytes (drop 40 bytes))) [
      | inl short ↦
          let a : fixed_header (lowered bytes) ≡ Err Short = fixed_short (lowered bytes) (omega (arith, length_lowered bytes)) in
          ap (λ (r : Result ℕ NotPacket). r >>= after_fixed (lowered bytes) (drop 40 (lowered bytes))) a
          ∙ sym (ap (λ (r : Result ℕ NotPacket). lowered_if_read (r >>= after_fixed bytes (drop 40 bytes))) (fixed_short bytes short))
      | inr long ↦
          ap (λ (l : List ℕ). fixed_header (lowered bytes) >>= after_fixed (lowered bytes) l) (behind_lowered 40 bytes (omega arith))
          ∙ ap (λ (r : Result ℕ NotPacket). r >>= after_fixed (lowered bytes) (drop 40 bytes)) (fixed_lowered bytes long)
          ∙ bind_lowered (fixed_header bytes) (after_fixed bytes (drop 40 bytes)) (after_fixed (lowered bytes) (drop 40 bytes)) (λ first.
          bind_lowered (routing_header first (drop 40 bytes)) (after_routing bytes) (after_routing (lowered bytes)) (λ routing.
          bind_lowered (options_header routing.next routing.rest) (last bytes routing) (last (lowered bytes) routing) (λ options.
          last_lowered bytes routing options long)))
    ]

-- a tunnel packet is read as it was made
pub packet_of_encapsulated : (entry exit : Address) (packet : List ℕ) → entry.0 < 2 ^ 128 → exit.0 < 2 ^ 128 → length packet < 65536 → packet_of (encapsulated entry exit packet) ≡ Ok (tunnel_packet entry exit packet)
unfolding encapsulated
packet_of_encapsulated entry exit packet first second fits =
    let range : IsInRange (outer_head entry exit) = record { source = first; destination = second; class = omega arith; route = tt; home = tt } in
    packet_back (tunnel_packet entry exit packet) refl range (omega (arith, length_tunnel entry exit packet))

-- what the exit takes out of a tunnel packet is the inner packet, with its hop limit one less
pub opened_tunnel : (entry exit : Address) (packet : List ℕ) (p : Packet) → packet_of packet ≡ Ok p → opened entry (tunnel_packet entry exit packet) ≡ Ok (lowered_packet p)
unfolding opened
opened_tunnel entry exit packet p e =
    cond-false _ _ _ (not_from_true _ (eq-eqb entry.0 entry.0 refl))
    ∙ ap inner (packet_of_lowered packet ∙ ap lowered_if_read e)

pub opens_is : (entry exit : Address) (packet bytes : List ℕ) (p outer : Packet) → packet_of bytes ≡ Ok (tunnel_packet entry exit packet) → packet_of packet ≡ Ok p → packet_of bytes ≡ Ok outer → opened entry outer ≡ Ok (lowered_packet p)
opens_is entry exit packet bytes p outer written read found =
    subst (λ (o : Packet). opened entry o ≡ Ok (lowered_packet p)) (ok_is (tunnel_packet entry exit packet) outer (sym written ∙ found)) (opened_tunnel entry exit packet p read)
