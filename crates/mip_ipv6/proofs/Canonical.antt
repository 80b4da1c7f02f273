-- What is written is spelled so, and is read back.
use Rattle.std.proofs.Common.{◌≡◌, ℕ, ◌+◌, ◌*◌, ◌/◌, ◌%◌, ◌^◌, ◌<◌, List, [], ◌∷◌, ◌++◌, length, refl, sym, ap, ◌∙◌, subst, arith, length-append}
use Rattle.std.specs.Prelude.{true, false, not, nat_lt, slice_index, Option, Some, None, Ok}
use Rattle.std.proofs.lemmas.Bool.{and_parts, ltb-true, not-true}
use Rattle.std.proofs.lemmas.List.{append_assoc, append-nil, drop_at}
use Rattle.mip_words.specs.Numbers.{number_at, number_bytes}
use Rattle.mip_words.specs.Addresses.{address_at, address_bytes}
use Rattle.mip_words.specs.declared.address.Address.{Address}
use Rattle.mip_words.proofs.Fields.{length-number_bytes, number_at-number_bytes, number_at-behind}
use Rattle.mip_ipv6.specs.declared.head.Head.{Head}
use Rattle.mip_ipv6.specs.Packet.{Packet, names_no_body, is_plain, is_routable_if_any}
use Rattle.mip_ipv6.specs.PacketLaws.{IsAddressIfAny, IsInRange}
use Rattle.mip_ipv6.specs.Reading.{packet_of}
use Rattle.mip_ipv6.specs.Spelling.{Skipped, Home, IsRouting, IsOptions, IsPacket, routing_bytes, options_bytes, first_number, second_number, behind_bytes, fixed_bytes, packet_bytes}
use Rattle.mip_ipv6.proofs.Packets.{packet_again}

abbrev size_if_any : Option Address → ℕ
size_if_any None = 0
size_if_any (Some a) = 24

pub length_routing : (route : Option Address) (next : ℕ) → length (routing_bytes route next) ≡ size_if_any route
unfolding routing_bytes
length_routing None next = refl
length_routing (Some home) next = omega (arith, length-number_bytes 16 home.0)

pub length_options : (home : Option Address) (next : ℕ) → length (options_bytes home next) ≡ size_if_any home
unfolding options_bytes
length_options None next = refl
length_options (Some home) next = omega (arith, length-number_bytes 16 home.0)

pub length_behind : (p : Packet) → length (behind_bytes p) ≡ length (routing_bytes p.head.route (second_number p.head.home p.head.proto)) + length (options_bytes p.head.home p.head.proto) + length p.body
unfolding behind_bytes
length_behind p =
    let routing : List ℕ = routing_bytes p.head.route (second_number p.head.home p.head.proto) in
    let options : List ℕ = options_bytes p.head.home p.head.proto in
    omega (arith, length-append routing (options ++ p.body), length-append options p.body)

pub length_fixed : (head : Head) (next size : ℕ) → length (fixed_bytes head next size) ≡ 40
unfolding fixed_bytes
length_fixed head next size =
    let word : ℕ = 6 * 2 ^ 28 + head.class * 2 ^ 20 + head.flow in
    let ends : List ℕ = address_bytes head.source ++ address_bytes head.destination in
    omega (
      arith,
      length-append (number_bytes 4 word) (number_bytes 2 size ++ (next ∷ head.hop ∷ ends)),
      length-append (number_bytes 2 size) (next ∷ head.hop ∷ ends),
      length-append (address_bytes head.source) (address_bytes head.destination),
      length-number_bytes 4 word,
      length-number_bytes 2 size,
      length-number_bytes 16 head.source.0,
      length-number_bytes 16 head.destination.0,
    )

-- the pieces as they are appended
pub written_is : (p : Packet) (size : ℕ) (a b c d e : List ℕ) → size ≡ length (behind_bytes p) → a ≡ []
    → b ≡ a ++ fixed_bytes p.head (first_number p.head.route (second_number p.head.home p.head.proto)) size
    → c ≡ b ++ routing_bytes p.head.route (second_number p.head.home p.head.proto)
    → d ≡ c ++ options_bytes p.head.home p.head.proto
    → e ≡ d ++ p.body
    → e ≡ packet_bytes p
unfolding packet_bytes behind_bytes
written_is p size a b c d e sized none fixed routing options body =
    let first : ℕ = first_number p.head.route (second_number p.head.home p.head.proto) in
    let r : List ℕ = routing_bytes p.head.route (second_number p.head.home p.head.proto) in
    let o : List ℕ = options_bytes p.head.home p.head.proto in
    let front : b ≡ fixed_bytes p.head first (length (r ++ (o ++ p.body))) = rw (fixed, none, sized) refl in
    let whole : e ≡ ((b ++ r) ++ o) ++ p.body = rw (body, options, routing) refl in
    whole ∙ append_assoc (b ++ r) o p.body ∙ append_assoc b r (o ++ p.body) ∙ ap (λ (l : List ℕ). l ++ (r ++ (o ++ p.body))) front

-- an address that was written is read back
address_again : (place : ℕ) (front : List ℕ) (a : Address) → length front ≡ place → a.0 < 2 ^ 128 → address_at place (front ++ address_bytes a) ≡ a
address_again place front a long fits =
    let there : number_at 16 place (front ++ address_bytes a) ≡ number_at 16 0 (address_bytes a) = number_at-behind 16 place 0 front (address_bytes a) (omega (arith, long)) in
    let here : number_at 16 0 (address_bytes a ++ []) ≡ a.0 = number_at-number_bytes 16 a.0 [] fits in
    let same : number_at 16 0 (address_bytes a) ≡ a.0 = ap (number_at 16 0) (sym (append-nil (address_bytes a))) ∙ here in
    ap (λ (n : ℕ). let b : Address = record { 0 = n } in b) (there ∙ same)

routing_is : (route : Option Address) (next : ℕ) → is_routable_if_any route ≡ true → IsAddressIfAny route → IsRouting route (first_number route next) next (routing_bytes route next)
unfolding routing_bytes
routing_is None next host fits = (refl, refl)
routing_is (Some home) next host fits = (
  refl,
  omega (arith, length-number_bytes 16 home.0),
  refl,
  refl,
  refl,
  refl,
  address_again 8 (next ∷ 2 ∷ 2 ∷ 1 ∷ 0 ∷ 0 ∷ 0 ∷ 0 ∷ []) home refl fits,
  host,
)

options_is : (home : Option Address) (proto : ℕ) → is_routable_if_any home ≡ true → IsAddressIfAny home → IsOptions home (second_number home proto) proto (options_bytes home proto)
unfolding options_bytes
options_is None proto host fits = (refl, refl)
options_is (Some home) proto host fits =
    let long : length (address_bytes home) ≡ 16 = length-number_bytes 16 home.0 in (
      refl,
      refl,
      omega (arith, long),
      (
        Skipped 1 (0 ∷ 0 ∷ []) ∷ Home home (address_bytes home) ∷ [],
        ((omega arith, omega arith), ((long, address_again 0 [] home refl fits, host), tt)),
        refl,
        ap (λ (l : List ℕ). 1 ∷ 2 ∷ 0 ∷ 0 ∷ 201 ∷ 16 ∷ l) (sym (append-nil (address_bytes home))),
      ),
    )

-- a head that can be written, by its tests
record Plain (head : Head) : Type 0 where
  flow : head.flow < 2 ^ 20
  proto : names_no_body head.proto ≡ false
  route : is_routable_if_any head.route ≡ true
  home : is_routable_if_any head.home ≡ true

plain_parts : (head : Head) → is_plain head ≡ true → Plain head
plain_parts head plain =
    let a = and_parts _ (is_routable_if_any head.home) plain in
    let b = and_parts _ (is_routable_if_any head.route) a.0 in
    let c = and_parts (nat_lt head.flow (2 ^ 20)) (not (names_no_body head.proto)) b.0 in
    record { flow = ltb-true head.flow (2 ^ 20) c.0; proto = not-true _ c.1; route = b.1; home = a.1 }

-- the fields of the first 40 bytes, whatever stands behind them
record Fields (head : Head) (next size : ℕ) (rest : List ℕ) : Type 0 where
  word : number_at 4 0 (fixed_bytes head next size ++ rest) ≡ 6 * 2 ^ 28 + head.class * 2 ^ 20 + head.flow
  length_field : number_at 2 4 (fixed_bytes head next size ++ rest) ≡ size
  next_field : slice_index (fixed_bytes head next size ++ rest) 6 ≡ next
  hop : slice_index (fixed_bytes head next size ++ rest) 7 ≡ head.hop
  source : address_at 8 (fixed_bytes head next size ++ rest) ≡ head.source
  destination : address_at 24 (fixed_bytes head next size ++ rest) ≡ head.destination

fields_again : (head : Head) (next size : ℕ) (rest : List ℕ) → IsInRange head → head.flow < 2 ^ 20 → size < 65536 → Fields head next size rest
unfolding fixed_bytes number_at number_bytes
fields_again head next size rest range flow small =
    let word : ℕ = 6 * 2 ^ 28 + head.class * 2 ^ 20 + head.flow in
    let d : List ℕ = address_bytes head.destination ++ rest in
    let s : List ℕ = address_bytes head.source ++ d in
    let n : List ℕ = next ∷ head.hop ∷ s in
    record {
      word = number_at-number_bytes 4 word (number_bytes 2 size ++ n) (omega (arith, range.class, flow));
      length_field = number_at-number_bytes 2 size n (omega (arith, small));
      next_field = refl;
      hop = refl;
      source = ap (λ (k : ℕ). let a : Address = record { 0 = k } in a) (number_at-number_bytes 16 head.source.0 d range.source);
      destination = ap (λ (k : ℕ). let a : Address = record { 0 = k } in a) (number_at-number_bytes 16 head.destination.0 rest range.destination);
    }

first_word : (class flow : ℕ) → class < 256 → flow < 2 ^ 20 →
    let word = 6 * 2 ^ 28 + class * 2 ^ 20 + flow in (word / 2 ^ 28 ≡ 6) × (word / 2 ^ 20 % 256 ≡ class) × (word % 2 ^ 20 ≡ flow)
first_word class flow c f = (omega arith, omega arith, omega arith)

pub canonical_is : (p : Packet) → is_plain p.head ≡ true → IsInRange p.head → length (behind_bytes p) < 65536 → IsPacket p (packet_bytes p)
unfolding packet_bytes behind_bytes
canonical_is p plain range small =
    let parts : Plain p.head = plain_parts p.head plain in
    let second : ℕ = second_number p.head.home p.head.proto in
    let first : ℕ = first_number p.head.route second in
    let size : ℕ = length (behind_bytes p) in
    let front : List ℕ = fixed_bytes p.head first size in
    let f : Fields p.head first size (behind_bytes p) = fields_again p.head first size (behind_bytes p) range parts.flow small in
    let forty : length front ≡ 40 = length_fixed p.head first size in
    let long : length (front ++ behind_bytes p) ≡ 40 + size = length-append front (behind_bytes p) ∙ ap (λ (n : ℕ). n + size) forty in
    let word = first_word p.head.class p.head.flow range.class parts.flow in
    record {
      long = omega (arith, long);
      version = ap (λ (n : ℕ). n / 2 ^ 28) f.word ∙ word.0;
      class = ap (λ (n : ℕ). n / 2 ^ 20 % 256) f.word ∙ word.1;
      flow = ap (λ (n : ℕ). n % 2 ^ 20) f.word ∙ word.2;
      size = omega (arith, f.length_field, long);
      hop = f.hop;
      source = f.source;
      destination = f.destination;
      second = second;
      routing = routing_bytes p.head.route second;
      options = options_bytes p.head.home p.head.proto;
      is_routing = subst (λ (n : ℕ). IsRouting p.head.route n second (routing_bytes p.head.route second)) (sym f.next_field) (routing_is p.head.route second parts.route range.route);
      is_options = options_is p.head.home p.head.proto parts.home range.home;
      is_body = parts.proto;
      whole = drop_at front (behind_bytes p) 40 forty ∙ behind_is p;
    }
  where
    behind_is : (p : Packet) → behind_bytes p ≡ routing_bytes p.head.route (second_number p.head.home p.head.proto) ++ (options_bytes p.head.home p.head.proto ++ p.body)
    behind_is p = refl

-- reading what was written
pub packet_back : (p : Packet) → is_plain p.head ≡ true → IsInRange p.head → length (behind_bytes p) < 65536 → packet_of (packet_bytes p) ≡ Ok p
packet_back p plain range small = packet_again p (packet_bytes p) (canonical_is p plain range small)

-- the bytes that were written spell the packet
pub written_spells : (p : Packet) (bytes : List ℕ) → bytes ≡ packet_bytes p → is_plain p.head ≡ true → IsInRange p.head → length (behind_bytes p) < 65536 → IsPacket p bytes
written_spells p bytes e plain range small = subst (λ (l : List ℕ). IsPacket p l) (sym e) (canonical_is p plain range small)
