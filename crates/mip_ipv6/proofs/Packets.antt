-- A packet that is read is spelled so, and what is spelled so is read.
use Rattle.std.proofs.Common.{◌≡◌, ℕ, ◌+◌, ◌-◌, ◌/◌, ◌^◌, ◌≤◌, List, [], ◌∷◌, ◌++◌, length, drop, cond, refl, sym, ap, ◌∙◌, subst, arith, length-append, length-drop}
use Rattle.std.specs.Prelude.{false, not, ◌==◌, nat_lt, slice_index, Option, Result, Ok, Err}
use Rattle.std.proofs.lemmas.Bool.{cond_both, cond-false, eqb-true, eqb-false, ltb-false, not-false, or_parts, eq-eqb, le-ltb, not_from_true}
use Rattle.std.proofs.lemmas.List.{append_assoc, drop_at, drop-drop}
use Rattle.mip_words.specs.Numbers.{IsBytes, number_at}
use Rattle.mip_words.specs.Steps.{◌>>=◌}
use Rattle.mip_words.specs.declared.address.Address.{Address}
use Rattle.mip_words.proofs.Fields.{number_at-lt}
use Rattle.mip_words.proofs.StepLaws.{bind_ok, ok_is, done}
use Rattle.mip_ipv6.specs.declared.head.Head.{Head}
use Rattle.mip_ipv6.specs.declared.not_packet.NotPacket.{NotPacket}
use Rattle.mip_ipv6.specs.declared.not_packet.NotPacket.TheVariants.{Header}
use Rattle.mip_ipv6.specs.Packet.{Packet, names_no_body}
use Rattle.mip_ipv6.specs.Reading.{Walk, fixed_header, routing_header, options_header, head_of, packet_of}
use Rattle.mip_ipv6.specs.Spelling.{IsRouting, IsOptions, IsPacket}
use Rattle.mip_ipv6.proofs.Headers.{Walked, routing_takes, routing_again, options_takes, options_again}

-- what is known of the first 40 bytes of a packet
record Fixed (bytes : List ℕ) (next : ℕ) : Type 0 where
  long : 40 ≤ length bytes
  version : number_at 4 0 bytes / 2 ^ 28 ≡ 6
  size : number_at 2 4 bytes ≡ length bytes - 40
  first : slice_index bytes 6 ≡ next

fixed_takes : (bytes : List ℕ) (next : ℕ) → fixed_header bytes ≡ Ok next → Fixed bytes next
unfolding fixed_header
fixed_takes bytes next =
    let P : Result ℕ NotPacket → Type 0 = λ r. r ≡ Ok next → Fixed bytes next in
    cond_both (nat_lt (length bytes) 40) _ _ P (λ short e. absurd cc) (λ long.
    cond_both (not (number_at 4 0 bytes / 2 ^ 28 == 6)) _ _ P (λ wrong e. absurd cc) (λ version.
    cond_both (not (number_at 2 4 bytes == length bytes - 40)) _ _ P (λ wrong e. absurd cc) (λ size e. record {
      long = ltb-false (length bytes) 40 long;
      version = eqb-true _ 6 (not-false _ version);
      size = eqb-true _ (length bytes - 40) (not-false _ size);
      first = ok_is (slice_index bytes 6) next e;
    })))

fixed_again : (bytes : List ℕ) → 40 ≤ length bytes → number_at 4 0 bytes / 2 ^ 28 ≡ 6 → number_at 2 4 bytes ≡ length bytes - 40 → fixed_header bytes ≡ Ok (slice_index bytes 6)
unfolding fixed_header
fixed_again bytes long version size =
    cond-false _ _ _ (le-ltb _ 40 long)
    ∙ cond-false _ _ _ (not_from_true _ (eq-eqb _ 6 version))
    ∙ cond-false _ _ _ (not_from_true _ (eq-eqb _ (length bytes - 40) size))

-- the steps of `packet_of`, from the last
abbrev tree : List ℕ → Walk → Walk → Packet
tree bytes routing options = record { head = head_of bytes routing.found options.found options.next; body = options.rest }

abbrev last : List ℕ → Walk → Walk → Result Packet NotPacket
last bytes routing options = cond (names_no_body options.next) (Err (Header options.next)) (Ok (tree bytes routing options))

abbrev after_routing : List ℕ → Walk → Result Packet NotPacket
after_routing bytes routing = options_header routing.next routing.rest >>= last bytes routing

abbrev after_fixed : List ℕ → ℕ → Result Packet NotPacket
after_fixed bytes first = routing_header first (drop 40 bytes) >>= after_routing bytes

pub packet_takes : (bytes : List ℕ) (p : Packet) → packet_of bytes ≡ Ok p → IsPacket p bytes
unfolding packet_of
packet_takes bytes p e =
    let a = bind_ok (fixed_header bytes) (after_fixed bytes) p e in
    let b = bind_ok (routing_header a.0 (drop 40 bytes)) (after_routing bytes) p a.2 in
    let c = bind_ok (options_header (b.0).next (b.0).rest) (last bytes b.0) p b.2 in
    let P : Result Packet NotPacket → Type 0 = λ r. r ≡ Ok p → IsPacket p bytes in
    let f : Fixed bytes a.0 = fixed_takes bytes a.0 a.1 in
    let r : Walked (IsRouting (b.0).found a.0 (b.0).next) (drop 40 bytes) (b.0).rest = routing_takes a.0 (drop 40 bytes) b.0 b.1 in
    let o : Walked (IsOptions (c.0).found (b.0).next (c.0).next) (b.0).rest (c.0).rest = options_takes (b.0).next (b.0).rest c.0 c.1 in
    cond_both (names_no_body (c.0).next) _ _ P (λ wrong e. absurd cc) (λ body e.
    subst (λ (q : Packet). IsPacket q bytes) (ok_is (tree bytes b.0 c.0) p e) (record {
      long = f.long;
      version = f.version;
      class = refl;
      flow = refl;
      size = f.size;
      hop = refl;
      source = refl;
      destination = refl;
      second = (b.0).next;
      routing = r.part;
      options = o.part;
      is_routing = subst (λ (n : ℕ). IsRouting (b.0).found n (b.0).next r.part) (sym f.first) r.is;
      is_options = o.is;
      is_body = body;
      whole = r.whole ∙ ap (λ (l : List ℕ). r.part ++ l) o.whole;
    })) c.2

-- a head from its fields
same_head : (h : Head) {source destination : Address} {hop class flow : ℕ} → source ≡ h.source → destination ≡ h.destination → hop ≡ h.hop → class ≡ h.class → flow ≡ h.flow
    → (let k : Head = record { source = source; destination = destination; hop = hop; class = class; flow = flow; route = h.route; home = h.home; proto = h.proto } in k) ≡ h
same_head h {source} {destination} {hop} {class} {flow} s d o c f =
    let e : (let k : Head = record { source = source; destination = destination; hop = hop; class = class; flow = flow; route = h.route; home = h.home; proto = h.proto } in k)
    ≡ (let k : Head = record { source = h.source; destination = h.destination; hop = h.hop; class = h.class; flow = h.flow; route = h.route; home = h.home; proto = h.proto } in k) = cc in
    e

-- a number that names a body is neither that of a routing header nor that of an options header
no_header : (n : ℕ) → names_no_body n ≡ false → (n ≡ 43 → ⊥) × (n ≡ 60 → ⊥)
no_header n is =
    let a = or_parts _ (n == 60) is in
    let b = or_parts _ (n == 51) a.0 in
    let c = or_parts _ (n == 50) b.0 in
    let d = or_parts _ (n == 44) c.0 in
    let e = or_parts _ (n == 43) d.0 in
    (eqb-false n 43 e.1, eqb-false n 60 a.1)

-- in front of an options header or a body stands no routing header
no_routing : (home : Option Address) (n m : ℕ) (part : List ℕ) → IsOptions home n m part → (m ≡ 43 → ⊥) → n ≡ 43 → ⊥
no_routing home n m [] is other e = other (sym is.1 ∙ e)
no_routing home n m (x ∷ []) is other e = is
no_routing home n m (x ∷ y ∷ part) is other e = omega (arith, is.0, e)

pub packet_again : (p : Packet) (bytes : List ℕ) → IsPacket p bytes → packet_of bytes ≡ Ok p
unfolding packet_of
packet_again p bytes is =
    let none = no_header p.head.proto is.is_body in
    let behind : List ℕ = is.options ++ p.body in
    let routing : Walk = record { found = p.head.route; next = is.second; rest = behind } in
    let options : Walk = record { found = p.head.home; next = p.head.proto; rest = p.body } in
    let first : routing_header (slice_index bytes 6) (drop 40 bytes) ≡ Ok routing =
    ap (routing_header (slice_index bytes 6)) is.whole
    ∙ routing_again p.head.route (slice_index bytes 6) is.second is.routing behind is.is_routing (no_routing p.head.home is.second p.head.proto is.options is.is_options none.0) in
    let second : options_header is.second behind ≡ Ok options =
    options_again p.head.home is.second p.head.proto is.options p.body is.is_options none.1 in
    let head : head_of bytes p.head.route p.head.home p.head.proto ≡ p.head =
    same_head p.head is.source is.destination is.hop is.class is.flow in
    ap (λ (r : Result ℕ NotPacket). r >>= after_fixed bytes) (fixed_again bytes is.long is.version is.size)
    ∙ ap (λ (r : Result Walk NotPacket). r >>= after_routing bytes) first
    ∙ ap (λ (r : Result Walk NotPacket). r >>= last bytes routing) second
    ∙ cond-false _ _ _ is.is_body
    ∙ ap (λ (h : Head). done (let q : Packet = record { head = h; body = p.body } in q)) head

-- where the body stands
pub record Stands (body bytes : List ℕ) : Type 0 where
  pub long : 40 + length body ≤ length bytes
  pub there : body ≡ drop (length bytes - length body) bytes

pub body_stands : (p : Packet) (bytes : List ℕ) → IsPacket p bytes → Stands p.body bytes
body_stands p bytes is =
    let front : List ℕ = is.routing ++ is.options in
    let whole : drop 40 bytes ≡ front ++ p.body = is.whole ∙ sym (append_assoc is.routing is.options p.body) in
    let sizes : length bytes - 40 ≡ length front + length p.body = sym (length-drop 40 bytes) ∙ ap length whole ∙ length-append front p.body in
    let at : 40 + length front ≡ length bytes - length p.body = omega (arith, sizes, is.long) in
    record {
      long = omega (arith, sizes, is.long);
      there = sym (drop_at front p.body (length front) refl) ∙ ap (drop (length front)) (sym whole) ∙ drop-drop (length front) 40 bytes ∙ ap (λ (n : ℕ). drop n bytes) at;
    }

pub read_stands : (p : Packet) (bytes : List ℕ) → packet_of bytes ≡ Ok p → Stands p.body bytes
read_stands p bytes e = body_stands p bytes (packet_takes bytes p e)

-- the bytes behind the fixed header are counted in 16 bits
pub body_small : (p : Packet) (bytes : List ℕ) → IsBytes bytes → IsPacket p bytes → length p.body ≤ 65535
body_small p bytes are is = omega (arith, number_at-lt 2 4 bytes are, is.size, (body_stands p bytes is).long)
