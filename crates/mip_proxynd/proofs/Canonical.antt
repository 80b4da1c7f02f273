-- The canonical spelling is one that is read, to the message that was written.
use Rattle.std.proofs.Common.{◌≡◌, ℕ, ◌≤◌, Bool, true, false, List, [], ◌∷◌, ◌++◌, length, Option, Some, None, Result, Ok, Err, IsTrue, refl, sym, ap, subst, ◌∙◌, arith, length-append, lit≤}
use Rattle.std.specs.Prelude.{slice_index, IfSome, IfOk, OnOk}
use Rattle.std.proofs.lemmas.Bool.{eqb-true}
use Rattle.std.proofs.lemmas.List.{append-nil, take_all}
use Rattle.mip_words.specs.Numbers.{number_at, number_bytes}
use Rattle.mip_words.specs.Addresses.{address_bytes}
use Rattle.mip_words.specs.declared.address.Address.{Address}
use Rattle.mip_words.specs.declared.memory.Memory.{Memory}
use Rattle.mip_words.proofs.Fields.{number_at-number_bytes, length-number_bytes}
use Rattle.mip_ipv6.specs.Sum.{is_right_sum, checksum_of, with_number_at}
use Rattle.mip_ipv6.proofs.Sums.{length-with_number_at}
use Rattle.mip_proxynd.specs.declared.layers.Layers.{Layers}
use Rattle.mip_proxynd.specs.declared.neighbour.Neighbour.{Neighbour}
use Rattle.mip_proxynd.specs.declared.neighbour.Neighbour.TheVariants.{Solicit, Advert}
use Rattle.mip_proxynd.specs.Fields.{is_group, has_flag, target_at, target_of}
use Rattle.mip_proxynd.specs.Options.{layer_at, IsArea}
use Rattle.mip_proxynd.specs.Reading.{neighbour_of}
use Rattle.mip_proxynd.specs.Spelling.{type_of, IsFields, IsNeighbour, layer_bytes, flags_of, unsummed, neighbour_bytes}
use Rattle.mip_proxynd.specs.SpellingLaws.{HasPlace, Fits}
use Rattle.mip_proxynd.proofs.Messages.{neighbour_again}

-- ---- sizes

layer_size : (type : ℕ) (layer : Option (List ℕ)) → IfSome layer (λ bytes. length bytes ≡ 6) → length (layer_bytes type layer) ≤ 8
layer_size type None six = lit≤ tt
layer_size type (Some bytes) six = omega (arith, six)

placed_size : (type : ℕ) (target : Address) (layer : Option (List ℕ)) → HasPlace target layer → length (address_bytes target ++ layer_bytes type layer) ≤ 24
placed_size type target layer fits = omega (arith, length-append (address_bytes target) (layer_bytes type layer), length-number_bytes 16 target.0, layer_size type layer fits.1)

placed_long : (type : ℕ) (target : Address) (layer : Option (List ℕ)) → 16 ≤ length (address_bytes target ++ layer_bytes type layer)
placed_long type target layer = omega (arith, length-append (address_bytes target) (layer_bytes type layer), length-number_bytes 16 target.0)

pub unsummed_size : (m : Neighbour) → Fits m → length (unsummed m) ≤ 65535
unfolding unsummed
unsummed_size (Solicit target layer) fits = omega (arith, placed_size 1 target layer fits)
unsummed_size (Advert router solicited over target layer) fits = omega (arith, placed_size 2 target layer fits)

pub unsummed_long : (m : Neighbour) → 24 ≤ length (unsummed m)
unfolding unsummed
unsummed_long (Solicit target layer) = omega (arith, placed_long 1 target layer)
unsummed_long (Advert router solicited over target layer) = omega (arith, placed_long 2 target layer)

-- ---- options

layer_again : (type : ℕ) (bytes : List ℕ) → length bytes ≡ 6 → layer_at (type ∷ 1 ∷ bytes) ≡ bytes
layer_again type bytes six = take_all 6 bytes (omega (arith, six))

abbrev some_layer : List ℕ → Option (List ℕ)
some_layer bytes = Some bytes

abbrev of_two : Option (List ℕ) → Option (List ℕ) → Layers
of_two source target = record { source = source; target = target }

source_spelled : (layer : Option (List ℕ)) → IfSome layer (λ bytes. length bytes ≡ 6) → IsArea (of_two layer None) (layer_bytes 1 layer)
source_spelled None six = ([], tt, refl, refl)
source_spelled (Some bytes) six =
    let x : List ℕ = 1 ∷ 1 ∷ bytes in
    (x ∷ [], (record { units = refl; whole = omega (arith, six) }, tt), sym (append-nil x), ap (λ (b : List ℕ). of_two (some_layer b) None) (layer_again 1 bytes six))

target_spelled : (layer : Option (List ℕ)) → IfSome layer (λ bytes. length bytes ≡ 6) → IsArea (of_two None layer) (layer_bytes 2 layer)
target_spelled None six = ([], tt, refl, refl)
target_spelled (Some bytes) six =
    let x : List ℕ = 2 ∷ 1 ∷ bytes in
    (x ∷ [], (record { units = refl; whole = omega (arith, six) }, tt), sym (append-nil x), ap (λ (b : List ℕ). of_two None (some_layer b)) (layer_again 2 bytes six))

-- ---- messages

flags_again : (router solicited over : Bool) → (has_flag 128 (0 ∷ 0 ∷ 0 ∷ 0 ∷ flags_of router solicited over ∷ []) ≡ router) × (has_flag 64 (0 ∷ 0 ∷ 0 ∷ 0 ∷ flags_of router solicited over ∷ []) ≡ solicited) × (has_flag 32 (0 ∷ 0 ∷ 0 ∷ 0 ∷ flags_of router solicited over ∷ []) ≡ over)
flags_again true true true = (refl, refl, refl)
flags_again true true false = (refl, refl, refl)
flags_again true false true = (refl, refl, refl)
flags_again true false false = (refl, refl, refl)
flags_again false true true = (refl, refl, refl)
flags_again false true false = (refl, refl, refl)
flags_again false false true = (refl, refl, refl)
flags_again false false false = (refl, refl, refl)

abbrev address_of_number : ℕ → Address
address_of_number n = record { 0 = n }

-- the target stands at its place, whatever the checksum
target_spelled_at : (m : Neighbour) (sum : ℕ) → Fits m → target_at (with_number_at 2 sum (unsummed m)) ≡ target_of m
unfolding unsummed number_at number_bytes
target_spelled_at (Solicit target layer) sum fits = ap address_of_number (number_at-number_bytes 16 target.0 (layer_bytes 1 layer) fits.0)
target_spelled_at (Advert router solicited over target layer) sum fits = ap address_of_number (number_at-number_bytes 16 target.0 (layer_bytes 2 layer) fits.0)

-- the fields stand at their places, whatever the checksum
fields_spelled : (m : Neighbour) (sum : ℕ) → Fits m → IsFields m (with_number_at 2 sum (unsummed m))
unfolding unsummed number_at number_bytes
fields_spelled (Solicit target layer) sum fits =
    (target_spelled_at (Solicit target layer) sum fits, of_two layer None, source_spelled layer fits.1, refl)
fields_spelled (Advert router solicited over target layer) sum fits =
    let flags = flags_again router solicited over in
    (flags.0, flags.1, flags.2, target_spelled_at (Advert router solicited over target layer) sum fits, of_two None layer, target_spelled layer fits.1, refl)

-- type, code and length, whatever the checksum
record HasFront (m : Neighbour) (body : List ℕ) : Type 0 where
  type : slice_index body 0 ≡ type_of m
  code : slice_index body 1 ≡ 0
  long : 24 ≤ length body

front_spelled : (m : Neighbour) (sum : ℕ) → HasFront m (with_number_at 2 sum (unsummed m))
unfolding unsummed number_bytes
front_spelled (Solicit target layer) sum = record { type = refl; code = refl; long = omega arith }
front_spelled (Advert router solicited over target layer) sum = record { type = refl; code = refl; long = omega arith }

-- the canonical spelling is one spelling of the message
canonical_is : (source destination : Address) (m : Neighbour) → Fits m → is_group (target_of m) ≡ false → is_right_sum source destination 58 (neighbour_bytes source destination m) ≡ true → IsNeighbour source destination 255 m (neighbour_bytes source destination m)
unfolding neighbour_bytes
canonical_is source destination m fits single right =
    let sum = checksum_of source destination 58 (unsummed m) 2 in
    let front = front_spelled m sum in
    record {
      near = refl;
      long = front.long;
      sum = eqb-true _ 0 right;
      type = front.type;
      code = front.code;
      target = ap is_group (target_spelled_at m sum fits) ∙ single;
      fields = fields_spelled m sum fits;
    }

pub is_spelled : (source destination : Address) (m : Neighbour) (r : Result (List ℕ) Memory) → is_group (target_of m) ≡ false → IfOk r (λ b. b ≡ neighbour_bytes source destination m) → IfOk r (λ b. IsTrue (is_right_sum source destination 58 b)) → OnOk r (Fits m) → IfOk r (IsNeighbour source destination 255 m)
is_spelled source destination m (Ok b) single is right fits =
    let sum : is_right_sum source destination 58 (neighbour_bytes source destination m) ≡ true = ap (is_right_sum source destination 58) (sym is) ∙ right in
    subst (IsNeighbour source destination 255 m) (sym is) (canonical_is source destination m fits single sum)
is_spelled source destination m (Err e) single is right fits = tt

pub is_back : (source destination : Address) (m : Neighbour) (r : Result (List ℕ) Memory) → IfOk r (IsNeighbour source destination 255 m) → IfOk r (λ b. neighbour_of source destination 255 b ≡ Ok m)
is_back source destination m (Ok b) is = neighbour_again source destination 255 b m is
is_back source destination m (Err e) is = tt

-- it fits a packet
pub is_small : (source destination : Address) (m : Neighbour) (r : Result (List ℕ) Memory) → IfOk r (λ b. b ≡ neighbour_bytes source destination m) → OnOk r (Fits m) → IfOk r (λ b. length b ≤ 65535)
unfolding neighbour_bytes
is_small source destination m (Ok b) is fits =
    let same = length-with_number_at 2 (checksum_of source destination 58 (unsummed m) 2) (unsummed m) (omega (arith, unsummed_long m)) in
    omega (arith, ap (λ (l : List ℕ). length l) is, same, unsummed_size m fits)
is_small source destination m (Err e) is fits = tt
