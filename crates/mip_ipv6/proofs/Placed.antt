-- What a packet that was read has: a routable home address, if any, and a body that ends it.
use Rattle.std.proofs.Common.{◌≡◌, ℕ, ◌-◌, ◌^◌, ◌≤◌, List, [], ◌∷◌, length, drop, refl, sym, ap, subst, true, arith}
use Rattle.std.specs.Prelude.{◌<◌, Option, Some, None, option_to_list}
use Rattle.std.specs.List.{AllByRecursion, flat_map}
use Rattle.std.proofs.lemmas.List.{length-drop}
use Rattle.mip_words.specs.Addresses.{is_routable}
use Rattle.mip_words.specs.Numbers.{IsBytes}
use Rattle.mip_words.proofs.Fields.{number_at-lt}
use Rattle.mip_words.specs.declared.address.Address.{Address}
use Rattle.mip_ipv6.specs.Packet.{Packet, is_routable_if_any}
use Rattle.mip_ipv6.specs.Spelling.{Piece, Pad, Skipped, Home, IsPiece, home_in, IsOptions, IsPacket}

-- each home address among destination options is routable
routable_homes : (pieces : List Piece) → AllByRecursion IsPiece pieces → AllByRecursion (λ a. is_routable a.0 ≡ true) (flat_map home_in pieces)
routable_homes [] all = tt
routable_homes (Pad ∷ pieces) all = routable_homes pieces all.1
routable_homes (Skipped type contents ∷ pieces) all = routable_homes pieces all.1
routable_homes (Home address contents ∷ pieces) all = (all.0.2, routable_homes pieces all.1)

listed_home : (home : Option Address) → AllByRecursion (λ a. is_routable a.0 ≡ true) (option_to_list home) → is_routable_if_any home ≡ true
listed_home None all = refl
listed_home (Some a) all = all.0

options_home : (home : Option Address) (n m : ℕ) (bytes : List ℕ) → IsOptions home n m bytes → is_routable_if_any home ≡ true
options_home home n m [] is = subst (λ (o : Option Address). is_routable_if_any o ≡ true) (sym is.0) refl
options_home home n m (next ∷ []) is = absurd is
options_home home n m (next ∷ size ∷ area) is =
    listed_home home (subst (λ (homes : List Address). AllByRecursion (λ a. is_routable a.0 ≡ true) homes) is.3.2 (routable_homes is.3.0 is.3.1))

pub home_routable : (p : Packet) (bytes : List ℕ) → IsPacket p bytes → is_routable_if_any p.head.home ≡ true
home_routable p bytes is = options_home p.head.home is.second p.head.proto is.options is.is_options

-- where a body stands
pub place_is : (place : ℕ) (bytes body : List ℕ) → place ≤ length bytes → body ≡ drop place bytes → place ≡ length bytes - length body
place_is place bytes body inside is = let size = ap (λ (l : List ℕ). length l) is in let rest = length-drop place bytes in omega arith

-- a packet has at most 65,535 bytes behind its fixed header
pub place_near : (place : ℕ) (p : Packet) (bytes : List ℕ) → IsBytes bytes → IsPacket p bytes → place ≤ length bytes → place < 2 ^ 32 - 1
place_near place p bytes are is inside = let size = number_at-lt 2 4 bytes are in omega (arith, size, is.size, is.long)
