-- Messages with and without an authenticator.
use Rattle.std.proofs.Common.{◌≡◌, ℕ, ◌≤◌, List, [], ◌∷◌, length, ap, sym, refl, ◌∙◌, false, arith, subst, length-append, length-drop}
use Rattle.std.specs.Prelude.{Option, Some, None, drop, IsTrue}
use Rattle.std.specs.List.{flat_map}
use Rattle.mip_mobhdr.specs.OptionValues.{Values}
use Rattle.mip_mobhdr.specs.OptionSpelling.{Item, item_bytes, IsRun, IsSpelled}
use Rattle.mip_mobhdr.specs.OptionSpelling.Item.{Pad, Advice, Alternate, Nonces, Number, Authorization, Skipped}
use Rattle.mip_mobhdr.specs.Said.{Said}
use Rattle.mip_mobhdr.specs.Said.Said.{Refresh, HomeInit, CareofInit, HomeTest, CareofTest, Update, Acknowledgement, Error}
use Rattle.mip_words.specs.declared.address.Address.{Address}
use Rattle.mip_mobhdr.specs.Spelling.{IsMessage}
use Rattle.mip_packets.specs.Authenticated.{with_authenticator, authorized, has_authenticator}

pub unauthorized : (bytes : List ℕ) (m : Said) → has_authenticator m ≡ false → authorized bytes m ≡ m
unauthorized bytes (Update s a h l k t o) none = absurd cc
unauthorized bytes (Acknowledgement s k q t o) none = absurd cc
unauthorized bytes (Refresh o) none = refl
unauthorized bytes (HomeInit c o) none = refl
unauthorized bytes (CareofInit c o) none = refl
unauthorized bytes (HomeTest i c t o) none = refl
unauthorized bytes (CareofTest i c t o) none = refl
unauthorized bytes (Error s h o) none = refl

abbrev authorization_of : Values → Option (List ℕ)
authorization_of v = v.authorization

-- options that lead to an authenticator have its 14 bytes
run_long : (items : List Item) (v w : Values) (a : List ℕ) → IsRun v items w → v.authorization ≡ None → w.authorization ≡ Some a → 14 ≤ length (flat_map item_bytes items)
run_long [] v w a run none some = absurd (let e : v.authorization ≡ w.authorization = ap authorization_of run in cc)
run_long (Pad ∷ items) v w a (m, next, run) none some =
    let rest = run_long items m w a run (sym (ap authorization_of next) ∙ none) some in
    omega (arith, rest, length-append (item_bytes Pad) (flat_map item_bytes items))
run_long (Advice units ∷ items) v w a (m, next, run) none some =
    let rest = run_long items m w a run (sym (ap authorization_of next.2) ∙ none) some in
    omega (arith, rest, length-append (item_bytes (Advice units)) (flat_map item_bytes items))
run_long (Alternate address ∷ items) v w a (m, next, run) none some =
    let rest = run_long items m w a run (sym (ap authorization_of next.2) ∙ none) some in
    omega (arith, rest, length-append (item_bytes (Alternate address)) (flat_map item_bytes items))
run_long (Nonces i ∷ items) v w a (m, next, run) none some =
    let rest = run_long items m w a run (sym (ap authorization_of next.3) ∙ none) some in
    omega (arith, rest, length-append (item_bytes (Nonces i)) (flat_map item_bytes items))
run_long (Number n ∷ items) v w a (m, next, run) none some =
    let rest = run_long items m w a run (sym (ap authorization_of next.2) ∙ none) some in
    omega (arith, rest, length-append (item_bytes (Number n)) (flat_map item_bytes items))
run_long (Authorization bytes ∷ items) v w a (m, next, run) none some =
    omega (arith, next.0, length-append (item_bytes (Authorization bytes)) (flat_map item_bytes items))
run_long (Skipped type contents ∷ items) v w a (m, next, run) none some =
    let rest = run_long items m w a run (sym (ap authorization_of next.2) ∙ none) some in
    omega (arith, rest, length-append (item_bytes (Skipped type contents)) (flat_map item_bytes items))

pub spelled_long : (v : Values) (bytes a : List ℕ) → IsSpelled v bytes → v.authorization ≡ Some a → 14 ≤ length bytes
spelled_long v bytes a is some = omega (arith, run_long is.0 _ v a is.1 refl some, ap length is.2)

-- a message with room for an authenticator
room_long_of : (s d : Address) (a : List ℕ) (m : Said) (body : List ℕ) → IsTrue (has_authenticator m) → IsMessage s d (authorized a m) body → 18 ≤ length body
room_long_of s d a (Update q k h l y t o) body has is =
    omega (arith, length-drop 12 body, spelled_long (with_authenticator a o) (drop 12 body) a is.fields.6 refl)
room_long_of s d a (Acknowledgement u k q t o) body has is =
    omega (arith, length-drop 12 body, spelled_long (with_authenticator a o) (drop 12 body) a is.fields.4 refl)
room_long_of s d a (Refresh o) body has is = absurd cc
room_long_of s d a (HomeInit c o) body has is = absurd cc
room_long_of s d a (CareofInit c o) body has is = absurd cc
room_long_of s d a (HomeTest i c t o) body has is = absurd cc
room_long_of s d a (CareofTest i c t o) body has is = absurd cc
room_long_of s d a (Error u h o) body has is = absurd cc

pub room_long : (s d : Address) (a : List ℕ) (m authenticated : Said) (body : List ℕ) → IsTrue (has_authenticator m) → authenticated ≡ authorized a m → IsMessage s d authenticated body → 18 ≤ length body
room_long s d a m authenticated body has same is = room_long_of s d a m body has (subst (λ (x : Said). IsMessage s d x body) same is)
