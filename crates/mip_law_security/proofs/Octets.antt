-- Tokens and authenticators are computed of the octets that the standard names.
use Rattle.std.proofs.Common.{◌≡◌, ℕ, ◌-◌, ◌≤◌, List, [], ◌∷◌, ◌++◌, Bool, true, false, length, refl, sym, ap, ◌∙◌, arith, length-append}
use Rattle.std.specs.Prelude.{map, take, drop, slice_range, bit_xor, nat_lt, if◌then◌else◌}
use Rattle.std.proofs.lemmas.List.{append_assoc, take_at, drop_at}
use Rattle.std.proofs.lemmas.Bool.{ltb-true}
use Rattle.mip_words.specs.Addresses.{address_bytes}
use Rattle.mip_words.specs.declared.address.Address.{Address}
use Rattle.sha1.specs.Sha1.{sha1}
use Rattle.mip_tokens.specs.Hmac.{block_key, padded, pad, hmac_sha1}
use Rattle.mip_tokens.specs.Token.{home_token_of, careof_token_of, authenticated, authenticator_over, authenticator_of}
use Rattle.mip_law_security.specs.Octets.{block_of, first_of_hash, IsSealed}

-- a key of a block at most is not hashed first
short_key : (key : List ℕ) → length key ≤ 64 → block_key key ≡ padded key
short_key key short = by (nat_lt 64 (length key)) refl
  where
    by : (b : Bool) → nat_lt 64 (length key) ≡ b → padded (if b then sha1 key else key) ≡ padded key
    by true long = absurd (let more = ltb-true 64 (length key) long in omega (arith, more, short))
    by false long = refl

pad_is : (octet : ℕ) (key : List ℕ) → length key ≤ 64 → pad octet key ≡ block_of octet key
pad_is octet key short = ap (λ (l : List ℕ). map (λ b. bit_xor b octet) l) (short_key key short)

hash_is : (octets : ℕ) (key text : List ℕ) → length key ≤ 64 → take octets (hmac_sha1 key text) ≡ first_of_hash octets key text
unfolding hmac_sha1
hash_is octets key text short =
    ap (λ (l : List ℕ). take octets (sha1 (l ++ sha1 (pad 0x36 key ++ text)))) (pad_is 0x5c key short)
    ∙ ap (λ (l : List ℕ). take octets (sha1 (block_of 0x5c key ++ sha1 (l ++ text)))) (pad_is 0x36 key short)

pub home_token_is : (kcn nonce : List ℕ) (home : Address) → length kcn ≤ 64 → home_token_of kcn home nonce ≡ first_of_hash 8 kcn (address_bytes home ++ (nonce ++ 0 ∷ []))
unfolding home_token_of
home_token_is kcn nonce home short = hash_is 8 kcn (address_bytes home ++ (nonce ++ 0 ∷ [])) short

pub careof_token_is : (kcn nonce : List ℕ) (careof : Address) → length kcn ≤ 64 → careof_token_of kcn careof nonce ≡ first_of_hash 8 kcn (address_bytes careof ++ (nonce ++ 1 ∷ []))
unfolding careof_token_of
careof_token_is kcn nonce careof short = hash_is 8 kcn (address_bytes careof ++ (nonce ++ 1 ∷ [])) short

-- what is covered of a message
covered_is : (message : List ℕ) (m : IsSealed message) → authenticated message ≡ m.front ++ (0 ∷ 0 ∷ m.rest)
unfolding authenticated
covered_is message m =
    ap (λ (l : List ℕ). take 4 l ++ (0 ∷ 0 ∷ slice_range l 6 (length l - 12))) m.whole
    ∙ ap (λ (l : List ℕ). l ++ (0 ∷ 0 ∷ slice_range all 6 (length all - 12))) (take_at m.front (m.checksum ++ (m.rest ++ m.authenticator)) 4 m.four)
    ∙ ap (λ (l : List ℕ). m.front ++ (0 ∷ 0 ∷ take (length all - 12 - 6) l)) (ap (drop 6) (sym (append_assoc m.front m.checksum behind)) ∙ drop_at (m.front ++ m.checksum) behind 6 six)
    ∙ ap (λ (l : List ℕ). m.front ++ (0 ∷ 0 ∷ l)) (take_at m.rest m.authenticator (length all - 12 - 6) size)
  where
    behind : List ℕ
    behind = m.rest ++ m.authenticator

    all : List ℕ
    all = m.front ++ (m.checksum ++ behind)

    six : length (m.front ++ m.checksum) ≡ 6
    six = omega (arith, length-append m.front m.checksum, m.four, m.two)

    size : length m.rest ≡ length all - 12 - 6
    size = omega (arith, length-append m.front (m.checksum ++ behind), length-append m.checksum behind, length-append m.rest m.authenticator, m.four, m.two, m.twelve)

pub authenticator_is : (kbm : List ℕ) (careof peer : Address) (message : List ℕ) (m : IsSealed message) → length kbm ≤ 64
    → authenticator_of kbm careof peer message ≡ first_of_hash 12 kbm (address_bytes careof ++ (address_bytes peer ++ (m.front ++ (0 ∷ 0 ∷ m.rest))))
unfolding authenticator_of
authenticator_is kbm careof peer message m short =
    ap (λ (covered : List ℕ). authenticator_over kbm careof peer covered) (covered_is message m)
    ∙ hash_is 12 kbm (address_bytes careof ++ (address_bytes peer ++ (m.front ++ (0 ∷ 0 ∷ m.rest)))) short
