-- A field that is spelled so is read.
use Rattle.std.proofs.Common.{◌≡◌, ℕ, zero, suc, ◌<◌, ◌≤◌, ◌^◌, List, [], ◌∷◌, length, true, refl, ap, ◌∙◌, arith}
use Rattle.std.specs.Prelude.{Option, Some, None, Ok, codes, decimal, nat_le, nat_lt}
use Rattle.std.specs.Str.{bytes_eq}
use Rattle.std.proofs.lemmas.Bool.{and_parts, leb-true, ltb-true, cond-false, false_from_ne_true}
use Rattle.std.proofs.lemmas.Slice.Eq.{bytes_eq-Decides}
use Rattle.mip_words.specs.Addresses.{is_routable, address_bytes}
use Rattle.mip_words.proofs.Fields.{length-number_bytes}
use Rattle.mip_words.proofs.HexLaws.{length-hex_of}
use Rattle.mip_words.specs.Hex.{hex_of}
use Rattle.mip_words.specs.Numbers.{IsBytes}
use Rattle.mip_words.specs.declared.address.Address.{Address}
use Rattle.mip_words.specs.declared.prefix.Prefix.{Prefix}
use Rattle.mip_lines.specs.HexFields.{address_hex, number_hex, hex_text}
use Rattle.mip_lines.proofs.HexFieldLaws.{unhex_exact-again, hex_number-again, address_in-again, hex_field-again}
use Rattle.mip_lines.proofs.Numbers.{number-again}
use Rattle.mip_symbols.specs.Kinds as kinds
use Rattle.mip_symbols.specs.Kinds.{or_reason, to_host, number, address, prefix, seed, bytes}
use Rattle.mip_symbols.specs.Spelled.{or_word}
use Rattle.mip_symbols.specs.declared.reason.Reason.TheVariants as reasons
use Rattle.mip_config.specs.Rows.{some_agent}
use Rattle.mip_config_writing.specs.Grammar.{is_within, are_bytes, is_address, is_some_address}

pub within : (low high n : ℕ) → is_within low high n ≡ true → (low ≤ n) × (n ≤ high)
within low high n is =
    let p = and_parts (nat_le low n) (nat_le n high) is in
    (leb-true low n p.0, leb-true n high p.1)

bytes_are : (bs : List ℕ) → are_bytes bs ≡ true → IsBytes bs
bytes_are [] are i = omega arith
bytes_are (b ∷ bs) are zero = ltb-true b 256 (and_parts (nat_lt b 256) (are_bytes bs) are).0
bytes_are (b ∷ bs) are (suc i) = bytes_are bs (and_parts (nat_lt b 256) (are_bytes bs) are).1 i

pub number_reads : (low high n : ℕ) → is_within low high n ≡ true → high < 2 ^ 64 → kinds.number low high (decimal n) ≡ Ok n
unfolding number
number_reads low high n is small =
    let p = within low high n is in
    ap (or_reason reasons.Number) (number-again low high n p.0 p.1 small)

pub address_reads : (a : Address) → is_address a ≡ true → kinds.address (address_hex a) ≡ Ok a
unfolding address
address_reads a is =
    let p = and_parts (nat_lt a.0 (2 ^ 128)) (is_routable a.0) is in
    ap to_host (address_in-again a (ltb-true a.0 (2 ^ 128) p.0)) ∙ rw (p.1) refl

pub prefix_reads : (p : Prefix) → nat_lt p.0 (2 ^ 64) ≡ true → kinds.prefix (number_hex 8 p.0) ≡ Ok p
unfolding prefix
prefix_reads p small = rw (hex_number-again 8 p.0 (ltb-true p.0 (2 ^ 64) small)) refl

pub seed_reads : (s : List ℕ) → are_bytes s ≡ true → length s ≡ 32 → kinds.seed (hex_of s) ≡ Ok s
unfolding seed
seed_reads s are size = ap (or_reason reasons.Hex) (unhex_exact-again 32 s size (bytes_are s are))

pub bytes_read : (most : ℕ) (b : List ℕ) → length b ≤ most → are_bytes b ≡ true → kinds.bytes most (hex_text b) ≡ Ok b
unfolding bytes
bytes_read most b size are = ap (or_reason reasons.Hex) (hex_field-again most b size (bytes_are b are))

pub agent_reads : (o : Option Address) → is_some_address o ≡ true → some_agent (or_word (codes "find") address_hex o) ≡ Ok o
agent_reads None is = refl
agent_reads (Some a) is =
    cond-false (bytes_eq (address_hex a) (codes "find")) _ _ (false_from_ne_true _ (λ test. let e = ap length ((bytes_eq-Decides (address_hex a) (codes "find")).0 test) in omega (arith, e, length-hex_of (address_bytes a), length-number_bytes 16 a.0)))
    ∙ rw (address_reads a is) refl
