-- Fields that are spelled so are read.
use Rattle.std.proofs.Common.{◌≡◌, ℕ, ◌^◌, ◌<◌, ◌≤◌, List, length, true, ap, ◌∙◌}
use Rattle.std.specs.Prelude.{Ok, decimal}
use Rattle.std.proofs.lemmas.Bool.{cond-true}
use Rattle.mip_words.specs.Addresses.{is_routable}
use Rattle.mip_words.specs.Hex.{hex_of}
use Rattle.mip_words.specs.Numbers.{IsBytes}
use Rattle.mip_words.specs.declared.address.Address.{Address}
use Rattle.mip_lines.specs.HexFields.{address_hex, hex_text}
use Rattle.mip_lines.proofs.HexFieldLaws.{unhex_exact-again, address_in-again, hex_field-again}
use Rattle.mip_lines.proofs.Numbers.{number-again}
use Rattle.mip_symbols.specs.Kinds as kinds
use Rattle.mip_symbols.specs.Kinds.{or_reason, to_host, number, address, seed, bytes}
use Rattle.mip_symbols.specs.declared.reason.Reason.TheVariants as reasons

pub number_read : (low high x : ℕ) → low ≤ x → x ≤ high → high < 2 ^ 64 → kinds.number low high (decimal x) ≡ Ok x
unfolding number
number_read low high x from to small = ap (or_reason reasons.Number) (number-again low high x from to small)

pub bytes_read : (most : ℕ) (bs : List ℕ) → length bs ≤ most → IsBytes bs → kinds.bytes most (hex_text bs) ≡ Ok bs
unfolding bytes
bytes_read most bs few are = ap (or_reason reasons.Hex) (hex_field-again most bs few are)

pub address_read : (a : Address) → a.0 < 2 ^ 128 → is_routable a.0 ≡ true → kinds.address (address_hex a) ≡ Ok a
unfolding address
address_read a small host = ap to_host (address_in-again a small) ∙ cond-true _ _ _ host

pub seed_read : (bs : List ℕ) → length bs ≡ 32 → IsBytes bs → kinds.seed (hex_of bs) ≡ Ok bs
unfolding seed
seed_read bs size are = ap (or_reason reasons.Hex) (unhex_exact-again 32 bs size are)
