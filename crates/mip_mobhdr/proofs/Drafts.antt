-- The steps of the writer make the canonical spelling.
use Rattle.std.proofs.Common.{◌≡◌, ℕ, ◌+◌, ◌-◌, ◌/◌, List, ◌∷◌, ◌++◌, length, set, sym, ap, subst, ◌∙◌, arith}
use Rattle.std.proofs.lemmas.List.{append_cancel_left}
use Rattle.std.specs.Prelude.{Ok}
use Rattle.mip_words.specs.declared.address.Address.{Address}
use Rattle.mip_ipv6.specs.Sum.{with_number_at, checksum_of}
use Rattle.mip_mobhdr.specs.OptionValues.{Values}
use Rattle.mip_mobhdr.specs.OptionSpelling.{IsSpelled}
use Rattle.mip_mobhdr.specs.OptionWriting.{canonical, AppendsOptions}
use Rattle.mip_mobhdr.specs.Said.{Said}
use Rattle.mip_mobhdr.specs.Reading.{message_of}
use Rattle.mip_mobhdr.specs.Spelling.{IsMessage, type_of, options_said, field_bytes, rest_bytes, unsummed, message_bytes}
use Rattle.mip_mobhdr.specs.SpellingLaws.{front_bytes, HasWidths, WritesOptions}
use Rattle.mip_mobhdr.proofs.Canonical.{message_canonical}
use Rattle.mip_mobhdr.proofs.Messages.{message_read}

-- the options begin behind the fields
length-front : (m : Said) (b : List ℕ) → b ≡ front_bytes m → length b ≡ 6 + length (field_bytes m)
length-front m b front = ap (λ (l : List ℕ). length l) front ∙ omega arith

-- the options are those of the message, where it has them
options_at_end : (m : Said) (b : List ℕ) (o : Values) → b ≡ front_bytes m → o ≡ options_said m → canonical (length b) o ≡ canonical (6 + length (field_bytes m)) (options_said m)
options_at_end m b o front is = ap (λ (n : ℕ). canonical n o) (length-front m b front) ∙ ap (canonical (6 + length (field_bytes m))) is

-- with its Header Len in place
pub draft_is : (m : Said) (b c : List ℕ) (o : Values) → b ≡ front_bytes m → o ≡ options_said m → c ≡ b ++ canonical (length b) o → set c 1 (length c / 8 - 1) ≡ unsummed m
unfolding unsummed rest_bytes
draft_is m b c o front is appended =
    let tail = canonical (6 + length (field_bytes m)) (options_said m) in
    let rest = field_bytes m ++ tail in
    let whole : c ≡ 59 ∷ 0 ∷ type_of m ∷ 0 ∷ 0 ∷ 0 ∷ rest =
    appended ∙ ap (λ (l : List ℕ). b ++ l) (options_at_end m b o front is) ∙ ap (λ (l : List ℕ). l ++ tail) front in
    let long : length c ≡ 6 + length rest = ap (λ (l : List ℕ). length l) whole ∙ omega arith in
    ap (λ (n : ℕ). set c 1 (n / 8 - 1)) long ∙ ap (λ (l : List ℕ). set l 1 ((6 + length rest) / 8 - 1)) whole

pub options_written : (m : Said) (b c : List ℕ) (o : Values) → b ≡ front_bytes m → o ≡ options_said m → c ≡ b ++ canonical (length b) o → AppendsOptions o b c → WritesOptions m
options_written m b c o front is appended (bytes, same, spelled) =
    let e : bytes ≡ canonical (length b) o = append_cancel_left b bytes (canonical (length b) o) (sym same ∙ appended) in
    let here : IsSpelled o (canonical (6 + length (field_bytes m)) (options_said m)) = subst (IsSpelled o) (e ∙ options_at_end m b o front is) spelled in
    subst (λ (v : Values). IsSpelled v (canonical (6 + length (field_bytes m)) (options_said m))) is here

-- with its checksum in place
pub message_is : (source destination : Address) (m : Said) (draft : List ℕ) → draft ≡ unsummed m → with_number_at 4 (checksum_of source destination 135 draft 4) draft ≡ message_bytes source destination m
unfolding message_bytes
message_is source destination m draft is = ap (λ (l : List ℕ). with_number_at 4 (checksum_of source destination 135 l 4) l) is

pub spelled_is : (source destination : Address) (m : Said) (b : List ℕ) → HasWidths m → WritesOptions m → b ≡ message_bytes source destination m → IsMessage source destination m b
spelled_is source destination m b fits options is = subst (IsMessage source destination m) (sym is) (message_canonical source destination m fits options)

-- what the writer owes, with its bytes as a whole
pub read_back_is : (source destination : Address) (m : Said) (b : List ℕ) → HasWidths m → WritesOptions m → b ≡ message_bytes source destination m → message_of source destination b ≡ Ok m
read_back_is source destination m b fits options is = message_read source destination b m (spelled_is source destination m b fits options is)
