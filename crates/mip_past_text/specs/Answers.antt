-- How questions are answered.
use Rattle.std.specs.Prelude.{ℕ, List, [], ◌∷◌, Bool, true, false, Option, Some, None, codes, decimal}
use Rattle.mip_words.specs.declared.address.Address.{Address}
use Rattle.mip_words.specs.declared.moment.Moment.{Moment}
use Rattle.mip_lines.specs.HexFields.{address_hex}
use Rattle.mip_lines.specs.Lines.{line_text}
use Rattle.mip_symbols.specs.Spelled.{or_word}
use Rattle.mip_rules_mobile.specs.declared.attachment.Attachment.{Attachment}
use Rattle.mip_rules_mobile.specs.declared.attachment.Attachment.TheVariants.{Detached, AtHome, Away}

-- an answer, and `-` where there is none
abbrev pub address_answer : Option Address → List ℕ
address_answer answer = or_word (codes "-") address_hex answer

abbrev pub careof_answer : Option ℕ → List ℕ
careof_answer answer = or_word (codes "-") (λ a. address_hex (record { 0 = a })) answer

abbrev pub number_answer : Option ℕ → List ℕ
number_answer answer = or_word (codes "-") decimal answer

abbrev pub moment_answer : Option Moment → List ℕ
moment_answer answer = or_word (codes "-") (λ m. decimal m.0) answer

abbrev pub standing_answer : Attachment → List ℕ
standing_answer Detached = codes "-"
standing_answer AtHome = codes "home"
standing_answer (Away careof) = codes "away"

abbrev pub yes_or_no : Bool → List ℕ
yes_or_no true = codes "yes"
yes_or_no false = codes "no"

-- the line of a question that has an answer; none where there is none
abbrev pub line_if : (question node : List ℕ) → Option Address → List ℕ
line_if question node None = []
line_if question node (Some answer) = line_text (question ∷ node ∷ address_hex answer ∷ [])
