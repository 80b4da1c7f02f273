-- A line of a configuration that is read is spelled so.
use Rattle.std.proofs.Common.{◌≡◌, ℕ, List, ◌∷◌, refl, ap, ◌∙◌}
use Rattle.std.specs.Prelude.{Option, Some, None, Result, Ok, codes}
use Rattle.std.specs.Str.{bytes_eq}
use Rattle.std.proofs.lemmas.Bool.{cond_both}
use Rattle.std.proofs.lemmas.Slice.Eq.{bytes_eq-Decides}
use Rattle.mip_words.specs.declared.address.Address.{Address}
use Rattle.mip_words.proofs.StepLaws.{bind_ok, ok_is}
use Rattle.mip_lines.specs.HexFields.{address_hex}
use Rattle.mip_lines.specs.RowsLaws.{Spells}
use Rattle.mip_lines.proofs.RowLaws.{row1-spelled, row2-spelled, row4-spelled}
use Rattle.mip_symbols.specs.Kinds as kinds
use Rattle.mip_symbols.specs.Spelled.{or_word}
use Rattle.mip_symbols.specs.declared.reason.Reason.{Reason}
use Rattle.mip_symbols.specs.declared.reason.Reason.TheVariants as reasons
use Rattle.mip_symbols.proofs.KindLaws.{prefix-spells, address-spells, number-spells, bytes-spells, worded}
use Rattle.mip_config.specs.Rows.{some_agent, route_row, default_row, agent_row, correspondent_row, mobile_row, role_row, serve_row, payload_row}
use Rattle.mip_config.specs.declared.role.Role.{Role}
use Rattle.mip_config_writing.specs.Spelling.{route_text, default_text, role_text, serve_text, payload_text}

abbrev pub Spelled : {X : Type 0} → List ℕ → (List (List ℕ) → Result X Reason) → (X → List (List ℕ)) → Type 0
Spelled {X} word row text = (fields : List (List ℕ)) (x : X) → row fields ≡ Ok x → word ∷ fields ≡ text x

some_agent_spells : Spells some_agent (or_word (codes "find") address_hex)
some_agent_spells f o =
    cond_both (bytes_eq f (codes "find")) _ _ (λ (r : Result (Option Address) Reason). r ≡ Ok o → f ≡ or_word (codes "find") address_hex o)
    (λ test e. (bytes_eq-Decides f (codes "find")).0 test ∙ ap (or_word (codes "find") address_hex) (ok_is None o e))
    (λ _ e.
    let x = bind_ok (kinds.address f) (λ y. Ok (Some y)) o e in
    address-spells f x.0 x.1 ∙ ap (or_word (codes "find") address_hex) (ok_is (Some x.0) o x.2))

pub route_spelled : Spelled (codes "route") route_row route_text
unfolding route_row
route_spelled = row2-spelled reasons.Form route_text (codes "route") prefix-spells (number-spells 1 65535) (λ p n. refl)

pub default_spelled : Spelled (codes "default") default_row default_text
unfolding default_row
default_spelled = row1-spelled reasons.Form default_text (codes "default") (number-spells 1 65535) (λ n. refl)

agent_spelled : Spelled (codes "agent") agent_row role_text
unfolding agent_row
agent_spelled = row4-spelled reasons.Form role_text (codes "agent") address-spells (number-spells 0 65535) (number-spells 0 65535) (number-spells 1 64) (λ a p l r. refl)

correspondent_spelled : Spelled (codes "correspondent") correspondent_row role_text
unfolding correspondent_row
correspondent_spelled = row2-spelled reasons.Form role_text (codes "correspondent") address-spells (number-spells 1 64) (λ a r. refl)

mobile_spelled : Spelled (codes "mobile") mobile_row role_text
unfolding mobile_row
mobile_spelled = row2-spelled reasons.Form role_text (codes "mobile") address-spells some_agent_spells (λ a g. refl)

pub role_spelled : (word : List ℕ) → Spelled word (role_row word) role_text
unfolding role_row
role_spelled word fields x =
    let P : Result Role Reason → Type 0 = λ r. r ≡ Ok x → word ∷ fields ≡ role_text x in
    cond_both (bytes_eq word (codes "agent")) _ _ P (λ test e. worded word (codes "agent") fields (role_text x) test (agent_spelled fields x e)) (λ _.
    cond_both (bytes_eq word (codes "correspondent")) _ _ P (λ test e. worded word (codes "correspondent") fields (role_text x) test (correspondent_spelled fields x e)) (λ _.
    cond_both (bytes_eq word (codes "mobile")) _ _ P (λ test e. worded word (codes "mobile") fields (role_text x) test (mobile_spelled fields x e)) (λ _.
    λ e. absurd cc)))

pub serve_spelled : Spelled (codes "serve") serve_row serve_text
unfolding serve_row
serve_spelled = row1-spelled reasons.Form serve_text (codes "serve") address-spells (λ a. refl)

pub payload_spelled : Spelled (codes "payload") payload_row payload_text
unfolding payload_row
payload_spelled = row4-spelled reasons.Form payload_text (codes "payload") (number-spells 1 1000000) address-spells (number-spells 0 255) (bytes-spells 512) (λ t a p b. refl)
