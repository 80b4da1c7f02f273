-- A declaration that is read is spelled so.
use Rattle.std.proofs.Common.{◌≡◌, ℕ, List, [], ◌∷◌, refl}
use Rattle.std.specs.Prelude.{Result, Ok, codes}
use Rattle.std.specs.Str.{bytes_eq}
use Rattle.std.proofs.lemmas.Bool.{cond_both}
use Rattle.mip_lines.proofs.RowLaws.{row1-spelled, row2-spelled, row4-spelled, row6-spelled}
use Rattle.mip_schedule.specs.DeclarationRows.{link_row, agent_row, correspondent_row, mobile_row, serve_row, outsider_row, node_fields, declaration_fields}
use Rattle.mip_schedule.specs.DeclarationTimes.{declaration_line}
use Rattle.mip_schedule.specs.Spelling.{declaration_text}
use Rattle.mip_symbols.specs.declared.declaration.Declaration.{Declaration}
use Rattle.mip_symbols.specs.declared.reason.Reason.{Reason}
use Rattle.mip_symbols.specs.declared.reason.Reason.TheVariants as reasons
use Rattle.mip_schedule.proofs.FewLaws.{line_free}
use Rattle.mip_symbols.proofs.KindLaws.{new_name-spells, prefix-spells, link-spells, address-spells, number-spells, some_agent-spells, agent-spells, mobile-spells, worded}

abbrev Spelled : List Declaration → List ℕ → (List (List ℕ) → Result Declaration Reason) → Type 0
Spelled ds word row = (fields : List (List ℕ)) (x : Declaration) → row fields ≡ Ok x → word ∷ fields ≡ declaration_text ds x

link-spelled : (ds : List Declaration) → Spelled ds (codes "link") (link_row ds)
unfolding link_row
link-spelled ds = row2-spelled reasons.Form (declaration_text ds) (codes "link") (new_name-spells ds) prefix-spells (λ n p. refl)

agent-spelled : (ds : List Declaration) → Spelled ds (codes "agent") (agent_row ds)
unfolding agent_row
agent-spelled ds = row6-spelled reasons.Form (declaration_text ds) (codes "agent") (new_name-spells ds) (link-spells ds) address-spells (number-spells 0 65535) (number-spells 0 65535) (number-spells 1 64) (λ n l a p t r. refl)

correspondent-spelled : (ds : List Declaration) → Spelled ds (codes "correspondent") (correspondent_row ds)
unfolding correspondent_row
correspondent-spelled ds = row4-spelled reasons.Form (declaration_text ds) (codes "correspondent") (new_name-spells ds) (link-spells ds) address-spells (number-spells 1 64) (λ n l a r. refl)

mobile-spelled : (ds : List Declaration) → Spelled ds (codes "mobile") (mobile_row ds)
unfolding mobile_row
mobile-spelled ds = row4-spelled reasons.Form (declaration_text ds) (codes "mobile") (new_name-spells ds) (link-spells ds) address-spells (some_agent-spells ds) (λ n l a g. refl)

serve-spelled : (ds : List Declaration) → Spelled ds (codes "serve") (serve_row ds)
unfolding serve_row
serve-spelled ds = row2-spelled reasons.Form (declaration_text ds) (codes "serve") (agent-spells ds) (mobile-spells ds) (λ g m. refl)

outsider-spelled : (ds : List Declaration) → Spelled ds (codes "outsider") (outsider_row ds)
unfolding outsider_row
outsider-spelled ds = row1-spelled reasons.Form (declaration_text ds) (codes "outsider") (new_name-spells ds) (λ n. refl)

node-fields-spelled : (ds : List Declaration) (word : List ℕ) (fields : List (List ℕ)) (x : Declaration) → node_fields ds word fields ≡ Ok x → word ∷ fields ≡ declaration_text ds x
unfolding node_fields
node-fields-spelled ds word fields x =
    let P : Result Declaration Reason → Type 0 = λ r. r ≡ Ok x → word ∷ fields ≡ declaration_text ds x in
    cond_both (bytes_eq word (codes "agent")) _ _ P (λ test e. worded word (codes "agent") fields (declaration_text ds x) test (agent-spelled ds fields x e)) (λ _.
    cond_both (bytes_eq word (codes "correspondent")) _ _ P (λ test e. worded word (codes "correspondent") fields (declaration_text ds x) test (correspondent-spelled ds fields x e)) (λ _.
    cond_both (bytes_eq word (codes "mobile")) _ _ P (λ test e. worded word (codes "mobile") fields (declaration_text ds x) test (mobile-spelled ds fields x e)) (λ _.
    λ e. absurd cc)))

fields-spelled : (ds : List Declaration) (row : List (List ℕ)) (x : Declaration) → declaration_fields ds row ≡ Ok x → row ≡ declaration_text ds x
unfolding declaration_fields
fields-spelled ds [] x = λ e. absurd cc
fields-spelled ds (word ∷ fields) x =
    let P : Result Declaration Reason → Type 0 = λ r. r ≡ Ok x → word ∷ fields ≡ declaration_text ds x in
    cond_both (bytes_eq word (codes "link")) _ _ P (λ test e. worded word (codes "link") fields (declaration_text ds x) test (link-spelled ds fields x e)) (λ _.
    cond_both (bytes_eq word (codes "serve")) _ _ P (λ test e. worded word (codes "serve") fields (declaration_text ds x) test (serve-spelled ds fields x e)) (λ _.
    cond_both (bytes_eq word (codes "outsider")) _ _ P (λ test e. worded word (codes "outsider") fields (declaration_text ds x) test (outsider-spelled ds fields x e)) (λ _.
    node-fields-spelled ds word fields x)))

-- a line of declarations that is read is spelled so
pub declaration-spelled : (ds : List Declaration) (row : List (List ℕ)) (x : Declaration) → declaration_line ds row ≡ Ok x → row ≡ declaration_text ds x
declaration-spelled ds row x e = fields-spelled ds row x (line_free ds row x e).0
