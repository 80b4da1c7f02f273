-- The lines of declarations: what each reads.
use Rattle.std.specs.Prelude.{ℕ, List, [], ◌∷◌, if◌then◌else◌, Result, Err, codes}
use Rattle.std.specs.Str.{bytes_eq}
use Rattle.mip_lines.specs.Rows.{row1, row2, row4, row6}
use Rattle.mip_symbols.specs.Kinds as kinds
use Rattle.mip_symbols.specs.declared.declaration.Declaration.{Declaration}
use Rattle.mip_symbols.specs.declared.declaration.Declaration.TheVariants as declare
use Rattle.mip_symbols.specs.declared.places.Sort.TheVariants as sorts
use Rattle.mip_symbols.specs.declared.reason.Reason.{Reason}
use Rattle.mip_symbols.specs.declared.reason.Reason.TheVariants as reasons

-- how many bindings a cache has room for
abbrev pub room : List ℕ → Result ℕ Reason
room field = kinds.number 1 64 field

abbrev pub u16 : List ℕ → Result ℕ Reason
u16 field = kinds.number 0 65535 field

unfoldable pub link_row : List Declaration → List (List ℕ) → Result Declaration Reason
link_row ds fields = row2 reasons.Form (kinds.new_name ds) kinds.prefix (λ n p. declare.Link n p) fields

unfoldable pub agent_row : List Declaration → List (List ℕ) → Result Declaration Reason
agent_row ds fields = row6 reasons.Form (kinds.new_name ds) (kinds.link ds) kinds.address u16 u16 room (λ n l a p t r. declare.Agent n l a p t r) fields

unfoldable pub correspondent_row : List Declaration → List (List ℕ) → Result Declaration Reason
correspondent_row ds fields = row4 reasons.Form (kinds.new_name ds) (kinds.link ds) kinds.address room (λ n l a r. declare.Correspondent n l a r) fields

unfoldable pub mobile_row : List Declaration → List (List ℕ) → Result Declaration Reason
mobile_row ds fields = row4 reasons.Form (kinds.new_name ds) (kinds.link ds) kinds.address (kinds.some_agent ds) (λ n l a g. declare.Mobile n l a g) fields

unfoldable pub serve_row : List Declaration → List (List ℕ) → Result Declaration Reason
serve_row ds fields = row2 reasons.Form (kinds.node sorts.Agent ds) (kinds.node sorts.Mobile ds) (λ g m. declare.Serve g m) fields

unfoldable pub outsider_row : List Declaration → List (List ℕ) → Result Declaration Reason
outsider_row ds fields = row1 reasons.Form (kinds.new_name ds) (λ n. declare.Outsider n) fields

-- a line of a node
unfoldable pub node_fields : List Declaration → List ℕ → List (List ℕ) → Result Declaration Reason
node_fields ds word fields =
    if bytes_eq word (codes "agent") then agent_row ds fields
    else if bytes_eq word (codes "correspondent") then correspondent_row ds fields
    else if bytes_eq word (codes "mobile") then mobile_row ds fields
    else Err reasons.Form

-- a line of declarations by its first field
unfoldable pub declaration_fields : List Declaration → List (List ℕ) → Result Declaration Reason
declaration_fields ds [] = Err reasons.Form
declaration_fields ds (word ∷ fields) =
    if bytes_eq word (codes "link") then link_row ds fields
    else if bytes_eq word (codes "serve") then serve_row ds fields
    else if bytes_eq word (codes "outsider") then outsider_row ds fields
    else node_fields ds word fields
