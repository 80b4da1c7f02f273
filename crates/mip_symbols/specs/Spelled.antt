-- How names, and words for none, are spelled.
use Rattle.std.specs.Prelude.{ℕ, List, Bool, true, false, Option, Some, None, codes}
use Rattle.mip_words.specs.declared.ids.LinkId.{LinkId}
use Rattle.mip_words.specs.declared.ids.NodeId.{NodeId}
use Rattle.mip_symbols.specs.Places.{name_at}
use Rattle.mip_symbols.specs.declared.declaration.Declaration.{Declaration}
use Rattle.mip_symbols.specs.declared.places.Sort.TheVariants as sorts

abbrev pub link_text : List Declaration → LinkId → List ℕ
link_text ds l = name_at sorts.Link l.0 ds

abbrev pub node_text : List Declaration → NodeId → List ℕ
node_text ds n = name_at sorts.Node n.0 ds

abbrev pub outsider_text : List Declaration → ℕ → List ℕ
outsider_text ds o = name_at sorts.Outsider o ds

-- a word for none
abbrev pub or_word : {A : Type 0} → List ℕ → (A → List ℕ) → Option A → List ℕ
or_word word text None = word
or_word word text (Some x) = text x

abbrev pub careof_text : Bool → List ℕ
careof_text true = codes "careof"
careof_text false = codes "home"
