-- A name that is found is that of its place, which is declared.
use Rattle.std.proofs.Common.{◌≡◌, ℕ, ◌<◌, List, length, Bool, nat_lt, ap, subst}
use Rattle.std.specs.Prelude.{Option, Some, Ok, ◌&&◌}
use Rattle.std.specs.List.{position, position_or_len}
use Rattle.std.proofs.lemmas.Bool.{cond_both, ltb-true}
use Rattle.mip_words.specs.Steps.{◌>>=◌}
use Rattle.mip_words.specs.declared.ids.LinkId.{LinkId}
use Rattle.mip_words.specs.declared.ids.NodeId.{NodeId}
use Rattle.mip_symbols.specs.Kinds.{or_reason, place, link, node, outsider}
use Rattle.mip_symbols.specs.Places.{members, fits, is_named, place_of}
use Rattle.mip_symbols.specs.Spelled.{link_text, node_text, outsider_text}
use Rattle.mip_symbols.specs.declared.declaration.Declaration.{Declaration}
use Rattle.mip_symbols.specs.declared.places.Sort.{Sort}
use Rattle.mip_symbols.specs.declared.places.Sort.TheVariants as sorts
use Rattle.mip_symbols.specs.declared.reason.Reason.TheVariants as reasons
use Rattle.mip_symbols.proofs.KindLaws.{link-spells, node-spells, outsider-spells}

inside : {X : Type 0} (p : X → Bool) (xs : List X) (i : ℕ) → position p xs ≡ Some i → i < length xs
inside p xs i =
    cond_both (nat_lt (position_or_len p xs) (length xs)) _ _ (λ (o : Option ℕ). o ≡ Some i → i < length xs)
    (λ near e. let same : position_or_len p xs ≡ i = cc in subst (λ (k : ℕ). k < length xs) same (ltb-true (position_or_len p xs) (length xs) near))
    (λ _ e. absurd cc)

pub place_declared : (sort : Sort) (field : List ℕ) (ds : List Declaration) (p : ℕ) → place_of sort field ds ≡ Some p → p < length (members sort ds)
unfolding place_of
place_declared sort field ds p e = inside (λ d. fits sort d && is_named field d) (members sort ds) p e

abbrev link_id : ℕ → LinkId
link_id p = record { 0 = p }

abbrev node_id : ℕ → NodeId
node_id p = record { 0 = p }

pub link_place : (ds : List Declaration) (field : List ℕ) (p : ℕ) → place_of sorts.Link field ds ≡ Some p → field ≡ link_text ds (link_id p)
unfolding place link
link_place ds field p e = link-spells ds field (link_id p) (ap (λ (o : Option ℕ). or_reason reasons.Name o >>= (λ q. Ok (link_id q))) e)

pub node_place : (ds : List Declaration) (field : List ℕ) (p : ℕ) → place_of sorts.Node field ds ≡ Some p → field ≡ node_text ds (node_id p)
unfolding place node
node_place ds field p e = node-spells ds field (node_id p) (ap (λ (o : Option ℕ). or_reason reasons.Name o >>= (λ q. Ok (node_id q))) e)

pub outsider_place : (ds : List Declaration) (field : List ℕ) (p : ℕ) → place_of sorts.Outsider field ds ≡ Some p → field ≡ outsider_text ds p
unfolding place outsider
outsider_place ds field p e = outsider-spells ds field p (ap (λ (o : Option ℕ). or_reason reasons.Name o) e)
