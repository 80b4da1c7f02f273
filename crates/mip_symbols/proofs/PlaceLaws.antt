-- Few links, nodes and outsiders have small places.
use Rattle.std.proofs.Common.{◌≡◌, Bool, nat_lt, ℕ, ◌<◌, ◌≤◌, List, length, arith, subst}
use Rattle.std.specs.Prelude.{Option, Some, ◌&&◌}
use Rattle.std.specs.List.{position, position_or_len}
use Rattle.std.proofs.lemmas.Bool.{cond_both, ltb-true}
use Rattle.mip_symbols.specs.Places.{AreFew, members, place_of, fits, is_named}
use Rattle.mip_symbols.specs.declared.declaration.Declaration.{Declaration}
use Rattle.mip_symbols.specs.declared.places.Sort.{Sort}
use Rattle.mip_symbols.specs.declared.places.Sort.TheVariants.{Link, Outsider, Node, Agent, Mobile, Host}

position_lt : {X : Type 0} (p : X → Bool) (xs : List X) (i : ℕ) → position p xs ≡ Some i → i < length xs
position_lt p xs i =
    cond_both (nat_lt (position_or_len p xs) (length xs)) _ _ (λ (o : Option ℕ). o ≡ Some i → i < length xs)
    (λ near e. let same : position_or_len p xs ≡ i = cc in subst (λ (k : ℕ). k < length xs) same (ltb-true (position_or_len p xs) (length xs) near))
    (λ _ e. absurd cc)

members_few : (sort : Sort) (ds : List Declaration) → AreFew ds → length (members sort ds) ≤ 32
unfolding members
members_few Link ds few = few.links
members_few Outsider ds few = omega (arith, few.outsiders)
members_few Node ds few = few.nodes
members_few Agent ds few = few.nodes
members_few Mobile ds few = few.nodes
members_few Host ds few = few.nodes

pub place_small : (sort : Sort) (field : List ℕ) (ds : List Declaration) (p : ℕ) → place_of sort field ds ≡ Some p → AreFew ds → p < 32
unfolding place_of
place_small sort field ds p e few =
    let low = position_lt (λ d. fits sort d && is_named field d) (members sort ds) p e in
    let most = members_few sort ds few in
    omega arith

-- a place is one of what is numbered together with its sort
pub place_within : (sort : Sort) (field : List ℕ) (ds : List Declaration) (p : ℕ) → place_of sort field ds ≡ Some p → p < length (members sort ds)
unfolding place_of
place_within sort field ds p e = position_lt (λ d. fits sort d && is_named field d) (members sort ds) p e
