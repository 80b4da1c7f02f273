-- The means by which the maker of an update could make it: an outsider has what it heard, and a mobile tells what it used.
use Rattle.std.specs.Prelude.{◌≡◌, ℕ, List, ◌==◌, ◌&&◌, if◌then◌else◌, true, Option, Some, None, option_map, ⊤, ◌⊎◌}
use Rattle.mip_entries.specs.declared.entry.Entry.{Entry}
use Rattle.mip_entries.specs.declared.entry.Entry.TheVariants as entries
use Rattle.mip_words.specs.declared.ids.NodeId.{NodeId}
use Rattle.mip_provenance.specs.declared.accepted_update.AcceptedUpdate.{AcceptedUpdate}
use Rattle.mip_provenance.specs.declared.maker.Maker.{Maker}
use Rattle.mip_provenance.specs.declared.maker.Maker.TheVariants.{Node, Outsider}
use Rattle.mip_provenance.specs.Lists.{first_some}
use Rattle.mip_provenance.specs.Sights.{Sight}
use Rattle.mip_provenance.specs.Names.{Name, is_misnamed}
use Rattle.mip_provenance.specs.Causes.{is_early}
use Rattle.mip_provenance.specs.Origins.{HasOrigin}
use Rattle.mip_provenance.specs.Pairs.{Pair}

-- the tokens from which a mobile made packet k, as its entry tells
abbrev pub made_told : NodeId → ℕ → Entry → Option Pair
made_told node k (entries.Made n peer number home careof) = if n.0 == node.0 && number == k then Some (record { home = home.0; careof = option_map (λ t. t.0) careof }) else None
made_told node k _ = None

-- a mobile tells first of packet k that it made it from these tokens; an outsider tells nothing
abbrev pub IsMadeOf : List Entry → Maker → ℕ → (home : List ℕ) → (careof : Option (List ℕ)) → Type 0
IsMadeOf past (Node node) k home careof = first_some (made_told node k) past ≡ Some (record { home = home; careof = careof })
IsMadeOf past (Outsider outsider) k home careof = ⊤

-- both tokens of an accepted update had reached its maker before it posted its first packet, and it made it of them
pub record HadTokens (past : List Entry) (a : AcceptedUpdate) (hot : ℕ) (cot : Option ℕ) (update : ℕ) : Type 0 where
  pub origin : HasOrigin past a hot cot update
  pub made : IsMadeOf past origin.maker update origin.home_token origin.careof_token

-- an outsider injected a test with a token that had not come to it
pub record IsUsedEarly (seen : List Sight) : Type 0 where
  pub token : List ℕ
  pub early : is_early seen token ≡ true

-- a token was sent under two names
pub record IsSentOtherwise (seen : List Sight) : Type 0 where
  pub token : List ℕ
  pub name : Name
  pub other : is_misnamed seen token name ≡ true

-- what stands behind the cause of a forged mark
abbrev pub IsCause : List Sight → ℕ → Type 0
IsCause seen cause = (cause ≡ 1) ⊎ (((cause ≡ 2) × IsUsedEarly seen) ⊎ ((cause ≡ 3) × IsSentOtherwise seen))
