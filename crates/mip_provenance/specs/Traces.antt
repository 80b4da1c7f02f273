-- What a mark that is not forged says of the sights.
use Rattle.std.specs.Prelude.{◌≡◌, ℕ, List, true, Option, Some, None, ⊤}
use Rattle.std.specs.List.{find}
use Rattle.mip_words.specs.declared.address.Address.{Address}
use Rattle.mip_packets.specs.Says.{UpdateIdentity}
use Rattle.mip_provenance.specs.declared.maker.Maker.{Maker}
use Rattle.mip_provenance.specs.declared.accepted_update.AcceptedUpdate.{AcceptedUpdate}
use Rattle.mip_provenance.specs.Lists.{until}
use Rattle.mip_provenance.specs.Sights.{Sight}
use Rattle.mip_provenance.specs.ReachedLaws.{has_reached}
use Rattle.mip_provenance.specs.Names.{Naming, life_at, namings, is_own}
use Rattle.mip_provenance.specs.Firsts.{Post, is_post, post_at, key_at, first_update}
use Rattle.mip_provenance.specs.Pairs.{Pair, gives}
use Rattle.mip_provenance.specs.Causes.{Claim, home_claim, careof_claim_in}

-- a token reached the maker before packet k was posted, and the first packet that names it so has this number
pub record IsTraced (seen : List Sight) (maker : Maker) (k : ℕ) (claim : Claim) (number : ℕ) : Type 0 where
  pub reached : has_reached maker claim.token (until (is_post k) seen) ≡ true
  pub naming : Naming
  pub first : find (is_own claim.token claim.name) (namings seen) ≡ Some naming
  pub same : naming.number ≡ number

-- the care-of token likewise; none where the binding ends
abbrev pub IsCareofTraced : List Sight → AcceptedUpdate → Maker → ℕ → Option ℕ → Option (List ℕ) → Option ℕ → Type 0
IsCareofTraced seen a maker k (Some j) (Some q) (Some cot) = IsTraced seen maker k (careof_claim_in (life_at a.node.0 seen) a q j) cot
IsCareofTraced seen a maker k None None None = ⊤
IsCareofTraced seen a maker k _ _ _ = ⊥

pub record IsTracedMark (seen : List Sight) (a : AcceptedUpdate) (own : Address) (hot : ℕ) (cot : Option ℕ) (update : ℕ) : Type 0 where
  pub key : UpdateIdentity
  pub key_is : key_at seen a.number ≡ Some key
  pub first_is : first_update seen key ≡ Some update
  pub post : Post
  pub post_is : post_at seen update ≡ Some post
  pub pair : Pair
  pub authentic : gives own a.careof key pair ≡ true
  pub home : IsTraced seen post.maker update (home_claim seen a pair.home) hot
  pub careof : IsCareofTraced seen a post.maker update a.careof_index pair.careof cot
