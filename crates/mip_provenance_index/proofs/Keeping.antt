-- What is kept of tokens after one more packet.
use Rattle.std.proofs.Common.{◌≡◌, ℕ, List, Bool, true, false, refl, ap, ◌∙◌}
use Rattle.std.specs.Prelude.{Option, Some, option_map, if◌then◌else◌}
use Rattle.std.specs.Str.{bytes_eq}
use Rattle.std.proofs.lemmas.Slice.Eq.{bytes_eq-Decides}
use Rattle.mip_provenance.specs.Names.{Naming}
use Rattle.mip_provenance_index.specs.declared.named.Named.{Named}
use Rattle.mip_provenance_index.specs.Names.{Kept, kept_of, renamed, kept_step}

-- the token of the packet is kept anew, and the others as they were
pub kept_put : (n : Naming) (new old : Option Named) (put : Named) (here : Option Kept) (t : List ℕ) → new ≡ (if bytes_eq n.token t then Some put else old)
    → kept_of put ≡ renamed n here → (n.token ≡ t → here ≡ option_map kept_of old) → option_map kept_of new ≡ kept_step t (Some n) (option_map kept_of old)
kept_put n new old put here t is made same = ap (λ (o : Option Named). option_map kept_of o) is ∙ by (bytes_eq n.token t) refl
  where
    by : (b : Bool) → bytes_eq n.token t ≡ b → option_map kept_of (if b then Some put else old) ≡ (if b then Some (renamed n (option_map kept_of old)) else option_map kept_of old)
    by true e = ap Some (made ∙ ap (renamed n) (same ((bytes_eq-Decides n.token t).0 e)))
    by false e = refl
