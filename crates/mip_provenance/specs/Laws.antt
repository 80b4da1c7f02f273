-- The local laws of a history's sights: what a node passes on, hears, is handed or makes an update from was posted before.
use Rattle.std.specs.Prelude.{◌≡◌, ℕ, List, [], true, false, Option, IfSome}
use Rattle.std.specs.List.{list_any}
use Rattle.mip_words.specs.EachAfter.{EachAfter}
use Rattle.mip_packets.specs.Says.Carried.{Test}
use Rattle.mip_provenance.specs.Sights.{Sight}
use Rattle.mip_provenance.specs.Sights.Sight.{Sent, Heard, Handed, Made}
use Rattle.mip_provenance.specs.ReachedLaws.{carries, is_handed}
use Rattle.mip_provenance.specs.Names.{is_agent}
use Rattle.mip_provenance.specs.Firsts.{is_post}

-- a mobile makes an update from tokens that it was handed, before it posts it
pub record IsMadeBefore (front : List Sight) (node number : ℕ) (home : List ℕ) (careof : Option (List ℕ)) : Type 0 where
  pub unposted : list_any (is_post number) front ≡ false
  pub home_came : list_any (is_handed node home) front ≡ true
  pub careof_came : IfSome careof (λ q. list_any (is_handed node q) front ≡ true)

-- a test with the token was posted before
abbrev pub WasPosted : List Sight → Option (List ℕ) → Type 0
WasPosted front token = IfSome token (λ t. list_any (carries t) front ≡ true)

-- an agent sends no test but one that was posted before; tests are heard and handed over once they are posted
abbrev pub IsLawful : List Sight → Sight → Type 0
IsLawful front (Sent number node (Test kind index token destination)) =
    list_any (is_agent node) front ≡ true → list_any (carries token) front ≡ true
IsLawful front (Heard outsider token) = WasPosted front token
IsLawful front (Handed node token) = WasPosted front token
IsLawful front (Made node number home careof) = IsMadeBefore front node number home careof
IsLawful front _ = Unit {0}

-- each sight meets the law of its kind
abbrev pub AreLawful : List Sight → Type 0
AreLawful seen = EachAfter IsLawful [] seen
