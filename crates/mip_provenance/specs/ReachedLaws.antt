-- Laws and invariants of Reached: only proofs stand on them.
use Rattle.std.specs.Prelude.{ℕ, List, Bool, false, ◌&&◌, ◌==◌}
use Rattle.std.specs.List.{list_any}
use Rattle.std.specs.Str.{bytes_eq}
use Rattle.mip_packets.specs.Says.{Carried}
use Rattle.mip_packets.specs.Says.Carried.{Test}
use Rattle.mip_provenance.specs.declared.maker.Maker.{Maker}
use Rattle.mip_provenance.specs.declared.maker.Maker.TheVariants.{Node, Outsider}
use Rattle.mip_provenance.specs.Sights.{Sight}
use Rattle.mip_provenance.specs.Sights.Sight.{Sent, Injected, Handed}
use Rattle.mip_provenance.specs.Reached.{is_token, is_heard}

abbrev pub says_token : List ℕ → Carried → Bool
says_token token (Test kind index t destination) = bytes_eq t token
says_token token _ = false

-- somebody posts a test with the token
abbrev pub carries : List ℕ → Sight → Bool
carries token (Sent number node carried) = says_token token carried
carries token (Injected number outsider carried) = says_token token carried
carries token _ = false

-- a node is handed the token
abbrev pub is_handed : ℕ → List ℕ → Sight → Bool
is_handed node token (Handed n t) = n == node && is_token token t
is_handed node token _ = false

-- the token reaches a node or an outsider
abbrev pub reaches : Maker → List ℕ → Sight → Bool
reaches (Node node) token s = is_handed node.0 token s
reaches (Outsider outsider) token s = is_heard outsider token s

-- the token has reached it in these sights
abbrev pub has_reached : Maker → List ℕ → List Sight → Bool
has_reached maker token seen = list_any (reaches maker token) seen
