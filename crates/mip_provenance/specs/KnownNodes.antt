-- What is known of nodes in front of a sight, and how the sight names a token by it.
use Rattle.std.specs.Prelude.{ℕ, false, ◌||◌, if◌then◌else◌, Option, Some, None}
use Rattle.mip_packets.specs.Says.Carried.{Test}
use Rattle.mip_provenance.specs.declared.known.Known.{Known}
use Rattle.mip_provenance.specs.Sights.{Sight}
use Rattle.mip_provenance.specs.Sights.Sight.{Sent}
use Rattle.mip_provenance.specs.Names.{Naming, is_agent, lives}

-- a node of which no entry tells
abbrev pub stranger : Known
stranger = record { is_agent = false; life = 0 }

-- what is known of node n after one more sight
abbrev pub known_step : ℕ → Sight → Known → Known
known_step n s k = record { is_agent = k.is_agent || is_agent n s; life = lives n k.life s }

-- how a sight names a token, by what is known of nodes
abbrev pub naming_known : (ℕ → Known) → Sight → Option Naming
naming_known known (Sent number node (Test kind index token destination)) =
    if (known node).is_agent then None
    else Some (record { number = number; token = token; name = record { node = node; life = (known node).life; kind = kind; address = destination; index = index } })
naming_known known _ = None
