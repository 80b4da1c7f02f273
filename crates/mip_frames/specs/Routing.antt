-- The ports that packets go to.
use Rattle.std.specs.Prelude.{ℕ, List, [], ◌∷◌, ◌++◌, length, Bool, ◌==◌, nat_lt, if◌then◌else◌, Option, Some, None}
use Rattle.std.specs.List.{find}
use Rattle.mip_words.specs.Addresses.{prefix_of, address_at}
use Rattle.mip_outside.specs.declared.put.Put.{Put}
use Rattle.mip_outside.specs.declared.put.Put.TheVariants.{Sent, NoRoute, Oversize}
use Rattle.mip_words.specs.declared.shield.Shield.{Shield}
use Rattle.mip_frames.specs.Framing.{frame_bytes}
use Rattle.mip_frames.specs.declared.route.Route.{Route}

-- whether a route is for the addresses with this prefix
abbrev pub is_route_to : ℕ → Route → Bool
is_route_to prefix route = route.prefix.0 == prefix

abbrev pub port_or : Option ℕ → Option Route → Option ℕ
port_or fallback None = fallback
port_or fallback (Some route) = Some route.port

-- the port of the first route for a prefix, else the fallback
abbrev pub port_to : List Route → Option ℕ → ℕ → Option ℕ
port_to routes fallback prefix = port_or fallback (find (is_route_to prefix) routes)

-- the port that a packet goes to: its destination is in the bytes 24 to 39 of its header (RFC 8200 section 3). Fewer bytes than a
-- header has name no destination, so no route is for them, and they go to the fallback
unfoldable pub port_of : List Route → Option ℕ → List ℕ → Option ℕ
port_of routes fallback packet =
    if nat_lt (length packet) 40 then fallback
    else port_to routes fallback (prefix_of (address_at 24 packet).0)

-- what becomes of a frame that goes to this port: one of more than 4,096 bytes is not sent
abbrev pub put_of : Option ℕ → List ℕ → Put
put_of None frame = NoRoute
put_of (Some port) frame = if nat_lt 4096 (length frame) then Oversize else Sent

-- the datagrams sent, after a frame went to this port or stayed
abbrev pub with_frame : Option ℕ → List ℕ → List (ℕ × List ℕ) → List (ℕ × List ℕ)
with_frame None frame items = items
with_frame (Some port) frame items = if nat_lt 4096 (length frame) then items else items ++ (port, frame) ∷ []

-- what becomes of a packet under a shield
abbrev pub put_for : List Route → Option ℕ → Option Shield → List ℕ → Put
put_for routes fallback shield packet = put_of (port_of routes fallback packet) (frame_bytes shield packet)

-- the datagrams sent, after a packet under a shield was put
abbrev pub sent_for : List Route → Option ℕ → Option Shield → List ℕ → List (ℕ × List ℕ) → List (ℕ × List ℕ)
sent_for routes fallback shield packet items = with_frame (port_of routes fallback packet) (frame_bytes shield packet) items
