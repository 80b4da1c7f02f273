-- How a configuration is spelled.
use Rattle.std.specs.Prelude.{ℕ, List, [], ◌∷◌, ◌++◌, Option, Some, None, codes, decimal, map}
use Rattle.mip_words.specs.Hex.{hex_of}
use Rattle.mip_words.specs.declared.address.Address.{Address}
use Rattle.mip_words.specs.declared.ids.NodeId.{NodeId}
use Rattle.mip_lines.specs.HexFields.{address_hex, number_hex, hex_text}
use Rattle.mip_lines.specs.Lines.{lines_text}
use Rattle.mip_symbols.specs.Spelled.{or_word}
use Rattle.mip_frames.specs.declared.route.Route.{Route}
use Rattle.mip_config.specs.Configs.{Content}
use Rattle.mip_config.specs.declared.payload.Payload.{Payload}
use Rattle.mip_config.specs.declared.role.Role.{Role}
use Rattle.mip_config.specs.declared.role.Role.TheVariants.{Agent, Correspondent, Mobile}

-- the version, the seed, the number of the node and its port
abbrev pub head_rows : List ℕ → NodeId → ℕ → List (List (List ℕ))
head_rows seed node port = (codes "mip" ∷ codes "1" ∷ []) ∷ (codes "seed" ∷ hex_of seed ∷ []) ∷ (codes "self" ∷ decimal node.0 ∷ []) ∷ (codes "port" ∷ decimal port ∷ []) ∷ []

abbrev pub route_text : Route → List (List ℕ)
route_text r = codes "route" ∷ number_hex 8 r.prefix.0 ∷ decimal r.port ∷ []

abbrev pub default_text : ℕ → List (List ℕ)
default_text port = codes "default" ∷ decimal port ∷ []

-- one line, or none
abbrev pub default_rows : Option ℕ → List (List (List ℕ))
default_rows None = []
default_rows (Some port) = default_text port ∷ []

-- the line of the role, by its word
abbrev pub role_text : Role → List (List ℕ)
role_text (Agent address preference life room) = codes "agent" ∷ address_hex address ∷ decimal preference ∷ decimal life ∷ decimal room ∷ []
role_text (Correspondent address room) = codes "correspondent" ∷ address_hex address ∷ decimal room ∷ []
role_text (Mobile address agent) = codes "mobile" ∷ address_hex address ∷ or_word (codes "find") address_hex agent ∷ []

abbrev pub serve_text : Address → List (List ℕ)
serve_text home = codes "serve" ∷ address_hex home ∷ []

abbrev pub payload_text : Payload → List (List ℕ)
payload_text p = codes "payload" ∷ decimal p.turn ∷ address_hex p.to ∷ decimal p.proto ∷ hex_text p.payload ∷ []

-- the lines behind the head: routes, the default, the role, homes, payloads
abbrev pub body_rows : Content → List (List (List ℕ))
body_rows c = map route_text c.routes ++ (default_rows c.fallback ++ (role_text c.role ∷ (map serve_text c.serves ++ map payload_text c.payloads)))

abbrev pub config_rows : Content → List (List (List ℕ))
config_rows c = head_rows c.seed c.node c.port ++ body_rows c

-- the text of a configuration
unfoldable pub spelling : Content → List ℕ
spelling c = lines_text (config_rows c)
