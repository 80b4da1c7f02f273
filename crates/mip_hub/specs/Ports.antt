-- Which port an address is at.
use Rattle.std.specs.Prelude.{ℕ, List, [], ◌∷◌, ◌++◌, Bool, not, ◌==◌, Option, option_map}
use Rattle.std.specs.List.{filter, find}
use Rattle.mip_words.specs.declared.address.Address.{Address}
use Rattle.mip_hub.specs.declared.port_row.PortRow.{PortRow}

abbrev pub is_of : Address → PortRow → Bool
is_of address row = row.address.0 == address.0

-- the port that has an address
unfoldable pub port_at : List PortRow → Address → Option ℕ
port_at rows address = option_map (λ row. row.port) (find (is_of address) rows)

unfoldable pub without : Address → List PortRow → List PortRow
without address rows = filter (λ row. not (is_of address row)) rows

-- the address is at this port, whoever had it
unfoldable pub with_port : Address → ℕ → List PortRow → List PortRow
with_port address port rows = without address rows ++ record { address = address; port = port } ∷ []
