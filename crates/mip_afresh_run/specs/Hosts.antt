-- A node, or none.
use Rattle.std.specs.Prelude.{List, [], ◌∷◌, Option, Some, None}
use Rattle.mip_history.specs.Setup.{Host}

abbrev pub any_host : Option Host → List Host
any_host None = []
any_host (Some host) = host ∷ []
