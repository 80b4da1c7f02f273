-- A node that is a correspondent, or none.
use Rattle.std.specs.Prelude.{ℕ, Bool, true, Option, Some, None, slice_get}
use Rattle.mip_history.specs.Setup.{Setup, Host}
use Rattle.mip_history.specs.SetupLaws.{is_correspondent_kind}

abbrev pub is_plain : Option Host → Bool
is_plain None = true
is_plain (Some host) = is_correspondent_kind host.kind

abbrev pub is_plain_at : Setup → ℕ → Bool
is_plain_at s n = is_plain (slice_get s.hosts n)
