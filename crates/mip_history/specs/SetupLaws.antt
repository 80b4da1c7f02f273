-- Laws and invariants of Setup: only proofs stand on them.
use Rattle.std.specs.Prelude.{ℕ, Bool, true, false, Option, Some, None, slice_get}
use Rattle.mip_history.specs.Setup.{Kind, Host, Setup}
use Rattle.mip_history.specs.Setup.Kind.{Correspondent}

abbrev pub is_correspondent_kind : Kind → Bool
is_correspondent_kind (Correspondent room) = true
is_correspondent_kind _ = false

abbrev pub is_correspondent_host : Option Host → Bool
is_correspondent_host None = false
is_correspondent_host (Some host) = is_correspondent_kind host.kind

-- node n is a correspondent
abbrev pub is_correspondent_at : Setup → ℕ → Bool
is_correspondent_at s n = is_correspondent_host (slice_get s.hosts n)
