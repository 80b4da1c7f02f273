-- A row's trial is with the row's peer.
use Rattle.std.specs.Prelude.{◌≡◌, ℕ, List, Some, IfSome}
use Rattle.mip_bulist.specs.declared.row.Row.{Row}
use Rattle.mip_bulist.specs.Rows.{lifted, peer_at, peer_of_any}

abbrev pub IsMine : List Row → ℕ → Type 0
IsMine rows row = IfSome (lifted row rows) (λ any. peer_at row rows ≡ Some (peer_of_any any))

abbrev pub AreMine : List Row → Type 0
AreMine rows = (row : ℕ) → IsMine rows row
