use Rattle.std.proofs.Common.{◌≡◌, length}
use Rattle.std.specs.Prelude.{Some}
use Rattle.mip_rows.specs.Names.{outsider_name}
use Rattle.mip_rows.specs.NameTables.{AreNamesFrom}
use Rattle.mip_rows.proofs.numbered.outsiders.Given as goal

abbrev pub invariant-loop-outsider : goal.invariant-loop-outsider
invariant-loop-outsider l = AreNamesFrom (outsider_name (Some l.declared)) 0 l.list.items × (length l.list.items ≡ l.outsider)
