use Rattle.std.proofs.Common.{◌≡◌, length}
use Rattle.std.specs.Prelude.{Some}
use Rattle.mip_rows.specs.NameTables.{AreNamesFrom, link_numbered}
use Rattle.mip_rows.proofs.numbered.links.Given as goal

abbrev pub invariant-loop-link : goal.invariant-loop-link
invariant-loop-link l = AreNamesFrom (link_numbered (Some l.declared)) 0 l.list.items × (length l.list.items ≡ l.link)
