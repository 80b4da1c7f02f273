use Rattle.std.proofs.Common.{◌≡◌, rules, Bool, ◌∙◌, ap}
use Rattle.std.specs.Prelude.{Some, ◌==◌, ◌&&◌, if◌then◌else◌}
use Rattle.mip_proxynd.specs.Tables.{TableRows, kept_at}
use Rattle.mip_proxynd.proofs.TableLaws.{pair_is}
use Rattle.mip_proxynd.proofs.table.Table.put.Goals as goal

pub returns-clause-ok : goal.returns-clause-ok
returns-clause-ok c = λ l a.
    let same : c.self.inside.rows.entries ≡ c.args.self.now = search rules in
    c.in_ok-insert.ensures.updates.0 (l, a)
    ∙ ap (λ (b : Bool). if b then Some c.args.kept else kept_at c.self.inside.rows.entries l a) (pair_is c.args.link.0 c.args.address.0 l a)
    ∙ ap (λ (rows : TableRows). if (c.args.link.0 == l && c.args.address.0 == a) then Some c.args.kept else kept_at rows l a) same
