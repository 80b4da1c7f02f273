use Rattle.std.proofs.Common.{◌≡◌, subst, ℕ}
use Rattle.std.specs.Prelude.{◌==◌, ◌&&◌, if◌then◌else◌, Some}
use Rattle.mip_words.specs.declared.address.Address.{Address}
use Rattle.mip_proxynd.specs.Tables.{kept_at, kept_in}
use Rattle.mip_proxynd.specs.TablesLaws.{kept_after}
use Rattle.mip_proxynd.proofs.TableLaws.{heard-kept, on_ok}
use Rattle.mip_proxynd.proofs.table.Table.hear.Goals as goal

pub returns-in-Some-clause-ok : goal.returns-in-Some-clause-ok
returns-in-Some-clause-ok c =
    let says : kept_in c.args.message.now ≡ Some c.in-Some.kept = cc in
    on_ok c.keep.result (λ e heard is.
    heard-kept c.args.self.now c.keep.new.self heard c.args.link.0 c.args.message.now c.in-Some.kept says
    (subst (λ (t : Address). (l a : ℕ) → kept_at c.keep.new.self l a ≡ (if c.args.link.0 == l && t.0 == a then kept_after c.in-Some.kept (kept_at c.args.self.now l a) else kept_at c.args.self.now l a)) c.target.ensures e) is)
    c.keep.ensures.ok
