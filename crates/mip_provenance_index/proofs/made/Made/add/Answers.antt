use Rattle.std.proofs.Common.{Bool, ◌∙◌, sym, ap}
use Rattle.std.specs.Prelude.{◌==◌, ◌&&◌, if◌then◌else◌, Some}
use Rattle.std.specs.BTreeMap.{get}
use Rattle.mip_provenance_index.specs.Made.{making_cmp}
use Rattle.mip_provenance_index.proofs.Maps.{is_eq_making}
use Rattle.mip_provenance_index.proofs.Making.{made_put, none_there}
use Rattle.mip_provenance_index.proofs.made.Made.add.Goals as goal

pub returns : goal.returns
returns c = λ n k.
    made_put c.args.pair (get making_cmp c.args.self.now.map (n, k)) (get making_cmp c.insert.new.self (n, k)) (c.args.node.0 == n && c.args.number == k)
    (c.in_ok-insert.ensures.updates.0 (n, k)
    ∙ ap (λ (b : Bool). if b then Some c.args.pair else get making_cmp c.args.self.now.map (n, k)) (is_eq_making (c.args.node.0, c.args.number) (n, k)))
    (none_there (λ n k. get making_cmp c.args.self.now.map (n, k)) c.args.node.0 c.args.number n k (sym c.contains_key.ensures ∙ c.if-contains_key.false))
