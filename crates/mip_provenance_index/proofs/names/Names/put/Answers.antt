use Rattle.std.proofs.Common.{ℕ}
use Rattle.std.specs.Ordering.{nat_cmp}
use Rattle.std.specs.BTreeMap.{get}
use Rattle.mip_provenance_index.proofs.Maps.{named_step}
use Rattle.mip_provenance_index.proofs.names.Names.put.Goals as goal

pub returns : goal.returns
returns c = λ t.
    named_step c.args.token.0 c.token_number-number.result c.token_number-number.ensures.number c.token_number-number.ensures.spelled c.args.named (λ (k : ℕ). get nat_cmp c.insert.new.self k)
    (λ (k : ℕ). get nat_cmp c.args.self.now.map k) (λ k. c.in_ok-insert.ensures.updates.0 k) t
