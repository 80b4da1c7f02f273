use Rattle.std.proofs.Common.{ℕ, Bool, ◌∙◌, ap}
use Rattle.std.specs.Prelude.{◌||◌}
use Rattle.std.specs.Ordering.{nat_cmp}
use Rattle.std.specs.BTreeSet.{contains}
use Rattle.mip_provenance_index.specs.Early.{is_used}
use Rattle.mip_provenance_index.proofs.Maps.{token_step, bytes_eq_back}
use Rattle.mip_provenance_index.proofs.early.Early.add.Goals as goal

pub returns : goal.returns
returns c = λ t.
    token_step c.args.token.0 c.token_number-number.result c.token_number-number.ensures.number c.token_number-number.ensures.spelled (λ (k : ℕ). contains nat_cmp _ k)
    (λ (k : ℕ). contains nat_cmp c.args.self.now.tokens k) (λ k. c.in_ok-insert.ensures.updates.0 k) t
    ∙ ap (λ (b : Bool). is_used c.args.self.now t || b) (bytes_eq_back c.args.token.0 t)
