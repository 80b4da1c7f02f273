use Rattle.std.proofs.Common.{Bool, ◌∙◌, ap, Some}
use Rattle.std.specs.Prelude.{if◌then◌else◌}
use Rattle.mip_provenance_index.specs.Firsts.{first_at}
use Rattle.mip_provenance_index.proofs.Maps.{is_eq_keys}
use Rattle.mip_provenance_index.proofs.firsts.Firsts.put.Goals as goal

pub returns : goal.returns
returns c = λ k. c.in_ok-insert.ensures.updates.0 k ∙ ap (λ (b : Bool). if b then Some c.args.first else first_at c.args.self.now k) (is_eq_keys c.args.key k)
