use Rattle.std.proofs.Common.{List, sym, ap, ◌∙◌, subst}
use Rattle.std.specs.Prelude.{slice_set, slice_index_or}
use Rattle.mip_afresh.specs.contracts.telling.Telling.{the_view}
use Rattle.mip_afresh.specs.declared.role.Role.{Role}
use Rattle.mip_afresh.specs.declared.role.Role.TheVariants.{Plain}
use Rattle.mip_afresh.specs.Tellings.{TellingSeen}
use Rattle.mip_afresh.specs.Roles.{IsTaken}
use Rattle.mip_afresh.proofs.RoleLaws.{seen, taken}
use Rattle.mip_afresh.proofs.telling.Telling.take_role.Goals as goal

pub returns : goal.returns
returns c =
    let s = c.self.inside.setting in
    let base = (the_view c.self.inside).run in
    let roles = c.self.inside.roles.items in
    let n = c.args.node.0 in
    subst (λ (old : TellingSeen). IsTaken old (seen s base c.exchange.new.roles.items) n c.exchange.result) c.self.view_is
    (subst (λ (l : List Role). IsTaken (seen s base roles) (seen s base l) n c.exchange.result) (sym (c.exchange.ensures.new ∙ ap (λ k. slice_set roles k Plain) c.from.ensures))
    (subst (λ (r : Role). IsTaken (seen s base roles) (seen s base (slice_set roles n Plain)) n r) (sym (c.exchange.ensures.old ∙ ap (λ k. slice_index_or roles k Plain) c.from.ensures))
    (taken s base roles n c.self.invariant.1)))
