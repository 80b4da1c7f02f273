use Rattle.std.proofs.Common.{List, sym, ap, ◌∙◌, subst}
use Rattle.std.specs.Prelude.{slice_set}
use Rattle.mip_history.specs.Runs.{with_mobile_past}
use Rattle.mip_afresh.specs.contracts.telling.Telling.{the_view}
use Rattle.mip_afresh.specs.declared.role.Role.{Role}
use Rattle.mip_afresh.specs.declared.role.Role.TheVariants.{Mobile}
use Rattle.mip_afresh.specs.Tellings.{TellingSeen, with_run}
use Rattle.mip_afresh.specs.Roles.{AreOf, IsMobile}
use Rattle.mip_afresh.proofs.RoleLaws.{seen, put_mobile_back, set_of}
use Rattle.mip_afresh.proofs.telling.Telling.put_mobile.Goals as goal

pub invariant_of-self : goal.invariant_of-self
invariant_of-self c =
    let s = c.self.inside.setting in
    let roles = c.self.inside.roles.items in (
      c.self.invariant.0,
      subst (AreOf s) (sym (c.exchange-before.ensures.new ∙ ap (λ k. slice_set roles k (Mobile c.args.mobile)) c.from.ensures))
          (set_of s roles c.args.node.0 (Mobile c.args.mobile) c.self.invariant.1 (subst (λ (t : TellingSeen). IsMobile t.setup c.args.node.0 c.args.mobile) (sym c.self.view_is) c.requires)),
    )

pub returns : goal.returns
returns c =
    let s = c.self.inside.setting in
    let base = (the_view c.self.inside).run in
    let roles = c.self.inside.roles.items in
    let n = c.args.node.0 in
    ap (λ (l : List Role). seen s base l) (c.exchange-before.ensures.new ∙ ap (λ k. slice_set roles k (Mobile c.args.mobile)) c.from.ensures)
    ∙ put_mobile_back s base roles n c.args.mobile c.self.invariant.1 (subst (λ (t : TellingSeen). IsMobile t.setup n c.args.mobile) (sym c.self.view_is) c.requires)
    ∙ ap (λ (t : TellingSeen). with_run (with_mobile_past n c.args.mobile.past t.run) t) c.self.view_is
