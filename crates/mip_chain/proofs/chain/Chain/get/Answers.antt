use Rattle.std.proofs.Common.{sym, ap, ◌∙◌}
use Rattle.std.specs.Prelude.{option_map, option_copied}
use Rattle.mip_chain.specs.Chain.{ChainSeen, find}
use Rattle.mip_chain.specs.Ring.{seen}
use Rattle.mip_chain.proofs.Chains.{found_value}
use Rattle.mip_chain.proofs.chain.Chain.get.Goals as goal

pub returns-in_err-entry : goal.returns-in_err-entry
returns-in_err-entry g c =
    let slot = c.args.slot.0 in
    rw c.from_residual.ensures (ap (option_map (λ e. e.value)) (sym (ap option_copied c.in_err-entry.was) ∙ c.get.ensures)
    ∙ sym (found_value (seen c.self.inside.ring) slot c.self.invariant)
    ∙ ap (λ (v : ChainSeen g.row.T.Denot). option_map (λ x. x.value) (find slot v.items)) c.self.view_is)

pub returns : goal.returns
returns g c =
    let slot = c.args.slot.0 in
    ap (option_map (λ e. e.value)) c.in_ok-entry.ensures
    ∙ sym (found_value (seen c.self.inside.ring) slot c.self.invariant)
    ∙ ap (λ (v : ChainSeen g.row.T.Denot). option_map (λ x. x.value) (find slot v.items)) c.self.view_is
