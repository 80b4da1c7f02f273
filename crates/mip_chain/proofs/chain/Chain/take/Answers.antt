use Rattle.std.proofs.Common.{◌≡◌, ◌+◌, ℕ, None, refl, sym, ap, ◌∙◌}
use Rattle.std.specs.Prelude.{option_map}
use Rattle.mip_chain.specs.Chain.{ChainSeen, find, without}
use Rattle.mip_chain.specs.Ring.{seen, entry_at, items_in}
use Rattle.mip_chain.proofs.Chains.{place_filled, place_none, found_value, changed, untaken}
use Rattle.mip_chain.proofs.chain.Chain.take.Goals as goal

pub take_out-requires : goal.take_out-requires
take_out-requires g c =
    let s = seen c.self.inside.ring in
    record { linked = c.self.invariant; filled = (place_filled s.entries c.args.slot.0 c.in_ok-at.at c.in_ok-at.ensures).full }

pub returns-in_err-at-clause-value : goal.returns-in_err-at-clause-value
returns-in_err-at-clause-value g c =
    let s = seen c.self.inside.ring in
    let slot = c.args.slot.0 in
    let none : entry_at (slot + 1) s.entries ≡ None = place_none s.entries slot (sym c.in_err-at.was ∙ c.place_of.ensures) in
    let missed : option_map (λ x. x.value) (find slot c.args.self.now.items) ≡ None =
    ap (λ (v : ChainSeen g.row.T.Denot). option_map (λ x. x.value) (find slot v.items)) (sym c.self.view_is)
    ∙ found_value s slot c.self.invariant
    ∙ ap (option_map (λ e. e.value)) none in
    rw c.from_residual.ensures (sym missed)

pub returns-in_err-at-clause-chain : goal.returns-in_err-at-clause-chain
returns-in_err-at-clause-chain g c =
    let s = seen c.self.inside.ring in
    let slot = c.args.slot.0 in
    let none : entry_at (slot + 1) s.entries ≡ None = place_none s.entries slot (sym c.in_err-at.was ∙ c.place_of.ensures) in
    sym c.self.view_is ∙ changed s c.args.self.now s.room (items_in s) (without slot) c.self.view_is refl (sym (untaken s slot c.self.invariant none))

pub returns-clause-value : goal.returns-clause-value
returns-clause-value g c =
    let s = seen c.self.inside.ring in
    let slot = c.args.slot.0 in
    let place = place_filled s.entries slot c.in_ok-at.at c.in_ok-at.ensures in
    c.take_out.ensures.value
    ∙ ap (λ (p : ℕ). option_map (λ e. e.value) (entry_at p s.entries)) place.is
    ∙ sym (found_value s slot c.self.invariant)
    ∙ ap (λ (v : ChainSeen g.row.T.Denot). option_map (λ x. x.value) (find slot v.items)) c.self.view_is
