use Rattle.std.proofs.Common.{◌≡◌, ◌+◌, None, refl, sym, subst, ap, ◌∙◌}
use Rattle.std.specs.Prelude.{is_some}
use Rattle.mip_chain.specs.Chain.{ChainSeen, find, retimed}
use Rattle.mip_chain.specs.Ring.{seen, entry_at, items_in, IsFilled}
use Rattle.mip_chain.proofs.Chains.{place_filled, place_none, found_is, changed, retimes, unretimed, default_none}
use Rattle.mip_chain.proofs.chain.Chain.retime.Goals as goal

pub retime-requires : goal.retime-requires
retime-requires g c =
    let s = seen c.self.inside.ring in
    record { linked = c.self.invariant; filled = (place_filled s.entries c.args.slot.0 c.in-Some.at c.in-Some.ensures).full }

pub returns-in_default-clause-was : goal.returns-in_default-clause-was
returns-in_default-clause-was g c =
    let s = seen c.self.inside.ring in
    let slot = c.args.slot.0 in
    let none : entry_at (slot + 1) s.entries ≡ None = place_none s.entries slot (sym (default_none c.place_of.result c.in_default.not-Some) ∙ c.place_of.ensures) in
    sym (ap (λ (v : ChainSeen g.row.T.Denot). is_some (find slot v.items)) (sym c.self.view_is) ∙ found_is s slot c.self.invariant ∙ ap is_some none)

pub returns-in_default-clause-chain : goal.returns-in_default-clause-chain
returns-in_default-clause-chain g c =
    let s = seen c.self.inside.ring in
    let slot = c.args.slot.0 in
    let none : entry_at (slot + 1) s.entries ≡ None = place_none s.entries slot (sym (default_none c.place_of.result c.in_default.not-Some) ∙ c.place_of.ensures) in
    sym c.self.view_is ∙ changed s c.args.self.now s.room (items_in s) (retimed slot c.args.due.0) c.self.view_is refl (sym (unretimed s slot c.args.due.0 c.self.invariant none))

pub returns-clause-was : goal.returns-clause-was
returns-clause-was g c =
    let s = seen c.self.inside.ring in
    let slot = c.args.slot.0 in
    let place = place_filled s.entries slot c.in-Some.at c.in-Some.ensures in
    sym (ap (λ (v : ChainSeen g.row.T.Denot). is_some (find slot v.items)) (sym c.self.view_is) ∙ found_is s slot c.self.invariant ∙ subst (IsFilled s.entries) place.is place.full)

pub returns-clause-chain : goal.returns-clause-chain
returns-clause-chain g c =
    let s = seen c.self.inside.ring in
    let slot = c.args.slot.0 in
    let place = place_filled s.entries slot c.in-Some.at c.in-Some.ensures in
    changed s c.args.self.now c.retime.new.self.room (items_in (seen c.retime.new.self)) (retimed slot c.args.due.0) c.self.view_is c.retime.ensures.room (c.retime.ensures.items ∙ retimes s slot c.in-Some.at c.args.due c.self.invariant place)
