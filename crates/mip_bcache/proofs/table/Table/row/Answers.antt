use Rattle.std.proofs.Common.{◌≡◌, ◌<◌, ◌≤◌, ℕ, ◌+◌, List, drop, get_or, length, sym, ap, subst, ◌∙◌}
use Rattle.std.specs.Prelude.{Some, is_some, option_copied, slice_get}
use Rattle.mip_chain.specs.Chain.{find}
use Rattle.mip_chain.specs.declared.slot.Slot.{Slot}
use Rattle.mip_bcache.specs.Table.{homes_of, kept_in}
use Rattle.mip_bcache.proofs.Listed.{listed, no_slot, found_here, passed_some, passed_none, at_end}
use Rattle.mip_bcache.proofs.Spares.{kept_well}
use Rattle.mip_bcache.proofs.table.Table.row.Goals.{in-Some+in-None-row, in-None}
use Rattle.mip_bcache.proofs.table.Table.row.Goals as goal

pub row-requires-clause-below : goal.row-requires-clause-below
row-requires-clause-below c =
    (kept_well c.args.now.0 c.args.self.now.numbers _ c.args.self.now.chain.items c.in-Some.home.now c.requires.stock.each (sym c.kept_in.ensures ∙ ap option_copied c.in-Some.is)).below

pub returns-in-Some-row : goal.returns-in-Some-row
returns-in-Some-row c =
    let now = c.args.now.0 in
    let items = c.args.self.now.chain.items in
    let ss = c.args.self.now.homes.items in
    let h = c.in-Some.home.now in
    let inside = subst (λ (ts : List Slot). c.loop-slot.slot-index < length ts) c.deref-slot-items.ensures.value c.loop-slot-test.true in
    let is = subst (λ (ts : List Slot). kept_in now (find (get_or ts c.loop-slot.slot-index no_slot).0 items) ≡ Some h) c.deref-slot-items.ensures.value (sym c.kept_in.ensures ∙ ap option_copied c.in-Some.is) in
    found_here now items ss c.loop-slot.slot-index c.loop-slot.left h c.in-Some-row.row.now inside is (sym (ap option_copied c.in-Some-row.is) ∙ c.row.ensures.found) ∙ c.loop-slot.invariant

pub loop-slot-preserved : goal.loop-slot-preserved
loop-slot-preserved c =
    let now = c.args.now.0 in
    let items = c.args.self.now.chain.items in
    let ss = c.args.self.now.homes.items in
    let i = c.loop-slot.slot-index in
    let inside = subst (λ (ts : List Slot). i < length ts) c.deref-slot-items.ensures.value c.loop-slot-test.true in
    let at = ap (λ (ts : List Slot). kept_in now (find (get_or ts i no_slot).0 items)) (sym c.deref-slot-items.ensures.value) ∙ sym c.kept_in.ensures in
    let left : slice_get (listed now (homes_of items (drop (i + 1) ss))) c.match-kept_in.left ≡ slice_get (listed now (homes_of items (drop i ss))) c.loop-slot.left = elim c.match-kept_in.branch [
      | in-Some+in-None-row w ↦
          subst (λ (n : ℕ). slice_get (listed now (homes_of items (drop (i + 1) ss))) n ≡ slice_get (listed now (homes_of items (drop i ss))) c.loop-slot.left) (sym w.left-is)
          (passed_some now items ss i c.loop-slot.left w.row.new.place w.in-Some.home.now inside (at ∙ ap option_copied w.in-Some.is) (w.row.ensures.passed (ap (λ o. is_some o) w.in-None-row.is)))
      | in-None w ↦
          subst (λ (n : ℕ). slice_get (listed now (homes_of items (drop (i + 1) ss))) n ≡ slice_get (listed now (homes_of items (drop i ss))) c.loop-slot.left) (sym w.left-is)
          (passed_none now items ss i c.loop-slot.left inside (at ∙ ap option_copied w.in-None.is))
    ] in
    left ∙ c.loop-slot.invariant

pub returns : goal.returns
returns c =
    let past = subst (λ (ts : List Slot). length ts ≤ c.loop-slot.slot-index) c.deref-slot-items.ensures.value c.loop-slot-test.false in
    at_end c.args.now.0 c.args.self.now.chain.items c.args.self.now.homes.items c.loop-slot.slot-index c.loop-slot.left past ∙ c.loop-slot.invariant
