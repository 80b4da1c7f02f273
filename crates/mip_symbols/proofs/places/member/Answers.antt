use Rattle.std.proofs.Common.{◌∙◌, sym, ap, arith, drop}
use Rattle.std.specs.Prelude.{slice_get}
use Rattle.mip_symbols.specs.Places.{members}
use Rattle.mip_symbols.proofs.Members.{member_here, member_behind, member_past, member_none}
use Rattle.mip_symbols.proofs.places.member.Goals.{then-counts+else-left-eq0, else-counts}
use Rattle.mip_symbols.proofs.places.member.Goals as goal

pub returns-then-left-eq0 : goal.returns-then-left-eq0
returns-then-left-eq0 c =
    sym (member_here c.args.sort c.args.ds.now c.loop-d.d-index _ (omega arith) (sym c.counts.ensures ∙ c.if-counts.true))
    ∙ ap (slice_get (members c.args.sort (drop c.loop-d.d-index c.args.ds.now))) (sym c.if-left-eq0.true)
    ∙ c.loop-d.invariant

pub loop-d-preserved : goal.loop-d-preserved
loop-d-preserved c = elim c.if-counts.branch [
  | then-counts+else-left-eq0 w ↦
      rw w.left-is (sym (member_behind c.args.sort c.args.ds.now c.loop-d.d-index _ c.loop-d.left (omega arith) (sym c.counts.ensures ∙ w.if-counts.true) (omega arith)) ∙ c.loop-d.invariant)
  | else-counts w ↦
      rw w.left-is (sym (member_past c.args.sort c.args.ds.now c.loop-d.d-index _ c.loop-d.left (omega arith) (sym c.counts.ensures ∙ w.if-counts.false)) ∙ c.loop-d.invariant)
]

pub returns : goal.returns
returns c = sym (member_none c.args.sort c.args.ds.now c.loop-d.d-index c.loop-d.left (omega arith)) ∙ c.loop-d.invariant
