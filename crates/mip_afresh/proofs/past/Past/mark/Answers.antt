use Rattle.std.proofs.Common.{List, ap, ◌∙◌}
use Rattle.mip_entries.specs.declared.entry.Entry.{Entry}
use Rattle.mip_history.specs.Questions.{declared_in}
use Rattle.mip_provenance.specs.Sights.{Sight}
use Rattle.mip_provenance.specs.Marks.{mark_of, mark_in}
use Rattle.mip_afresh_marks.specs.Sighting.{sights_in}
use Rattle.mip_afresh_marks.proofs.Standing.{sights_same, numbered}
use Rattle.mip_afresh.specs.Told.{tells}
use Rattle.mip_afresh.proofs.Told.{declared_told, told_again}
use Rattle.mip_afresh.proofs.past.Past.mark.Goals as goal
use Rattle.std.specs.List.{filter}

pub mark-requires : goal.mark-requires
mark-requires c = let p = c.self.inside in numbered p.sights p.entries (c.self.invariant c.if-self.true).stand

pub returns-then-self : goal.returns-then-self
unfolding mark_in
returns-then-self c =
    let p = c.self.inside in
    let a = c.args.accepted.now in
    let beside = c.self.invariant c.if-self.true in
    c.mark.ensures
    ∙ ap (mark_of (sights_in p.sights) a) (c.declared-own.ensures
    ∙ declared_told a.node.0 c.as_slice.result.now p.entries (ap (filter tells) (c.as_slice.ensures ∙ beside.told) ∙ told_again p.entries))
    ∙ ap (λ (seen : List Sight). mark_of seen a (declared_in p.entries a.node.0)) (sights_same p.sights p.entries beside.stand)
    ∙ ap (λ (past : List Entry). mark_in past a) c.self.view_is
