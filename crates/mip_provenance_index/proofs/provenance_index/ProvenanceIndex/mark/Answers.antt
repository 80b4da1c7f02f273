use Rattle.std.proofs.Common.{◌∙◌, List, ap}
use Rattle.mip_provenance.specs.Sights.{Sight}
use Rattle.mip_provenance.specs.Entries.{declared_in}
use Rattle.mip_provenance.specs.Marks.{mark_of, mark_in}
use Rattle.mip_provenance_index.proofs.Marking.{mark_same}
use Rattle.mip_provenance_index.proofs.Telling.{seen_all}
use Rattle.mip_provenance_index.proofs.provenance_index.ProvenanceIndex.mark.Goals as goal

pub returns-clause-seen : goal.returns-clause-seen
returns-clause-seen c = λ past stands is. c.looked.ensures ∙ mark_same c.args.self.now past stands c.args.accepted.now _ is

pub returns-clause-exact : goal.returns-clause-exact
unfolding mark_in
returns-clause-exact c = λ past stands told is.
    c.looked.ensures ∙ mark_same c.args.self.now past stands c.args.accepted.now _ is
    ∙ ap (λ (l : List Sight). mark_of l c.args.accepted.now (declared_in past c.args.accepted.now.node.0)) (seen_all past told)
