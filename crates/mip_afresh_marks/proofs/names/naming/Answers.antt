use Rattle.std.proofs.Common.{sym, ap, ◌∙◌}
use Rattle.mip_provenance.specs.Names as names
use Rattle.mip_afresh_marks.specs.declared.sight.Sight.{Sight}
use Rattle.mip_afresh_marks.specs.Sighting.{said_of, sight_seen}
use Rattle.mip_afresh_marks.proofs.Walks.{naming_same}
use Rattle.mip_afresh_marks.proofs.names.naming.Goals as goal

pub returns-in-Sent : goal.returns-in-Sent
returns-in-Sent c = λ token front known.
    c.naming_by.ensures.naming
    ∙ naming_same c.args.lives.now front known c.in-Sent.number c.in-Sent.node.0 c.naming_by.ensures.within (said_of c.in-Sent.said)
    ∙ sym (ap (λ (s : Sight). names.naming front (sight_seen token s)) c.in-Sent.is)
