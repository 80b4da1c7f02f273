use Rattle.std.proofs.Common.{sym}
use Rattle.mip_afresh.specs.declared.fate.Fate.TheVariants.{Idle, Outsider, Gone}
use Rattle.mip_afresh.proofs.Landings.{lands_done}
use Rattle.mip_afresh.proofs.telling.Telling.land.Goals as goal

pub returns-in_ok-come_to_outsider-in-Outsider : goal.returns-in_ok-come_to_outsider-in-Outsider
returns-in_ok-come_to_outsider-in-Outsider c = λ post is.
    lands_done c.args.self.now c.come_to_outsider.new.self c.args.number post c.args.landing is (Outsider c.in-Outsider.outsider) c.in-Outsider.is
    (c.in_ok-come_to_outsider-in-Outsider.ensures post (sym is.guarded))

pub returns-in_ok-go_nowhere-in-Gone : goal.returns-in_ok-go_nowhere-in-Gone
returns-in_ok-go_nowhere-in-Gone c = λ post is.
    lands_done c.args.self.now c.go_nowhere.new.self c.args.number post c.args.landing is (Gone c.in-Gone.why) c.in-Gone.is
    (c.in_ok-go_nowhere-in-Gone.ensures post (sym is.guarded))

pub returns-in_ok-note-in-Idle : goal.returns-in_ok-note-in-Idle
returns-in_ok-note-in-Idle c = λ post is.
    lands_done c.args.self.now c.note.new.self c.args.number post c.args.landing is Idle c.in-Idle.is c.in_ok-note-in-Idle.ensures
