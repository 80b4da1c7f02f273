use Rattle.std.proofs.Common.{sym, ◌∙◌, subst, OnOk}
use Rattle.mip_rules_mobile.specs.Transitions.{Transition}
use Rattle.mip_mobile_context.specs.Seen.{Shows}
use Rattle.mip_mobile_context.proofs.Noted.{shows-known, shows-moment}
use Rattle.mip_mobile_routability.proofs.RowShows.{updates-to, updates-nowhere}
use Rattle.mip_mobile_routability.proofs.trials.update.Goals as goal

pub returns-in-Some : goal.returns-in-Some
returns-in-Some c = λ t shows.
    subst (λ (u : Transition). OnOk c.make.result (Shows c.make.new.context u))
    (updates-to c.args.row c.args.wait c.in-Some.peer t c.args.context.now.known c.args.context.now.moment (shows-known c.args.context.now t shows) (shows-moment c.args.context.now t shows)
    (sym c.peer_of_row.ensures.peer ∙ c.in-Some.is))
    (c.make.ensures t shows)

pub returns-in-None : goal.returns-in-None
returns-in-None c = λ t shows.
    subst (λ (u : Transition). Shows c.args.context.now u)
    (updates-nowhere c.args.row c.args.wait t c.args.context.now.known (shows-known c.args.context.now t shows) (sym c.peer_of_row.ensures.peer ∙ c.in-None.is)) shows
