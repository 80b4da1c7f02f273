use Rattle.std.proofs.Common.{sym, ◌∙◌, subst, OnOk}
use Rattle.mip_rules_mobile.specs.Transitions.{Transition}
use Rattle.mip_mobile_context.specs.Seen.{Shows}
use Rattle.mip_mobile_context.proofs.Noted.{shows-known}
use Rattle.mip_mobile_routability.proofs.RowShows.{resends-to, resends-nowhere}
use Rattle.mip_mobile_routability.proofs.trials.resend_row.Goals as goal

pub returns-in-Some : goal.returns-in-Some
returns-in-Some c = λ t shows.
    subst (λ (u : Transition). OnOk c.resend_to.result (Shows c.resend_to.new.context u))
    (resends-to c.args.row c.in-Some.peer t c.args.context.now.known (shows-known c.args.context.now t shows) (sym c.peer_of_row.ensures.peer ∙ c.in-Some.is))
    (c.resend_to.ensures t shows)

pub returns-in-None : goal.returns-in-None
returns-in-None c = λ t shows.
    subst (λ (u : Transition). Shows c.args.context.now u)
    (resends-nowhere c.args.row t c.args.context.now.known (shows-known c.args.context.now t shows) (sym c.peer_of_row.ensures.peer ∙ c.in-None.is)) shows
