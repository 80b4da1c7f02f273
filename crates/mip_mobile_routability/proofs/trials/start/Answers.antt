use Rattle.std.proofs.Common.{sym, ap, ◌∙◌, subst, OnOk}
use Rattle.mip_rules_mobile.specs.Transitions.{Transition}
use Rattle.mip_rules_mobile.specs.RowQuestions.{peer_of_row}
use Rattle.mip_mobile_context.specs.Seen.{ContextSeen, Shows}
use Rattle.mip_mobile_context.proofs.Noted.{shows-known}
use Rattle.mip_mobile_routability.proofs.RowShows.{starts-to, starts-nowhere}
use Rattle.mip_mobile_routability.proofs.trials.start.Goals as goal

pub returns-in-Some : goal.returns-in-Some
returns-in-Some c = λ t shows.
    let d = c.draw_cookies.new.self in
    let here = subst (λ (d : ContextSeen). Shows d t) (sym c.draw_cookies.ensures) shows in
    let peer = ap (λ (d : ContextSeen). peer_of_row d.known c.args.row) c.draw_cookies.ensures ∙ sym c.peer_of_row.ensures.peer ∙ c.in-Some.is in
    subst (λ (u : Transition). OnOk c.start_with.result (Shows c.start_with.new.context u))
    (starts-to c.args.row c.in-Some.peer t d.known (shows-known d t here) peer)
    (c.start_with.ensures t here)

pub returns-in-None : goal.returns-in-None
returns-in-None c = λ t shows.
    subst (λ (u : Transition). Shows c.args.context.now u)
    (starts-nowhere c.args.row t c.args.context.now.known (shows-known c.args.context.now t shows) (sym c.peer_of_row.ensures.peer ∙ c.in-None.is)) shows
