use Rattle.std.proofs.Common.{sym, ◌+◌, ◌<◌, subst, OnOk}
use Rattle.std.specs.Prelude.{IfSome, ◌^◌}
use Rattle.mip_rules_mobile.specs.Known.{Known}
use Rattle.mip_rules_mobile.specs.Transitions.{Transition, noted}
use Rattle.mip_mobile_context.specs.Seen.{Shows}
use Rattle.mip_mobile_context.proofs.Noted.{shows-known}
use Rattle.mip_mobile_registration.proofs.HomeShows.{refused-by}
use Rattle.mip_rules_mobile.specs.Steps.{IsRefused}
use Rattle.mip_mobile_registration.proofs.home.turn_away.Goals as goal

pub turn_to-requires : goal.turn_to-requires
turn_to-requires c = subst (λ (k : Known). IfSome c.next_found-next.result (λ _. k.tried + 1 < 2 ^ 64)) (sym c.in_ok-refused.ensures.same) c.next_found-next.ensures.within

pub returns : goal.returns
returns c = λ t shows.
    let known = shows-known c.args.context.now t shows in
    subst (λ (u : Transition). OnOk c.turn_to.result (Shows c.turn_to.new.context u))
    (refused-by c.args.status t c.args.context.now.known c.standing-standing.result c.next_found-next.result known (sym c.standing-standing.ensures) (sym c.next_found-next.ensures.found))
    (c.turn_to.ensures (noted (IsRefused c.args.status) t) (c.in_ok-refused.ensures.shows t shows))
