use Rattle.std.proofs.Common.{ap, ◌∙◌, subst, OnOk}
use Rattle.mip_words.specs.declared.address.Address.{Address}
use Rattle.mip_rules_mobile.specs.Transitions.{Transition}
use Rattle.mip_mobile_context.specs.Seen.{Shows}
use Rattle.mip_mobile_context.proofs.Noted.{shows-known}
use Rattle.mip_mobile_registration.proofs.HomeShows.{arrives-by}
use Rattle.mip_rules_mobile.specs.MovingRules.{address_under}
use Rattle.mip_mobile_registration.proofs.moving.arrive.Goals as goal

pub returns : goal.returns
returns c = λ t shows.
    let known = shows-known c.args.context.now t shows in
    subst (λ (u : Transition). OnOk c.arrive_at.result (Shows c.arrive_at.new.context u))
    (arrives-by c.args.prefix.0 c.args.claim t c.args.context.now.known c.address_under-address.result known
    (c.address_under-address.ensures ∙ ap (λ (h : Address). address_under h c.args.prefix.0) c.home.ensures.value))
    (c.arrive_at.ensures t shows)
