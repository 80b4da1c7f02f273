use Rattle.std.proofs.Common.{sym, ◌∙◌, subst, OnOk}
use Rattle.mip_rules_mobile.specs.Transitions.{Transition}
use Rattle.mip_mobile_context.specs.Seen.{Shows}
use Rattle.mip_mobile_context.proofs.Noted.{shows-moment}
use Rattle.mip_mobile_registration.proofs.Seeking.{under-way, none-under-way}
use Rattle.mip_mobile_registration.proofs.home.seek_again_from.Goals as goal

pub returns-in-Some : goal.returns-in-Some
returns-in-Some c = λ t shows.
    let way = under-way c.args.careof c.args.context.now.known.discovery c.in-Some.identifier c.args.context.now.moment t (shows-moment c.args.context.now t shows) (sym c.in-Some.is ∙ c.discovery.ensures) in
    subst (λ (u : Transition). OnOk c.seek_once_more.result (Shows c.seek_once_more.new.context u)) way.2 (c.seek_once_more.ensures way.0 t way.1 shows)

pub returns-in-None : goal.returns-in-None
returns-in-None c = λ t shows.
    subst (λ (u : Transition). Shows c.args.context.now u) (none-under-way c.args.careof c.args.context.now.known.discovery t (sym c.in-None.is ∙ c.discovery.ensures)) shows
