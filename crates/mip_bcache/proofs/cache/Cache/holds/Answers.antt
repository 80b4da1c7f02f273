use Rattle.std.proofs.Common.{◌≡◌, ap, ◌∙◌, subst}
use Rattle.mip_bcache.specs.Seen.{CacheSeen, stands_at, any_row, holds_at}
use Rattle.mip_bcache.specs.Table.{seen, homes_in}
use Rattle.mip_bcache.proofs.Pasts.{holds_answers}
use Rattle.mip_bcache.proofs.Views.{home_seen}
use Rattle.mip_bcache.proofs.cache.Cache.holds.Goals as goal

pub returns-clause-found : goal.returns-clause-found
returns-clause-found c =
    let home = c.args.home.0 in
    let now = c.args.now.0 in
    subst (λ (v : CacheSeen). c.holds.result ≡ holds_at v home now c.args.careof.0) c.self.view_is
    (c.holds.ensures ∙ ap (any_row (stands_at home now c.args.careof.0)) (home_seen now home (homes_in (seen c.self.inside.table))))

pub returns-clause-answers : goal.returns-clause-answers
returns-clause-answers c = λ past stood. returns-clause-found c ∙ holds_answers c.args.self.now past stood c.args.now.0 c.requires c.args.home.0 c.args.careof.0
