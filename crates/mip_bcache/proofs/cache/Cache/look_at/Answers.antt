use Rattle.std.proofs.Common.{◌≡◌, ap, ◌∙◌, subst}
use Rattle.std.specs.Prelude.{option_map, option_copied}
use Rattle.mip_bcache.specs.Seen.{CacheSeen, stands_under, last_row, standing_under}
use Rattle.mip_bcache.specs.Table.{seen, homes_in}
use Rattle.mip_bcache.proofs.Pasts.{look_at_answers}
use Rattle.mip_bcache.proofs.Views.{home_seen}
use Rattle.mip_bcache.proofs.cache.Cache.look_at.Goals as goal

pub returns-clause-found : goal.returns-clause-found
returns-clause-found c =
    let home = c.args.home.0 in
    let now = c.args.now.0 in
    subst (λ (v : CacheSeen). option_copied c.standing_under.result ≡ standing_under v home c.args.number now) c.self.view_is
    (c.standing_under.ensures ∙ ap (last_row (stands_under home c.args.number now)) (home_seen now home (homes_in (seen c.self.inside.table))))

pub returns-clause-answers : goal.returns-clause-answers
returns-clause-answers c = λ past stood. ap (option_map (λ r. r.careof.0)) (returns-clause-found c) ∙ look_at_answers c.args.self.now past stood c.args.now.0 c.requires c.args.home.0 c.args.number
