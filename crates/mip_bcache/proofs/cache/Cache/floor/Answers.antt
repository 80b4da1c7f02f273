use Rattle.std.proofs.Common.{◌≡◌, ap, ◌∙◌, subst}
use Rattle.std.specs.Prelude.{option_map}
use Rattle.mip_bcache.specs.Seen.{CacheSeen, floor_at}
use Rattle.mip_bcache.specs.Table.{seen, homes_in}
use Rattle.mip_bcache.proofs.Pasts.{floor_answers}
use Rattle.mip_bcache.proofs.Views.{home_seen}
use Rattle.mip_bcache.proofs.cache.Cache.floor.Goals as goal

pub returns-clause-found : goal.returns-clause-found
returns-clause-found c =
    let home = c.args.home.0 in
    let now = c.args.now.0 in
    subst (λ (v : CacheSeen). c.kept_sequence.result ≡ floor_at v home now) c.self.view_is
    (c.kept_sequence.ensures ∙ ap (option_map (λ h. h.sequence)) (home_seen now home (homes_in (seen c.self.inside.table))))

pub returns-clause-answers : goal.returns-clause-answers
returns-clause-answers c = λ past stood. returns-clause-found c ∙ floor_answers c.args.self.now past stood c.args.now.0 c.requires c.args.home.0
