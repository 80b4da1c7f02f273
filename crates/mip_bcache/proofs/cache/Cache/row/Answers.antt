use Rattle.std.proofs.Common.{◌≡◌, ◌<◌, ◌^◌, length, List, ap, ◌∙◌, subst}
use Rattle.std.specs.Prelude.{option_map, option_copied, slice_get}
use Rattle.std.specs.List.{AllByRecursion, flat_map}
use Rattle.mip_bcache.specs.Seen.{CacheSeen, HomeRows, kept_at, seen_row, rows_of_home, rows_at}
use Rattle.mip_bcache.specs.Table.{seen, homes_in}
use Rattle.mip_bcache.proofs.Pasts.{HasUntils, row_answers}
use Rattle.mip_bcache.proofs.Views.{kept_seen, untils_seen, few_seen}
use Rattle.mip_bcache.proofs.cache.Cache.row.Goals as goal

pub returns-clause-found : goal.returns-clause-found
returns-clause-found c =
    let now = c.args.now.0 in
    subst (λ (v : CacheSeen). option_copied c.row.result ≡ slice_get (rows_at v now) c.args.place) c.self.view_is
    (c.row.ensures ∙ ap (λ (hs : List HomeRows). slice_get (flat_map rows_of_home hs) c.args.place) (kept_seen now (homes_in (seen c.self.inside.table))))

pub returns-clause-answers : goal.returns-clause-answers
returns-clause-answers c = λ past stood.
    let now = c.args.now.0 in
    let untils = subst (λ (v : CacheSeen). AllByRecursion HasUntils (kept_at v now)) c.self.view_is (untils_seen (seen c.self.inside.table) c.self.invariant now) in
    ap (option_map seen_row) (returns-clause-found c) ∙ row_answers c.args.self.now past stood now c.requires untils c.args.place

pub returns-clause-few : goal.returns-clause-few
returns-clause-few c = subst (λ (v : CacheSeen). length (rows_at v c.args.now.0) < 2 ^ 32) c.self.view_is (few_seen (seen c.self.inside.table) c.self.invariant c.args.now.0)
