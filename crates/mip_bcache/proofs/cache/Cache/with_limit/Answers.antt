use Rattle.std.proofs.Common.{◌≡◌, List, ℕ, [], map, sym, ap, ◌∙◌, subst}
use Rattle.mip_bcache.specs.declared.home.Home.{Home}
use Rattle.mip_bcache.specs.Seen.{CacheSeen, StandsFor, empty_cache}
use Rattle.mip_bcache.specs.Table.{seen, homes_in, rows_seen}
use Rattle.mip_bcache.proofs.Pasts.{empty_stands}
use Rattle.mip_bcache.proofs.cache.Cache.with_limit.Goals.{In_ok-table}
use Rattle.mip_bcache.proofs.cache.Cache.with_limit.Goals as goal

abbrev view : ℕ → ℕ → List Home → CacheSeen
view limit numbers hs = record { limit = limit; numbers = numbers; last = 0; homes = map rows_seen hs }

-- the cache that is made
new_is : (c : In_ok-table) → view c.in_ok-table.table.room c.in_ok-table.table.numbers (homes_in (seen c.in_ok-table.table)) ≡ empty_cache c.args.limit c.args.numbers
new_is c =
    let e = c.in_ok-table.ensures in
    ap (λ (limit : ℕ). view limit c.in_ok-table.table.numbers (homes_in (seen c.in_ok-table.table))) e.room
    ∙ ap (λ (numbers : ℕ). view c.args.limit numbers (homes_in (seen c.in_ok-table.table))) e.numbers
    ∙ ap (view c.args.limit c.args.numbers) e.homes

pub returns-clause-ok : goal.returns-clause-ok
returns-clause-ok c = new_is c

pub returns-clause-stands : goal.returns-clause-stands
returns-clause-stands c = subst (λ (v : CacheSeen). StandsFor v []) (sym (new_is c)) (empty_stands c.args.limit c.args.numbers)
