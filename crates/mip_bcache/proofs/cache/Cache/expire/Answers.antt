use Rattle.std.proofs.Common.{ℕ, List, length, map, ap, sym, ◌∙◌, subst, arith}
use Rattle.mip_bcache.specs.declared.home.Home.{Home}
use Rattle.mip_bcache.specs.Seen.{CacheSeen, HomeRows, StandsFor, expired, live_rows}
use Rattle.mip_bcache.specs.Table.{seen, homes_in, rows_seen}
use Rattle.mip_bcache.proofs.Pasts.{expire_stands}
use Rattle.mip_bcache.proofs.Views.{kept_seen, count_seen}
use Rattle.mip_bcache.proofs.cache.Cache.expire.Goals as goal

pub returns-clause-homes : goal.returns-clause-homes
returns-clause-homes g c =
    let now = c.args.now.0 in
    let old = c.self.inside.table in
    let table = c.give_up-given_up.new.self in
    let e = c.give_up-given_up.ensures in
    let view : ℕ → ℕ → List HomeRows → CacheSeen = λ limit numbers hs. record { limit = limit; numbers = numbers; last = now; homes = hs } in
    ap (λ (limit : ℕ). view limit table.numbers (map rows_seen (homes_in (seen table)))) e.room
    ∙ ap (λ (numbers : ℕ). view old.room numbers (map rows_seen (homes_in (seen table)))) e.numbers
    ∙ ap (λ (hs : List Home). view old.room old.numbers (map rows_seen hs)) e.homes
    ∙ ap (view old.room old.numbers) (kept_seen now (homes_in (seen old)))
    ∙ ap (expired now) c.self.view_is

pub returns-clause-count : goal.returns-clause-count
returns-clause-count g c =
    let table = c.give_up-given_up.new.self in
    let count = c.give_up-given_up.ensures.count in
    let new = count_seen (homes_in (seen table)) in
    let old = count_seen (homes_in (seen c.self.inside.table)) in
    let is = ap (λ (v : CacheSeen). length (live_rows v)) c.self.view_is in
    omega arith

pub returns-clause-stands : goal.returns-clause-stands
returns-clause-stands g c = λ past stood.
    subst (λ (v : CacheSeen). StandsFor v past) (sym (returns-clause-homes g c)) (expire_stands c.args.self.now past stood c.args.now.0 c.requires)
