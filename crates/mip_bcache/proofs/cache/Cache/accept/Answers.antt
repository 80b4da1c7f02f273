use Rattle.std.proofs.Common.{◌≡◌, ◌<◌, ℕ, List, [], ◌∷◌, ◌++◌, map, Bool, true, false, refl, ap, sym, ◌∙◌, subst}
use Rattle.std.specs.Prelude.{not}
use Rattle.mip_binding.specs.Rows.{find_by, put_by}
use Rattle.mip_bcache.specs.Seen.{CacheSeen, HomeRows, StandsFor, home_of, acceptance, rows_made, rows_left, no_room, has_no_room}
use Rattle.mip_bcache.specs.Table.{seen, homes_in, rows_seen}
use Rattle.mip_bcache.proofs.Pasts.{accept_stands}
use Rattle.mip_bcache.proofs.Views.{room_seen}
use Rattle.mip_bcache.proofs.cache.Cache.accept.Goals as goal

pub accept-requires-clause-number : goal.accept-requires-clause-number
accept-requires-clause-number c =
    subst (λ (n : ℕ). c.args.number < n) (sym (ap (λ (v : CacheSeen). v.numbers) (c.self.view_is ∙ c.give_up.ensures.homes))) c.requires.number

pub accept-requires-clause-free : goal.accept-requires-clause-free
accept-requires-clause-free c =
    let t = c.self.inside.table in
    let room = sym c.has_room.ensures.found ∙ c.if-not-has_room.false in
    room_seen t.room c.args.home.0 (homes_in (seen t))
    ∙ ap (λ (v : CacheSeen). no_room home_of v.limit c.args.home.0 v.homes) (c.self.view_is ∙ c.give_up.ensures.homes)
    ∙ by (has_no_room c.args.self.now c.args.home.0 c.args.now.0) room
  where
    by : (b : Bool) → not b ≡ true → b ≡ false
    by true e = sym e
    by false e = refl

pub returns-clause-ok : goal.returns-clause-ok
returns-clause-ok c =
    let now = c.args.now.0 in
    let home = c.args.home in
    let old = c.self.inside.table in
    let new = c.accept.new.self in
    let e = c.accept.ensures in
    let view : ℕ → ℕ → List HomeRows → CacheSeen = λ limit numbers hs. record { limit = limit; numbers = numbers; last = c.self.inside.last.0; homes = hs } in
    let put : CacheSeen → CacheSeen = λ v. record v { homes = put_by home_of (rows_made now home c.args.number c.args.accepted (rows_left home c.args.number c.args.accepted (find_by home_of home.0 v.homes))) v.homes } in
    ap (λ (limit : ℕ). view limit new.numbers (map rows_seen (homes_in (seen new)))) e.room.0
    ∙ ap (λ (numbers : ℕ). view old.room numbers (map rows_seen (homes_in (seen new)))) e.room.1
    ∙ ap (view old.room old.numbers) e.homes
    ∙ ap put (c.self.view_is ∙ c.give_up.ensures.homes)

pub returns-clause-stands : goal.returns-clause-stands
returns-clause-stands c = λ past stood.
    subst (λ (v : CacheSeen). StandsFor v (past ++ acceptance c.args.now.0 c.args.home c.args.number c.args.accepted ∷ [])) (sym (returns-clause-ok c))
    (accept_stands c.args.self.now past stood c.args.now.0 c.requires.later c.args.home c.args.number c.args.accepted)
