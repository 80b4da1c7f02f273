use Rattle.std.proofs.Common.{◌≡◌, ap, ◌∙◌, subst}
use Rattle.std.specs.Prelude.{not}
use Rattle.mip_binding.specs.Rows.{kept_by}
use Rattle.mip_bcache.specs.Seen.{CacheSeen, home_of, no_room, has_no_room}
use Rattle.mip_bcache.specs.Table.{seen, due_of, homes_in}
use Rattle.mip_bcache.proofs.Pasts.{room_answers}
use Rattle.mip_bcache.proofs.Views.{kept_seen, room_seen}
use Rattle.mip_bcache.proofs.cache.Cache.has_room.Goals as goal

pub returns-clause-found : goal.returns-clause-found
returns-clause-found c =
    let home = c.args.home.0 in
    let now = c.args.now.0 in
    let t = seen c.self.inside.table in
    ap not (subst (λ (v : CacheSeen). c.is_full.result ≡ has_no_room v home now) c.self.view_is
    (c.is_full.ensures ∙ room_seen t.room home (kept_by due_of now (homes_in t)) ∙ ap (no_room home_of t.room home) (kept_seen now (homes_in t))))

pub returns-clause-answers : goal.returns-clause-answers
returns-clause-answers c = λ past stood. returns-clause-found c ∙ ap not (room_answers c.args.self.now past stood c.args.now.0 c.requires c.args.home.0)
