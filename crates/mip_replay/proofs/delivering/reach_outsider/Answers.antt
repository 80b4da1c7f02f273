use Rattle.std.proofs.Common.{◌≡◌, ◌<◌, ℕ, ◌+◌, ◌-◌, arith, List, length, Bool, true, false, refl, sym, ap, ◌∙◌, subst}
use Rattle.std.specs.Prelude.{Option, if◌then◌else◌, option_map}
use Rattle.mip_words.specs.declared.ids.LinkId.{LinkId}
use Rattle.mip_entries.specs.declared.entry.Entry.TheVariants.{Heard}
use Rattle.mip_links.specs.Table.{Post}
use Rattle.mip_history.specs.Runs.{Run, note}
use Rattle.mip_history.specs.Delivery.{hears_there, overheard_at}
use Rattle.mip_engine.proofs.QuietLaws.{at_reached, at_run}
use Rattle.mip_engine.proofs.PostingLaws.{silent_heard}
use Rattle.mip_engine.proofs.GoesLaws.{goes_as, goes_to}
use Rattle.mip_replay.proofs.DeliveredLaws.{overheard_posted}
use Rattle.mip_replay.proofs.delivering.reach_outsider.Goals as goal

-- what becomes of it, where the outsider hears the link or not
reached : (k o : ℕ) (link : Option ℕ) (heard : Run) (b : Bool) → hears_there heard o link ≡ b
    → (if hears_there heard (o + 32 - 32) link then heard else note (Heard k (o + 32 - 32)) heard) ≡ (if b then heard else note (Heard k o) heard)
reached k o link heard b is =
    let same : o + 32 - 32 ≡ o = omega arith in
    ap (λ (p : ℕ). if hears_there heard p link then heard else note (Heard k p) heard) same ∙ ap (λ (t : Bool). if t then heard else note (Heard k o) heard) is

pub returns : goal.returns
returns c = λ post same.
    let k = c.args.number in
    let o = c.args.outsider in
    let link = option_map (λ (l : LinkId). l.0) c.args.arrival.link in
    let overheard = c.in_ok-overhear_at.ensures post same in
    goes_to c.note.ensures refl overheard.kept (λ s run at.
    let heard = overheard_at s post k link run in
    let inside = subst (λ (ps : List Post). k < length ps) at.posts c.requires in
    let here = overheard.stands s run at in
    at_run (reached k o link heard false (sym (c.hears_at.ensures s heard here) ∙ c.if-hears_at.false))
    (at_reached c.overhear_at.new.engine s heard (Heard k o) k (silent_heard k o) refl refl (overheard_posted s post k link run inside) here))

pub returns-then-hears_at : goal.returns-then-hears_at
returns-then-hears_at c = λ post same.
    let k = c.args.number in
    let o = c.args.outsider in
    let link = option_map (λ (l : LinkId). l.0) c.args.arrival.link in
    let overheard = c.in_ok-overhear_at.ensures post same in
    goes_as overheard (λ s run at.
    let heard = overheard_at s post k link run in
    sym (reached k o link heard true (sym (c.hears_at.ensures s heard (overheard.stands s run at)) ∙ c.if-hears_at.true)))
