use Rattle.std.proofs.Common.{◌≡◌, Bool, true, false, refl, sym, ap, ◌∙◌, subst}
use Rattle.std.specs.Prelude.{if◌then◌else◌, slice_index_or}
use Rattle.mip_entries.specs.declared.entry.Entry.TheVariants.{Lost, Idle}
use Rattle.mip_links.specs.Nets.{left}
use Rattle.mip_history.specs.Permitted.{lost}
use Rattle.mip_engine.specs.Engines.{EngineSeen, with_entry, with_net}
use Rattle.mip_engine.specs.Standing.{IsAt}
use Rattle.mip_engine.proofs.GoesLaws.{goes_to}
use Rattle.mip_engine.proofs.PostingLaws.{at_lost}
use Rattle.mip_replay.proofs.delivering.lose_packet.Goals as goal

pub returns-then-lose : goal.returns-then-lose
returns-then-lose c =
    let e = c.args.engine.now in
    let k = c.args.number in
    let was : slice_index_or e.net.flying k false ≡ true = sym c.lose.ensures.was ∙ c.if-lose.true in
    goes_to c.note.ensures (ap (λ (x : EngineSeen). with_entry (Lost k) x) c.lose.ensures.after) refl
    (λ s run at. subst (λ (b : Bool). IsAt (with_entry (if b then Lost k else Idle) (with_net (left e.net k) e)) s (lost run k)) was (at_lost e s run k at))

pub returns : goal.returns
returns c =
    let e = c.args.engine.now in
    let k = c.args.number in
    let was : slice_index_or e.net.flying k false ≡ false = sym c.lose.ensures.was ∙ c.if-lose.false in
    goes_to c.note-2.ensures (ap (λ (x : EngineSeen). with_entry Idle x) c.lose.ensures.after) refl
    (λ s run at. subst (λ (b : Bool). IsAt (with_entry (if b then Lost k else Idle) (with_net (left e.net k) e)) s (lost run k)) was (at_lost e s run k at))
