use Rattle.std.proofs.Common.{Bool, sym, ap, ◌∙◌}
use Rattle.std.specs.Prelude.{if◌then◌else◌, option_map}
use Rattle.mip_words.specs.declared.ids.LinkId.{LinkId}
use Rattle.mip_entries.specs.declared.entry.Entry.TheVariants.{Gone}
use Rattle.mip_history.specs.Runs.{note}
use Rattle.mip_history.specs.Delivery.{overheard_at}
use Rattle.mip_engine.proofs.PostingLaws.{quiet_gone}
use Rattle.mip_engine.proofs.GoesLaws.{goes_after, goes_note, goes_noted, gone}
use Rattle.mip_replay.proofs.delivering.vanish.Goals as goal

pub returns-then-is_no_holder : goal.returns-then-is_no_holder
returns-then-is_no_holder c = λ post same.
    let k = c.args.number in
    let why = c.args.why in
    let link = option_map (λ (l : LinkId). l.0) c.args.arrival.link in
    goes_after (gone (c.in_ok-overhear_at.ensures post same)) (goes_noted c.note.ensures (quiet_gone k why))
    (λ s run at. ap (λ (b : Bool). note (Gone k why) (if b then overheard_at s post k link run else run)) (sym (sym c.is_no_holder.ensures ∙ c.if-is_no_holder.true)))

pub returns : goal.returns
returns c = λ post same.
    let k = c.args.number in
    let why = c.args.why in
    let link = option_map (λ (l : LinkId). l.0) c.args.arrival.link in
    goes_note c.note-2.ensures (quiet_gone k why)
    (λ s run at. ap (λ (b : Bool). note (Gone k why) (if b then overheard_at s post k link run else run)) (sym (sym c.is_no_holder.ensures ∙ c.if-is_no_holder.false)))
