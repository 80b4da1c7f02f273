use Rattle.std.proofs.Common.{ℕ, List, Bool, refl, ap, ◌∙◌}
use Rattle.std.specs.Prelude.{None, is_some}
use Rattle.mip_entries.specs.declared.entry.Entry.TheVariants.{Sent}
use Rattle.mip_links.specs.Table.{Post}
use Rattle.mip_links.specs.Nets.{posted}
use Rattle.mip_engine.specs.Engines.{EngineSeen, with_entry, with_net}
use Rattle.mip_engine.proofs.PostingLaws.{silent_sent}
use Rattle.mip_engine.proofs.GoesLaws.{goes_posted}
use Rattle.mip_engine.proofs.engine.Engine.send.Goals as goal

pub returns : goal.returns
returns c =
    let e = c.args.self.now in
    let n = c.args.node in
    let packet = c.args.packet in
    let shielded = is_some c.args.shield in
    let post : Post = record { from = c.args.from.0; shield = c.args.shield; packet = packet } in
    let number = c.in_ok-number.number in
    goes_posted post None (λ k. Sent k n shielded packet) number
    (record { silent = λ k. silent_sent k n shielded packet; number = λ k. refl; bytes = λ k. refl })
    (c.in_ok-note.ensures
    ∙ ap (λ (y : EngineSeen). with_entry (Sent number n c.is_some.result packet) y) c.in_ok-number.ensures.after
    ∙ ap (λ (b : List ℕ). with_entry (Sent number n c.is_some.result packet) (with_net (posted e.net (record { from = c.args.from.0; shield = c.args.shield; packet = b })) e)) c.as_slice.ensures
    ∙ ap (λ (b : Bool). with_entry (Sent number n b packet) (with_net (posted e.net post) e)) c.is_some.ensures)
    c.in_ok-number.ensures.number c.overhear.ensures
