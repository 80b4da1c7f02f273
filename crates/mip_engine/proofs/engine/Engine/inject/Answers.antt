use Rattle.std.proofs.Common.{ℕ, List, refl, ap, ◌∙◌}
use Rattle.std.specs.Prelude.{Some, None}
use Rattle.mip_entries.specs.declared.entry.Entry.TheVariants.{Injected}
use Rattle.mip_links.specs.Table.{Post}
use Rattle.mip_links.specs.Nets.{posted}
use Rattle.mip_engine.specs.Engines.{EngineSeen, with_entry, with_net}
use Rattle.mip_engine.proofs.PostingLaws.{silent_injected}
use Rattle.mip_engine.proofs.GoesLaws.{goes_posted}
use Rattle.mip_engine.proofs.engine.Engine.inject.Goals as goal

pub returns : goal.returns
returns c =
    let e = c.args.self.now in
    let o = c.args.outsider in
    let link = c.args.link in
    let packet = c.args.packet.now in
    let post : Post = record { from = link.0; shield = None; packet = packet } in
    let number = c.in_ok-number.number in
    goes_posted post (Some o) (λ k. Injected k o link packet) number
    (record { silent = λ k. silent_injected k o link packet; number = λ k. refl; bytes = λ k. refl })
    (c.in_ok-note.ensures
    ∙ ap (λ (y : EngineSeen). with_entry (Injected number o link c.in_ok-packet.packet) y) c.in_ok-number.ensures.after
    ∙ ap (λ (b : List ℕ). with_entry (Injected number o link b) (with_net (posted e.net post) e)) c.in_ok-packet.ensures)
    c.in_ok-number.ensures.number c.overhear.ensures
