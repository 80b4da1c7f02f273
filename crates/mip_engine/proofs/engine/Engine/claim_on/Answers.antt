use Rattle.std.proofs.Common.{◌≡◌, refl, ap, ◌∙◌}
use Rattle.mip_words.specs.Holders.{holder_number}
use Rattle.mip_entries.specs.declared.entry.Entry.{Entry}
use Rattle.mip_links.specs.Nets.{holder_of}
use Rattle.mip_history.specs.Claims.{claim_entry}
use Rattle.mip_engine.specs.Engines.{EngineSeen, with_entry, with_net, claim_tried}
use Rattle.mip_engine.proofs.GoesLaws.{goes_to}
use Rattle.mip_engine.proofs.ClaimLaws.{at_squatted}
use Rattle.mip_engine.proofs.engine.Engine.claim_on.Goals as goal

pub returns : goal.returns
returns c =
    let e = c.args.self.now in
    let who = holder_number c.args.by.who in
    let a = c.args.address in
    let l = c.args.link.0 in
    let x = c.in_ok-entry.entry in
    let is : with_entry x c.take_claim.new.self ≡ with_entry (claim_entry who a l (holder_of e.net.rows a.0)) (with_net (claim_tried e.net who a) e) =
    ap (λ (y : EngineSeen). with_entry x y) c.in_ok-entry.ensures.after
    ∙ ap (λ (y : Entry). with_entry y (with_net (claim_tried e.net who a) e)) c.in_ok-entry.ensures.entry in
    goes_to c.note.ensures is refl (λ s run at. at_squatted e s run who l a c.args.by.few c.requires.link at)
