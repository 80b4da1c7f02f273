use Rattle.std.proofs.Common.{ℕ, refl, ap, ◌∙◌}
use Rattle.mip_words.specs.Holders.{holder_number}
use Rattle.mip_entries.specs.declared.entry.Entry.TheVariants.{Claimed}
use Rattle.mip_engine.specs.Engines.{EngineSeen, with_entry}
use Rattle.mip_engine.proofs.GoesLaws.{goes_to}
use Rattle.mip_engine.proofs.ClaimLaws.{at_claimed}
use Rattle.mip_engine.proofs.engine.Engine.hold.Goals as goal

pub returns : goal.returns
returns c =
    let link = c.args.link in
    let a = c.args.address in
    let who = holder_number c.args.by.who in
    goes_to c.note.ensures
    (ap (λ (w : ℕ). with_entry (Claimed w link a) c.take_free.new.self) c.number-who.ensures ∙ ap (λ (y : EngineSeen). with_entry (Claimed who link a) y) c.in_ok-take_free.ensures) refl
    (λ s run at. at_claimed c.args.self.now s run who link.0 a c.args.by.few at)
