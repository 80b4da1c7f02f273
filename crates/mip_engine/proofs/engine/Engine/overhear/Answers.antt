use Rattle.std.proofs.Common.{◌≡◌, ◌<◌, ℕ, List, length, Bool, false, refl, sym, ◌∙◌, subst}
use Rattle.std.specs.Prelude.{if◌then◌else◌, is_some}
use Rattle.mip_links.specs.Table.{Post}
use Rattle.mip_history.specs.Posting.{heards, overheard}
use Rattle.mip_engine.specs.Engines.{with_entries, ears_of}
use Rattle.mip_engine.specs.Standing.{IsAt}
use Rattle.mip_engine.proofs.GoesLaws.{goes_to}
use Rattle.mip_engine.proofs.PostingLaws.{at_overheard}
use Rattle.mip_engine.proofs.engine.Engine.overhear.Goals as goal

pub returns : goal.returns
returns c =
    let e = c.args.self.now in
    let heard = with_entries (heards (λ (o : ℕ). ears_of e c.args.except c.args.link.0 o) c.args.number e.outsiders) e in
    let bare : is_some c.args.shield ≡ false = sym c.is_some.ensures ∙ c.if-is_some.false in
    goes_to c.hear.ensures refl refl (λ s run at.
    subst (λ (b : Bool). IsAt (if b then e else heard) s (overheard s c.args.link.0 c.args.shield c.args.except c.args.number run)) bare
    (at_overheard c.args.shield c.args.except c.args.link.0 c.args.number e s run (subst (λ (ps : List Post). c.args.number < length ps) at.posts c.requires) at))
