use Rattle.std.proofs.Common.{ℕ, ap, ◌∙◌}
use Rattle.std.specs.Prelude.{Option}
use Rattle.mip_words.specs.Holders.{holder_number}
use Rattle.mip_history.specs.Claims.{claimed_on}
use Rattle.mip_engine.proofs.QuietLaws.{at_link}
use Rattle.mip_engine.proofs.GoesLaws.{goes_as, goes_idle}
use Rattle.mip_engine.proofs.engine.Engine.claim.Goals as goal

pub returns-in-None : goal.returns-in-None
returns-in-None c =
    let a = c.args.address in
    goes_idle c.note.ensures (λ s run at. ap (λ (o : Option ℕ). claimed_on (holder_number c.args.who) a run o) (c.in-None.ensures ∙ at_link at a.0))

pub returns-in-Some : goal.returns-in-Some
returns-in-Some c =
    let a = c.args.address in
    goes_as c.claim_on.ensures (λ s run at. ap (λ (o : Option ℕ). claimed_on (holder_number c.args.who) a run o) (c.in-Some.ensures ∙ at_link at a.0))
