use Rattle.std.proofs.Common.{◌≡◌, Bool, true, false, refl, sym, ap, ◌∙◌, subst}
use Rattle.std.specs.Prelude.{if◌then◌else◌}
use Rattle.mip_entries.specs.declared.entry.Entry.TheVariants.{Deafened, Idle}
use Rattle.mip_links.specs.Nets.{hears_of, with_hearing}
use Rattle.mip_history.specs.Claims.{link_id}
use Rattle.mip_history.specs.Outsiders.{deafens}
use Rattle.mip_engine.specs.Engines.{EngineSeen, with_entry, with_net}
use Rattle.mip_engine.specs.Standing.{IsAt}
use Rattle.mip_engine.proofs.GoesLaws.{goes_to}
use Rattle.mip_engine.proofs.ClaimLaws.{at_deafens}
use Rattle.mip_replay.proofs.outsiders.deafen.Goals as goal

pub returns-then-end_listening : goal.returns-then-end_listening
returns-then-end_listening c =
    let e = c.args.engine.now in
    let o = c.args.outsider in
    let l = c.args.link.0 in
    let is : (hears_of e.net.hearing o l) ≡ true = sym c.end_listening.ensures.was ∙ c.if-end_listening.true in
    goes_to c.note.ensures (ap (λ (x : EngineSeen). with_entry (Deafened o (link_id l)) x) c.end_listening.ensures.after) refl
    (λ s run at. subst (λ (b : Bool). IsAt (with_entry (if b then Deafened o (link_id l) else Idle) (with_net (with_hearing e.net o l false) e)) s (deafens run o l)) is
    (at_deafens e s run o l c.requires.outsider c.requires.small at))

pub returns : goal.returns
returns c =
    let e = c.args.engine.now in
    let o = c.args.outsider in
    let l = c.args.link.0 in
    let is : (hears_of e.net.hearing o l) ≡ false = sym c.end_listening.ensures.was ∙ c.if-end_listening.false in
    goes_to c.note-2.ensures (ap (λ (x : EngineSeen). with_entry Idle x) c.end_listening.ensures.after) refl
    (λ s run at. subst (λ (b : Bool). IsAt (with_entry (if b then Deafened o (link_id l) else Idle) (with_net (with_hearing e.net o l false) e)) s (deafens run o l)) is
    (at_deafens e s run o l c.requires.outsider c.requires.small at))
