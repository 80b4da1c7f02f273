use Rattle.std.proofs.Common.{◌≡◌, Bool, true, false, refl, sym, ap, ◌∙◌, subst}
use Rattle.std.specs.Prelude.{if◌then◌else◌, not}
use Rattle.mip_entries.specs.declared.entry.Entry.TheVariants.{Listening, Idle}
use Rattle.mip_links.specs.Nets.{hears_of, with_hearing}
use Rattle.mip_history.specs.Claims.{link_id}
use Rattle.mip_history.specs.Outsiders.{listens}
use Rattle.mip_engine.specs.Engines.{EngineSeen, with_entry, with_net}
use Rattle.mip_engine.specs.Standing.{IsAt}
use Rattle.mip_engine.proofs.GoesLaws.{goes_to}
use Rattle.mip_engine.proofs.ClaimLaws.{at_listens}
use Rattle.mip_replay.proofs.outsiders.listen.Goals as goal

pub returns-then-branch : goal.returns-then-branch
returns-then-branch c =
    let e = c.args.engine.now in
    let o = c.args.outsider in
    let l = c.args.link.0 in
    let is : not (hears_of e.net.hearing o l) ≡ true = sym c.in_ok-begin_listening.ensures.was ∙ c.if-branch.true in
    goes_to c.note.ensures (ap (λ (x : EngineSeen). with_entry (Listening o (link_id l)) x) c.in_ok-begin_listening.ensures.after) refl
    (λ s run at. subst (λ (b : Bool). IsAt (with_entry (if b then Listening o (link_id l) else Idle) (with_net (with_hearing e.net o l true) e)) s (listens run o l)) is
    (at_listens e s run o l c.requires.outsider c.requires.small at))

pub returns : goal.returns
returns c =
    let e = c.args.engine.now in
    let o = c.args.outsider in
    let l = c.args.link.0 in
    let is : not (hears_of e.net.hearing o l) ≡ false = sym c.in_ok-begin_listening.ensures.was ∙ c.if-branch.false in
    goes_to c.note-2.ensures (ap (λ (x : EngineSeen). with_entry Idle x) c.in_ok-begin_listening.ensures.after) refl
    (λ s run at. subst (λ (b : Bool). IsAt (with_entry (if b then Listening o (link_id l) else Idle) (with_net (with_hearing e.net o l true) e)) s (listens run o l)) is
    (at_listens e s run o l c.requires.outsider c.requires.small at))
