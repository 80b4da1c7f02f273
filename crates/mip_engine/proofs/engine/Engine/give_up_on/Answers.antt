use Rattle.std.proofs.Common.{◌≡◌, ℕ, refl, sym, ap, ◌∙◌, subst, true, false}
use Rattle.std.specs.Prelude.{Option}
use Rattle.mip_words.specs.Holders.{holder_number}
use Rattle.mip_entries.specs.declared.entry.Entry.TheVariants.{Released, Idle}
use Rattle.mip_history.specs.Runs.{note}
use Rattle.mip_history.specs.Homes.{passes_to}
use Rattle.mip_links.specs.Nets.{NetSeen, holder_of, is_held_by}
use Rattle.mip_engine.specs.Engines.{EngineSeen, IsFree, with_entry}
use Rattle.mip_engine.proofs.QuietLaws.{at_note, at_run}
use Rattle.mip_engine.proofs.PostingLaws.{quiet_idle}
use Rattle.mip_engine.proofs.GoesLaws.{goes_to, goes_after, gone_to}
use Rattle.mip_engine.proofs.PassingLaws.{freed, at_given_up, at_kept, given_up_is, resident_same}
use Rattle.mip_engine.proofs.engine.Engine.give_up_on.Goals as goal

pub pass_on-requires : goal.pass_on-requires
pass_on-requires c =
    let e = c.args.self.now in
    let held : is_held_by (holder_of e.net.rows c.args.address.0) (holder_number c.args.who) ≡ true = sym c.release.ensures.was ∙ c.if-release.true in
    let here : c.note.new.self.net ≡ c.release.new.self.net = ap (λ (x : EngineSeen). x.net) c.in_ok-note.ensures in
    record {
      free = subst (λ (net : NetSeen). IsFree net c.args.address.0) (sym (here ∙ ap (λ (x : EngineSeen). x.net) c.release.ensures.after))
          (freed e.net (holder_number c.args.who) c.args.link.0 c.args.address c.requires held);
    }

pub returns-then-release : goal.returns-then-release
returns-then-release c =
    let e = c.args.self.now in
    let who = holder_number c.args.who in
    let a = c.args.address in
    let l = c.args.link.0 in
    let x = Released who c.args.link a in
    let held : is_held_by (holder_of e.net.rows a.0) who ≡ true = sym c.release.ensures.was ∙ c.if-release.true in
    let so_far = gone_to (λ s run. note x run)
    (c.in_ok-note.ensures ∙ ap (λ (w : ℕ). with_entry (Released w c.args.link a) c.release.new.self) c.number.ensures ∙ ap (λ (y : EngineSeen). with_entry x y) c.release.ensures.after) refl
    (λ s run at. at_given_up e s run who l a held at) in
    goes_after so_far c.pass_on.ensures
    (λ s run at. ap (λ (o : Option ℕ). passes_to who a l (note x run) o) (resident_same c.note.new.self s (note x run) (so_far.stands s run at) a.0)
    ∙ sym (given_up_is e s run who l a true held at))

pub returns : goal.returns
returns c =
    let e = c.args.self.now in
    let who = holder_number c.args.who in
    let a = c.args.address in
    let l = c.args.link.0 in
    let held : is_held_by (holder_of e.net.rows a.0) who ≡ false = sym c.release.ensures.was ∙ c.if-release.false in
    goes_to c.note-2.ensures (ap (λ (y : EngineSeen). with_entry Idle y) c.release.ensures.after) refl
    (λ s run at. at_run (given_up_is e s run who l a false held at) (at_note _ s run Idle quiet_idle (at_kept e s run who a held at)))
