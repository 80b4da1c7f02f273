-- What calls make of a run, one after the other and under other names.
use Rattle.std.proofs.Common.{◌≡◌, ℕ, List, length, refl, sym, ap, ◌∙◌, subst}
use Rattle.std.proofs.lemmas.Result.{on_ok_weaker}
use Rattle.std.specs.Prelude.{Option, Some, Result, Ok, OnOk}
use Rattle.mip_entries.specs.declared.entry.Entry.{Entry}
use Rattle.mip_entries.specs.declared.entry.Entry.TheVariants.{Idle}
use Rattle.mip_links.specs.Table.{Post}
use Rattle.mip_links.specs.Nets as nets
use Rattle.mip_provenance_index.specs.Stands.{number_posted}
use Rattle.mip_recorder.specs.Packets.{bytes_posted}
use Rattle.mip_history.specs.Setup.{Setup}
use Rattle.mip_history.specs.Runs.{Run, note, entered}
use Rattle.mip_history.specs.Posting.{overheard, posted}
use Rattle.mip_engine.specs.Engines.{EngineSeen, with_entry, with_net}
use Rattle.mip_engine.specs.Quiet.{IsSilent, IsQuiet}
use Rattle.mip_engine.specs.Standing.{IsAt, HasGone, Goes}
use Rattle.mip_engine.proofs.QuietLaws.{at_is, at_note, at_ok, at_ok_run, at_run}
use Rattle.mip_engine.proofs.PostingLaws.{quiet_idle, at_posting}

-- where two definitions make the same of a run that the engine stands for
abbrev pub AreSame : EngineSeen → (f g : Setup → Run → Run) → Type 0
AreSame e f g = (s : Setup) (run : Run) → IsAt e s run → f s run ≡ g s run

-- an engine that stands for what a definition makes of each run that another one stands for
abbrev pub Leads : (old new : EngineSeen) → (Setup → Run → Run) → Type 0
Leads old new f = (s : Setup) (run : Run) → IsAt old s run → IsAt new s (f s run)

-- the same under another name
pub goes_as : {A E : Type 0} {r : Result A E} {old new : EngineSeen} {f g : Setup → Run → Run} → Goes r old new f → AreSame old f g → Goes r old new g
goes_as {r = r} {new = new} {f = f} {g = g} goes same = record {
  stands = λ s run at. at_ok_run r new s (f s run) (g s run) (goes.stands s run at) (same s run at);
  kept = goes.kept;
}

-- an engine that is known, and gives nothing away
pub goes_to : {A E : Type 0} {r : Result A E} {old new mid e : EngineSeen} {f : Setup → Run → Run} → OnOk r (new ≡ mid) → mid ≡ e → e.told ≡ old.told → Leads old e f → Goes r old new f
goes_to {r = r} {new = new} {mid = mid} {f = f} is here told leads = record {
  stands = λ s run at. at_ok r new mid s (f s run) is (at_is here (leads s run at));
  kept = on_ok_weaker r (λ (same : new ≡ mid). ap (λ (x : EngineSeen). x.told) (same ∙ here) ∙ told) is;
}

-- an entry is left that says nothing
pub goes_noted : {A E : Type 0} {r : Result A E} {old new : EngineSeen} {x : Entry} → OnOk r (new ≡ with_entry x old) → IsQuiet x → Goes r old new (λ s run. note x run)
goes_noted {old = old} {x = x} is quiet = goes_to is refl refl (λ s run at. at_note old s run x quiet at)

pub goes_note : {A E : Type 0} {r : Result A E} {old new : EngineSeen} {g : Setup → Run → Run} {x : Entry} → OnOk r (new ≡ with_entry x old) → IsQuiet x
    → AreSame old (λ s run. note x run) g → Goes r old new g
goes_note is quiet same = goes_as (goes_noted is quiet) same

-- nothing is done
pub goes_idle : {A E : Type 0} {r : Result A E} {old new : EngineSeen} {g : Setup → Run → Run} → OnOk r (new ≡ with_entry Idle old) → AreSame old (λ s run. note Idle run) g → Goes r old new g
goes_idle is same = goes_note is quiet_idle same

-- nothing was done yet
pub goes_nowhere : {A E : Type 0} {x : A} {e : EngineSeen} {g : Setup → Run → Run} → AreSame e (λ s run. run) g → Goes {A = A} {E = E} (Ok x) e e g
goes_nowhere same = record { stands = λ s run at. at_run (sym (same s run at)) at; kept = refl }

-- what was done so far
pub gone : {A E : Type 0} {x : A} {old new : EngineSeen} {f : Setup → Run → Run} → Goes {A = A} {E = E} (Ok x) old new f → HasGone old new f
gone goes = record { stands = goes.stands; kept = goes.kept }

pub gone_to : {old new e : EngineSeen} (f : Setup → Run → Run) → new ≡ e → e.told ≡ old.told → Leads old e f → HasGone old new f
gone_to f is told leads = record { stands = λ s run at. at_is is (leads s run at); kept = ap (λ (x : EngineSeen). x.told) is ∙ told }

pub gone_noted : {old new : EngineSeen} {x : Entry} → new ≡ with_entry x old → IsQuiet x → HasGone old new (λ s run. note x run)
gone_noted {old = old} {x = x} is quiet = gone_to (λ s run. note x run) is refl (λ s run at. at_note old s run x quiet at)

-- a call behind what was done so far
pub goes_after : {A E : Type 0} {r : Result A E} {old mid new : EngineSeen} {f g h : Setup → Run → Run} → HasGone old mid f → Goes r mid new g
    → AreSame old (λ s run. g s (f s run)) h → Goes r old new h
goes_after {r = r} {old = old} {mid = mid} {new = new} {f = f} {g = g} {h = h} so_far goes same = record {
  stands = λ s run at. at_ok_run r new s (g s (f s run)) (h s run) (goes.stands s (f s run) (so_far.stands s run at)) (same s run at);
  kept = on_ok_weaker r (λ (still : new.told ≡ mid.told). still ∙ so_far.kept) goes.kept;
}

-- one step more
pub gone_after : {old mid new : EngineSeen} {f g h : Setup → Run → Run} → HasGone old mid f → HasGone mid new g → AreSame old (λ s run. g s (f s run)) h → HasGone old new h
gone_after {f = f} so_far step same = record {
  stands = λ s run at. at_run (sym (same s run at)) (step.stands s (f s run) (so_far.stands s run at));
  kept = step.kept ∙ so_far.kept;
}

-- an entry that posts a packet under its number
pub record Posts (post : Post) (entry : ℕ → Entry) : Type 0 where
  pub silent : (k : ℕ) → IsSilent (entry k)
  pub number : (k : ℕ) → number_posted (entry k) ≡ Some k
  pub bytes : (k : ℕ) → bytes_posted (entry k) ≡ Some post.packet

-- a packet is posted under the next number, and then it is heard
pub goes_posted : {A E : Type 0} {r : Result A E} {e mid new : EngineSeen} (post : Post) (by : Option ℕ) (entry : ℕ → Entry) (k : ℕ) → Posts post entry
    → mid ≡ with_entry (entry k) (with_net (nets.posted e.net post) e) → k ≡ length e.net.posts
    → Goes r mid new (λ s run. overheard s post.from post.shield by k run) → Goes r e new (λ s run. posted s post by (entry (length run.posts)) run)
goes_posted {r = r} {e = e} {mid = mid} {new = new} post by entry k posts is next goes = record {
  stands = λ s run at.
      let number : k ≡ length run.posts = next ∙ ap (λ (ps : List Post). length ps) at.posts in
      let x = entry (length run.posts) in
      let after = entered post (note x run) in
      let here : IsAt mid s after = at_is (is ∙ ap (λ (n : ℕ). with_entry (entry n) (with_net (nets.posted e.net post) e)) number)
      (at_posting e s run post x (posts.silent (length run.posts)) (posts.number (length run.posts)) (posts.bytes (length run.posts)) at) in
      subst (λ (n : ℕ). OnOk r (IsAt new s (overheard s post.from post.shield by n after))) number (goes.stands s after here);
  kept = on_ok_weaker r (λ (still : new.told ≡ mid.told). still ∙ ap (λ (y : EngineSeen). y.told) is) goes.kept;
}
