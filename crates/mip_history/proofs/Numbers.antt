-- Packets are numbered by their places, and are heard and handed over once they are posted; an address is claimed where nobody
-- else holds it, and given up by its holder.
use Rattle.std.proofs.Common.{◌≡◌, ℕ, ◌<◌, List, length, false, refl, sym, ap, ◌∙◌, subst, arith}
use Rattle.std.specs.Prelude.{map, option_map, Option, Some, None, slice_get}
use Rattle.std.proofs.lemmas.List.{length-map}
use Rattle.std.proofs.lemmas.Option.{slice_get_within, slice_get-map}
use Rattle.mip_entries.specs.declared.entry.Entry.{Entry}
use Rattle.mip_entries.specs.declared.entry.Entry.TheVariants as entries
use Rattle.mip_schedule.specs.declared.event.Event.{Event}
use Rattle.mip_links.specs.Table.{Post}
use Rattle.mip_history.specs.Setup.{Setup}
use Rattle.mip_history.specs.Runs.{Run}
use Rattle.mip_history.specs.Permitted.{opening_claims, run_of}
use Rattle.mip_history.specs.Bound.{packet_in}
use Rattle.mip_history.specs.BoundLaws.{packet_posted, packets_of}
use Rattle.mip_history.proofs.Opening.{is_other}
use Rattle.mip_history.proofs.Effects.{IsSeen, IsPosting}
use Rattle.mip_history.proofs.Numbered.{IsNumbered, packet_numbered}
use Rattle.mip_history.proofs.Changes.{Change}
use Rattle.mip_history.proofs.PostRecords.{IsBeside, Tells, TellsWhere, tells_change, run_tells}

count : (run : Run) → packets_of run.past ≡ map (λ p. p.packet) run.posts → length run.posts ≡ length (packets_of run.past)
count run posts = sym (ap (λ (l : List (List ℕ)). length l) posts ∙ length-map run.posts (λ (p : Post). p.packet))

within : (run : Run) (k : ℕ) (post : Post) → slice_get run.posts k ≡ Some post → packets_of run.past ≡ map (λ p. p.packet) run.posts → k < length (packets_of run.past)
within run k post posted posts = subst (λ (n : ℕ). k < n) (count run posts) (slice_get_within run.posts k post posted)

module _ (s : Setup) where
  seen : (run : Run) (e : Entry) → IsSeen run e → packets_of run.past ≡ map (λ p. p.packet) run.posts → IsNumbered s run.past e × (packet_posted e ≡ None)
  seen run (entries.Heard k o) is posts = (within run k is.post is.posted posts, refl)
  seen run (entries.Handed k node) is posts = (within run k is.post is.posted posts, refl)
  seen run (entries.Claimed who link address) is posts = (λ long. is, refl)
  seen run (entries.Released who link address) is posts = (is, refl)
  seen run (entries.Taken who link address holder) is posts = (is, refl)
  seen run (entries.Sent number node shielded packet) is posts = absurd is
  seen run (entries.Injected number outsider link packet) is posts = absurd is
  seen run _ is posts = (tt, refl)

  posting : (run : Run) (post : Post) (e : Entry) → IsPosting run post e → packets_of run.past ≡ map (λ p. p.packet) run.posts → IsNumbered s run.past e × (packet_posted e ≡ Some post.packet)
  posting run post (entries.Sent number node shielded packet) is posts = (is.0 ∙ count run posts, ap (λ (p : List ℕ). Some p) is.1)
  posting run post (entries.Injected number outsider link packet) is posts = (is.0 ∙ count run posts, ap (λ (p : List ℕ). Some p) is.1)
  posting run post _ is posts = absurd is

  beside : (past : List Entry) (e : Entry) → IsBeside e → IsNumbered s past e × (packet_posted e ≡ None)
  beside past (entries.At moment) is = (tt, refl)
  beside past (entries.Restarted node) is = (tt, refl)
  beside past _ is = absurd is

  opens : (past : List Entry) (e : Entry) → is_other e ≡ false → length past < length (opening_claims s) → IsNumbered s past e × (packet_posted e ≡ None)
  opens past (entries.Claimed who link address) claim short = (λ long. absurd (omega (arith, long, short)), refl)
  opens past _ claim short = absurd cc

  law : TellsWhere s packet_posted (λ p. p.packet) (IsNumbered s)
  law = record { seen = seen; posting = posting; beside = beside; opens = opens }

  abbrev pub AreNumbered : Run → Type 0
  AreNumbered run = Tells s packet_posted (λ p. p.packet) (IsNumbered s) run

  pub numbers_change : (event : Event) (a b : Run) → Change s event a b → AreNumbered a → AreNumbered b
  numbers_change = tells_change s packet_posted (λ p. p.packet) (IsNumbered s) law

  pub run_numbers : (events : List Event) → AreNumbered (run_of s events)
  run_numbers = run_tells s packet_posted (λ p. p.packet) (IsNumbered s) law

  -- a packet that was posted is found by its number
  pub posted_is : (run : Run) (k : ℕ) (post : Post) → AreNumbered run → slice_get run.posts k ≡ Some post → packet_in run.past k ≡ Some post.packet
  posted_is run k post are posted =
      packet_numbered s run.past k are.each
      ∙ ap (λ (l : List (List ℕ)). slice_get l k) are.posts
      ∙ slice_get-map (λ (p : Post). p.packet) run.posts k
      ∙ ap (λ (o : Option Post). option_map (λ p. p.packet) o) posted
