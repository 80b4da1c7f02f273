-- Outsiders hear no packet that was posted under a shield.
use Rattle.std.proofs.Common.{◌≡◌, ℕ, List, [], Bool, false, refl, sym, ap, ◌∙◌}
use Rattle.std.specs.Prelude.{map, Option, Some, None, is_some, option_map, slice_get}
use Rattle.std.specs.List.{filter_map}
use Rattle.std.proofs.lemmas.Option.{slice_get-map}
use Rattle.mip_words.specs.EachAfter.{EachAfter}
use Rattle.mip_words.specs.declared.shield.Shield.{Shield}
use Rattle.mip_entries.specs.declared.entry.Entry.{Entry}
use Rattle.mip_entries.specs.declared.entry.Entry.TheVariants as entries
use Rattle.mip_schedule.specs.declared.event.Event.{Event}
use Rattle.mip_links.specs.Table.{Post}
use Rattle.mip_history.specs.Setup.{Setup}
use Rattle.mip_history.specs.Runs.{Run}
use Rattle.mip_history.specs.Permitted.{run_of}
use Rattle.mip_history.specs.Shields.{shield_posted, is_shielded_in}
use Rattle.mip_history.specs.ShieldsLaws.{IsHeardBare}
use Rattle.mip_history.proofs.Changes.{Change}
use Rattle.mip_history.proofs.Effects.{IsSeen, IsPosting}
use Rattle.mip_history.proofs.Opening.{is_other}
use Rattle.mip_history.proofs.PostRecords.{IsBeside, Tells, TellsWhere, tells_change, run_tells}

abbrev is_under : Post → Bool
is_under post = is_some post.shield

seen : (run : Run) (e : Entry) → IsSeen run e → filter_map shield_posted run.past ≡ map is_under run.posts → IsHeardBare run.past e × (shield_posted e ≡ None)
seen run (entries.Heard k o) is posts = (
  ap (λ (l : List Bool). slice_get l k) posts ∙ slice_get-map is_under run.posts k ∙ ap (λ (o : Option Post). option_map is_under o) is.posted
      ∙ ap (λ (o : Option Shield). Some (is_some o)) is.bare,
  refl,
)
seen run (entries.Sent number node shielded packet) is posts = absurd is
seen run (entries.Injected number outsider link packet) is posts = absurd is
seen run _ is posts = (tt, refl)

posting : (run : Run) (post : Post) (e : Entry) → IsPosting run post e → filter_map shield_posted run.past ≡ map is_under run.posts → IsHeardBare run.past e × (shield_posted e ≡ Some (is_under post))
posting run post (entries.Sent number node shielded packet) is posts = (tt, ap (λ (b : Bool). Some b) is.2)
posting run post (entries.Injected number outsider link packet) is posts = (tt, ap (λ (o : Option Shield). Some (is_some o)) (sym is.2))
posting run post _ is posts = absurd is

beside : (past : List Entry) (e : Entry) → IsBeside e → IsHeardBare past e × (shield_posted e ≡ None)
beside past (entries.At moment) is = (tt, refl)
beside past (entries.Restarted node) is = (tt, refl)
beside past _ is = absurd is

opens : (past : List Entry) (e : Entry) → is_other e ≡ false → IsHeardBare past e × (shield_posted e ≡ None)
opens past (entries.Claimed who link address) claim = (tt, refl)
opens past _ claim = absurd cc

law : (s : Setup) → TellsWhere s shield_posted is_under IsHeardBare
law s = record { seen = seen; posting = posting; beside = beside; opens = λ past e claim short. opens past e claim }

-- the history tells which posts are under a shield
abbrev pub AreShielded : Setup → Run → Type 0
AreShielded s run = Tells s shield_posted is_under IsHeardBare run

pub shields_change : (s : Setup) (event : Event) (a b : Run) → Change s event a b → AreShielded s a → AreShielded s b
shields_change s = tells_change s shield_posted is_under IsHeardBare (law s)

pub run_shields : (s : Setup) (events : List Event) → AreShielded s (run_of s events)
run_shields s events = run_tells s shield_posted is_under IsHeardBare (law s) events

pub shield_is : (s : Setup) (run : Run) (k : ℕ) (post : Post) → AreShielded s run → slice_get run.posts k ≡ Some post → is_shielded_in run.past k ≡ Some (is_some post.shield)
shield_is s run k post are posted =
    ap (λ (l : List Bool). slice_get l k) are.posts
    ∙ slice_get-map is_under run.posts k
    ∙ ap (λ (o : Option Post). option_map is_under o) posted

pub heard_bare : (s : Setup) (events : List Event) → EachAfter IsHeardBare [] (run_of s events).past
heard_bare s events = let all = run_shields s events in all.each
