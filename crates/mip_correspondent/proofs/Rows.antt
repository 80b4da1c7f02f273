-- The rows of a correspondent stay sound, and what they hold is held for a routable home.
use Rattle.std.proofs.Common.{◌≡◌, ℕ, ◌≤◌, List, [], ◌∷◌, Bool, true, false, refl, subst, arith}
use Rattle.std.specs.Prelude.{Option, Some, None, ◌==◌, if◌then◌else◌}
use Rattle.std.specs.List.{AllByRecursion}
use Rattle.std.proofs.lemmas.Bool.Decides.{nat_tests}
use Rattle.mip_words.specs.Addresses.{is_routable}
use Rattle.mip_binding.specs.Rows.{find_by}
use Rattle.mip_binding.proofs.RowLaws.{all-kept, all-put}
use Rattle.mip_bcache.specs.declared.row.Row.{Row}
use Rattle.mip_bcache.specs.Seen.{CacheSeen, HomeRows, home_of, until_of, kept_at, home_at, stands, last_row, standing_at, rows_made, rows_left, expired}
use Rattle.mip_rules_correspondent.specs.declared.identity.Identity.{Identity}
use Rattle.mip_rules_correspondent.specs.declared.known.Known.{Known}
use Rattle.mip_correspondent.specs.declared.accepted_binding.AcceptedBinding.{AcceptedBinding}
use Rattle.mip_correspondent.specs.Soundness.{HasRoutableHome, IsSound}
use Rattle.mip_correspondent.specs.Showing.{left, with_kept, Fits}

found_routable : (home : ℕ) (hs : List HomeRows) (h : HomeRows) → AllByRecursion HasRoutableHome hs → find_by home_of home hs ≡ Some h → is_routable home ≡ true
found_routable home [] h all e = absurd cc
found_routable home (g ∷ hs) h all e = by (g.home == home) refl (found_routable home hs h all.1) e
  where
    by : (same : Bool) → (g.home == home) ≡ same → (find_by home_of home hs ≡ Some h → is_routable home ≡ true) → (if same then Some g else find_by home_of home hs) ≡ Some h → is_routable home ≡ true
    by true is more e = let same : g.home ≡ home = grind (arith, nat_tests, is) in subst (λ (a : ℕ). is_routable a ≡ true) same all.0
    by false is more e = more e

pub held_routable : (cache : CacheSeen) (home now : ℕ) (row : Row) → AllByRecursion HasRoutableHome cache.homes → Some row ≡ standing_at cache home now → is_routable home ≡ true
held_routable cache home now row all e = by (home_at cache home now) refl e
  where
    by : (o : Option HomeRows) → home_at cache home now ≡ o → Some row ≡ last_row (stands home now) o → is_routable home ≡ true
    by None is e = absurd cc
    by (Some h) is e = found_routable home (kept_at cache now) h (all-kept HasRoutableHome until_of now cache.homes all) is

pub kept_sound : (identity : Identity) (k : Known) (now : ℕ) (kept : Option AcceptedBinding) → IsSound (record { identity = identity; known = k }) → k.last.0 ≤ now → Fits now k.cache kept → IsSound (record { identity = identity; known = left now (with_kept now kept k.cache) })
kept_sound identity k now None sound later fits = record {
  early = let e = sound.early in omega arith;
  room = sound.room;
  numbers = sound.numbers;
  homes = sound.homes;
}
kept_sound identity k now (Some kept) sound later fits = record {
  early = omega arith;
  room = sound.room;
  numbers = sound.numbers;
  homes = all-put HasRoutableHome home_of (rows_made now kept.home kept.number kept.accepted (rows_left kept.home kept.number kept.accepted (home_at k.cache kept.home.0 now))) (kept_at k.cache now) fits.routable
      (all-kept HasRoutableHome until_of now k.cache.homes sound.homes);
}

pub ticked_sound : (identity : Identity) (k : Known) (now : ℕ) → IsSound (record { identity = identity; known = k }) → IsSound (record { identity = identity; known = left now (expired now k.cache) })
ticked_sound identity k now sound = record {
  early = omega arith;
  room = sound.room;
  numbers = sound.numbers;
  homes = all-kept HasRoutableHome until_of now k.cache.homes sound.homes;
}
