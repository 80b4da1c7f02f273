-- What a contract sees of a table.
use Rattle.std.proofs.Common.{◌≡◌, ℕ, ◌+◌, ◌*◌, ◌^◌, ◌<◌, ◌≤◌, List, [], ◌∷◌, length, length-append, refl, sym, ap, subst, ◌∙◌, arith, suc-mul, mul-le-mul_right}
use Rattle.std.specs.Prelude.{Option, Some, None, option_map, is_some, map, not, ◌&&◌, ◌==◌}
use Rattle.std.specs.List.{AllByRecursion, flat_map}
use Rattle.std.proofs.lemmas.List.{length-map}
use Rattle.mip_binding.specs.Rows.{find_by, kept_by}
use Rattle.mip_binding.proofs.RowLaws.{map-kept, map-find, all-kept, all-map, length-kept}
use Rattle.mip_bcache.specs.declared.home.Home.{Home}
use Rattle.mip_bcache.specs.Seen.{HomeRows, home_of, until_of, no_room, rows_of_home}
use Rattle.mip_bcache.specs.Table.{live_in, key_of, due_of, rows_seen, TableSeen, homes_in, count_of, IsHome, IsTable}
use Rattle.mip_bcache.proofs.Numbers.{few_rows}
use Rattle.mip_bcache.proofs.Slots.{all_homes}
use Rattle.mip_bcache.proofs.Pasts.{HasUntils}

pub kept_seen : (now : ℕ) (hs : List Home) → map rows_seen (kept_by due_of now hs) ≡ kept_by until_of now (map rows_seen hs)
kept_seen now hs = map-kept rows_seen until_of now hs

pub home_seen : (now home : ℕ) (hs : List Home) → option_map rows_seen (find_by key_of home (kept_by due_of now hs)) ≡ find_by home_of home (kept_by until_of now (map rows_seen hs))
home_seen now home hs = map-find rows_seen home_of home (kept_by due_of now hs) ∙ ap (find_by home_of home) (kept_seen now hs)

pub room_seen : (limit home : ℕ) (hs : List Home) → no_room key_of limit home hs ≡ no_room home_of limit home (map rows_seen hs)
room_seen limit home hs =
    ap (λ b. not b && (length hs == limit)) (some (find_by key_of home hs) ∙ ap (λ (o : Option HomeRows). is_some o) (map-find rows_seen home_of home hs))
    ∙ ap (λ n. not (is_some (find_by home_of home (map rows_seen hs))) && (n == limit)) (sym (length-map hs rows_seen))
  where
    some : (o : Option Home) → is_some o ≡ is_some (option_map rows_seen o)
    some None = refl
    some (Some h) = refl

-- how many rows there are
pub count_seen : (hs : List Home) → count_of hs ≡ length (flat_map (λ (h : HomeRows). h.live) (map rows_seen hs))
count_seen [] = refl
count_seen (h ∷ hs) = let more = count_seen hs in let both = length-append (live_in h) (flat_map (λ (k : HomeRows). k.live) (map rows_seen hs)) in omega arith

few_listed : (numbers : ℕ) (hs : List Home) → AllByRecursion (IsHome numbers) hs → length (flat_map rows_of_home (map rows_seen hs)) ≤ length hs * numbers
few_listed numbers [] each = omega arith
few_listed numbers (h ∷ hs) each =
    let first = few_rows (rows_seen h) numbers each.0.below in
    let rest = few_listed numbers hs each.1 in
    let both = length-append (rows_of_home (rows_seen h)) (flat_map rows_of_home (map rows_seen hs)) in
    let product : length (h ∷ hs) * numbers ≡ length hs * numbers + numbers = suc-mul (length hs) numbers in
    omega arith

module _ (t : TableSeen) (table : IsTable t) (now : ℕ) where
  each_home : AllByRecursion (IsHome t.numbers) (kept_by due_of now (homes_in t))
  each_home = all-kept (IsHome t.numbers) due_of now (homes_in t) (all_homes (IsHome t.numbers) t.chain.items t.homes table.stock.each)

  pub untils_seen : AllByRecursion HasUntils (kept_by until_of now (map rows_seen (homes_in t)))
  untils_seen = subst (AllByRecursion HasUntils) (kept_seen now (homes_in t)) (all-map rows_seen HasUntils (kept_by due_of now (homes_in t)) (untils (kept_by due_of now (homes_in t)) each_home))
    where
      untils : (hs : List Home) → AllByRecursion (IsHome t.numbers) hs → AllByRecursion (λ h. HasUntils (rows_seen h)) hs
      untils [] each = tt
      untils (h ∷ hs) each = (each.0.untils, untils hs each.1)

  pub few_seen : length (flat_map rows_of_home (kept_by until_of now (map rows_seen (homes_in t)))) < 2 ^ 32
  few_seen =
      let few = few_listed t.numbers (kept_by due_of now (homes_in t)) each_home in
      let kept = length-kept due_of now (homes_in t) in
      let room = table.sound.room in
      let fits = table.stock.fits in
      let product : length (kept_by due_of now (homes_in t)) * t.numbers ≤ t.room * t.numbers = mul-le-mul_right t.numbers (omega arith) in
      let same = ap (λ (hs : List HomeRows). length (flat_map rows_of_home hs)) (kept_seen now (homes_in t)) in
      omega arith
