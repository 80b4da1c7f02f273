-- What is known of the memory for rows: which homes use it, and what is spare.
use Rattle.std.proofs.Common.{◌≡◌, ℕ, ◌+◌, ◌*◌, ◌^◌, ◌<◌, ◌≤◌, List, [], ◌∷◌, Bool, true, false, length, length-append, refl, sym, ap, subst, ◌∙◌, inl, inr, arith, mul-le-mul_right, suc-mul}
use Rattle.std.specs.Prelude.{Option, Some, None, nat_lt, ◌==◌, if◌then◌else◌}
use Rattle.std.specs.List.{AllByRecursion}
use Rattle.std.specs.Global.{Vec}
use Rattle.std.proofs.lemmas.Bool.{cases_lt}
use Rattle.std.proofs.lemmas.Bool.Decides.{nat_tests}
use Rattle.mip_binding.proofs.RowLaws.{all-push}
use Rattle.mip_chain.specs.Chain.{Item, find, due_value, without_due}
use Rattle.mip_bcache.specs.declared.row.Row.{Row}
use Rattle.mip_bcache.specs.declared.home.Home.{Home}
use Rattle.mip_bcache.specs.Table.{live_in, due_of, count_in, later, kept_in, IsHome, IsSpare, IsShelved, IsStocked}
use Rattle.mip_bcache.proofs.Homes.{as_many_numbers}
use Rattle.mip_bcache.proofs.Slots.{Items}

-- a home has no more rows than there are numbers
pub few_live : (numbers : ℕ) (h : Home) → IsHome numbers h → length (live_in h) ≤ numbers
few_live numbers h well = as_many_numbers numbers (live_in h) well.apart well.below

count_few : (numbers : ℕ) (items : Items) → AllByRecursion (λ x. IsHome numbers x.value) items → count_in items ≤ length items * numbers
count_few numbers [] each = omega arith
count_few numbers (x ∷ xs) each =
    let first = few_live numbers x.value each.0 in
    let rest = count_few numbers xs each.1 in
    let product : length (x ∷ xs) * numbers ≡ length xs * numbers + numbers = suc-mul (length xs) numbers in
    omega arith

-- all rows can be counted
pub count_fits : (numbers room : ℕ) (items : Items) (spare : List (Vec Row)) (shelf : ℕ) → IsStocked numbers room items spare shelf → count_in items < 2 ^ 32
count_fits numbers room items spare shelf stock =
    let few = count_few numbers items stock.each in
    let all = stock.all in
    let product : length items * numbers ≤ room * numbers = mul-le-mul_right numbers (omega arith) in
    let fits = stock.fits in
    omega arith

-- the first home is due, and leaves its slot
pub record IsPopped (now numbers room : ℕ) (items : Items) (h : Home) : Type 0 where
  pub well : IsHome numbers h
  pub later : later now (without_due now items) ≡ later now items
  pub count : count_in items ≡ length (live_in h) + count_in (without_due now items)
  pub length : length items ≡ 1 + length (without_due now items)
  pub each : AllByRecursion (λ x. IsHome numbers x.value) (without_due now items)

pub popped : (now numbers room : ℕ) (items : Items) (h : Home) → AllByRecursion (λ x. IsHome numbers x.value) items → due_value now items ≡ Some h → IsPopped now numbers room items h
popped now numbers room [] h each is = absurd cc
popped now numbers room (x ∷ xs) h each is = elim (cases_lt now x.due) [
  | inl less ↦ let none : due_value now (x ∷ xs) ≡ None = grind (arith, nat_tests) in absurd cc
  | inr over ↦
      let some : due_value now (x ∷ xs) ≡ Some x.value = grind (arith, nat_tests) in
      let same : x.value ≡ h = cc in
      let rest : without_due now (x ∷ xs) ≡ xs = grind (arith, nat_tests) in
      let goes : later now (x ∷ xs) ≡ later now xs = grind (arith, nat_tests) in
      record {
        well = subst (IsHome numbers) same each.0;
        later = ap (later now) rest ∙ sym goes;
        count = ap (λ (g : Home). length (live_in g) + count_in xs) same ∙ ap (λ (ys : Items). length (live_in h) + count_in ys) (sym rest);
        length = let left = ap (λ (ys : Items). length ys) rest in omega arith;
        each = subst (AllByRecursion (λ (y : Item Home). IsHome numbers y.value)) (sym rest) each.1;
      }
]

-- where the first is not due, none leaves
pub none_due : (now : ℕ) (items : Items) → due_value now items ≡ None → (without_due now items ≡ items) × (later now items ≡ items)
none_due now [] none = (refl, refl)
none_due now (x ∷ xs) none = elim (cases_lt now x.due) [
  | inl less ↦ (grind (arith, nat_tests), grind (arith, nat_tests))
  | inr over ↦ let some : due_value now (x ∷ xs) ≡ Some x.value = grind (arith, nat_tests) in absurd cc
]

-- its memory is spare
pub shelved : (now numbers room : ℕ) (items : Items) (h : Home) (spare new : List (Vec Row)) (shelf more : ℕ) → IsStocked numbers room items spare shelf → IsPopped now numbers room items h → IsShelved h spare new → shelf ≤ more
    → IsStocked numbers room (without_due now items) new more
shelved now numbers room items h spare new shelf more stock pop shelve grows =
    let room_of = pop.well.room in
    let capacity = shelve.room in
    let left = pop.length in
    let all = stock.all in
    let shelves = stock.shelves in
    let one = length-append spare (shelve.rows ∷ []) in
    let whole = ap (λ (l : List (Vec Row)). length l) shelve.whole in
    record {
      each = pop.each;
      spares = subst (AllByRecursion (IsSpare numbers)) (sym shelve.whole) (all-push (IsSpare numbers) spare shelve.rows stock.spares (record { empty = shelve.empty; room = omega arith }));
      all = omega arith;
      shelves = omega arith;
      few = stock.few;
      fits = stock.fits;
    }

-- a home that is found is one of those in slots
pub found_well : (numbers k : ℕ) (items : Items) (x : Item Home) → AllByRecursion (λ y. IsHome numbers y.value) items → find k items ≡ Some x → IsHome numbers x.value
found_well numbers k [] x each is = absurd cc
found_well numbers k (y ∷ ys) x each is = by (y.slot == k) is (found_well numbers k ys x each.1)
  where
    by : (b : Bool) → (if b then Some y else find k ys) ≡ Some x → (find k ys ≡ Some x → IsHome numbers x.value) → IsHome numbers x.value
    by true e more = let same : y ≡ x = cc in subst (λ (z : Item Home). IsHome numbers z.value) same each.0
    by false e more = more e

pub kept_well : (now numbers k : ℕ) (items : Items) (h : Home) → AllByRecursion (λ y. IsHome numbers y.value) items → kept_in now (find k items) ≡ Some h → IsHome numbers h
kept_well now numbers k items h each is = by (find k items) (λ x. found_well numbers k items x each) is
  where
    by : (o : Option (Item Home)) → ((x : Item Home) → o ≡ Some x → IsHome numbers x.value) → kept_in now o ≡ Some h → IsHome numbers h
    by None well e = absurd cc
    by (Some x) well e = in_time (nat_lt now (due_of x.value)) e
      where
        in_time : (b : Bool) → (if b then Some x.value else None) ≡ Some h → IsHome numbers h
        in_time true f = let same : x.value ≡ h = cc in subst (IsHome numbers) same (well x refl)
        in_time false f = absurd cc
