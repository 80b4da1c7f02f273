-- The events that lie wholly before a place are the first ones, since a history only grows.
use Rattle.std.proofs.Common.{◌≡◌, ◌⊎◌, inl, inr, ℕ, zero, suc, ◌<◌, ◌≤◌, Bool, true, false, List, length, take, refl, sym, ap, subst, ◌∙◌, arith}
use Rattle.std.specs.Prelude.{nat_le, if◌then◌else◌}
use Rattle.std.proofs.lemmas.Bool.{le-leb, lt-leb}
use Rattle.std.proofs.lemmas.Bool.Decides.{leb_tells}
use Rattle.std.proofs.lemmas.List.{take-take, length-append}
use Rattle.mip_entries.specs.declared.entry.Entry.{Entry}
use Rattle.mip_schedule.specs.declared.event.Event.{Event}
use Rattle.mip_history.specs.Setup.{Setup}
use Rattle.mip_history.specs.Runs.{Run}
use Rattle.mip_history.specs.Permitted.{run_of}
use Rattle.mip_history.proofs.Fronts.{front_of_run}
use Rattle.mip_past.specs.Places.{run_at, place_at}
use Rattle.mip_past_led.specs.Whole.{are_before, whole_of, AreWhole}

module _ (s : Setup) (events : List Event) where
  -- more events leave no fewer entries
  place_grows : (a b : ℕ) → a ≤ b → place_at s events a ≤ place_at s events b
  place_grows a b le =
      let front = front_of_run s (take b events) a in
      let first : (run_of s (take a (take b events))).past ≡ (run_at s events a).past =
      ap (λ (es : List Event). let run : Run = run_of s es in run.past) (take-take a b events le) in
      omega (arith, ap (λ (l : List Entry). length l) front.whole, ap (λ (l : List Entry). length l) first, length-append (run_of s (take a (take b events))).past front.rest)

  -- so many events lie before the place
  pub reached : (place k : ℕ) → (k ≡ 0) ⊎ (place_at s events k ≤ place) → whole_of s events place k ≡ k
  reached place zero is = refl
  reached place (suc k) (inl none) = absurd (omega (arith, none))
  reached place (suc k) (inr before) =
      ap (λ (b : Bool). if b then suc k else whole_of s events place k) (le-leb (place_at s events (suc k)) place before)

  -- and one more does not, so none of those behind it does
  pub passed : (place n k : ℕ) → k ≤ n → place < place_at s events (suc k) → whole_of s events place n ≡ whole_of s events place k
  passed place zero k le beyond = let none : 0 ≡ k = omega (arith, le) in ap (whole_of s events place) none
  passed place (suc m) k le beyond = by (λ less. passed place m k (omega (arith, less)) beyond) (leb_tells (suc m) k)
    where
      by : (k < suc m → whole_of s events place m ≡ whole_of s events place k) → ((nat_le (suc m) k ≡ true) × (suc m ≤ k)) ⊎ ((nat_le (suc m) k ≡ false) × (k < suc m))
          → whole_of s events place (suc m) ≡ whole_of s events place k
      by before (inl all) = let same : suc m ≡ k = omega (arith, le, all.1) in ap (whole_of s events place) same
      by before (inr more) =
          ap (λ (b : Bool). if b then suc m else whole_of s events place m)
          (lt-leb (place_at s events (suc m)) place (omega (arith, beyond, place_grows (suc k) (suc m) (omega (arith, more.1)))))
          ∙ before more.1

  -- the law
  pub are_whole : (place n : ℕ) → AreWhole s events place n (whole_of s events place n)
  are_whole place zero = record { within = omega arith; before = inl refl; next = λ less. absurd (omega (arith, less)) }
  are_whole place (suc n) = by (are_whole place n) (leb_tells (place_at s events (suc n)) place)
    where
      beyond : (k : ℕ) → k < suc n → (k < n → place < place_at s events (suc k)) → ((nat_le n k ≡ true) × (n ≤ k)) ⊎ ((nat_le n k ≡ false) × (k < n))
          → place < place_at s events (suc n) → place < place_at s events (suc k)
      beyond k less next (inl all) last = let same : n ≡ k = omega (arith, less, all.1) in subst (λ (m : ℕ). place < place_at s events (suc m)) same last
      beyond k less next (inr more) last = next more.1

      by : AreWhole s events place n (whole_of s events place n)
          → ((are_before s events place (suc n) ≡ true) × (place_at s events (suc n) ≤ place)) ⊎ ((are_before s events place (suc n) ≡ false) × (place < place_at s events (suc n)))
          → AreWhole s events place (suc n) (whole_of s events place (suc n))
      by up (inl is) = subst (AreWhole s events place (suc n)) (sym (ap (λ (b : Bool). if b then suc n else whole_of s events place n) is.0))
          (record { within = omega arith; before = inr is.1; next = λ less. absurd (omega (arith, less)) })
      by up (inr is) = subst (AreWhole s events place (suc n)) (sym (ap (λ (b : Bool). if b then suc n else whole_of s events place n) is.0)) (record {
        within = omega (arith, up.within);
        before = up.before;
        next = λ less. beyond (whole_of s events place n) less up.next (leb_tells n (whole_of s events place n)) is.1;
      })
