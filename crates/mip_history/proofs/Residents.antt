-- A home address that is given up passes to its mobile at home.
use Rattle.std.proofs.Common.{◌≡◌, ◌≢◌, ℕ, zero, suc, ◌<◌, List, [], ◌∷◌, ◌++◌, Bool, true, false, length, inl, inr, refl, sym, ap, ◌∙◌, subst, arith}
use Rattle.std.specs.Prelude.{Option, Some, None, unwrap_or, ◌&&◌, if◌then◌else◌, slice_get}
use Rattle.std.proofs.lemmas.List.Sums.{fold-append}
use Rattle.std.proofs.lemmas.Bool.{cases_eq, eq-eqb, ne_eqb}
use Rattle.std.proofs.lemmas.Option.{slice_get_within}
use Rattle.mip_words.specs.declared.address.Address.{Address}
use Rattle.mip_words.specs.declared.ids.LinkId.{LinkId}
use Rattle.mip_words.specs.Last.{or_else}
use Rattle.mip_entries.specs.declared.entry.Entry.{Entry}
use Rattle.mip_entries.specs.declared.entry.Entry.TheVariants as entries
use Rattle.mip_links.specs.Table.{link_of}
use Rattle.mip_links.specs.Nets.{is_held_by}
use Rattle.mip_history.specs.Setup.{Setup, Host}
use Rattle.mip_history.specs.Setup.Kind.{Mobile}
use Rattle.mip_history.specs.Runs.{Run, note}
use Rattle.mip_history.specs.Questions.{holder_says, holder_in}
use Rattle.mip_history.specs.Knowing.{mobile_known_in}
use Rattle.mip_history.specs.Claims.{link_id}
use Rattle.mip_history.specs.Homes.{is_at_home, lives_by_host, lives_at, first_below, resident, passes_to, left_on, given_up_on, gives_up}
use Rattle.mip_history.proofs.Effects.{released_holder}

-- the first number of which something is so
module _ (is : ℕ → Bool) where
  none_below : (n : ℕ) → ((k : ℕ) → k < n → is k ≡ false) → first_below is n ≡ None
  none_below zero none = refl
  none_below (suc n) none =
      ap (λ (o : Option ℕ). or_else o (if is n then Some n else None)) (none_below n (λ k below. none k (omega (arith, below))))
      ∙ ap (λ (b : Bool). if b then Some n else None) (none n (omega arith))

  first_found : (m n : ℕ) → m < n → is m ≡ true → ((k : ℕ) → k < m → is k ≡ false) → first_below is n ≡ Some m
  first_found m zero inside found before = absurd (omega (arith, inside))
  first_found m (suc n) inside found before = elim (cases_eq m n) as (λ _. first_below is (suc n) ≡ Some m) [
    | inl e ↦ subst (λ (k : ℕ). first_below is (suc n) ≡ Some k) (sym e) (last e)
    | inr other ↦ ap (λ (o : Option ℕ). or_else o (if is n then Some n else None)) (first_found m n (below other) found before)
  ]
    where
      below : m ≢ n → m < n
      below other = omega (arith, inside, other)

      last : m ≡ n → first_below is (suc n) ≡ Some n
      last e =
          ap (λ (o : Option ℕ). or_else o (if is n then Some n else None)) (none_below n (subst (λ (k : ℕ). (j : ℕ) → j < k → is j ≡ false) e before))
          ∙ ap (λ (b : Bool). if b then Some n else None) (subst (λ (k : ℕ). is k ≡ true) e found)

-- a mobile at home lives there
lives : (s : Setup) (run : Run) (m : ℕ) (home : Address) (agent : Option Address) → slice_get s.hosts m ≡ Some (record { address = home; kind = Mobile agent })
    → is_at_home (mobile_known_in s run m home agent).standing ≡ true → lives_at s run home.0 m ≡ true
lives s run m home agent is there =
    ap (λ (o : Option Host). lives_by_host s run home.0 m o) is
    ∙ ap (λ (b : Bool). b && is_at_home (mobile_known_in s run m home agent).standing) (eq-eqb home.0 home.0 refl)
    ∙ there

claimed_holder : (past : List Entry) (who : ℕ) (link : LinkId) (address : Address) → holder_in (past ++ entries.Claimed who link address ∷ []) address.0 ≡ Some who
claimed_holder past who link address =
    fold-append (λ (h : Option ℕ) (e : Entry). unwrap_or (holder_says address.0 e) h) None past (entries.Claimed who link address ∷ [])
    ∙ ap (λ (b : Bool). unwrap_or (if b then Some (Some who) else None) (holder_in past address.0)) (eq-eqb address.0 address.0 refl)

module _ (s : Setup) (run : Run) (who link : ℕ) (home : Address) (on : link_of s.links home.0 ≡ Some link) (held : holder_in run.past home.0 ≡ Some who) where
  abbrev left : Run
  left = note (entries.Released who (link_id link) home) run

  -- it goes to whoever lives there
  goes_to : (o : Option ℕ) → resident s run home.0 ≡ o → holder_in (gives_up s who home run).past home.0 ≡ holder_in (passes_to who home link left o).past home.0
  goes_to o is =
      ap (λ (l : Option ℕ). holder_in (given_up_on s who home run l).past home.0) on
      ∙ ap (λ (b : Bool). holder_in (let r : Run = (if b then left_on s who home link run else note entries.Idle run) in r.past) home.0)
      (ap (λ (h : Option ℕ). is_held_by h who) held ∙ eq-eqb who who refl)
      ∙ ap (λ (o : Option ℕ). holder_in (passes_to who home link left o).past home.0) is

  pub passes_home : (m : ℕ) (agent : Option Address) → m ≢ who → slice_get s.hosts m ≡ Some (record { address = home; kind = Mobile agent })
      → is_at_home (mobile_known_in s run m home agent).standing ≡ true → ((k : ℕ) → k < m → lives_at s run home.0 k ≡ false)
      → holder_in (gives_up s who home run).past home.0 ≡ Some m
  passes_home m agent other is there first =
      goes_to (Some m) (first_found (lives_at s run home.0) m (length s.hosts) (slice_get_within s.hosts m _ is) (lives s run m home agent is there) first)
      ∙ ap (λ (b : Bool). holder_in (let r : Run = (if b then left else note (entries.Claimed m (link_id link) home) left) in r.past) home.0) (ne_eqb m who other)
      ∙ claimed_holder left.past m (link_id link) home

  pub leaves_free : ((k : ℕ) → k < length s.hosts → lives_at s run home.0 k ≡ false) → holder_in (gives_up s who home run).past home.0 ≡ None
  leaves_free none =
      goes_to None (none_below (lives_at s run home.0) (length s.hosts) none)
      ∙ released_holder run.past who (link_id link) home
