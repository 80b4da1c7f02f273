-- The own address of a node is the one that it was declared with: the first that it claimed.
use Rattle.std.proofs.Common.{◌≡◌, ◌≢◌, ℕ, zero, suc, ◌+◌, List, [], ◌∷◌, ◌++◌, Bool, true, false, length, refl, ap, ◌∙◌, arith, length-append}
use Rattle.std.specs.Prelude.{Option, Some, None, fold, if◌then◌else◌, slice_get}
use Rattle.std.proofs.lemmas.Bool.{eq-eqb, ne_eqb}
use Rattle.std.proofs.lemmas.List.Sums.{fold-append}
use Rattle.mip_words.specs.declared.address.Address.{Address}
use Rattle.mip_words.specs.Last.{or_else}
use Rattle.mip_entries.specs.declared.entry.Entry.{Entry}
use Rattle.mip_schedule.specs.declared.event.Event.{Event}
use Rattle.mip_history.specs.Setup.{Setup, Host}
use Rattle.mip_history.specs.Questions.{claims, declared_in}
use Rattle.mip_history.specs.Permitted.{is_first_agent, anycast_at, claimed_entry, claims_of, claims_from, opening_claims, run_of}
use Rattle.mip_history.proofs.Fronts.{front_of_run}

module _ (links : List ℕ) (by : ℕ) where
  abbrev told : Option Address → Entry → Option Address
  told o e = or_else o (claims by e)

  kept : (a : Address) (es : List Entry) → fold told (Some a) es ≡ Some a
  kept a [] = refl
  kept a (e ∷ es) = kept a es

  -- the claims of one node
  mine : (before : List Host) (host : Host) → by ≡ length before → fold told None (claims_of links before host) ≡ Some host.address
  mine before host is =
      ap (λ (same : Bool). fold told (or_else None (if same then Some host.address else None)) rest) (eq-eqb by (length before) is) ∙ kept host.address rest
    where
      rest : List Entry
      rest = if is_first_agent links before host.address host.kind then claimed_entry links (length before) (anycast_at host.address) ∷ [] else []

  other : (before : List Host) (host : Host) → by ≢ length before → fold told None (claims_of links before host) ≡ None
  other before host apart = first (is_first_agent links before host.address host.kind)
    where
      first : (b : Bool) → fold told None (claimed_entry links (length before) host.address ∷ (if b then claimed_entry links (length before) (anycast_at host.address) ∷ [] else [])) ≡ None
      first true =
          ap (λ (same : Bool). or_else (or_else None (if same then Some host.address else None)) (if same then Some (anycast_at host.address) else None)) (ne_eqb by (length before) apart)
      first false = ap (λ (same : Bool). or_else None (if same then Some host.address else None)) (ne_eqb by (length before) apart)

  -- and those of all
  among : (before hosts : List Host) (i : ℕ) (host : Host) → by ≡ length before + i → slice_get hosts i ≡ Some host → fold told None (claims_from links before hosts) ≡ Some host.address
  among before [] zero host at there = absurd cc
  among before [] (suc i) host at there = absurd cc
  among before (h ∷ hosts) zero host at there =
      fold-append told None (claims_of links before h) (claims_from links (before ++ h ∷ []) hosts)
      ∙ ap (λ (o : Option Address). fold told o (claims_from links (before ++ h ∷ []) hosts)) (mine before h (omega (arith, at)))
      ∙ kept h.address (claims_from links (before ++ h ∷ []) hosts)
      ∙ (let same : h ≡ host = cc in ap (λ (x : Host). Some x.address) same)
  among before (h ∷ hosts) (suc i) host at there =
      fold-append told None (claims_of links before h) (claims_from links (before ++ h ∷ []) hosts)
      ∙ ap (λ (o : Option Address). fold told o (claims_from links (before ++ h ∷ []) hosts)) (other before h (λ same. absurd (omega (arith, at, same))))
      ∙ among (before ++ h ∷ []) hosts i host (omega (arith, at, length-append before (h ∷ []))) there

pub declared_of_run : (s : Setup) (events : List Event) (n : ℕ) (host : Host) → slice_get s.hosts n ≡ Some host → declared_in (run_of s events).past n ≡ Some host.address
declared_of_run s events n host there =
    let begins = front_of_run s events 0 in
    ap (λ (past : List Entry). declared_in past n) begins.whole
    ∙ fold-append (told s.links n) None (opening_claims s) begins.rest
    ∙ ap (λ (o : Option Address). fold (told s.links n) o begins.rest) (among s.links n [] s.hosts n host (omega arith) there)
    ∙ kept s.links n host.address begins.rest
