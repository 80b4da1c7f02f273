-- An address that somebody holds is on a link; and a mobile that is away uses another address than its home address.
use Rattle.std.proofs.Common.{◌≡◌, ℕ, suc, ◌<◌, ◌^◌, List, [], ◌∷◌, ◌++◌, Bool, true, false, length, refl, sym, ap, ◌∙◌, subst, arith}
use Rattle.std.specs.Prelude.{fold, Option, Some, None, unwrap_or, is_some, is_none, ◌==◌, ◌||◌, if◌then◌else◌, slice_get}
use Rattle.std.specs.List.{list_any}
use Rattle.std.proofs.lemmas.List.Folds.{list_any-append}
use Rattle.std.proofs.lemmas.Bool.{or_parts, eqb-true}
use Rattle.mip_words.specs.Addresses.{prefix_of}
use Rattle.mip_words.specs.declared.address.Address.{Address}
use Rattle.mip_nonce.specs.Secrets.{Life}
use Rattle.mip_entries.specs.declared.entry.Entry.{Entry}
use Rattle.mip_entries.specs.declared.entry.Entry.TheVariants as entries
use Rattle.mip_entries.specs.Stamped.{Stamped}
use Rattle.mip_links.specs.Table.{link_from, link_of}
use Rattle.mip_rules_agent.specs.Rules.{anycast_of}
use Rattle.mip_rules_mobile.specs.declared.attachment.Attachment.{Attachment}
use Rattle.mip_rules_mobile.specs.declared.attachment.Attachment.TheVariants.{AtHome, Away}
use Rattle.mip_rules_mobile.specs.Known.{Known}
use Rattle.mip_rules_mobile.specs.Steps.{Step, Arrives, FindsTaken, Detaches}
use Rattle.mip_rules_mobile.specs.HomeQuestions.{home_of, standing_at, standing_said}
use Rattle.mip_rules_mobile.specs.Questions.{after, fresh, known}
use Rattle.mip_rules_mobile.proofs.Told.{home-kept}
use Rattle.mip_rules_mobile.proofs.Shielding.{past-home}
use Rattle.mip_schedule.specs.declared.event.Event.{Event}
use Rattle.mip_history.specs.Setup.{Setup, Host}
use Rattle.mip_history.specs.Questions.{holder_says, holder_in}
use Rattle.mip_history.specs.Permitted.{is_first_agent, anycast_at, claimed_entry, claims_of, claims_from, opening_claims, opened, run_of}
use Rattle.mip_law_delivery.specs.Orderly.{IsOrderly}
use Rattle.mip_law_delivery.proofs.Reaching.{is_special, IsMild, any_may, any_stand, mild_of, events_calm}

-- a claim of an address that is on no link
abbrev is_off : Setup → Entry → Bool
is_off s (entries.Claimed who link address) = is_none (link_of s.links address.0)
is_off s _ = false

off_mild : (s : Setup) → IsMild s (is_off s) any_may any_stand
off_mild s = mild_of s (is_off s) other (λ who link address on. ap (λ (o : Option ℕ). is_none o) on) (λ who link address. refl)
  where
    other : (e : Entry) → is_special e ≡ false → is_off s e ≡ false
    other (entries.Claimed who link address) none = absurd cc
    other _ none = refl

some_on : (o : Option ℕ) → is_some o ≡ true → is_none o ≡ false
some_on None is = absurd cc
some_on (Some l) is = refl

-- the home-agents anycast address of a link has its prefix
anycast_link : (links : List ℕ) (own : Address) → link_of links (anycast_of own) ≡ link_of links own.0
anycast_link links own = ap (link_from 0 links) (by own.0)
  where
    by : (a : ℕ) → prefix_of (anycast_of (record { 0 = a })) ≡ prefix_of a
    by a = omega arith

module _ (s : Setup) (orderly : IsOrderly s) where
  host_on : (before : List Host) (host : Host) → is_some (link_of s.links host.address.0) ≡ true → list_any (is_off s) (claims_of s.links before host) ≡ false
  host_on before host on = by (is_first_agent s.links before host.address host.kind)
    where
      own : is_off s (claimed_entry s.links (length before) host.address) ≡ false
      own = some_on (link_of s.links host.address.0) on

      any : is_off s (claimed_entry s.links (length before) (anycast_at host.address)) ≡ false
      any = some_on (link_of s.links (anycast_of host.address)) (ap (λ (o : Option ℕ). is_some o) (anycast_link s.links host.address) ∙ on)

      by : (b : Bool) → list_any (is_off s) (claimed_entry s.links (length before) host.address ∷ (if b then claimed_entry s.links (length before) (anycast_at host.address) ∷ [] else [])) ≡ false
      by true = ap (λ (x : Bool). x || (is_off s (claimed_entry s.links (length before) (anycast_at host.address)) || false)) own ∙ ap (λ (x : Bool). x || false) any
      by false = ap (λ (x : Bool). x || false) own

  hosts_on : (before hosts : List Host) → ((n : ℕ) (host : Host) → slice_get hosts n ≡ Some host → is_some (link_of s.links host.address.0) ≡ true) → list_any (is_off s) (claims_from s.links before hosts) ≡ false
  hosts_on before [] each = refl
  hosts_on before (host ∷ hosts) each =
      list_any-append (is_off s) (claims_of s.links before host) (claims_from s.links (before ++ host ∷ []) hosts)
      ∙ ap (λ (b : Bool). b || list_any (is_off s) (claims_from s.links (before ++ host ∷ []) hosts)) (host_on before host (each 0 host refl))
      ∙ hosts_on (before ++ host ∷ []) hosts (λ n other is. each (suc n) other is)

  claims_on : (events : List Event) → list_any (is_off s) (run_of s events).past ≡ false
  claims_on events =
      let c = events_calm s (is_off s) any_may any_stand (off_mild s) [] (λ number. record { handed = λ n. refl; gone = λ why. refl }) (opened s) events (record { rest = opening_claims s; whole = refl; calm = hosts_on [] s.hosts orderly.linked; stands = tt }) in
      ap (list_any (is_off s)) c.whole ∙ c.calm

  -- an address that is held is on a link
  module _ (a : ℕ) where
    abbrev IfOn : Option ℕ → Type 0
    IfOn None = Unit {0}
    IfOn (Some n) = is_some (link_of s.links a) ≡ true

    says_on : (o : Option ℕ) (e : Entry) → is_off s e ≡ false → IfOn o → IfOn (unwrap_or (holder_says a e) o)
    says_on o (entries.Claimed who link claimed) on l = by (a == claimed.0) refl
      where
        some : (x : Option ℕ) → is_none x ≡ false → is_some x ≡ true
        some None is = absurd cc
        some (Some y) is = refl

        by : (b : Bool) → (a == claimed.0) ≡ b → IfOn (unwrap_or (if b then Some (Some who) else None) o)
        by true same = subst (λ (x : ℕ). is_some (link_of s.links x) ≡ true) (sym (eqb-true a claimed.0 same)) (some (link_of s.links claimed.0) on)
        by false same = l
    says_on o (entries.Released who link released) on l = by (a == released.0)
      where
        by : (b : Bool) → IfOn (unwrap_or (if b then Some None else None) o)
        by true = tt
        by false = l
    says_on o _ on l = l

    along_on : (o : Option ℕ) (past : List Entry) → list_any (is_off s) past ≡ false → IfOn o → IfOn (fold (λ x e. unwrap_or (holder_says a e) x) o past)
    along_on o [] none l = l
    along_on o (e ∷ past) none l =
        let parts = or_parts (is_off s e) (list_any (is_off s) past) none in
        along_on (unwrap_or (holder_says a e) o) past parts.1 (says_on o e parts.0 l)

    pub held_on_link : (events : List Event) (n : ℕ) → holder_in (run_of s events).past a ≡ Some n → is_some (link_of s.links a) ≡ true
    held_on_link events n is = subst IfOn is (along_on None (run_of s events).past (claims_on events) tt)

-- the link of an address has its prefix
link_prefix : (n : ℕ) (links : List ℕ) (prefix : ℕ) → is_some (link_from n links prefix) ≡ true → (l : ℕ) × (slice_get links l ≡ Some prefix)
link_prefix n [] prefix is = absurd cc
link_prefix n (p ∷ links) prefix is = by (p == prefix) refl is (λ e. link_prefix (suc n) links prefix e)
  where
    more : (l : ℕ) × (slice_get links l ≡ Some prefix) → (l : ℕ) × (slice_get (p ∷ links) l ≡ Some prefix)
    more x = (suc x.0, x.1)

    by : (b : Bool) → (p == prefix) ≡ b → is_some (if b then Some n else link_from (suc n) links prefix) ≡ true → (is_some (link_from (suc n) links prefix) ≡ true → (l : ℕ) × (slice_get links l ≡ Some prefix)) → (l : ℕ) × (slice_get (p ∷ links) l ≡ Some prefix)
    by true same e again = (0, ap (λ (x : ℕ). Some x) (eqb-true p prefix same))
    by false same e again = more (again e)

-- and 128 bits
pub in_range : (s : Setup) → IsOrderly s → (a : ℕ) → is_some (link_of s.links a) ≡ true → a < 2 ^ 128
in_range s orderly a on =
    let l = link_prefix 0 s.links (prefix_of a) on in
    let below = orderly.prefixes l.0 (prefix_of a) l.1 in
    omega (arith, below)

-- a mobile that is away uses another address than its home address
abbrev pub IsAbroad : Address → Attachment → Type 0
IsAbroad home (Away careof) = (careof.0 == home.0) ≡ false
IsAbroad home _ = Unit {0}

abroad_at : (home address : Address) → IsAbroad home (standing_at home address)
abroad_at home address = by (address.0 == home.0) refl
  where
    by : (b : Bool) → (address.0 == home.0) ≡ b → IsAbroad home (if b then AtHome else Away address)
    by true is = tt
    by false is = is

abroad_step : (home : Address) (st : Attachment) (step : Step) → IsAbroad home st → IsAbroad home (unwrap_or (standing_said home step) st)
abroad_step home st (Arrives address) old = abroad_at home address
abroad_step home st (FindsTaken address holder) old = tt
abroad_step home st Detaches old = tt
abroad_step home st _ old = old

abroad_after : (k : Known) (x : Stamped Step) → IsAbroad (home_of k) k.standing → IsAbroad (home_of (after k x)) (after k x).standing
unfolding after
abroad_after k x old = subst (λ (h : Address). IsAbroad h (after k x).standing) (sym (home-kept k x)) (abroad_step (home_of k) k.standing x.step old)

abroad_along : (k : Known) (past : List (Stamped Step)) → IsAbroad (home_of k) k.standing → IsAbroad (home_of (fold after k past)) (fold after k past).standing
abroad_along k [] old = old
abroad_along k (x ∷ past) old = abroad_along (after k x) past (abroad_after k x old)

pub known_abroad : (home : Address) (declared : Option Address) (numbers : ℕ) (secrets : Life) (past : List (Stamped Step)) → IsAbroad home (known home declared numbers secrets past).standing
unfolding known
known_abroad home declared numbers secrets past =
    subst (λ (h : Address). IsAbroad h (known home declared numbers secrets past).standing) (past-home home declared numbers secrets past) (abroad_along (fresh home declared numbers secrets) past tt)
