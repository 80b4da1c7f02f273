-- A home agent holds its own address, whatever happens in a run.
use Rattle.std.proofs.Common.{◌≡◌, ◌≢◌, ℕ, zero, suc, ◌+◌, ◌<◌, ◌≤◌, List, [], ◌∷◌, ◌++◌, Bool, true, false, length, inl, inr, refl, sym, ap, ◌∙◌, subst, arith, length-append, length-set}
use Rattle.std.specs.Prelude.{fold, map, Option, Some, None, unwrap_or, ◌==◌, ◌&&◌, if◌then◌else◌, slice_get, slice_set, slice_index_or}
use Rattle.std.specs.List.{list_any, AllByRecursion}
use Rattle.std.proofs.lemmas.List.{append_assoc, append-nil, length-map, get_or-set_same, get_or-set_other}
use Rattle.std.proofs.lemmas.List.Sums.{fold-append}
use Rattle.std.proofs.lemmas.Bool.{cases_eq, or_parts, eqb-true, eq-eqb, ne_eqb}
use Rattle.std.proofs.lemmas.Option.{slice_get_within}
use Rattle.mip_words.specs.declared.address.Address.{Address}
use Rattle.mip_words.specs.declared.ids.LinkId.{LinkId}
use Rattle.mip_words.specs.EachAfter.{EachAfter}
use Rattle.mip_entries.specs.declared.entry.Entry.{Entry}
use Rattle.mip_entries.specs.declared.entry.Entry.TheVariants as entries
use Rattle.mip_entries.specs.Stamped.{Stamped}
use Rattle.mip_entries.specs.Transitions.{StandsBy}
use Rattle.mip_links.specs.Table.{holder_outside}
use Rattle.mip_rules_agent.specs.Steps as agents
use Rattle.mip_rules_agent.specs.Known.{Known}
use Rattle.mip_rules_agent.specs.Calls as agent_calls
use Rattle.mip_rules_agent.specs.Transitions.{Transition, Stands, with_transition}
use Rattle.mip_rules_agent.specs.Doing.{transition_of}
use Rattle.mip_rules_agent.specs.Questions.{known, rows_at}
use Rattle.mip_rules_agent.specs.declared.home_row.HomeRow.{HomeRow}
use Rattle.mip_rules_agent.proofs.Pasts.{stands-known, known-served}
use Rattle.mip_rules_agent.proofs.Calls.{call-stands}
use Rattle.mip_schedule.specs.declared.event.Event.{Event}
use Rattle.mip_history.specs.Setup.{Setup, Host}
use Rattle.mip_history.specs.Setup.Kind.{Agent}
use Rattle.mip_history.specs.Questions.{holder_says, holder_in}
use Rattle.mip_history.specs.Knowing.{agent_of}
use Rattle.mip_history.specs.Claims.{link_id}
use Rattle.mip_history.specs.ClaimsLaws.{is_free_for}
use Rattle.mip_history.specs.Registered.{is_agent_host, is_agent_at}
use Rattle.mip_history.specs.Permitted.{is_first_agent, anycast_at, claimed_entry, claims_of, claims_from, opening_claims, opened, run_of}
use Rattle.mip_history.proofs.Numbered.{IsNumbered}
use Rattle.mip_history.proofs.Numbers.{run_numbers}
use Rattle.mip_history.proofs.Bindings.{each_rest}
use Rattle.mip_law_delivery.specs.Orderly.{IsOrderly}
use Rattle.mip_law_delivery.proofs.Reaching.{is_special, MayAnswer, IsMild, all_may, events_calm}
use Rattle.mip_law_delivery.proofs.Serving.{homes_by}
use Rattle.mip_law_delivery.proofs.Agents.{may, IsApart, transition_good, rows_good}

-- who holds an address holds it on, where no entry is such as its holder gives it up by
module _ (s : Setup) (g a : ℕ) (gives : Entry → Bool) (told : (who : ℕ) (link : LinkId) (address : Address) → who ≡ g → address.0 ≡ a → gives (entries.Released who link address) ≡ true) where
  some_same : (m n : ℕ) → (let o : Option ℕ = Some m in o) ≡ Some n → m ≡ n
  some_same m n e = cc

  push : (front : List Entry) (e : Entry) → holder_in (front ++ e ∷ []) a ≡ unwrap_or (holder_says a e) (holder_in front a)
  push front e = fold-append (λ (x : Option ℕ) (y : Entry). unwrap_or (holder_says a y) x) None front (e ∷ [])

  said : (front : List Entry) (e : Entry) → length (opening_claims s) ≤ length front → IsNumbered s front e → gives e ≡ false → holder_in front a ≡ Some g → unwrap_or (holder_says a e) (holder_in front a) ≡ Some g
  said front (entries.Claimed who link address) long meets none is = by (a == address.0) refl
    where
      same : holder_in front address.0 ≡ Some g → g ≡ who
      same there = eqb-true g who (sym (ap (λ (o : Option ℕ). is_free_for o who) there) ∙ meets long)

      by : (b : Bool) → (a == address.0) ≡ b → unwrap_or (if b then Some (Some who) else None) (holder_in front a) ≡ Some g
      by true e = ap (λ (n : ℕ). Some n) (sym (same (ap (holder_in front) (sym (eqb-true a address.0 e)) ∙ is)))
      by false e = is
  said front (entries.Released who link address) long meets none is = by (a == address.0) refl
    where
      by : (b : Bool) → (a == address.0) ≡ b → unwrap_or (if b then Some None else None) (holder_in front a) ≡ Some g
      by true e =
          let at : a ≡ address.0 = eqb-true a address.0 e in
          let one : g ≡ who = some_same g who (sym is ∙ ap (holder_in front) at ∙ meets) in
          absurd (let both : true ≡ false = sym (told who link address (sym one) (sym at)) ∙ none in cc)
      by false e = is
  said front _ long meets none is = is

  pub holder_along : (front es : List Entry) → length (opening_claims s) ≤ length front → EachAfter (IsNumbered s) front es → list_any gives es ≡ false → holder_in front a ≡ Some g → holder_in (front ++ es) a ≡ Some g
  holder_along front [] long each none is = ap (λ (l : List Entry). holder_in l a) (append-nil front) ∙ is
  holder_along front (e ∷ es) long each none is =
      let parts = or_parts (gives e) (list_any gives es) none in
      ap (λ (l : List Entry). holder_in l a) (sym (append_assoc front (e ∷ []) es))
      ∙ holder_along (front ++ e ∷ []) es (omega (arith, long, length-append front (e ∷ []))) each.1 parts.1 (push front e ∙ said front e long each.0 parts.0 is)

module _ (s : Setup) (orderly : IsOrderly s) (g : ℕ) (own : Address) (preference life room : ℕ) (serves : List Address)
    (host : slice_get s.hosts g ≡ Some (record { address = own; kind = Agent preference life room serves })) where
  -- the agent gives up its own address
  abbrev is_own_release : Entry → Bool
  is_own_release (entries.Released who link address) = (who == g) && (address.0 == own.0)
  is_own_release _ = false

  abbrev Pasts : Type 0
  Pasts = List (List (Stamped agents.Step))

  abbrev knows : Pasts → Known
  knows pasts = known serves (slice_index_or pasts g [])

  -- it does not serve its own address, and knows of no registration of it
  record Stand (pasts : Pasts) : Type 0 where
    nodes : length pasts ≡ length s.hosts
    apart : IsApart g own (knows pasts)

  inside : g < length s.hosts
  inside = slice_get_within s.hosts g _ host

  small : g < 32
  small = omega (arith, orderly.few, inside)

  released : (who link : ℕ) (address : Address) → may g own who address → is_own_release (entries.Released who (link_id link) address) ≡ false
  released who link address (inl other) = ap (λ (b : Bool). b && (address.0 == own.0)) (ne_eqb who g other)
  released who link address (inr other) = by (who == g)
    where
      by : (b : Bool) → (b && (address.0 == own.0)) ≡ false
      by true = ne_eqb address.0 own.0 other
      by false = refl

  plain : (e : Entry) → is_special e ≡ false → is_own_release e ≡ false
  plain (entries.Released who link address) none = absurd cc
  plain _ none = refl

  free : (n : ℕ) → is_agent_at s n ≡ false → (address : Address) → may g own n address
  free n none address = inl (λ same. absurd (let both : true ≡ false = sym (ap is_agent_host host) ∙ ap (λ (m : ℕ). is_agent_host (slice_get s.hosts m)) (sym same) ∙ none in cc))

  outside : (o : ℕ) (address : Address) → may g own (holder_outside o) address
  outside o address = inl (λ same. omega (arith, small, same))

  fresh_apart : IsApart g own (known serves [])
  unfolding known
  fresh_apart = record { unserved = known-served own serves [] ∙ orderly.unserved g own preference life room serves host; ends = refl }

  -- what is kept of another node changes nothing
  set_other : (pasts : Pasts) (n : ℕ) (past : List (Stamped agents.Step)) → g ≢ n → Stand pasts → Stand (slice_set pasts n past)
  set_other pasts n past other stand = record {
    nodes = length-set pasts n past ∙ stand.nodes;
    apart = subst (λ (l : List (Stamped agents.Step)). IsApart g own (known serves l)) (sym (get_or-set_other pasts n g past [] other)) stand.apart;
  }

  set_own : (pasts : Pasts) (past : List (Stamped agents.Step)) → IsApart g own (known serves past) → Stand pasts → Stand (slice_set pasts g past)
  set_own pasts past apart stand = record {
    nodes = length-set pasts g past ∙ stand.nodes;
    apart =
        subst (λ (l : List (Stamped agents.Step)). IsApart g own (known serves l))
        (sym (get_or-set_same pasts g past [] (let i = stand.nodes in omega (arith, i, inside)))) apart;
  }

  module _ (pasts : Pasts) (stand : Stand pasts) (now : ℕ) where
    abbrev transition : Address → ℕ → ℕ → ℕ → List Address → ℕ → agent_calls.Call → Transition
    transition a p l r z n c = transition_of (agent_of a p l r) (known z (slice_index_or pasts n [])) now c

    abbrev IsTransition : Address → ℕ → ℕ → ℕ → List Address → ℕ → agent_calls.Call → Type 0
    IsTransition a p l r z n c =
        AllByRecursion (MayAnswer (may g own) n) (agents.answers_of (transition a p l r z n c).steps) × Stand (slice_set pasts n (with_transition (slice_index_or pasts n []) (transition a p l r z n c)))

    own_transition : (a : Address) (p l r : ℕ) (c : agent_calls.Call) → IsTransition a p l r serves g c
    unfolding known StandsBy
    own_transition a p l r c =
        let good = transition_good g own (agent_of a p l r) (knows pasts) now c stand.apart in
        let stands : Stands serves (slice_index_or pasts g []) (knows pasts) = refl in
        let same = stands-known serves (with_transition (slice_index_or pasts g []) (transition a p l r serves g c)) (transition a p l r serves g c).known (call-stands serves (slice_index_or pasts g []) (knows pasts) now (agent_of a p l r) c stands) in
        (good.answers, set_own pasts _ (subst (IsApart g own) same good.apart) stand)

    serves_same : (a : Address) (p l r : ℕ) (z : List Address) → slice_get s.hosts g ≡ Some (record { address = a; kind = Agent p l r z }) → serves ≡ z
    serves_same a p l r z is = let both : (let o : Option (List Address) = Some serves in o) ≡ Some z = sym (ap homes_by host) ∙ ap homes_by is in cc

    any_transition : (n : ℕ) (a : Address) (p l r : ℕ) (z : List Address) → slice_get s.hosts n ≡ Some (record { address = a; kind = Agent p l r z }) → (c : agent_calls.Call) → IsTransition a p l r z n c
    any_transition n a p l r z is c = elim (cases_eq n g) as (λ _. IsTransition a p l r z n c) [
      | inl same ↦
          subst (λ (m : ℕ). IsTransition a p l r z m c) (sym same)
          (subst (λ (y : List Address). IsTransition a p l r y g c) (serves_same a p l r z (ap (slice_get s.hosts) (sym same) ∙ is)) (own_transition a p l r c))
      | inr other ↦
          (all_may (may g own) n (λ address. inl other) _, set_other pasts n _ (λ same. other (sym same)) stand)
    ]

    abbrev AreRows : List Address → ℕ → Type 0
    AreRows z n = AllByRecursion (λ (r : HomeRow). may g own n r.home) (rows_at now (known z (slice_index_or pasts n [])).homes) × Stand (slice_set pasts n [])

    other_rows : (n : ℕ) → n ≢ g → (rows : List HomeRow) → AllByRecursion (λ (r : HomeRow). may g own n r.home) rows
    other_rows n other [] = tt
    other_rows n other (r ∷ rows) = (inl other, other_rows n other rows)

    any_rows : (n : ℕ) (a : Address) (p l r : ℕ) (z : List Address) → slice_get s.hosts n ≡ Some (record { address = a; kind = Agent p l r z }) → AreRows z n
    any_rows n a p l r z is = elim (cases_eq n g) as (λ _. AreRows z n) [
      | inl same ↦
          subst (AreRows z) (sym same)
          (subst (λ (y : List Address). AreRows y g) (serves_same a p l r z (ap (slice_get s.hosts) (sym same) ∙ is)) (rows_good g own (knows pasts) now stand.apart, set_own pasts [] fresh_apart stand))
      | inr other ↦ (other_rows n other _, set_other pasts n [] (λ same. other (sym same)) stand)
    ]

  own_mild : IsMild s is_own_release (may g own) Stand
  own_mild = record {
    other = plain;
    claimed = λ who link address on. refl;
    released = released;
    free = free;
    outside = outside;
    transition = λ n a p l r z is pasts stand now c. any_transition pasts stand now n a p l r z is c;
    rows = λ n a p l r z is pasts stand now. any_rows pasts stand now n a p l r z is;
  }

  -- before the first event it holds its address
  abbrev along : Option ℕ → List Entry → Option ℕ
  along o es = fold (λ (x : Option ℕ) (e : Entry). unwrap_or (holder_says own.0 e) x) o es

  anycast_unsaid : (m : ℕ) (h : Host) → slice_get s.hosts m ≡ Some h → (n : ℕ) (o : Option ℕ) → along o (claimed_entry s.links n (anycast_at h.address) ∷ []) ≡ o
  anycast_unsaid m h there n o = ap (λ (b : Bool). unwrap_or (if b then Some (Some n) else None) o) (ne_eqb own.0 (anycast_at h.address).0 (orderly.unlike g m _ h host there))

  first_said : (b : Bool) (n : ℕ) (o : Option ℕ) → unwrap_or (let x : Option (Option ℕ) = (if b then Some (Some n) else None) in x) o ≡ (if b then Some n else o)
  first_said true n o = refl
  first_said false n o = refl

  claims_said : (before : List Host) (h : Host) → slice_get s.hosts (length before) ≡ Some h → (o : Option ℕ)
      → along o (claims_of s.links before h) ≡ (if own.0 == h.address.0 then Some (length before) else o)
  claims_said before h there o = by (is_first_agent s.links before h.address h.kind) ∙ first_said (own.0 == h.address.0) (length before) o
    where
      by : (b : Bool) → along o (claimed_entry s.links (length before) h.address ∷ (if b then claimed_entry s.links (length before) (anycast_at h.address) ∷ [] else []))
          ≡ unwrap_or (holder_says own.0 (claimed_entry s.links (length before) h.address)) o
      by true = anycast_unsaid (length before) h there (length before) (unwrap_or (holder_says own.0 (claimed_entry s.links (length before) h.address)) o)
      by false = refl

  -- the host at a place
  host_at : (before : List Host) (h : Host) (hosts : List Host) → slice_get (before ++ h ∷ hosts) (length before) ≡ Some h
  host_at [] h hosts = refl
  host_at (b ∷ before) h hosts = host_at before h hosts

  kept_if : (before : List Host) (h : Host) → slice_get s.hosts (length before) ≡ Some h → (o : Option ℕ) → o ≡ Some g → (b : Bool) → (own.0 == h.address.0) ≡ b → (if b then Some (length before) else o) ≡ Some g
  kept_if before h there o is false e = is
  kept_if before h there o is true e = ap (λ (n : ℕ). Some n) (orderly.differ (length before) g h _ there host (sym (eqb-true own.0 h.address.0 e)))

  claims_kept : (before hosts : List Host) → s.hosts ≡ before ++ hosts → (o : Option ℕ) → o ≡ Some g → along o (claims_from s.links before hosts) ≡ Some g
  claims_kept before [] whole o is = is
  claims_kept before (h ∷ hosts) whole o is =
      let there : slice_get s.hosts (length before) ≡ Some h = ap (λ (l : List Host). slice_get l (length before)) whole ∙ host_at before h hosts in
      fold-append (λ (x : Option ℕ) (e : Entry). unwrap_or (holder_says own.0 e) x) o (claims_of s.links before h) (claims_from s.links (before ++ h ∷ []) hosts)
      ∙ claims_kept (before ++ h ∷ []) hosts (whole ∙ sym (append_assoc before (h ∷ []) hosts)) (along o (claims_of s.links before h))
      (claims_said before h there o ∙ kept_if before h there o is (own.0 == h.address.0) refl)

  claims_come : (before hosts : List Host) → s.hosts ≡ before ++ hosts → (i : ℕ) → slice_get hosts i ≡ slice_get s.hosts g → g ≡ length before + i → (o : Option ℕ) → along o (claims_from s.links before hosts) ≡ Some g
  claims_come before [] whole i is place o = absurd (let both : (let n : Option Host = None in n) ≡ Some (record { address = own; kind = Agent preference life room serves }) = is ∙ host in cc)
  claims_come before (h ∷ hosts) whole zero is place o =
      let there : slice_get s.hosts (length before) ≡ Some h = ap (λ (l : List Host). slice_get l (length before)) whole ∙ host_at before h hosts in
      let same : own.0 ≡ h.address.0 = (let both : (let n : Option Host = Some h in n) ≡ Some (record { address = own; kind = Agent preference life room serves }) = is ∙ host in ap (λ (x : Host). x.address.0) (let e : record { address = own; kind = Agent preference life room serves } ≡ h = cc in e)) in
      fold-append (λ (x : Option ℕ) (e : Entry). unwrap_or (holder_says own.0 e) x) o (claims_of s.links before h) (claims_from s.links (before ++ h ∷ []) hosts)
      ∙ claims_kept (before ++ h ∷ []) hosts (whole ∙ sym (append_assoc before (h ∷ []) hosts)) (along o (claims_of s.links before h))
      (claims_said before h there o ∙ ap (λ (b : Bool). if b then Some (length before) else o) (eq-eqb own.0 h.address.0 same) ∙ ap (λ (n : ℕ). Some n) (let e : length before ≡ g = omega (arith, place) in e))
  claims_come before (h ∷ hosts) whole (suc i) is place o =
      fold-append (λ (x : Option ℕ) (e : Entry). unwrap_or (holder_says own.0 e) x) o (claims_of s.links before h) (claims_from s.links (before ++ h ∷ []) hosts)
      ∙ claims_come (before ++ h ∷ []) hosts (whole ∙ sym (append_assoc before (h ∷ []) hosts)) i is (omega (arith, place, length-append before (h ∷ []))) (along o (claims_of s.links before h))

  holds_first : holder_in (opening_claims s) own.0 ≡ Some g
  holds_first = claims_come [] s.hosts refl g refl (omega arith) None

  stands_first : Stand (opened s).agent_pasts
  stands_first = record {
    nodes = length-map s.hosts (λ host. []);
    apart = subst (λ (l : List (Stamped agents.Step)). IsApart g own (known serves l)) (sym (no_agent_past s.hosts g)) fresh_apart;
  }
    where
      no_agent_past : (hosts : List Host) (n : ℕ) → slice_index_or (map (λ (host : Host). let l : List (Stamped agents.Step) = [] in l) hosts) n [] ≡ []
      no_agent_past [] n = refl
      no_agent_past (host ∷ hosts) zero = refl
      no_agent_past (host ∷ hosts) (suc n) = no_agent_past hosts n

  -- a home agent holds its own address
  pub own_held : (events : List Event) → holder_in (run_of s events).past own.0 ≡ Some g
  own_held events =
      let c = events_calm s is_own_release (may g own) Stand own_mild (opening_claims s) (λ number. record { handed = λ n. refl; gone = λ why. refl }) (opened s) events
      (record { rest = []; whole = sym (append-nil (opening_claims s)); calm = refl; stands = stands_first }) in
      let numbered = run_numbers s events in
      ap (λ (l : List Entry). holder_in l own.0) c.whole
      ∙ holder_along s g own.0 is_own_release gives (opening_claims s) c.rest (omega arith)
      (each_rest (IsNumbered s) [] (opening_claims s) c.rest (subst (λ (l : List Entry). EachAfter (IsNumbered s) [] l) c.whole numbered.each)) c.calm holds_first
    where
      gives : (who : ℕ) (link : LinkId) (address : Address) → who ≡ g → address.0 ≡ own.0 → is_own_release (entries.Released who link address) ≡ true
      gives who link address mine at = ap (λ (b : Bool). b && (address.0 == own.0)) (eq-eqb who g mine) ∙ eq-eqb address.0 own.0 at
