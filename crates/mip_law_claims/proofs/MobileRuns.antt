-- Every run tells which addresses its mobiles claim and find taken.
use Rattle.std.proofs.Common.{◌≡◌, ◌≢◌, ℕ, zero, suc, ◌+◌, List, [], ◌∷◌, ◌++◌, Bool, true, false, inl, inr, length, refl, sym, ap, ◌∙◌, subst, arith, length-set, length-append}
use Rattle.std.specs.Prelude.{Option, Some, None, unwrap_or, ◌==◌, if◌then◌else◌, slice_get, slice_index_or, map}
use Rattle.std.specs.List.{filter_map, cons_option}
use Rattle.std.proofs.lemmas.List.{length-map, get_or-set_other}
use Rattle.std.proofs.lemmas.List.Elements.{filter_map-append}
use Rattle.std.proofs.lemmas.Bool.{cases_eq, eqb-true, eq-eqb, ne_eqb}
use Rattle.mip_words.specs.declared.address.Address.{Address}
use Rattle.mip_words.specs.declared.ids.LinkId.{LinkId}
use Rattle.mip_entries.specs.declared.answer.Answer.{Answer}
use Rattle.mip_entries.specs.declared.entry.Entry.{Entry}
use Rattle.mip_entries.specs.declared.entry.Entry.TheVariants as entries
use Rattle.mip_entries.specs.Stamped.{Stamped, stamped}
use Rattle.mip_rules_mobile.specs.Known.{Known}
use Rattle.mip_rules_mobile.specs.Calls as mobiles
use Rattle.mip_rules_mobile.specs.HomeQuestions.{home_of}
use Rattle.mip_rules_mobile.specs.Steps.{Step}
use Rattle.mip_rules_mobile.specs.Transitions.{Transition, with_transition}
use Rattle.mip_rules_mobile.specs.Doing.{transition_of}
use Rattle.mip_rules_mobile.proofs.Shielding.{past-home}
use Rattle.mip_links.specs.Table.{Post, link_of, holder_outside}
use Rattle.mip_schedule.specs.declared.event.Event.{Event}
use Rattle.mip_history.specs.Setup.{Setup, Host}
use Rattle.mip_history.specs.Setup.Kind.{Mobile}
use Rattle.mip_history.specs.Runs.{Run, note, entered, mobile_past_at, with_mobile_past}
use Rattle.mip_history.specs.Calls.{Call}
use Rattle.mip_history.specs.Knowing.{now_in, secrets_in, mobile_known_in, stands_on}
use Rattle.mip_history.specs.Nodes.{answered, after_mobile_transition, acts}
use Rattle.mip_history.specs.Permitted.{is_first_agent, anycast_at, claimed_entry, claims_of, claims_from, opened, run_of}
use Rattle.mip_law_claims.specs.Claimings.{Claiming, search_told, searches_told, mobile_search, mobile_searches}
use Rattle.mip_law_claims.proofs.Acting.{acts_kept, own_past, own_acts}
use Rattle.mip_law_claims.proofs.Walking.{KeepsClaims, walk_run}
use Rattle.mip_law_claims.proofs.Searches.{search_same, silent_other, silent_claimed, silent_home, gives_up_silent, claims_silent, answers_silent}
use Rattle.mip_law_claims.proofs.Mobiles.{Told, staying_told, restarting_told, leaving_told, attaching_told}

module _ (s : Setup) (m : ℕ) (own : Address) (agent : Option Address) (host : slice_get s.hosts m ≡ Some (record { address = own; kind = Mobile agent })) (node : (o : ℕ) → m ≢ holder_outside o) where
  record IsTelling (run : Run) : Type 0 where
    long : length run.mobile_pasts ≡ length s.hosts
    told : searches_told own m run.past ≡ mobile_searches s.links own (mobile_past_at run m)

  telling_silent : (run : Run) (e : Entry) → search_told own m e ≡ None → IsTelling run → IsTelling (note e run)
  telling_silent run e none h = record { long = h.long; told = search_same own m run.past e none ∙ h.told }

  telling_entered : (run : Run) (post : Post) → IsTelling run → IsTelling (entered post run)
  telling_entered run post h = record { long = h.long; told = h.told }

  -- another node acts
  module _ (n : ℕ) (other : m ≢ n) (run : Run) (h : IsTelling run) where
    others : (from : ℕ) (answers : List Answer) (x : Run) → IsTelling x → IsTelling (answered s n from x answers)
    others from answers x p = answers_silent s m own agent host IsTelling telling_silent n (ne_eqb m n other) telling_entered from answers x p

    elsewhere : (past : List (Stamped Step)) → IsTelling (with_mobile_past n past run)
    elsewhere past = record {
      long = length-set run.mobile_pasts n past ∙ h.long;
      told = h.told ∙ ap (mobile_searches s.links own) (sym (get_or-set_other run.mobile_pasts n m past [] other));
    }

    other_acts : (call : Call) → IsTelling (acts s n call run)
    other_acts call = acts_kept s n IsTelling (λ (r : Run) q. telling_silent r entries.Idle refl q) others run h (λ past. record { long = h.long; told = h.told }) (λ past. record { long = h.long; told = h.told }) elsewhere call

  -- the mobile itself acts
  module _ (run : Run) (h : IsTelling run) where
    abbrev k : Known
    k = mobile_known_in s run m own agent

    abbrev transition : mobiles.Call → Transition
    transition c = transition_of k (now_in s run) c

    abbrev past : List (Stamped Step)
    past = mobile_past_at run m

    abbrev middle : mobiles.Call → Run
    middle c = with_mobile_past m (with_transition past (transition c)) run

    abbrev from : ℕ
    from = unwrap_or (stands_on s run m own) 0

    home : home_of k ≡ own
    home = past-home own agent s.numbers (secrets_in s m 0) past

    stamped_searches : (now : ℕ) (steps : List Step) → mobile_searches s.links own (stamped now steps) ≡ filter_map (mobile_search s.links own) steps
    stamped_searches now [] = refl
    stamped_searches now (step ∷ steps) = ap (cons_option (mobile_search s.links own step)) (stamped_searches now steps)

    finish : (c : mobiles.Call) → Told s m own agent host from (middle c) (transition c) → IsTelling (after_mobile_transition s m own (transition c) run)
    finish c told =
        let then_ = own_past s m own agent host run h.long c in
        record {
          long = ap (λ (l : List (List (Stamped Step))). length l) then_.0 ∙ length-set run.mobile_pasts m (with_transition past (transition c)) ∙ h.long;
          told =
              told ∙ ap (λ (l : List Claiming). l ++ filter_map (mobile_search s.links own) (transition c).steps) h.told
              ∙ ap (λ (l : List Claiming). mobile_searches s.links own past ++ l) (sym (stamped_searches (transition c).now (transition c).steps))
              ∙ sym (filter_map-append (λ (x : Stamped Step). mobile_search s.links own x.step) past (stamped (transition c).now (transition c).steps))
              ∙ ap (mobile_searches s.links own) (sym then_.1);
        }

    acts_itself : (call : Call) → IsTelling (acts s m call run)
    acts_itself =
        own_acts s m own agent host run IsTelling (telling_silent run entries.Idle refl h) (λ c stays lives. finish c (staying_told s m own agent host from (middle c) k (now_in s run) c stays lives))
        (λ secrets. finish _ (restarting_told s m own agent host from (middle _) k (now_in s run) secrets))
        (finish _ (leaving_told s m own agent host from (middle _) k (now_in s run) _))
        (λ prefix. finish _ (attaching_told s m own agent host from (middle _) prefix k (now_in s run) _ _ home refl))

  acts_telling : (run : Run) (n : ℕ) (call : Call) → IsTelling run → IsTelling (acts s n call run)
  acts_telling run n call h = elim (cases_eq m n) as (λ _. IsTelling (acts s n call run)) [
    | inl e ↦ subst (λ (x : ℕ). IsTelling (acts s x call run)) e (acts_itself run h call)
    | inr other ↦ other_acts n other run h call
  ]

  telling_keeps : KeepsClaims s IsTelling
  telling_keeps = record {
    other = λ run e is h. telling_silent run e (silent_other own m e is) h;
    enters = λ run post h. telling_entered run post h;
    leaves = λ run k h. record { long = h.long; told = h.told };
    squats = λ run o address h. claims_silent s m own agent host IsTelling telling_silent (holder_outside o) (ne_eqb m (holder_outside o) (node o)) address run h;
    yields = λ run o address h. gives_up_silent s m own agent host IsTelling telling_silent (holder_outside o) address run h;
    acted = λ run n call h. acts_telling run n call h;
    emptied = λ run n h. record { long = h.long; told = h.told };
    reborn = λ run n h. record { long = h.long; told = h.told };
    gives = λ run n address is h. gives_up_silent s m own agent host IsTelling telling_silent n address run h;
  }

  -- before the first event it has claimed its home address alone
  abbrev mine : Host
  mine = record { address = own; kind = Mobile agent }

  host_silent : (before : List Host) (x : Host) → (m ≡ length before → x ≡ mine) → searches_told own m (claims_of s.links before x) ≡ []
  host_silent before x is = by (m == length before) refl
    where
      on : Address → LinkId
      on address = record { 0 = unwrap_or (link_of s.links address.0) 0 }

      one : (e : Entry) → search_told own m e ≡ None → searches_told own m (e ∷ []) ≡ []
      one e none = ap (λ (o : Option Claiming). cons_option o []) none

      two : (e f : Entry) → search_told own m e ≡ None → search_told own m f ≡ None → searches_told own m (e ∷ f ∷ []) ≡ []
      two e f first second = ap (λ (o : Option Claiming). cons_option o (searches_told own m (f ∷ []))) first ∙ one f second

      either : (m == length before) ≡ false → (b : Bool)
          → searches_told own m (claimed_entry s.links (length before) x.address ∷ (if b then claimed_entry s.links (length before) (anycast_at x.address) ∷ [] else [])) ≡ []
      either apart true =
          two (claimed_entry s.links (length before) x.address) (claimed_entry s.links (length before) (anycast_at x.address))
          (silent_claimed own m (length before) (on x.address) x.address apart) (silent_claimed own m (length before) (on (anycast_at x.address)) (anycast_at x.address) apart)
      either apart false = one (claimed_entry s.links (length before) x.address) (silent_claimed own m (length before) (on x.address) x.address apart)

      by : (b : Bool) → (m == length before) ≡ b → searches_told own m (claims_of s.links before x) ≡ []
      by true same =
          subst (λ (y : Host). searches_told own m (claims_of s.links before y) ≡ []) (sym (is (eqb-true m (length before) same)))
          (one (claimed_entry s.links (length before) own) (silent_home own m (length before) (on own) own (eq-eqb own.0 own.0 refl)))
      by false apart = either apart (is_first_agent s.links before x.address x.kind)

  hosts_silent : (before hosts : List Host) → ((i : ℕ) → m ≡ length before + i → slice_get hosts i ≡ Some mine) → searches_told own m (claims_from s.links before hosts) ≡ []
  hosts_silent before [] at = refl
  hosts_silent before (x ∷ hosts) at =
      filter_map-append (search_told own m) (claims_of s.links before x) (claims_from s.links (before ++ x ∷ []) hosts)
      ∙ ap (λ (l : List Claiming). l ++ searches_told own m (claims_from s.links (before ++ x ∷ []) hosts))
      (host_silent before x (λ same. let there : Some x ≡ Some mine = at 0 (omega (arith, same)) in cc))
      ∙ hosts_silent (before ++ x ∷ []) hosts (λ i same. at (suc i) (let more = length-append before (x ∷ []) in omega (arith, same, more)))

  no_past : (hosts : List Host) (n : ℕ) → slice_index_or (map (λ (x : Host). let l : List (Stamped Step) = [] in l) hosts) n [] ≡ []
  no_past [] n = refl
  no_past (x ∷ hosts) zero = refl
  no_past (x ∷ hosts) (suc n) = no_past hosts n

  telling_opened : IsTelling (opened s)
  telling_opened = record {
    long = length-map s.hosts (λ (x : Host). let l : List (Stamped Step) = [] in l);
    told =
        hosts_silent [] s.hosts (λ i same. subst (λ (n : ℕ). slice_get s.hosts n ≡ Some mine) (omega (arith, same)) host)
        ∙ ap (mobile_searches s.links own) (sym (no_past s.hosts m));
  }

  pub searches_of_run : (events : List Event) → searches_told own m (run_of s events).past ≡ mobile_searches s.links own (mobile_past_at (run_of s events) m)
  searches_of_run events = let h : IsTelling (run_of s events) = walk_run s IsTelling telling_keeps events telling_opened in h.told
