-- Every run tells which addresses its mobiles give up.
use Rattle.std.proofs.Common.{◌≡◌, ◌≢◌, ℕ, List, [], ◌∷◌, ◌++◌, Bool, true, false, inl, inr, length, refl, sym, ap, ◌∙◌, subst}
use Rattle.std.specs.Prelude.{Option, Some, None, unwrap_or, if◌then◌else◌, slice_get}
use Rattle.std.specs.List.{filter_map, cons_option}
use Rattle.std.proofs.lemmas.List.{get_or-set_other}
use Rattle.std.proofs.lemmas.List.Elements.{filter_map-append}
use Rattle.std.proofs.lemmas.Bool.{cases_eq, ne_eqb}
use Rattle.mip_words.specs.declared.address.Address.{Address}
use Rattle.mip_entries.specs.declared.answer.Answer.{Answer}
use Rattle.mip_entries.specs.declared.entry.Entry.{Entry}
use Rattle.mip_entries.specs.declared.entry.Entry.TheVariants as entries
use Rattle.mip_entries.specs.Stamped.{Stamped, stamped}
use Rattle.mip_rules_mobile.specs.Known.{Known}
use Rattle.mip_rules_mobile.specs.Calls as mobiles
use Rattle.mip_rules_mobile.specs.HomeQuestions.{home_of}
use Rattle.mip_rules_mobile.specs.Steps.{Step}
use Rattle.mip_rules_mobile.specs.Transitions.{Transition, with_transition}
use Rattle.mip_rules_mobile.specs.Doing.{transition_of}
use Rattle.mip_rules_mobile.proofs.Shielding.{past-home}
use Rattle.mip_links.specs.Table.{Post, holder_outside}
use Rattle.mip_schedule.specs.declared.event.Event.{Event}
use Rattle.mip_history.specs.Setup.{Setup, Host}
use Rattle.mip_history.specs.Setup.Kind.{Mobile}
use Rattle.mip_history.specs.Runs.{Run, note, entered, mobile_past_at, with_mobile_past}
use Rattle.mip_history.specs.Calls.{Call}
use Rattle.mip_history.specs.Knowing.{now_in, secrets_in, mobile_known_in, stands_on}
use Rattle.mip_history.specs.Nodes.{answered, after_mobile_transition, acts}
use Rattle.mip_history.specs.Permitted.{is_first_agent, anycast_at, claimed_entry, claims_of, claims_from, opened, run_of}
use Rattle.mip_law_claims.specs.Claimings.{Claiming, release_told, releases_told, mobile_release, mobile_releases}
use Rattle.mip_law_claims.proofs.Noting.{is_claiming}
use Rattle.mip_law_claims.proofs.Acting.{acts_kept, own_past, own_acts}
use Rattle.mip_law_claims.proofs.Walking.{KeepsClaims, walk_run}
use Rattle.mip_law_claims.proofs.Releasings.{release_same, plain_untold, claims_untold, other_gives_up_untold, answers_untold}
use Rattle.mip_law_claims.proofs.Releasing.{Tells, staying_tells, restarting_tells, leaving_tells, attaching_tells}
use Rattle.mip_law_claims.proofs.HoldingRuns.{IsHolding, agent_apart, holding_keeps, no_past, holding_opened}

module _ (s : Setup) (m : ℕ) (own : Address) (agent : Option Address) (host : slice_get s.hosts m ≡ Some (record { address = own; kind = Mobile agent })) (node : (o : ℕ) → m ≢ holder_outside o) where
  abbrev IsTold : Run → Type 0
  IsTold run = releases_told own m run.past ≡ mobile_releases s.links own (mobile_past_at run m)

  record IsReleasing (run : Run) : Type 0 where
    on : IsHolding s m own agent host node run
    told : IsTold run

  untold : (run : Run) (e : Entry) → release_told own m e ≡ None → IsTold run → IsTold (note e run)
  untold run e none told = release_same own m run.past e none ∙ told

  told_entered : (run : Run) (post : Post) → IsTold run → IsTold (entered post run)
  told_entered run post told = told

  told_other : (run : Run) (e : Entry) → is_claiming e ≡ false → IsTold run → IsTold (note e run)
  told_other run e other told = plain_untold s m own IsTold untold run e other told

  -- another node acts
  module _ (n : ℕ) (other : m ≢ n) (run : Run) (told : IsTold run) where
    others : (from : ℕ) (answers : List Answer) (x : Run) → IsTold x → IsTold (answered s n from x answers)
    others from answers x p = answers_untold s m own IsTold untold n (ne_eqb m n other) told_entered from answers x p

    elsewhere : (past : List (Stamped Step)) → IsTold (with_mobile_past n past run)
    elsewhere past = told ∙ ap (mobile_releases s.links own) (sym (get_or-set_other run.mobile_pasts n m past [] other))

    other_acts : (call : Call) → IsTold (acts s n call run)
    other_acts call = acts_kept s n IsTold (λ (r : Run) q. untold r entries.Idle refl q) others run told (λ past. told) (λ past. told) elsewhere call

  -- the mobile itself acts
  module _ (run : Run) (h : IsReleasing run) where
    abbrev past : List (Stamped Step)
    past = mobile_past_at run m

    abbrev k : Known
    k = mobile_known_in s run m own agent

    abbrev transition : mobiles.Call → Transition
    transition c = transition_of k (now_in s run) c

    abbrev middle : mobiles.Call → Run
    middle c = with_mobile_past m (with_transition past (transition c)) run

    abbrev from : ℕ
    from = unwrap_or (stands_on s run m own) 0

    home : home_of k ≡ own
    home = past-home own agent s.numbers (secrets_in s m 0) past

    stamped_releases : (now : ℕ) (steps : List Step) → mobile_releases s.links own (stamped now steps) ≡ filter_map (mobile_release s.links own) steps
    stamped_releases now [] = refl
    stamped_releases now (step ∷ steps) = ap (cons_option (mobile_release s.links own step)) (stamped_releases now steps)

    finish : (c : mobiles.Call) → Tells s m own agent host from (middle c) (transition c) → IsTold (after_mobile_transition s m own (transition c) run)
    finish c tells =
        let on : IsHolding s m own agent host node run = h.on in
        let then_ = own_past s m own agent host run on.long c in
        tells ∙ ap (λ (l : List Claiming). l ++ filter_map (mobile_release s.links own) (transition c).steps) h.told
        ∙ ap (λ (l : List Claiming). mobile_releases s.links own past ++ l) (sym (stamped_releases (transition c).now (transition c).steps))
        ∙ sym (filter_map-append (λ (x : Stamped Step). mobile_release s.links own x.step) past (stamped (transition c).now (transition c).steps))
        ∙ ap (mobile_releases s.links own) (sym then_.1)

    on : IsHolding s m own agent host node run
    on = h.on

    acts_itself : (call : Call) → IsTold (acts s m call run)
    acts_itself =
        own_acts s m own agent host run IsTold (untold run entries.Idle refl h.told) (λ c stays lives. finish c (staying_tells s m own agent host from (middle c) k (now_in s run) c stays lives))
        (λ secrets. finish _ (restarting_tells s m own agent host from (middle _) k (now_in s run) secrets))
        (finish _ (leaving_tells s m own agent host from (middle _) k (now_in s run) home on.held _))
        (λ prefix. finish _ (attaching_tells s m own agent host from (middle _) k (now_in s run) home on.held prefix _ _))

  acts_told : (run : Run) (n : ℕ) (call : Call) → IsReleasing run → IsTold (acts s n call run)
  acts_told run n call h = elim (cases_eq m n) as (λ _. IsTold (acts s n call run)) [
    | inl e ↦ subst (λ (x : ℕ). IsTold (acts s x call run)) e (acts_itself run h call)
    | inr other ↦ other_acts n other run h.told call
  ]

  abbrev keeps : KeepsClaims s (IsHolding s m own agent host node)
  keeps = holding_keeps s m own agent host node

  releasing_keeps : KeepsClaims s IsReleasing
  releasing_keeps = record {
    other = λ run e is h. record { on = keeps.other run e is h.on; told = told_other run e is h.told };
    enters = λ run post h. record { on = keeps.enters run post h.on; told = h.told };
    leaves = λ run k h. record { on = keeps.leaves run k h.on; told = h.told };
    squats = λ run o address h. record { on = keeps.squats run o address h.on; told = claims_untold s m own IsTold untold (holder_outside o) address run h.told };
    yields = λ run o address h. record {
      on = keeps.yields run o address h.on;
      told = other_gives_up_untold s m own IsTold untold (holder_outside o) (ne_eqb m (holder_outside o) (node o)) address run h.told;
    };
    acted = λ run n call h. record { on = keeps.acted run n call h.on; told = acts_told run n call h };
    emptied = λ run n h. record { on = keeps.emptied run n h.on; told = h.told };
    reborn = λ run n h. record { on = keeps.reborn run n h.on; told = h.told };
    gives = λ run n address is h. record {
      on = keeps.gives run n address is h.on;
      told = other_gives_up_untold s m own IsTold untold n (agent_apart s m own agent host node n is.own is.preference is.life is.room is.serves is.host) address run h.told;
    };
  }

  -- before the first event nothing is given up
  host_none : (before : List Host) (x : Host) → releases_told own m (claims_of s.links before x) ≡ []
  host_none before x = by (is_first_agent s.links before x.address x.kind)
    where
      by : (b : Bool) → releases_told own m (claimed_entry s.links (length before) x.address ∷ (if b then claimed_entry s.links (length before) (anycast_at x.address) ∷ [] else [])) ≡ []
      by true = refl
      by false = refl

  hosts_none : (before hosts : List Host) → releases_told own m (claims_from s.links before hosts) ≡ []
  hosts_none before [] = refl
  hosts_none before (x ∷ hosts) =
      filter_map-append (release_told own m) (claims_of s.links before x) (claims_from s.links (before ++ x ∷ []) hosts)
      ∙ ap (λ (l : List Claiming). l ++ releases_told own m (claims_from s.links (before ++ x ∷ []) hosts)) (host_none before x)
      ∙ hosts_none (before ++ x ∷ []) hosts

  releasing_opened : IsReleasing (opened s)
  releasing_opened = record {
    on = holding_opened s m own agent host node;
    told = hosts_none [] s.hosts ∙ ap (mobile_releases s.links own) (sym (no_past s m own agent host node s.hosts m));
  }

  pub releases_of_run : (events : List Event) → releases_told own m (run_of s events).past ≡ mobile_releases s.links own (mobile_past_at (run_of s events) m)
  releases_of_run events = let h : IsReleasing (run_of s events) = walk_run s IsReleasing releasing_keeps events releasing_opened in h.told
