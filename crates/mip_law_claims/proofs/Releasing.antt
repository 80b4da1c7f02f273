-- A transition of a mobile tells which addresses it gives up: away it holds the one that it gives up.
use Rattle.std.proofs.Common.{◌≡◌, ℕ, List, [], ◌∷◌, ◌++◌, Bool, true, false, refl, sym, ap, ◌∙◌, subst}
use Rattle.std.specs.Prelude.{Option, Some, None, is_some, not, ◌==◌, ◌&&◌, if◌then◌else◌, slice_get}
use Rattle.std.specs.List.{filter_map, cons_option}
use Rattle.std.proofs.lemmas.List.{append_assoc, append-nil}
use Rattle.std.proofs.lemmas.List.Elements.{filter_map-append}
use Rattle.std.proofs.lemmas.Bool.{eq-eqb}
use Rattle.mip_words.specs.declared.address.Address.{Address}
use Rattle.mip_nonce.specs.Secrets.{Life}
use Rattle.mip_outside.specs.declared.claim.Claim.{Claim}
use Rattle.mip_outside.specs.declared.claim.Claim.TheVariants as claim
use Rattle.mip_outside.specs.Places.{is_held}
use Rattle.mip_entries.specs.declared.entry.Entry.{Entry}
use Rattle.mip_entries.specs.declared.entry.Entry.TheVariants as entries
use Rattle.mip_entries.proofs.TransitionLaws.{noted-known, noted-steps}
use Rattle.mip_rules_mobile.specs.declared.attachment.Attachment.{Attachment}
use Rattle.mip_rules_mobile.specs.declared.attachment.Attachment.TheVariants.{Detached, AtHome, Away}
use Rattle.mip_rules_mobile.specs.Calls as calls
use Rattle.mip_rules_mobile.specs.Calls.{Call}
use Rattle.mip_rules_mobile.specs.Steps.{Step, Called, Notes, Claims, Releases, FindsTaken, Arrives, Detaches, Restarts, Unbinds, answer_of}
use Rattle.mip_rules_mobile.specs.Known.{Known}
use Rattle.mip_rules_mobile.specs.HomeQuestions.{home_of}
use Rattle.mip_rules_mobile.specs.RowQuestions.{peer_of_row, is_bound_row}
use Rattle.mip_rules_mobile.specs.Questions.{after}
use Rattle.mip_rules_mobile.specs.Transitions.{Transition, begun, noted}
use Rattle.mip_rules_mobile.specs.TrialRules.{each_row}
use Rattle.mip_rules_mobile.specs.MovingRules.{releases, unbinds_with, unbinds, leaves, arrives_by, address_under, arrives, uses_prefix, leaves_first, attaches, restarts}
use Rattle.mip_rules_mobile.specs.PartLaws.{is_restart}
use Rattle.mip_rules_mobile.specs.Answering.{stays_put}
use Rattle.mip_rules_mobile.specs.Doing.{does, transition_of}
use Rattle.mip_rules_mobile.proofs.Told.{home-kept}
use Rattle.mip_rules_mobile.proofs.TrialWalks.{every-row}
use Rattle.mip_links.specs.Table.{Post, link_of}
use Rattle.mip_history.specs.Setup.{Setup}
use Rattle.mip_history.specs.Setup.Kind.{Mobile}
use Rattle.mip_history.specs.Runs.{Run, note}
use Rattle.mip_history.specs.Questions.{holder_in}
use Rattle.mip_history.specs.Claims.{link_id}
use Rattle.mip_history.specs.Homes.{resident, gives_up}
use Rattle.mip_history.specs.Nodes.{answered}
use Rattle.mip_law_claims.specs.Claimings.{Claiming, is_on_link, release_told, releases_told, mobile_release}
use Rattle.mip_law_claims.specs.Claimings.Claiming.{Releases as OfRelease}
use Rattle.mip_law_claims.proofs.Tables.{off_link_release, held_release_is}
use Rattle.mip_law_claims.proofs.Mobiles.{IsRight, then_, then_noted}
use Rattle.mip_law_claims.proofs.StayingRules.{is_plain, still_settles, still_if_away}
use Rattle.mip_law_claims.proofs.Staying.{still_handles}
use Rattle.mip_law_claims.proofs.Holding.{Holds, first, none_claims, plain_right, unclaimed_kept}
use Rattle.mip_law_claims.proofs.Releasings.{release_push, release_same, untold_home, plain_untold, claims_untold, passes_untold, gives_up_untold}

-- a step that gives up no address
abbrev gives_none : Step → Bool
gives_none (Releases address) = false
gives_none _ = true

plain_gives : (step : Step) → is_plain step ≡ true → gives_none step ≡ true
plain_gives (Releases address) is = absurd cc
plain_gives _ is = refl

module _ (s : Setup) (m : ℕ) (own : Address) (agent : Option Address) (host : slice_get s.hosts m ≡ Some (record { address = own; kind = Mobile agent })) (from : ℕ) where
  abbrev done : List Step → List Claiming
  done steps = filter_map (mobile_release s.links own) steps

  none_done : (step : Step) → gives_none step ≡ true → done (step ∷ []) ≡ []
  none_done (Releases address) is = absurd cc
  none_done _ is = refl

  -- what is told of an address that is given up, by whether it is on a link and the home address
  abbrev given : (a : Address) (on home : Bool) → List Claiming
  given a on home = cons_option (if on && not home then Some (OfRelease a) else None) []

  -- in a run
  module _ (x : Run) where
    abbrev IsSame : Run → Type 0
    IsSame r = releases_told own m r.past ≡ releases_told own m x.past

    same : (run : Run) (e : Entry) → release_told own m e ≡ None → IsSame run → IsSame (note e run)
    same run e none p = release_same own m run.past e none ∙ p

    step_same : (step : Step) → gives_none step ≡ true → IsRight step → IsSame (answered s m from x (answer_of step))
    unfolding answered
    step_same (Releases address) is right = absurd cc
    step_same (Claims address) is right = claims_untold s m own IsSame same m address x refl
    step_same (FindsTaken address holder) is right = claims_untold s m own IsSame same m address x refl
    step_same step is right =
        unclaimed_kept s m from IsSame (λ (r : Run) (e : Entry) other p. plain_untold s m own IsSame same r e other p) (λ (r : Run) (post : Post) p. p) (answer_of step) x (none_claims step refl right) refl

    -- an address is given up that is held, unless it is the home address
    released : (a : Address) → (is_on_link s.links a ≡ true → holder_in x.past a.0 ≡ Some m) → releases_told own m (gives_up s m a x).past ≡ releases_told own m x.past ++ done (Releases a ∷ [])
    released a held = by (link_of s.links a.0) (a.0 == own.0) refl refl
      where
        given_is : (on home : Bool) → is_some (link_of s.links a.0) ≡ on → (a.0 == own.0) ≡ home → given a on home ≡ done (Releases a ∷ [])
        given_is on home there at = ap (λ (b : Bool). given a b home) (sym there) ∙ ap (λ (b : Bool). given a (is_some (link_of s.links a.0)) b) (sym at)

        nothing : (on home : Bool) → is_some (link_of s.links a.0) ≡ on → (a.0 == own.0) ≡ home → given a on home ≡ [] → IsSame (gives_up s m a x)
            → releases_told own m (gives_up s m a x).past ≡ releases_told own m x.past ++ done (Releases a ∷ [])
        nothing on home there at none is =
            is ∙ sym (append-nil (releases_told own m x.past)) ∙ ap (λ (l : List Claiming). releases_told own m x.past ++ l) (sym none ∙ given_is on home there at)

        by : (o : Option ℕ) (home : Bool) → link_of s.links a.0 ≡ o → (a.0 == own.0) ≡ home → releases_told own m (gives_up s m a x).past ≡ releases_told own m x.past ++ done (Releases a ∷ [])
        by None home off at =
            nothing false home (ap (λ (o : Option ℕ). is_some o) off) at refl (ap (λ (r : Run). releases_told own m r.past) (off_link_release s m a x off) ∙ release_same own m x.past entries.Idle refl)
        by (Some link) true on at =
            nothing true true (ap (λ (o : Option ℕ). is_some o) on) at refl (gives_up_untold s m own IsSame same m a (λ l. untold_home own m m a l at) x refl)
        by (Some link) false on at =
            let there : is_some (link_of s.links a.0) ≡ true = ap (λ (o : Option ℕ). is_some o) on in
            let next : Run = note (entries.Released m (link_id link) a) x in
            ap (λ (r : Run). releases_told own m r.past) (held_release_is s m a x link on (held there))
            ∙ passes_untold s m own (λ (r : Run). releases_told own m r.past ≡ releases_told own m next.past) (λ (r : Run) (e : Entry) none p. release_same own m r.past e none ∙ p) m a link next (resident s x a.0) refl
            ∙ release_push own m x.past (entries.Released m (link_id link) a)
            ∙ ap (λ (b : Bool). releases_told own m x.past ++ cons_option (if b && not (a.0 == own.0) then Some (OfRelease a) else None) []) (eq-eqb m m refl)
            ∙ ap (λ (b : Bool). releases_told own m x.past ++ cons_option (if b && not (a.0 == own.0) then Some (OfRelease a) else None) []) (sym there)

  module _ (start : Run) where
    abbrev run_at : Transition → Run
    run_at t = then_ s m own agent host from start t

    -- in a transition from a run on
    abbrev pub Tells : Transition → Type 0
    Tells t = releases_told own m (run_at t).past ≡ releases_told own m start.past ++ done t.steps

    done_noted : (step : Step) (t : Transition) → done (noted step t).steps ≡ done t.steps ++ done (step ∷ [])
    done_noted step t = ap done (noted-steps after step t) ∙ filter_map-append (mobile_release s.links own) t.steps (step ∷ [])

    tells_step : (step : Step) (t : Transition) → releases_told own m (answered s m from (run_at t) (answer_of step)).past ≡ releases_told own m (run_at t).past ++ done (step ∷ []) → Tells t → Tells (noted step t)
    tells_step step t is told =
        ap (λ (r : Run). releases_told own m r.past) (then_noted s m own agent host from start step t) ∙ is ∙ ap (λ (l : List Claiming). l ++ done (step ∷ [])) told
        ∙ append_assoc (releases_told own m start.past) (done t.steps) (done (step ∷ []))
        ∙ ap (λ (l : List Claiming). releases_told own m start.past ++ l) (sym (done_noted step t))

    other : (step : Step) (t : Transition) → gives_none step ≡ true → IsRight step → Tells t → Tells (noted step t)
    other step t is right told =
        tells_step step t
        (step_same (run_at t) step is right
        ∙ sym (ap (λ (l : List Claiming). releases_told own m (run_at t).past ++ l) (none_done step is) ∙ append-nil (releases_told own m (run_at t).past))) told

    plain : (step : Step) (t : Transition) → is_plain step ≡ true → Tells t → Tells (noted step t)
    plain step t is told = other step t (plain_gives step is) (plain_right step is) told

    notes : (entry : Entry) (t : Transition) → IsRight (Notes entry) → Tells t → Tells (noted (Notes entry) t)
    notes entry t right told = other (Notes entry) t refl right told

    gives : (a : Address) (t : Transition) → (is_on_link s.links a ≡ true → holder_in (run_at t).past a.0 ≡ Some m) → Tells t → Tells (noted (Releases a) t)
    unfolding answered
    gives a t held told = tells_step (Releases a) t (released (run_at t) a held) told

    -- the home address, whose release is not told
    gives_home : (t : Transition) → home_of t.known ≡ own → Tells t → Tells (noted (Releases (home_of t.known)) t)
    unfolding answered
    gives_home t home told = subst (λ (a : Address). Tells (noted (Releases a) t)) (sym home) (tells_step (Releases own) t (at_home (run_at t)) told)
      where
        same_home : (own.0 == own.0) ≡ true
        same_home = eq-eqb own.0 own.0 refl

        none : done (Releases own ∷ []) ≡ []
        none = ap (λ (b : Bool). cons_option (if is_some (link_of s.links own.0) && not b then Some (OfRelease own) else None) []) same_home ∙ by (is_some (link_of s.links own.0))
          where
            by : (b : Bool) → cons_option (if b && not true then Some (OfRelease own) else None) [] ≡ []
            by true = refl
            by false = refl

        at_home : (x : Run) → releases_told own m (gives_up s m own x).past ≡ releases_told own m x.past ++ done (Releases own ∷ [])
        at_home x =
            gives_up_untold s m own (IsSame x) (same x) m own (λ l. untold_home own m m own l same_home) x refl
            ∙ sym (ap (λ (l : List Claiming). releases_told own m x.past ++ l) none ∙ append-nil (releases_told own m x.past))

    -- it leaves its link
    releases_tells : (st : Attachment) (of_home : Claim) (t : Transition) → t.known.standing ≡ st → home_of t.known ≡ own → Holds s m own agent host from start t → Tells t → Tells (releases st of_home t)
    releases_tells Detached of_home t here home holds told = told
    releases_tells AtHome of_home t here home holds told = by (is_held of_home)
      where
        by : (held : Bool) → Tells (if held then noted (Releases (home_of t.known)) t else t)
        by true = gives_home t home told
        by false = told
    releases_tells (Away careof) of_home t here home holds told = gives careof t (λ on. holds careof here on) told

    unbinds_tells : (row : ℕ) (t : Transition) → Tells t → Tells (unbinds row t)
    unbinds_tells row t told = by (is_bound_row t.known t.now row) (peer_of_row t.known row)
      where
        by : (bound : Bool) (peer : Option Address) → Tells (unbinds_with bound peer row t)
        by bound None = told
        by true (Some peer) = plain (Unbinds row peer) t refl told
        by false (Some peer) = told

    leaves_tells : (of_home : Claim) (t : Transition) → home_of t.known ≡ own → Holds s m own agent host from start t → Tells t → Tells (leaves of_home t)
    unfolding leaves
    leaves_tells of_home t home holds told =
        other Detaches (each_row unbinds (releases t.known.standing of_home t)) refl tt
        (every-row Tells unbinds unbinds_tells (releases t.known.standing of_home t) (releases_tells t.known.standing of_home t refl home holds told))

    leaves_first_tells : (st : Attachment) (of_home : Claim) (t : Transition) → home_of t.known ≡ own → Holds s m own agent host from start t → Tells t → Tells (leaves_first st of_home t)
    leaves_first_tells Detached of_home t home holds told = told
    leaves_first_tells AtHome of_home t home holds told = leaves_tells of_home t home holds told
    leaves_first_tells (Away careof) of_home t home holds told = leaves_tells of_home t home holds told

    -- it comes to an address
    arrives_tells : (prefix : ℕ) (of_address : Claim) (t : Transition) → Tells t → Tells (arrives prefix of_address t)
    unfolding arrives
    arrives_tells prefix of_address t told = by of_address (address_under (home_of t.known) prefix)
      where
        by : (d : Claim) (a : Address) → Tells (arrives_by d a t)
        by claim.Held a = still_settles Tells plain notes (noted (Arrives a) (noted (Claims a) t)) (other (Arrives a) (noted (Claims a) t) refl tt (other (Claims a) t refl tt told))
        by claim.Waiting a = still_settles Tells plain notes (noted (Arrives a) t) (other (Arrives a) t refl tt told)
        by (claim.Taken holder) a = other (FindsTaken a holder) t refl tt told

    attaches_tells : (prefix : ℕ) (of_home of_address : Claim) (t : Transition) → home_of t.known ≡ own → Holds s m own agent host from start t → Tells t → Tells (attaches prefix of_home of_address t)
    unfolding attaches
    attaches_tells prefix of_home of_address t home holds told = by (uses_prefix t.known.standing (home_of t.known) prefix)
      where
        by : (b : Bool) → Tells (if b then t else arrives prefix of_address (leaves_first t.known.standing of_home t))
        by true = told
        by false = arrives_tells prefix of_address (leaves_first t.known.standing of_home t) (leaves_first_tells t.known.standing of_home t home holds told)

    begins : (c : Call) (now : ℕ) (k : Known) → Tells (noted (Called c) (begun now k))
    unfolding answered
    begins c now k = plain (Called c) (begun now k) refl (sym (append-nil (releases_told own m start.past)))

    begins_home : (c : Call) (now : ℕ) (k : Known) → home_of k ≡ own → home_of (noted (Called c) (begun now k)).known ≡ own
    begins_home c now k home = ap home_of (noted-known after (Called c) (begun now k)) ∙ home-kept k (record { at = now; step = Called c }) ∙ home

    pub staying_tells : (k : Known) (now : ℕ) (c : Call) → stays_put c ≡ true → is_restart c ≡ false → Tells (transition_of k now c)
    unfolding does
    staying_tells k now c stays lives = still_handles Tells plain notes (noted (Called c) (begun now k)) (begins c now k) c stays lives

    pub restarting_tells : (k : Known) (now : ℕ) (secrets : Life) → Tells (transition_of k now (calls.Restart secrets))
    unfolding does restarts
    restarting_tells k now secrets =
        let t : Transition = noted (Called (calls.Restart secrets)) (begun now k) in
        still_if_away Tells plain notes t.known.standing (noted (Restarts secrets) t) (other (Restarts secrets) t refl tt (begins (calls.Restart secrets) now k))

    module _ (k : Known) (now : ℕ) (home : home_of k ≡ own) (before : (careof : Address) → k.standing ≡ Away careof → is_on_link s.links careof ≡ true → holder_in start.past careof.0 ≡ Some m) where
      pub leaving_tells : (of_home : Claim) → Tells (transition_of k now (calls.Leave of_home))
      unfolding does
      leaving_tells of_home =
          let c : Call = calls.Leave of_home in
          leaves_tells of_home (noted (Called c) (begun now k)) (begins_home c now k home) (first s m own agent host from start k now before c) (begins c now k)

      pub attaching_tells : (prefix : ℕ) (of_home of_address : Claim) → Tells (transition_of k now (calls.Attach prefix of_home of_address))
      unfolding does
      attaching_tells prefix of_home of_address =
          let c : Call = calls.Attach prefix of_home of_address in
          attaches_tells prefix of_home of_address (noted (Called c) (begun now k)) (begins_home c now k home) (first s m own agent host from start k now before c) (begins c now k)
