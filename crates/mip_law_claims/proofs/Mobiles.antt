-- A transition of a mobile tells which addresses it claims and finds taken: the table says what its place answered as the call began.
use Rattle.std.proofs.Common.{◌≡◌, ℕ, List, [], ◌∷◌, ◌++◌, Bool, true, false, refl, sym, ap, ◌∙◌, subst, arith}
use Rattle.std.specs.Prelude.{Option, Some, None, is_some, not, ◌==◌, ◌&&◌, if◌then◌else◌, slice_get}
use Rattle.std.specs.List.{filter_map, cons_option}
use Rattle.std.proofs.lemmas.List.{append_assoc, append-nil}
use Rattle.std.proofs.lemmas.List.Elements.{filter_map-append}
use Rattle.std.proofs.lemmas.List.Sums.{fold-append}
use Rattle.std.proofs.lemmas.Bool.{eqb-true, eq-eqb}
use Rattle.mip_words.specs.Addresses.{prefix_of}
use Rattle.mip_words.specs.declared.address.Address.{Address}
use Rattle.mip_nonce.specs.Secrets.{Life}
use Rattle.mip_outside.specs.declared.claim.Claim.{Claim}
use Rattle.mip_outside.specs.declared.claim.Claim.TheVariants as claim
use Rattle.mip_outside.specs.Places.{is_held, claim_of}
use Rattle.mip_entries.specs.declared.answer.Answer.{Answer}
use Rattle.mip_entries.specs.declared.entry.Entry.{Entry}
use Rattle.mip_entries.specs.declared.entry.Entry.TheVariants as entries
use Rattle.mip_entries.proofs.TransitionLaws.{noted-known, noted-steps}
use Rattle.mip_entries.proofs.ShowLaws.{answers-noted}
use Rattle.mip_rules_correspondent.specs.Wholes.{is_own}
use Rattle.mip_rules_mobile.specs.declared.attachment.Attachment.{Attachment}
use Rattle.mip_rules_mobile.specs.declared.attachment.Attachment.TheVariants.{Detached, AtHome, Away}
use Rattle.mip_rules_mobile.specs.Calls as calls
use Rattle.mip_rules_mobile.specs.Calls.{Call}
use Rattle.mip_rules_mobile.specs.Sendings.{shield_of, packet_of_sending, update_packet}
use Rattle.mip_rules_mobile.specs.Steps.{Step, Called, Parts, Notes, Sends, Unsends, Drops, Claims, Releases, FindsTaken, Arrives, Detaches, Restarts, Registers, Unregisters, IsRefused, Resequences, Seeks, SeeksAgain, GivesUp, Finds, Chooses, Learns, Meets, Tries, Updates, Forgets, Binds, Unbinds, Waits, Stops, Rings, myself, answer_of, answers_of}
use Rattle.mip_rules_mobile.specs.Known.{Known}
use Rattle.mip_rules_mobile.specs.HomeQuestions.{home_of}
use Rattle.mip_rules_mobile.specs.RowQuestions.{peer_of_row, is_bound_row}
use Rattle.mip_rules_mobile.specs.Questions.{after}
use Rattle.mip_rules_mobile.specs.Transitions.{Transition, begun, noted}
use Rattle.mip_rules_mobile.specs.TrialRules.{each_row}
use Rattle.mip_rules_mobile.specs.MovingRules.{releases, unbinds_with, unbinds, leaves, arrives_by, address_under, arrives, uses_prefix, leaves_first, attaches, registers_if_away, restarts}
use Rattle.mip_rules_mobile.specs.PartLaws.{is_restart}
use Rattle.mip_rules_mobile.specs.Answering.{stays_put}
use Rattle.mip_rules_mobile.specs.Doing.{does, transition_of}
use Rattle.mip_rules_mobile.specs.Fitting.{Fits, kind_of}
use Rattle.mip_rules_mobile.specs.Fitting.Kind.{OfAck, Steady}
use Rattle.mip_rules_mobile.proofs.Told.{home-kept}
use Rattle.mip_rules_mobile.proofs.Steady.{Goes, Askings, Notings, standing-noted}
use Rattle.mip_rules_mobile.proofs.HomeWalks.{Acks, every-registers}
use Rattle.mip_rules_mobile.proofs.TrialWalks.{every-row}
use Rattle.mip_rules_mobile.proofs.MovingWalks.{every-settles}
use Rattle.mip_rules_mobile.proofs.Walks.{Dropping, every-staying}
use Rattle.mip_links.specs.Table.{Post, link_of}
use Rattle.mip_history.specs.Setup.{Setup}
use Rattle.mip_history.specs.Setup.Kind.{Mobile}
use Rattle.mip_history.specs.Runs.{Run, note, entered}
use Rattle.mip_history.specs.Questions.{holder_in}
use Rattle.mip_history.specs.Claims.{link_id, claim_entry, claimed_on, claims}
use Rattle.mip_history.specs.Knowing.{other_than}
use Rattle.mip_history.specs.Nodes.{left_by, answered_one, answered}
use Rattle.mip_law_claims.specs.Claimings.{Claiming, search_told, searches_told, mobile_search}
use Rattle.mip_law_claims.specs.Claimings.Claiming.{Claims as OfClaim, FindsTaken as OfTaken}
use Rattle.mip_law_claims.proofs.Noting.{is_claiming, left_kept, sent_kept}
use Rattle.mip_law_claims.proofs.Tables.{same_holder, off_link_claim, free_claim_is}
use Rattle.mip_law_claims.proofs.Searches.{search_push, search_same, silent_other, gives_up_silent, other_address}

-- a step that claims nothing
abbrev is_quiet : Step → Bool
is_quiet (Claims address) = false
is_quiet (FindsTaken address holder) = false
is_quiet _ = true

-- an entry of the correspondent part is one that a correspondent leaves
abbrev pub IsRight : Step → Type 0
IsRight (Notes entry) = is_own entry ≡ true
IsRight _ = Unit {0}

right_note : (c : Call) (now : ℕ) (k : Known) (step : Step) → Fits c now k step → IsRight step
right_note c now k (Notes entry) fits = fits
right_note c now k _ fits = tt

pub own_other : (e : Entry) → is_own e ≡ true → is_claiming e ≡ false
own_other (entries.Claimed who link address) is = absurd cc
own_other (entries.Released who link address) is = absurd cc
own_other (entries.Taken who link address holder) is = absurd cc
own_other _ is = refl

steady_quiet : (step : Step) → kind_of step ≡ Steady → is_quiet step ≡ true
steady_quiet (Claims address) is = absurd cc
steady_quiet (FindsTaken address holder) is = absurd cc
steady_quiet _ is = refl

ack_quiet : (step : Step) → kind_of step ≡ OfAck → is_quiet step ≡ true
ack_quiet (Claims address) is = absurd cc
ack_quiet (FindsTaken address holder) is = absurd cc
ack_quiet _ is = refl

-- an address under another prefix is another address
under_other : (own : Address) (prefix x : ℕ) → (prefix == prefix_of x) ≡ false → ((address_under own prefix).0 == x) ≡ false
under_other own prefix x apart = by ((address_under own prefix).0 == x) refl
  where
    under : prefix_of (address_under own prefix).0 ≡ prefix
    under = omega arith

    by : (b : Bool) → ((address_under own prefix).0 == x) ≡ b → b ≡ false
    by true same = absurd (let both : true ≡ false = sym (eq-eqb prefix (prefix_of x) (sym under ∙ ap prefix_of (eqb-true (address_under own prefix).0 x same))) ∙ apart in cc)
    by false same = refl

pub free_of : (o : Option ℕ) (home : Bool) → claim_of o home ≡ claim.Held → o ≡ None
free_of None home is = refl
free_of (Some h) true is = absurd cc
free_of (Some h) false is = absurd cc

taken_of : (o : Option ℕ) (home : Bool) (holder : ℕ) → claim_of o home ≡ claim.Taken holder → o ≡ Some holder
taken_of None home holder is = absurd cc
taken_of (Some h) true holder is = absurd cc
taken_of (Some h) false holder is = (let same : h ≡ holder = cc in ap (λ (x : ℕ). Some x) same)

taken_claim_is : (s : Setup) (m : ℕ) (address : Address) (run : Run) (link holder : ℕ) → link_of s.links address.0 ≡ Some link → other_than m (holder_in run.past address.0) ≡ Some holder
    → claims s m address run ≡ note (entries.Taken m (link_id link) address holder) run
taken_claim_is s m address run link holder on other = ap (claimed_on m address run) on ∙ ap (λ (e : Entry). note e run) (by (holder_in run.past address.0) other)
  where
    of_other : (x : ℕ) (mine : Bool) → (if mine then None else Some x) ≡ Some holder
        → (if mine then entries.Claimed m (link_id link) address else entries.Taken m (link_id link) address x) ≡ entries.Taken m (link_id link) address holder
    of_other x true is = absurd cc
    of_other x false is = (let same : x ≡ holder = cc in ap (λ (h : ℕ). entries.Taken m (link_id link) address h) same)

    by : (o : Option ℕ) → other_than m o ≡ Some holder → claim_entry m address link o ≡ entries.Taken m (link_id link) address holder
    by None is = absurd cc
    by (Some x) is = of_other x (x == m) is

module _ (s : Setup) (m : ℕ) (own : Address) (agent : Option Address) (host : slice_get s.hosts m ≡ Some (record { address = own; kind = Mobile agent })) (from : ℕ) where
  -- what a quiet step leaves keeps whatever such entries keep
  module _ (P : Run → Type 0) (silent : (run : Run) (e : Entry) → search_told own m e ≡ None → P run → P (note e run)) (enters : (run : Run) (post : Post) → P run → P (entered post run)) where
    one : (run : Run) (e : Entry) → is_claiming e ≡ false → P run → P (note e run)
    one run e other p = silent run e (silent_other own m e other) p

    noted_kept : (e : Entry) (x : Run) → is_claiming e ≡ false → P x → P (left_by s m x e)
    noted_kept e x other p = left_kept s P one m e x other p

    quiet_kept : (x : Run) (step : Step) → is_quiet step ≡ true → IsRight step → P x → P (answered s m from x (answer_of step))
    unfolding answered
    quiet_kept x (Called call) is right p = p
    quiet_kept x (Parts call) is right p = p
    quiet_kept x (Notes entry) is right p = noted_kept entry x (own_other entry right) p
    quiet_kept x (Sends sending) is right p = sent_kept s P one enters m from (shield_of sending) (packet_of_sending sending) x p
    quiet_kept x (Unsends why) is right p = noted_kept (entries.Unsent myself why) x refl p
    quiet_kept x (Drops number why) is right p = noted_kept (entries.Dropped myself number why) x refl p
    quiet_kept x (Claims address) is right p = absurd cc
    quiet_kept x (Releases address) is right p = gives_up_silent s m own agent host P silent m address x p
    quiet_kept x (FindsTaken address holder) is right p = absurd cc
    quiet_kept x (Arrives address) is right p = noted_kept (entries.Careof myself address) x refl p
    quiet_kept x Detaches is right p = p
    quiet_kept x (Restarts secrets) is right p = p
    quiet_kept x (Registers a end renew) is right p = noted_kept (entries.Registered myself a end) x refl p
    quiet_kept x (Unregisters a) is right p = noted_kept (entries.Unregistered myself a) x refl p
    quiet_kept x (IsRefused status) is right p = noted_kept (entries.Refused myself status) x refl p
    quiet_kept x (Resequences a last) is right p = p
    quiet_kept x Seeks is right p = p
    quiet_kept x SeeksAgain is right p = p
    quiet_kept x GivesUp is right p = p
    quiet_kept x (Finds agents) is right p = p
    quiet_kept x (Chooses a) is right p = noted_kept (entries.Chosen myself a) x refl p
    quiet_kept x (Learns valid preferred) is right p = noted_kept (entries.Prefixes myself valid preferred) x refl p
    quiet_kept x (Meets peer) is right p = p
    quiet_kept x (Tries row change) is right p = p
    quiet_kept x (Updates row update) is right p =
        let e : Entry = entries.Made myself update.peer 0 update.made.home update.made.careof in
        sent_kept s P one enters m from None (update_packet update) (left_by s m x e) (noted_kept e x refl p)
    quiet_kept x (Forgets row) is right p = p
    quiet_kept x (Binds row peer end renew) is right p = noted_kept (entries.Bound myself peer end) x refl p
    quiet_kept x (Unbinds row peer) is right p = noted_kept (entries.Unbound myself peer) x refl p
    quiet_kept x (Waits work wait) is right p = p
    quiet_kept x (Stops work) is right p = p
    quiet_kept x (Rings work) is right p = p

  module _ (start : Run) where
    abbrev pub then_ : Transition → Run
    then_ t = answered s m from start (answers_of t.steps)

    abbrev pub done : List Step → List Claiming
    done steps = filter_map (mobile_search s.links own) steps

    -- in a transition from a run on
    abbrev pub Told : Transition → Type 0
    Told t = searches_told own m (then_ t).past ≡ searches_told own m start.past ++ done t.steps

    answered_both : (x : Run) (first second : List Answer) → answered s m from x (first ++ second) ≡ answered s m from (answered s m from x first) second
    unfolding answered
    answered_both x first second = fold-append (λ (r : Run) (a : Answer). answered_one s m from r a) x first second

    pub then_noted : (step : Step) (t : Transition) → then_ (noted step t) ≡ answered s m from (then_ t) (answer_of step)
    then_noted step t = ap (answered s m from start) (answers-noted answer_of after step t) ∙ answered_both start (answers_of t.steps) (answer_of step)

    done_noted : (step : Step) (t : Transition) → done (noted step t).steps ≡ done t.steps ++ done (step ∷ [])
    done_noted step t = ap done (noted-steps after step t) ∙ filter_map-append (mobile_search s.links own) t.steps (step ∷ [])

    quiet_done : (step : Step) → is_quiet step ≡ true → done (step ∷ []) ≡ []
    quiet_done (Claims address) is = absurd cc
    quiet_done (FindsTaken address holder) is = absurd cc
    quiet_done _ is = refl

    told_quiet : (step : Step) (t : Transition) → is_quiet step ≡ true → IsRight step → Told t → Told (noted step t)
    told_quiet step t is right told =
        ap (λ (r : Run). searches_told own m r.past) (then_noted step t)
        ∙ quiet_kept (λ (r : Run). searches_told own m r.past ≡ searches_told own m (then_ t).past) (λ r e none p. search_same own m r.past e none ∙ p) (λ r post p. p) (then_ t) step is right refl
        ∙ told
        ∙ ap (λ (l : List Claiming). searches_told own m start.past ++ l) (sym (done_noted step t ∙ ap (λ (l : List Claiming). done t.steps ++ l) (quiet_done step is) ∙ append-nil (done t.steps)))

    module _ (c : Call) where
      more : Goes c Told
      more step t steady fits p = told_quiet step t (steady_quiet step steady) (right_note c t.now t.known step fits) p

      asks : Askings Told
      asks call t p = told_quiet (Parts call) t refl tt p

      notes : Notings Told
      notes entry t right p = told_quiet (Notes entry) t refl right p

      acks : Acks c Told
      acks step t ack fits led p = told_quiet step t (ack_quiet step ack) (right_note c t.now t.known step fits) p

      drops : Dropping Told
      drops number why t right p = told_quiet (Drops number why) t refl tt p

    first : (c : Call) (now : ℕ) (k : Known) → Told (noted (Called c) (begun now k))
    unfolding answered
    first c now k = told_quiet (Called c) (begun now k) refl tt (sym (append-nil (searches_told own m start.past)))

    -- a call by which the mobile stays where it stands, and goes on living
    pub staying_told : (k : Known) (now : ℕ) (c : Call) → stays_put c ≡ true → is_restart c ≡ false → Told (transition_of k now c)
    unfolding does
    staying_told k now c stays lives = every-staying c Told (more c) (asks c) (notes c) (acks c) (drops c) (noted (Called c) (begun now k)) (first c now k) c refl stays lives

    pub restarting_told : (k : Known) (now : ℕ) (secrets : Life) → Told (transition_of k now (calls.Restart secrets))
    unfolding does restarts
    restarting_told k now secrets = by t.known.standing refl
      where
        t : Transition
        t = noted (Called (calls.Restart secrets)) (begun now k)

        told : Told (noted (Restarts secrets) t)
        told = told_quiet (Restarts secrets) t refl tt (first (calls.Restart secrets) now k)

        by : (st : Attachment) → t.known.standing ≡ st → Told (registers_if_away st (noted (Restarts secrets) t))
        by Detached here = told
        by AtHome here = told
        by (Away careof) here =
            every-registers (calls.Restart secrets) Told (more (calls.Restart secrets)) careof (noted (Restarts secrets) t) (standing-noted (Restarts secrets) t ∙ here) told

    -- it leaves its link
    releases_told : (st : Attachment) (of_home : Claim) (t : Transition) → Told t → Told (releases st of_home t)
    releases_told Detached of_home t p = p
    releases_told AtHome of_home t p = by (is_held of_home)
      where
        by : (held : Bool) → Told (if held then noted (Releases (home_of t.known)) t else t)
        by true = told_quiet (Releases (home_of t.known)) t refl tt p
        by false = p
    releases_told (Away careof) of_home t p = told_quiet (Releases careof) t refl tt p

    unbinds_told : (row : ℕ) (t : Transition) → Told t → Told (unbinds row t)
    unbinds_told row t p = by (is_bound_row t.known t.now row) (peer_of_row t.known row)
      where
        by : (bound : Bool) (peer : Option Address) → Told (unbinds_with bound peer row t)
        by bound None = p
        by true (Some peer) = told_quiet (Unbinds row peer) t refl tt p
        by false (Some peer) = p

    leaves_told : (of_home : Claim) (t : Transition) → Told t → Told (leaves of_home t)
    unfolding leaves
    leaves_told of_home t p =
        told_quiet Detaches (each_row unbinds (releases t.known.standing of_home t)) refl tt
        (every-row Told unbinds unbinds_told (releases t.known.standing of_home t) (releases_told t.known.standing of_home t p))

    pub leaving_told : (k : Known) (now : ℕ) (of_home : Claim) → Told (transition_of k now (calls.Leave of_home))
    unfolding does
    leaving_told k now of_home = leaves_told of_home (noted (Called (calls.Leave of_home)) (begun now k)) (first (calls.Leave of_home) now k)

    -- a router advertises a prefix
    module _ (prefix : ℕ) where
      abbrev a : Address
      a = address_under own prefix

      -- the address under it has the holder that it had, and the home address is the same
      pub record IsSame (t : Transition) : Type 0 where
        pub told : Told t
        pub holder : holder_in (then_ t).past a.0 ≡ holder_in start.past a.0
        pub home : home_of t.known ≡ own

      same_step : (step : Step) (t : Transition) → is_quiet step ≡ true → IsRight step → holder_in (answered s m from (then_ t) (answer_of step)).past a.0 ≡ holder_in (then_ t).past a.0
          → IsSame t → IsSame (noted step t)
      same_step step t is right kept p = record {
        told = told_quiet step t is right p.told;
        holder = ap (λ (r : Run). holder_in r.past a.0) (then_noted step t) ∙ kept ∙ p.holder;
        home = ap home_of (noted-known after step t) ∙ home-kept t.known (record { at = t.now; step = step }) ∙ p.home;
      }

      same_released : (x : Address) (t : Transition) → (prefix == prefix_of x.0) ≡ false → IsSame t → IsSame (noted (Releases x) t)
      unfolding answered
      same_released x t apart p = same_step (Releases x) t refl tt (other_address s m x a.0 (then_ t) (under_other own prefix x.0 apart)) p

      same_unbound : (row : ℕ) (peer : Address) (t : Transition) → IsSame t → IsSame (noted (Unbinds row peer) t)
      unfolding answered
      same_unbound row peer t p =
          same_step (Unbinds row peer) t refl tt
          (left_kept s (λ (r : Run). holder_in r.past a.0 ≡ holder_in (then_ t).past a.0) (λ r e other q. same_holder r.past e a.0 other ∙ q) m (entries.Unbound myself peer) (then_ t) refl refl) p

      same_unbinds : (row : ℕ) (t : Transition) → IsSame t → IsSame (unbinds row t)
      same_unbinds row t p = by (is_bound_row t.known t.now row) (peer_of_row t.known row)
        where
          by : (bound : Bool) (peer : Option Address) → IsSame (unbinds_with bound peer row t)
          by bound None = p
          by true (Some peer) = same_unbound row peer t p
          by false (Some peer) = p

      same_releases : (st : Attachment) (of_home : Claim) (t : Transition) → uses_prefix st (home_of t.known) prefix ≡ false → IsSame t → IsSame (releases st of_home t)
      same_releases Detached of_home t other p = p
      same_releases AtHome of_home t other p = by (is_held of_home)
        where
          by : (held : Bool) → IsSame (if held then noted (Releases (home_of t.known)) t else t)
          by true = same_released (home_of t.known) t other p
          by false = p
      same_releases (Away careof) of_home t other p = same_released careof t other p

      same_leaves : (of_home : Claim) (t : Transition) → uses_prefix t.known.standing (home_of t.known) prefix ≡ false → IsSame t → IsSame (leaves of_home t)
      unfolding leaves answered
      same_leaves of_home t other p =
          same_step Detaches (each_row unbinds (releases t.known.standing of_home t)) refl tt refl
          (every-row IsSame unbinds same_unbinds (releases t.known.standing of_home t) (same_releases t.known.standing of_home t other p))

      pub same_leaves_first : (st : Attachment) (of_home : Claim) (t : Transition) → uses_prefix t.known.standing (home_of t.known) prefix ≡ false → IsSame t → IsSame (leaves_first st of_home t)
      same_leaves_first Detached of_home t other p = p
      same_leaves_first AtHome of_home t other p = same_leaves of_home t other p
      same_leaves_first (Away careof) of_home t other p = same_leaves of_home t other p

      -- the address is claimed, and the table says what the place answered
      claim_step : (step : Step) (t : Transition) → Told t → searches_told own m (answered s m from (then_ t) (answer_of step)).past ≡ searches_told own m (then_ t).past ++ done (step ∷ []) → Told (noted step t)
      claim_step step t told is =
          ap (λ (r : Run). searches_told own m r.past) (then_noted step t) ∙ is ∙ ap (λ (l : List Claiming). l ++ done (step ∷ [])) told
          ∙ append_assoc (searches_told own m start.past) (done t.steps) (done (step ∷ []))
          ∙ ap (λ (l : List Claiming). searches_told own m start.past ++ l) (sym (done_noted step t))

      off_link : (x : Run) → link_of s.links a.0 ≡ None → searches_told own m (claims s m a x).past ≡ searches_told own m x.past
      off_link x off = ap (λ (r : Run). searches_told own m r.past) (off_link_claim s m a x off) ∙ search_same own m x.past entries.Idle refl

      claim_told : (x : Run) → other_than m (holder_in x.past a.0) ≡ None → searches_told own m (claims s m a x).past ≡ searches_told own m x.past ++ done (Claims a ∷ [])
      claim_told x free = by (link_of s.links a.0) refl
        where
          other : Bool
          other = not (a.0 == own.0)

          by : (o : Option ℕ) → link_of s.links a.0 ≡ o → searches_told own m (claims s m a x).past ≡ searches_told own m x.past ++ done (Claims a ∷ [])
          by None off =
              off_link x off
              ∙ sym (ap (λ (o : Option ℕ). searches_told own m x.past ++ cons_option (if is_some o && other then Some (OfClaim a) else None) []) off ∙ append-nil (searches_told own m x.past))
          by (Some link) on =
              ap (λ (r : Run). searches_told own m r.past) (free_claim_is s m a x link on free)
              ∙ search_push own m x.past (entries.Claimed m (link_id link) a)
              ∙ ap (λ (b : Bool). searches_told own m x.past ++ cons_option (if b && other then Some (OfClaim a) else None) []) (eq-eqb m m refl)
              ∙ sym (ap (λ (o : Option ℕ). searches_told own m x.past ++ cons_option (if is_some o && other then Some (OfClaim a) else None) []) on)

      taken_told : (x : Run) (holder : ℕ) → other_than m (holder_in x.past a.0) ≡ Some holder → searches_told own m (claims s m a x).past ≡ searches_told own m x.past ++ done (FindsTaken a holder ∷ [])
      taken_told x holder other = by (link_of s.links a.0) refl
        where
          by : (o : Option ℕ) → link_of s.links a.0 ≡ o → searches_told own m (claims s m a x).past ≡ searches_told own m x.past ++ done (FindsTaken a holder ∷ [])
          by None off =
              off_link x off
              ∙ sym (ap (λ (o : Option ℕ). searches_told own m x.past ++ cons_option (if is_some o then Some (OfTaken a holder) else None) []) off ∙ append-nil (searches_told own m x.past))
          by (Some link) on =
              ap (λ (r : Run). searches_told own m r.past) (taken_claim_is s m a x link holder on other)
              ∙ search_push own m x.past (entries.Taken m (link_id link) a holder)
              ∙ ap (λ (b : Bool). searches_told own m x.past ++ cons_option (if b then Some (OfTaken a holder) else None) []) (eq-eqb m m refl)
              ∙ sym (ap (λ (o : Option ℕ). searches_told own m x.past ++ cons_option (if is_some o then Some (OfTaken a holder) else None) []) on)

      module _ (c : Call) (of_address : Claim) (answers : of_address ≡ claim_of (other_than m (holder_in start.past a.0)) (own.0 == a.0)) where
        arrives_told : (t : Transition) → IsSame t → (d : Claim) → of_address ≡ d → Told (arrives_by d a t)
        unfolding answered
        arrives_told t p claim.Held is =
            let free : other_than m (holder_in (then_ t).past a.0) ≡ None = ap (other_than m) p.holder ∙ free_of (other_than m (holder_in start.past a.0)) (own.0 == a.0) (sym answers ∙ is) in
            every-settles c Told (more c) (noted (Arrives a) (noted (Claims a) t))
            (told_quiet (Arrives a) (noted (Claims a) t) refl tt (claim_step (Claims a) t p.told (claim_told (then_ t) free)))
        arrives_told t p claim.Waiting is = every-settles c Told (more c) (noted (Arrives a) t) (told_quiet (Arrives a) t refl tt p.told)
        arrives_told t p (claim.Taken holder) is =
            let other : other_than m (holder_in (then_ t).past a.0) ≡ Some holder =
            ap (other_than m) p.holder ∙ taken_of (other_than m (holder_in start.past a.0)) (own.0 == a.0) holder (sym answers ∙ is) in
            claim_step (FindsTaken a holder) t p.told (taken_told (then_ t) holder other)

        arriving_told : (t : Transition) → IsSame t → Told (arrives prefix of_address t)
        unfolding arrives
        arriving_told t p = subst (λ (h : Address). Told (arrives_by of_address (address_under h prefix) t)) (sym p.home) (arrives_told t p of_address refl)

        attaches_told : (of_home : Claim) (t : Transition) → IsSame t → Told (attaches prefix of_home of_address t)
        unfolding attaches
        attaches_told of_home t p = by (uses_prefix t.known.standing (home_of t.known) prefix) refl
          where
            by : (b : Bool) → uses_prefix t.known.standing (home_of t.known) prefix ≡ b → Told (if b then t else arrives prefix of_address (leaves_first t.known.standing of_home t))
            by true uses = p.told
            by false other = arriving_told (leaves_first t.known.standing of_home t) (same_leaves_first t.known.standing of_home t other p)

      pub same_first : (c : Call) (now : ℕ) (k : Known) → home_of k ≡ own → IsSame (noted (Called c) (begun now k))
      unfolding answered
      same_first c now k home = same_step (Called c) (begun now k) refl tt refl (record { told = sym (append-nil (searches_told own m start.past)); holder = refl; home = home })

      pub attaching_told : (k : Known) (now : ℕ) (of_home of_address : Claim) → home_of k ≡ own → of_address ≡ claim_of (other_than m (holder_in start.past a.0)) (own.0 == a.0)
          → Told (transition_of k now (calls.Attach prefix of_home of_address))
      unfolding does
      attaching_told k now of_home of_address home answers =
          let c : Call = calls.Attach prefix of_home of_address in
          attaches_told c of_address answers of_home (noted (Called c) (begun now k)) (same_first c now k home)
