-- A transition of a home agent tells what it does about addresses, and the agent holds those that it has claimed.
use Rattle.std.proofs.Common.{◌≡◌, ℕ, List, [], ◌∷◌, ◌++◌, Bool, true, false, ◌⊎◌, inl, inr, refl, sym, ap, ◌∙◌, subst}
use Rattle.std.specs.Prelude.{Option, Some, None, is_some, ◌==◌, if◌then◌else◌}
use Rattle.std.specs.List.{filter_map, cons_option}
use Rattle.std.proofs.lemmas.List.{append_assoc, append-nil}
use Rattle.std.proofs.lemmas.List.Elements.{filter_map-append}
use Rattle.std.proofs.lemmas.Bool.{eqb-true}
use Rattle.mip_words.specs.declared.address.Address.{Address}
use Rattle.mip_words.specs.declared.shield.Shield.{Shield}
use Rattle.mip_entries.specs.declared.answer.Answer.TheVariants.{Send}
use Rattle.mip_entries.specs.declared.entry.Entry.{Entry}
use Rattle.mip_entries.specs.declared.entry.Entry.TheVariants as entries
use Rattle.mip_entries.specs.Stamped.{stamped}
use Rattle.mip_entries.specs.Transitions.{known_by}
use Rattle.mip_rules_agent.specs.Known.{Known}
use Rattle.mip_rules_agent.specs.Steps.{Step, Called, Sends, Registers, Claims, Releases, Denies, Drops, Rang, myself, answers_of}
use Rattle.mip_rules_agent.specs.Questions.{after, is_served, holds}
use Rattle.mip_links.specs.Table.{link_of}
use Rattle.mip_history.specs.Setup.{Setup, is_mobile_at}
use Rattle.mip_history.specs.Runs.{Run, note}
use Rattle.mip_history.specs.Questions.{holder_in}
use Rattle.mip_history.specs.Claims.{link_id, claims}
use Rattle.mip_history.specs.Homes.{resident, passes_to, gives_up}
use Rattle.mip_history.specs.Knowing.{other_than}
use Rattle.mip_history.specs.Nodes.{left_by, answered_one, answered}
use Rattle.mip_law_claims.specs.Claimings.{Claiming, claimings_told, is_on_link, agent_claiming, agent_claimings}
use Rattle.mip_law_claims.specs.Claimings.Claiming.{Claims as OfClaim, Releases as OfRelease}
use Rattle.mip_law_claims.proofs.Noting.{is_claiming, left_kept, sent_kept}
use Rattle.mip_law_claims.proofs.Tables.{IsSafe, IsReleased, safe_other, same_holder, apart_from, resident_mobile, off_link_claim, off_link_release, free_claim_is, held_release_is, claimed_is, released_is, passed_is}
use Rattle.mip_law_claims.proofs.Ends.{flipped, held_after, holds_after, AreReady}

abbrev pub steps_claimings : (links : List ℕ) → List Step → List Claiming
steps_claimings links steps = filter_map (agent_claiming links) steps

-- with moments or without them
pub stamped_claimings : (links : List ℕ) (now : ℕ) (steps : List Step) → agent_claimings links (stamped now steps) ≡ steps_claimings links steps
stamped_claimings links now [] = refl
stamped_claimings links now (step ∷ steps) = ap (cons_option (agent_claiming links step)) (stamped_claimings links now steps)

module _ (s : Setup) (m : ℕ) (none : is_mobile_at s m ≡ false) where
  -- what an agent knows that it has, it holds
  abbrev pub IsHeld : Known → List Entry → Type 0
  IsHeld k past = (home : Address) → holds k home ≡ true → is_on_link s.links home ≡ true → holder_in past home.0 ≡ Some m

  -- within a transition: this is known, and so much is told
  pub record IsMid (k : Known) (done : List Claiming) (past : List Entry) : Type 0 where
    pub held : IsHeld k past
    pub told : claimings_told m past ≡ done

  mid_safe : (k : Known) (done : List Claiming) (run : Run) (e : Entry) → IsSafe m run.past e → IsMid k done run.past → IsMid k done (run.past ++ e ∷ [])
  mid_safe k done run e safe mid = record {
    held = λ home had on. safe.held home.0 (mid.held home had on);
    told = safe.told ∙ mid.told;
  }

  pub mid_other : (k : Known) (done : List Claiming) (run : Run) (e : Entry) → is_claiming e ≡ false → IsMid k done run.past → IsMid k done (run.past ++ e ∷ [])
  mid_other k done run e other mid = mid_safe k done run e (safe_other m run.past e other) mid

  mid_left : (k : Known) (done : List Claiming) (e : Entry) (run : Run) → is_claiming e ≡ false → IsMid k done run.past → IsMid k done (left_by s m run e).past
  mid_left k done e run other mid = left_kept s (λ (r : Run). IsMid k done r.past) (λ r x is p. mid_other k done r x is p) m e run other mid

  mid_sent : (k : Known) (done : List Claiming) (from : ℕ) (shield : Option Shield) (packet : List ℕ) (run : Run) → IsMid k done run.past
      → IsMid k done (answered_one s m from run (Send shield packet)).past
  mid_sent k done from shield packet run mid =
      sent_kept s (λ (r : Run). IsMid k done r.past) (λ r x is p. mid_other k done r x is p) (λ r post p. p) m from shield packet run mid

  -- a step about no address
  abbrev is_quiet : Step → Bool
  is_quiet (Claims home) = false
  is_quiet (Releases home) = false
  is_quiet _ = true

  quiet_after : (step : Step) → is_quiet step ≡ true → (home : ℕ) (served held : Bool) → held_after step home served held ≡ held
  quiet_after (Claims h) quiet home served held = absurd cc
  quiet_after (Releases h) quiet home served held = absurd cc
  quiet_after _ quiet home served held = refl

  pub quiet_known : (now : ℕ) (k : Known) (done : List Claiming) (past : List Entry) (step : Step) → is_quiet step ≡ true → IsMid k done past → IsMid (after k (record { at = now; step = step })) done past
  quiet_known now k done past step quiet mid = record {
    held = λ home had on.
        mid.held home (sym (holds_after k now step home ∙ quiet_after step quiet home.0 (is_served k home) (holds k home)) ∙ had) on;
    told = mid.told;
  }

  -- an address is given up
  released_known : (now : ℕ) (k : Known) (home : Address) (past new : List Entry) (done more : List Claiming)
      → claimings_told m new ≡ done ++ more → ((a : ℕ) → (a == home.0) ≡ false → holder_in new a ≡ holder_in past a) → IsMid k done past
      → IsMid (after k (record { at = now; step = Releases home })) (done ++ more) new
  released_known now k home past new done more told others mid = record {
    held = λ x had on. by x on (home.0 == x.0) refl (sym (holds_after k now (Releases home) x) ∙ had);
    told = told;
  }
    where
      by : (x : Address) → is_on_link s.links x ≡ true → (same : Bool) → (home.0 == x.0) ≡ same → (if same then false else holds k x) ≡ true → holder_in new x.0 ≡ Some m
      by x on true same had = absurd cc
      by x on false same had = others x.0 (flipped home.0 x.0 same) ∙ mid.held x had on

  mid_released : (now from : ℕ) (k : Known) (home : Address) (done : List Claiming) (run : Run) → holds k home ≡ true → IsMid k done run.past
      → IsMid (after k (record { at = now; step = Releases home })) (done ++ steps_claimings s.links (Releases home ∷ [])) (gives_up s m home run).past
  mid_released now from k home done run had mid = by (link_of s.links home.0) refl
    where
      passed : (link : ℕ) (o : Option ℕ) → resident s run home.0 ≡ o
          → IsReleased m home run.past (let r : Run = passes_to m home link (note (entries.Released m (link_id link) home) run) o in r.past)
      passed link None is = released_is m (link_id link) home run.past
      passed link (Some x) is = at (x == m) refl
        where
          at : (b : Bool) → (x == m) ≡ b → IsReleased m home run.past
              (let next : Run = note (entries.Released m (link_id link) home) run in let r : Run = (if b then next else note (entries.Claimed x (link_id link) home) next) in r.past)
          at true same = released_is m (link_id link) home run.past
          at false same =
              passed_is m x (link_id link) home run.past (run.past ++ entries.Released m (link_id link) home ∷ []) (apart_from s m x none (resident_mobile s run home.0 x is))
              (released_is m (link_id link) home run.past)

      by : (link : Option ℕ) → link_of s.links home.0 ≡ link
          → IsMid (after k (record { at = now; step = Releases home })) (done ++ steps_claimings s.links (Releases home ∷ [])) (gives_up s m home run).past
      by None off =
          subst (λ (r : Run). IsMid (after k (record { at = now; step = Releases home })) (done ++ steps_claimings s.links (Releases home ∷ [])) r.past) (sym (off_link_release s m home run off))
          (released_known now k home run.past (run.past ++ entries.Idle ∷ []) done (steps_claimings s.links (Releases home ∷ []))
          ((mid_other k done run entries.Idle refl mid).told ∙ sym (ap (λ (o : Option ℕ). done ++ cons_option (if is_some o then Some (OfRelease home) else None) []) off ∙ append-nil done))
          (λ a apart. same_holder run.past entries.Idle a refl) mid)
      by (Some link) on =
          let gone : IsReleased m home run.past (let r : Run = passes_to m home link (note (entries.Released m (link_id link) home) run) (resident s run home.0) in r.past) = passed link (resident s run home.0) refl in
          subst (λ (r : Run). IsMid (after k (record { at = now; step = Releases home })) (done ++ steps_claimings s.links (Releases home ∷ [])) r.past)
          (sym (held_release_is s m home run link on (mid.held home had (ap (λ (o : Option ℕ). is_some o) on))))
          (released_known now k home run.past _ done (steps_claimings s.links (Releases home ∷ []))
          (gone.told ∙ ap (λ (l : List Claiming). l ++ OfRelease home ∷ []) mid.told
          ∙ sym (ap (λ (o : Option ℕ). done ++ cons_option (if is_some o then Some (OfRelease home) else None) []) on)) gone.others mid)

  -- an address is claimed that nobody else holds
  pub mid_claimed : (now : ℕ) (k : Known) (home : Address) (done : List Claiming) (run : Run) → other_than m (holder_in run.past home.0) ≡ None → IsMid k done run.past
      → IsMid (after k (record { at = now; step = Claims home })) (done ++ steps_claimings s.links (Claims home ∷ [])) (claims s m home run).past
  mid_claimed now k home done run free mid = by (link_of s.links home.0) refl
    where
      n : Known
      n = after k (record { at = now; step = Claims home })

      more : List Claiming
      more = steps_claimings s.links (Claims home ∷ [])

      had_before : (x : Address) (same : Bool) → (home.0 == x.0) ≡ same → (if same then is_served k x else holds k x) ≡ true → ((home.0 == x.0) ≡ true) ⊎ (((home.0 == x.0) ≡ false) × (holds k x ≡ true))
      had_before x true same had = inl same
      had_before x false same had = inr (same, had)

      earlier : (x : Address) → holds n x ≡ true → ((home.0 == x.0) ≡ true) ⊎ (((home.0 == x.0) ≡ false) × (holds k x ≡ true))
      earlier x had = had_before x (home.0 == x.0) refl (sym (holds_after k now (Claims home) x) ∙ had)

      same_address : (a b : Address) → (a.0 == b.0) ≡ true → a.0 ≡ b.0
      same_address a b same = eqb-true a.0 b.0 same

      by : (link : Option ℕ) → link_of s.links home.0 ≡ link → IsMid n (done ++ more) (claims s m home run).past
      by None off =
          subst (λ (r : Run). IsMid n (done ++ more) r.past) (sym (off_link_claim s m home run off)) (record {
            held = λ x had on. elim (earlier x had) as (λ _. holder_in (run.past ++ entries.Idle ∷ []) x.0 ≡ Some m) [
              | inl same ↦ absurd (let there : is_some (link_of s.links home.0) ≡ true = ap (λ (a : ℕ). is_some (link_of s.links a)) (same_address home x same) ∙ on in
                  let both : false ≡ true = sym (ap (λ (o : Option ℕ). is_some o) off) ∙ there in cc)
              | inr old ↦ same_holder run.past entries.Idle x.0 refl ∙ mid.held x old.1 on
            ];
            told = (mid_other k done run entries.Idle refl mid).told ∙ sym (ap (λ (o : Option ℕ). done ++ cons_option (if is_some o then Some (OfClaim home) else None) []) off ∙ append-nil done);
          })
      by (Some link) on =
          let gained = claimed_is m (link_id link) home run.past in
          subst (λ (r : Run). IsMid n (done ++ more) r.past) (sym (free_claim_is s m home run link on free)) (record {
            held = λ x had there. elim (earlier x had) as (λ _. holder_in (run.past ++ entries.Claimed m (link_id link) home ∷ []) x.0 ≡ Some m) [
              | inl same ↦ subst (λ (a : ℕ). holder_in (run.past ++ entries.Claimed m (link_id link) home ∷ []) a ≡ Some m) (same_address home x same) gained.held
              | inr old ↦ gained.others x.0 (flipped home.0 x.0 old.0) ∙ mid.held x old.1 there
            ];
            told = gained.told ∙ ap (λ (l : List Claiming). l ++ OfClaim home ∷ []) mid.told
                ∙ sym (ap (λ (o : Option ℕ). done ++ cons_option (if is_some o then Some (OfClaim home) else None) []) on);
          })

  -- one step after another
  pub more_told : (done : List Claiming) (step : Step) (steps : List Step) (k : Known) (past : List Entry)
      → IsMid k ((done ++ steps_claimings s.links (step ∷ [])) ++ steps_claimings s.links steps) past → IsMid k (done ++ steps_claimings s.links (step ∷ steps)) past
  more_told done step steps k past mid =
      subst (λ (l : List Claiming). IsMid k l past)
      (append_assoc done (steps_claimings s.links (step ∷ [])) (steps_claimings s.links steps)
      ∙ ap (λ (l : List Claiming). done ++ l) (sym (filter_map-append (agent_claiming s.links) (step ∷ []) steps))) mid

  module _ (now from : ℕ) where
    abbrev told_by : List Step → Run → Run
    told_by steps run = answered s m from run (answers_of steps)

    pub ready_told : (steps : List Step) (k : Known) (done : List Claiming) (run : Run) → AreReady now k steps → IsMid k done run.past
        → IsMid (known_by after k (stamped now steps)) (done ++ steps_claimings s.links steps) (told_by steps run).past
    unfolding answered
    ready_told [] k done run ready mid = subst (λ (l : List Claiming). IsMid k l run.past) (sym (append-nil done)) mid
    ready_told (Called call ∷ steps) k done run ready mid = ready_told steps (after k (record { at = now; step = Called call })) done run ready.1 (quiet_known now k done run.past (Called call) refl mid)
    ready_told (Rang ∷ steps) k done run ready mid = ready_told steps (after k (record { at = now; step = Rang })) done run ready.1 (quiet_known now k done run.past Rang refl mid)
    ready_told (Sends shield packet ∷ steps) k done run ready mid =
        let next : Run = answered_one s m from run (Send shield packet) in
        ready_told steps (after k (record { at = now; step = Sends shield packet })) done next ready.1
        (quiet_known now k done next.past (Sends shield packet) refl (mid_sent k done from shield packet run mid))
    ready_told (Registers number home b ∷ steps) k done run ready mid =
        let e : Entry = entries.Home myself home b.careof b.sequence b.end in
        let next : Run = left_by s m run e in
        ready_told steps (after k (record { at = now; step = Registers number home b })) done next ready.1 (quiet_known now k done next.past (Registers number home b) refl (mid_left k done e run refl mid))
    ready_told (Claims home ∷ steps) k done run ready mid = absurd ready.0
    ready_told (Releases home ∷ steps) k done run ready mid =
        more_told done (Releases home) steps (known_by after (after k (record { at = now; step = Releases home })) (stamped now steps)) (told_by steps (gives_up s m home run)).past
        (ready_told steps (after k (record { at = now; step = Releases home })) (done ++ steps_claimings s.links (Releases home ∷ [])) (gives_up s m home run) ready.1
        (mid_released now from k home done run ready.0 mid))
    ready_told (Denies number status ∷ steps) k done run ready mid =
        let e : Entry = entries.Denied myself number status in
        let next : Run = left_by s m run e in
        ready_told steps (after k (record { at = now; step = Denies number status })) done next ready.1 (quiet_known now k done next.past (Denies number status) refl (mid_left k done e run refl mid))
    ready_told (Drops number why ∷ steps) k done run ready mid =
        let e : Entry = entries.Dropped myself number why in
        let next : Run = left_by s m run e in
        ready_told steps (after k (record { at = now; step = Drops number why })) done next ready.1 (quiet_known now k done next.past (Drops number why) refl (mid_left k done e run refl mid))
