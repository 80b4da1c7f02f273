-- In a transition of a mobile it holds the care-of address that it uses, from the claim on until it gives the address up.
use Rattle.std.proofs.Common.{◌≡◌, ℕ, List, [], ◌∷◌, Bool, true, false, refl, sym, ap, ◌∙◌, subst}
use Rattle.std.specs.Prelude.{Option, Some, None, is_some, ◌==◌, ◌||◌, if◌then◌else◌, slice_get}
use Rattle.std.specs.List.{list_any}
use Rattle.std.proofs.lemmas.Bool.{or_parts, eqb-true, eq-eqb}
use Rattle.mip_words.specs.declared.address.Address.{Address}
use Rattle.mip_nonce.specs.Secrets.{Life}
use Rattle.mip_outside.specs.declared.claim.Claim.{Claim}
use Rattle.mip_outside.specs.declared.claim.Claim.TheVariants as claim
use Rattle.mip_outside.specs.Places.{claim_of}
use Rattle.mip_entries.specs.declared.answer.Answer.{Answer}
use Rattle.mip_entries.specs.declared.answer.Answer.TheVariants.{Send, Note}
use Rattle.mip_entries.specs.declared.entry.Entry.{Entry}
use Rattle.mip_rules_mobile.specs.declared.attachment.Attachment.TheVariants.{Detached, AtHome, Away}
use Rattle.mip_rules_mobile.specs.Calls as calls
use Rattle.mip_rules_mobile.specs.Calls.{Call}
use Rattle.mip_rules_mobile.specs.Steps.{Step, Called, Notes, Claims, Releases, FindsTaken, Arrives, Detaches, Restarts, answer_of}
use Rattle.mip_rules_mobile.specs.Known.{Known}
use Rattle.mip_rules_mobile.specs.HomeQuestions.{home_of, standing_at, standing_after}
use Rattle.mip_rules_mobile.specs.Transitions.{Transition, begun, noted}
use Rattle.mip_rules_mobile.specs.TrialRules.{each_row}
use Rattle.mip_rules_mobile.specs.MovingRules.{releases, unbinds, leaves, arrives_by, address_under, arrives, uses_prefix, leaves_first, attaches, restarts}
use Rattle.mip_rules_mobile.specs.PartLaws.{is_restart}
use Rattle.mip_rules_mobile.specs.Answering.{stays_put}
use Rattle.mip_rules_mobile.specs.Doing.{does, transition_of}
use Rattle.mip_rules_mobile.proofs.Steady.{standing-noted}
use Rattle.mip_links.specs.Table.{Post, link_of}
use Rattle.mip_history.specs.Setup.{Setup}
use Rattle.mip_history.specs.Setup.Kind.{Mobile}
use Rattle.mip_history.specs.Runs.{Run, note, entered}
use Rattle.mip_history.specs.Questions.{holder_in}
use Rattle.mip_history.specs.Claims.{link_id, claims}
use Rattle.mip_history.specs.Knowing.{other_than}
use Rattle.mip_history.specs.Nodes.{left_by, answered_one, answered}
use Rattle.mip_law_claims.specs.Claimings.{is_on_link}
use Rattle.mip_law_claims.proofs.Noting.{is_claiming, left_kept, sent_kept}
use Rattle.mip_law_claims.proofs.Tables.{same_holder, free_claim_is, claimed_is}
use Rattle.mip_law_claims.proofs.Mobiles.{IsRight, own_other, free_of, then_, then_noted, IsSame, same_first, same_leaves_first}
use Rattle.mip_law_claims.proofs.StayingRules.{is_plain, still_settles, still_if_away}
use Rattle.mip_law_claims.proofs.Staying.{still_handles}

-- answers that claim no address and give up none
abbrev pub is_claim : Answer → Bool
is_claim (Send shield packet) = false
is_claim (Note e) = is_claiming e

abbrev pub claims_none : Step → Bool
claims_none (Claims address) = false
claims_none (Releases address) = false
claims_none (FindsTaken address holder) = false
claims_none _ = true

pub none_claims : (step : Step) → claims_none step ≡ true → IsRight step → list_any is_claim (answer_of step) ≡ false
none_claims (Notes entry) is right = ap (λ (b : Bool). b || false) (own_other entry right)
none_claims (Claims address) is right = absurd cc
none_claims (Releases address) is right = absurd cc
none_claims (FindsTaken address holder) is right = absurd cc
none_claims _ is right = refl

plain_claims : (step : Step) → is_plain step ≡ true → claims_none step ≡ true
plain_claims (Claims address) is = absurd cc
plain_claims (Releases address) is = absurd cc
plain_claims (FindsTaken address holder) is = absurd cc
plain_claims _ is = refl

pub plain_right : (step : Step) → is_plain step ≡ true → IsRight step
plain_right (Notes entry) is = absurd cc
plain_right _ is = tt

plain_standing : (step : Step) (k : Known) → is_plain step ≡ true → standing_after k step ≡ k.standing
plain_standing (FindsTaken address holder) k is = absurd cc
plain_standing (Arrives address) k is = absurd cc
plain_standing Detaches k is = absurd cc
plain_standing _ k is = refl

-- what entries that tell of no claim keep, such answers keep
module _ (s : Setup) (m from : ℕ) (P : Run → Type 0) (one : (run : Run) (e : Entry) → is_claiming e ≡ false → P run → P (note e run)) (enters : (run : Run) (post : Post) → P run → P (entered post run)) where
  pub unclaimed_kept : (answers : List Answer) (x : Run) → list_any is_claim answers ≡ false → P x → P (answered s m from x answers)
  unfolding answered
  unclaimed_kept [] x none p = p
  unclaimed_kept (Send shield packet ∷ answers) x none p =
      unclaimed_kept answers (answered_one s m from x (Send shield packet)) none (sent_kept s P one enters m from shield packet x p)
  unclaimed_kept (Note e ∷ answers) x none p =
      let both = or_parts (is_claiming e) (list_any is_claim answers) none in unclaimed_kept answers (left_by s m x e) both.1 (left_kept s P one m e x both.0 p)

-- so they leave each address its holder
same_holders : (s : Setup) (m from a : ℕ) (answers : List Answer) (x : Run) → list_any is_claim answers ≡ false → holder_in (answered s m from x answers).past a ≡ holder_in x.past a
same_holders s m from a answers x none =
    unclaimed_kept s m from (λ (r : Run). holder_in r.past a ≡ holder_in x.past a) (λ (r : Run) (e : Entry) other q. same_holder r.past e a other ∙ q) (λ (r : Run) (post : Post) q. q) answers x none refl

-- where a mobile stands by an address that it uses
standing_away : (home a careof : Address) → standing_at home a ≡ Away careof → a ≡ careof
standing_away home a careof = by (a.0 == home.0)
  where
    by : (b : Bool) → (if b then AtHome else Away a) ≡ Away careof → a ≡ careof
    by true is = absurd cc
    by false is = cc

standing_home : (home a careof : Address) → (a.0 == home.0) ≡ true → standing_at home a ≡ Away careof → ⊥
standing_home home a careof same is = let both : AtHome ≡ Away careof = sym (ap (λ (b : Bool). if b then AtHome else Away a) same) ∙ is in cc

waits_home : (o : Option ℕ) (home : Bool) → claim_of o home ≡ claim.Waiting → home ≡ true
waits_home None home is = absurd cc
waits_home (Some h) true is = refl
waits_home (Some h) false is = absurd cc

module _ (s : Setup) (m : ℕ) (own : Address) (agent : Option Address) (host : slice_get s.hosts m ≡ Some (record { address = own; kind = Mobile agent })) (from : ℕ) (start : Run) where
  abbrev now_run : Transition → Run
  now_run t = then_ s m own agent host from start t

  -- in a transition from a run on
  abbrev pub Holds : Transition → Type 0
  Holds t = (careof : Address) → t.known.standing ≡ Away careof → is_on_link s.links careof ≡ true → holder_in (now_run t).past careof.0 ≡ Some m

  same_then : (step : Step) (t : Transition) (a : ℕ) → claims_none step ≡ true → IsRight step → holder_in (now_run (noted step t)).past a ≡ holder_in (now_run t).past a
  same_then step t a is right =
      ap (λ (r : Run). holder_in r.past a) (then_noted s m own agent host from start step t)
      ∙ same_holders s m from a (answer_of step) (now_run t) (none_claims step is right)

  holds_step : (step : Step) (t : Transition) → claims_none step ≡ true → IsRight step → standing_after t.known step ≡ t.known.standing → Holds t → Holds (noted step t)
  holds_step step t is right stays p careof here on = same_then step t careof.0 is right ∙ p careof (sym (standing-noted step t ∙ stays) ∙ here) on

  plain : (step : Step) (t : Transition) → is_plain step ≡ true → Holds t → Holds (noted step t)
  plain step t is p = holds_step step t (plain_claims step is) (plain_right step is) (plain_standing step t.known is) p

  notes : (entry : Entry) (t : Transition) → IsRight (Notes entry) → Holds t → Holds (noted (Notes entry) t)
  notes entry t right p = holds_step (Notes entry) t refl right refl p

  -- where it stands nowhere there is nothing to hold
  detached : (step : Step) (t : Transition) → standing_after t.known step ≡ Detached → Holds (noted step t)
  detached step t none careof here on = absurd (let both : Detached ≡ Away careof = sym (standing-noted step t ∙ none) ∙ here in cc)

  module _ (k : Known) (now : ℕ) (before : (careof : Address) → k.standing ≡ Away careof → is_on_link s.links careof ≡ true → holder_in start.past careof.0 ≡ Some m) where
    pub first : (c : Call) → Holds (noted (Called c) (begun now k))
    unfolding answered
    first c = plain (Called c) (begun now k) refl (λ careof here on. before careof here on)

    pub staying_holds : (c : Call) → stays_put c ≡ true → is_restart c ≡ false → Holds (transition_of k now c)
    unfolding does
    staying_holds c stays lives = still_handles Holds plain notes (noted (Called c) (begun now k)) (first c) c stays lives

    pub restarting_holds : (secrets : Life) → Holds (transition_of k now (calls.Restart secrets))
    unfolding does restarts
    restarting_holds secrets =
        let t : Transition = noted (Called (calls.Restart secrets)) (begun now k) in
        still_if_away Holds plain notes t.known.standing (noted (Restarts secrets) t) (holds_step (Restarts secrets) t refl tt refl (first (calls.Restart secrets)))

    pub leaving_holds : (of_home : Claim) → Holds (transition_of k now (calls.Leave of_home))
    unfolding does leaves
    leaving_holds of_home =
        let t : Transition = noted (Called (calls.Leave of_home)) (begun now k) in
        detached Detaches (each_row unbinds (releases t.known.standing of_home t)) refl

    -- a router advertises a prefix
    module _ (prefix : ℕ) where
      abbrev a : Address
      a = address_under own prefix

      abbrev IsSameAs : Transition → Type 0
      IsSameAs t = IsSame s m own agent host from start prefix t

      arrived : (t : Transition) → (is_on_link s.links a ≡ true → holder_in (now_run t).past a.0 ≡ Some m) → Holds (noted (Arrives a) t)
      arrived t held careof here on =
          let there : a ≡ careof = standing_away (home_of t.known) a careof (sym (standing-noted (Arrives a) t) ∙ here) in
          subst (λ (x : Address). holder_in (now_run (noted (Arrives a) t)).past x.0 ≡ Some m) there
          (same_then (Arrives a) t a.0 refl tt ∙ held (subst (λ (x : Address). is_on_link s.links x ≡ true) (sym there) on))

      arrived_home : (t : Transition) → (a.0 == (home_of t.known).0) ≡ true → Holds (noted (Arrives a) t)
      arrived_home t same careof here on = absurd (standing_home (home_of t.known) a careof same (sym (standing-noted (Arrives a) t) ∙ here))

      free_held : (x : Run) → other_than m (holder_in x.past a.0) ≡ None → is_on_link s.links a ≡ true → holder_in (claims s m a x).past a.0 ≡ Some m
      free_held x free = by (link_of s.links a.0) refl
        where
          by : (o : Option ℕ) → link_of s.links a.0 ≡ o → is_on_link s.links a ≡ true → holder_in (claims s m a x).past a.0 ≡ Some m
          by None off on = absurd (let both : false ≡ true = sym (ap (λ (o : Option ℕ). is_some o) off) ∙ on in cc)
          by (Some link) on there =
              let is = claimed_is m (link_id link) a x.past in
              ap (λ (r : Run). holder_in r.past a.0) (free_claim_is s m a x link on free) ∙ is.held

      claimed : (t : Transition) → other_than m (holder_in (now_run t).past a.0) ≡ None → is_on_link s.links a ≡ true → holder_in (now_run (noted (Claims a) t)).past a.0 ≡ Some m
      unfolding answered
      claimed t free on = ap (λ (r : Run). holder_in r.past a.0) (then_noted s m own agent host from start (Claims a) t) ∙ free_held (now_run t) free on

      module _ (of_address : Claim) (answers : of_address ≡ claim_of (other_than m (holder_in start.past a.0)) (own.0 == a.0)) where
        arrives_holds : (t : Transition) → IsSameAs t → (d : Claim) → of_address ≡ d → Holds (arrives_by d a t)
        arrives_holds t p claim.Held is =
            let free : other_than m (holder_in (now_run t).past a.0) ≡ None = ap (other_than m) p.holder ∙ free_of (other_than m (holder_in start.past a.0)) (own.0 == a.0) (sym answers ∙ is) in
            still_settles Holds plain notes (noted (Arrives a) (noted (Claims a) t)) (arrived (noted (Claims a) t) (claimed t free))
        arrives_holds t p claim.Waiting is =
            let home : own.0 ≡ a.0 = eqb-true own.0 a.0 (waits_home (other_than m (holder_in start.past a.0)) (own.0 == a.0) (sym answers ∙ is)) in
            still_settles Holds plain notes (noted (Arrives a) t) (arrived_home t (eq-eqb a.0 (home_of t.known).0 (sym home ∙ sym (ap (λ (h : Address). h.0) p.home))))
        arrives_holds t p (claim.Taken holder) is = detached (FindsTaken a holder) t refl

        arriving_holds : (t : Transition) → IsSameAs t → Holds (arrives prefix of_address t)
        unfolding arrives
        arriving_holds t p = subst (λ (h : Address). Holds (arrives_by of_address (address_under h prefix) t)) (sym p.home) (arrives_holds t p of_address refl)

        attaches_holds : (of_home : Claim) (t : Transition) → IsSameAs t → Holds t → Holds (attaches prefix of_home of_address t)
        unfolding attaches
        attaches_holds of_home t p held = by (uses_prefix t.known.standing (home_of t.known) prefix) refl
          where
            by : (b : Bool) → uses_prefix t.known.standing (home_of t.known) prefix ≡ b → Holds (if b then t else arrives prefix of_address (leaves_first t.known.standing of_home t))
            by true uses = held
            by false other = arriving_holds (leaves_first t.known.standing of_home t) (same_leaves_first s m own agent host from start prefix t.known.standing of_home t other p)

      pub attaching_holds : (of_home of_address : Claim) → home_of k ≡ own → of_address ≡ claim_of (other_than m (holder_in start.past a.0)) (own.0 == a.0) → Holds (transition_of k now (calls.Attach prefix of_home of_address))
      unfolding does
      attaching_holds of_home of_address home answers =
          let c : Call = calls.Attach prefix of_home of_address in
          attaches_holds of_address answers of_home (noted (Called c) (begun now k)) (same_first s m own agent host from start prefix c now k home) (first c)
