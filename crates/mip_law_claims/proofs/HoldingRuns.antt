-- In every run a mobile holds the care-of address that it uses.
use Rattle.std.proofs.Common.{◌≡◌, ◌≢◌, ℕ, zero, suc, List, [], ◌∷◌, ◌++◌, Bool, true, false, inl, inr, length, refl, sym, ap, ◌∙◌, subst, length-set}
use Rattle.std.specs.Prelude.{Option, Some, None, unwrap_or, ◌==◌, if◌then◌else◌, slice_get, slice_index_or, map}
use Rattle.std.proofs.lemmas.List.{length-map, get_or-set_other}
use Rattle.std.proofs.lemmas.Bool.{cases_eq, eqb-true, eq-eqb, ne_eqb}
use Rattle.mip_words.specs.declared.address.Address.{Address}
use Rattle.mip_words.specs.declared.ids.LinkId.{LinkId}
use Rattle.mip_entries.specs.declared.answer.Answer.{Answer}
use Rattle.mip_entries.specs.declared.answer.Answer.TheVariants.{Send, Note}
use Rattle.mip_entries.specs.declared.entry.Entry.{Entry}
use Rattle.mip_entries.specs.declared.entry.Entry.TheVariants as entries
use Rattle.mip_entries.specs.Stamped.{Stamped}
use Rattle.mip_entries.specs.Transitions.{StandsBy}
use Rattle.mip_rules_mobile.specs.declared.attachment.Attachment.TheVariants.{AtHome, Away}
use Rattle.mip_rules_mobile.specs.Known.{Known}
use Rattle.mip_rules_mobile.specs.Calls as mobiles
use Rattle.mip_rules_mobile.specs.HomeQuestions.{home_of}
use Rattle.mip_rules_mobile.specs.Questions.{known}
use Rattle.mip_rules_mobile.specs.Steps.{Step}
use Rattle.mip_rules_mobile.specs.Transitions.{Transition, Stands, with_transition}
use Rattle.mip_rules_mobile.specs.Doing.{transition_of}
use Rattle.mip_rules_mobile.proofs.Shielding.{past-home}
use Rattle.mip_rules_mobile.proofs.Calls.{stands-known, call-stands}
use Rattle.mip_links.specs.Table.{Post, link_of, holder_outside}
use Rattle.mip_links.specs.Nets.{is_held_by}
use Rattle.mip_schedule.specs.declared.event.Event.{Event}
use Rattle.mip_history.specs.Setup.{Setup, Host, is_mobile_host}
use Rattle.mip_history.specs.Setup.Kind.{Agent, Mobile}
use Rattle.mip_history.specs.Runs.{Run, note, entered, mobile_past_at, with_mobile_past}
use Rattle.mip_history.specs.Calls.{Call}
use Rattle.mip_history.specs.Questions.{holder_in}
use Rattle.mip_history.specs.Claims.{link_id, claims}
use Rattle.mip_history.specs.Homes.{resident, passes_to, left_on, given_up_on, gives_up}
use Rattle.mip_history.specs.Knowing.{now_in, secrets_in, mobile_known_in, stands_on}
use Rattle.mip_history.specs.Nodes.{left_by, answered_one, answered, after_mobile_transition, acts}
use Rattle.mip_history.specs.Permitted.{opened, run_of}
use Rattle.mip_law_claims.specs.Holdings.{HoldsWhatItUses}
use Rattle.mip_law_claims.proofs.Noting.{is_claiming, left_kept, sent_kept}
use Rattle.mip_history.proofs.Effects.{released_holder, held_is}
use Rattle.mip_law_claims.proofs.Acting.{acts_kept, own_past, own_acts}
use Rattle.mip_law_claims.proofs.Walking.{KeepsClaims, walk_run}
use Rattle.mip_law_claims.proofs.Tables.{holder_push, IsSafe, safe_other, safe_claimed, safe_released, other_holder, not_held, other_claims}
use Rattle.mip_law_claims.proofs.Holding.{Holds, staying_holds, restarting_holds, leaving_holds, attaching_holds}

-- an entry that leaves a node what it holds
abbrev LeavesHeld : ℕ → List Entry → Entry → Type 0
LeavesHeld m past e = (a : ℕ) → holder_in past a ≡ Some m → holder_in (past ++ e ∷ []) a ≡ Some m

own_claimed : (m : ℕ) (past : List Entry) (link : LinkId) (address : Address) → LeavesHeld m past (entries.Claimed m link address)
own_claimed m past link address a is = holder_push past (entries.Claimed m link address) a ∙ by (a == address.0)
  where
    by : (b : Bool) → unwrap_or (if b then Some (Some m) else None) (holder_in past a) ≡ Some m
    by true = refl
    by false = is

any_claimed : (m x : ℕ) (past : List Entry) (link : LinkId) (address : Address) → holder_in past address.0 ≡ None → LeavesHeld m past (entries.Claimed x link address)
any_claimed m x past link address none = by (m == x) refl
  where
    by : (b : Bool) → (m == x) ≡ b → LeavesHeld m past (entries.Claimed x link address)
    by true same = subst (λ (n : ℕ). LeavesHeld m past (entries.Claimed n link address)) (eqb-true m x same) (own_claimed m past link address)
    by false apart = let safe : IsSafe m past (entries.Claimed x link address) = safe_claimed m x apart past link address (not_held past m address.0 none) in safe.held

-- what somebody else does leaves the node what it holds
module _ (s : Setup) (m : ℕ) (P : Run → Type 0) (leaves : (run : Run) (e : Entry) → LeavesHeld m run.past e → P run → P (note e run)) where
  safely : (run : Run) (e : Entry) → IsSafe m run.past e → P run → P (note e run)
  safely run e safe p = leaves run e safe.held p

  other_entry : (run : Run) (e : Entry) → is_claiming e ≡ false → P run → P (note e run)
  other_entry run e other p = safely run e (safe_other m run.past e other) p

  passes_on : (who : ℕ) (address : Address) (link : ℕ) (next : Run) (o : Option ℕ) → holder_in next.past address.0 ≡ None → P next → P (passes_to who address link next o)
  passes_on who address link next None free p = p
  passes_on who address link next (Some x) free p = by (x == who)
    where
      by : (b : Bool) → P (if b then next else note (entries.Claimed x (link_id link) address) next)
      by true = p
      by false = leaves next (entries.Claimed x (link_id link) address) (any_claimed m x next.past (link_id link) address free) p

  module _ (who : ℕ) (apart : (m == who) ≡ false) where
    others_claim : (address : Address) (run : Run) → P run → P (claims s who address run)
    others_claim address run p = other_claims m who apart s P safely address run p

    others_give_up : (address : Address) (run : Run) → P run → P (gives_up s who address run)
    others_give_up address run p = by (link_of s.links address.0)
      where
        held : (link : ℕ) (b : Bool) → is_held_by (holder_in run.past address.0) who ≡ b → P (if b then left_on s who address link run else note entries.Idle run)
        held link true is =
            passes_on who address link (note (entries.Released who (link_id link) address) run) (resident s run address.0) (released_holder run.past who (link_id link) address)
            (safely run (entries.Released who (link_id link) address)
            (safe_released m who apart run.past (link_id link) address (other_holder m who apart run.past address.0 who (held_is (holder_in run.past address.0) who is) (eq-eqb who who refl))) p)
        held link false is = other_entry run entries.Idle refl p

        by : (link : Option ℕ) → P (given_up_on s who address run link)
        by None = other_entry run entries.Idle refl p
        by (Some link) = held link (is_held_by (holder_in run.past address.0) who) refl

    others_leave : (e : Entry) (run : Run) → P run → P (left_by s who run e)
    others_leave (entries.Claimed by link address) run p = others_claim address run p
    others_leave (entries.Taken by link address holder) run p = others_claim address run p
    others_leave (entries.Released by link address) run p = others_give_up address run p
    others_leave e run p = left_kept s P other_entry who e run refl p

    module _ (enters : (run : Run) (post : Post) → P run → P (entered post run)) (from : ℕ) where
      one_answer : (answer : Answer) (run : Run) → P run → P (answered_one s who from run answer)
      one_answer (Send shield packet) run p = sent_kept s P other_entry enters who from shield packet run p
      one_answer (Note e) run p = others_leave e run p

      others_answer : (answers : List Answer) (run : Run) → P run → P (answered s who from run answers)
      unfolding answered
      others_answer [] run p = p
      others_answer (answer ∷ answers) run p = others_answer answers (answered_one s who from run answer) (one_answer answer run p)

module _ (s : Setup) (m : ℕ) (own : Address) (agent : Option Address) (host : slice_get s.hosts m ≡ Some (record { address = own; kind = Mobile agent })) (node : (o : ℕ) → m ≢ holder_outside o) where
  abbrev knows : List (Stamped Step) → Known
  knows past = known own agent s.numbers (secrets_in s m 0) past

  pub record IsHolding (run : Run) : Type 0 where
    pub long : length run.mobile_pasts ≡ length s.hosts
    pub held : HoldsWhatItUses s run m own agent

  holding_left : (run : Run) (e : Entry) → LeavesHeld m run.past e → IsHolding run → IsHolding (note e run)
  holding_left run e leaves h = record { long = h.long; held = λ careof here on. leaves careof.0 (h.held careof here on) }

  holding_entered : (run : Run) (post : Post) → IsHolding run → IsHolding (entered post run)
  holding_entered run post h = record { long = h.long; held = h.held }

  holding_other : (run : Run) (e : Entry) → is_claiming e ≡ false → IsHolding run → IsHolding (note e run)
  holding_other run e is h = other_entry s m IsHolding holding_left run e is h

  -- another node acts
  module _ (n : ℕ) (other : m ≢ n) (run : Run) (h : IsHolding run) where
    others : (from : ℕ) (answers : List Answer) (x : Run) → IsHolding x → IsHolding (answered s n from x answers)
    others from answers x p = others_answer s m IsHolding holding_left n (ne_eqb m n other) holding_entered from answers x p

    elsewhere : (past : List (Stamped Step)) → IsHolding (with_mobile_past n past run)
    elsewhere past = record {
      long = length-set run.mobile_pasts n past ∙ h.long;
      held =
          λ careof here on. h.held careof
          (ap (λ (l : List (Stamped Step)). let k : Known = knows l in k.standing) (sym (get_or-set_other run.mobile_pasts n m past [] other)) ∙ here) on;
    }

    other_acts : (call : Call) → IsHolding (acts s n call run)
    other_acts call = acts_kept s n IsHolding (λ (r : Run) q. holding_other r entries.Idle refl q) others run h (λ past. record { long = h.long; held = h.held }) (λ past. record { long = h.long; held = h.held }) elsewhere call

  -- the mobile itself acts
  module _ (run : Run) (h : IsHolding run) where
    abbrev past : List (Stamped Step)
    past = mobile_past_at run m

    abbrev k : Known
    k = mobile_known_in s run m own agent

    abbrev transition : mobiles.Call → Transition
    transition c = transition_of k (now_in s run) c

    abbrev middle : mobiles.Call → Run
    middle c = with_mobile_past m (with_transition past (transition c)) run

    abbrev from : ℕ
    from = unwrap_or (stands_on s run m own) 0

    home : home_of k ≡ own
    home = past-home own agent s.numbers (secrets_in s m 0) past

    stands : Stands own agent s.numbers (secrets_in s m 0) past k
    unfolding known StandsBy
    stands = refl

    -- what the transition leaves known is what the past with it leaves known
    known_then : (c : mobiles.Call) → (transition c).known ≡ knows (with_transition past (transition c))
    known_then c =
        stands-known own agent s.numbers (secrets_in s m 0) (with_transition past (transition c)) (transition c).known
        (call-stands own agent s.numbers (secrets_in s m 0) past k (now_in s run) c stands)

    finish : (c : mobiles.Call) → Holds s m own agent host from (middle c) (transition c) → IsHolding (after_mobile_transition s m own (transition c) run)
    finish c holds =
        let then_ = own_past s m own agent host run h.long c in
        record {
          long = ap (λ (l : List (List (Stamped Step))). length l) then_.0 ∙ length-set run.mobile_pasts m (with_transition past (transition c)) ∙ h.long;
          held =
              λ careof away on. holds careof
              (ap (λ (x : Known). x.standing) (known_then c ∙ ap knows (sym then_.1)) ∙ away) on;
        }

    acts_itself : (call : Call) → IsHolding (acts s m call run)
    acts_itself =
        own_acts s m own agent host run IsHolding (holding_other run entries.Idle refl h) (λ c stays lives. finish c (staying_holds s m own agent host from (middle c) k (now_in s run) h.held c stays lives))
        (λ secrets. finish _ (restarting_holds s m own agent host from (middle _) k (now_in s run) h.held secrets))
        (finish _ (leaving_holds s m own agent host from (middle _) k (now_in s run) h.held _))
        (λ prefix. finish _ (attaching_holds s m own agent host from (middle _) k (now_in s run) h.held prefix _ _ home refl))

  pub acts_holding : (run : Run) (n : ℕ) (call : Call) → IsHolding run → IsHolding (acts s n call run)
  acts_holding run n call h = elim (cases_eq m n) as (λ _. IsHolding (acts s n call run)) [
    | inl e ↦ subst (λ (x : ℕ). IsHolding (acts s x call run)) e (acts_itself run h call)
    | inr other ↦ other_acts n other run h call
  ]

  -- an agent begins its next life
  pub agent_apart : (n : ℕ) (own' : Address) (preference life room : ℕ) (serves : List Address)
      → slice_get s.hosts n ≡ Some (record { address = own'; kind = Agent preference life room serves }) → (m == n) ≡ false
  agent_apart n own' preference life room serves is = by (m == n) refl
    where
      by : (b : Bool) → (m == n) ≡ b → b ≡ false
      by true same = absurd (let both : true ≡ false = ap is_mobile_host (sym host ∙ ap (λ (x : ℕ). slice_get s.hosts x) (eqb-true m n same) ∙ is) in cc)
      by false same = refl

  pub holding_keeps : KeepsClaims s IsHolding
  holding_keeps = record {
    other = λ run e is h. holding_other run e is h;
    enters = λ run post h. holding_entered run post h;
    leaves = λ run k h. record { long = h.long; held = h.held };
    squats = λ run o address h. others_claim s m IsHolding holding_left (holder_outside o) (ne_eqb m (holder_outside o) (node o)) address run h;
    yields = λ run o address h. others_give_up s m IsHolding holding_left (holder_outside o) (ne_eqb m (holder_outside o) (node o)) address run h;
    acted = λ run n call h. acts_holding run n call h;
    emptied = λ run n h. record { long = h.long; held = h.held };
    reborn = λ run n h. record { long = h.long; held = h.held };
    gives = λ run n address is h. others_give_up s m IsHolding holding_left n (agent_apart n is.own is.preference is.life is.room is.serves is.host) address run h;
  }

  -- before the first event it is at home
  pub no_past : (hosts : List Host) (n : ℕ) → slice_index_or (map (λ (x : Host). let l : List (Stamped Step) = [] in l) hosts) n [] ≡ []
  no_past [] n = refl
  no_past (x ∷ hosts) zero = refl
  no_past (x ∷ hosts) (suc n) = no_past hosts n

  at_home : (let k : Known = knows [] in k.standing) ≡ AtHome
  unfolding known
  at_home = refl

  pub holding_opened : IsHolding (opened s)
  holding_opened = record {
    long = length-map s.hosts (λ (x : Host). let l : List (Stamped Step) = [] in l);
    held =
        λ careof here on. absurd (let both : AtHome ≡ Away careof =
        sym (ap (λ (l : List (Stamped Step)). let k : Known = knows l in k.standing) (no_past s.hosts m) ∙ at_home) ∙ here in cc);
  }

  pub held_of_run : (events : List Event) → HoldsWhatItUses s (run_of s events) m own agent
  held_of_run events = let h : IsHolding (run_of s events) = walk_run s IsHolding holding_keeps events holding_opened in h.held
