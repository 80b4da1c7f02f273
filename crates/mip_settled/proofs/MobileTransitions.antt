-- What a transition of a mobile adds to what a history says of it: step by step, the history says what the mobile knows.
use Rattle.std.proofs.Common.{◌≡◌, ℕ, List, ◌++◌, Bool, true, false, length, refl, sym, ap, ◌∙◌, subst}
use Rattle.std.specs.Prelude.{Option, Some, None, unwrap_or, if◌then◌else◌}
use Rattle.std.proofs.lemmas.List.Sums.{fold-append}
use Rattle.mip_words.specs.declared.address.Address.{Address}
use Rattle.mip_words.specs.declared.ids.LinkId.{LinkId}
use Rattle.mip_nonce.specs.Secrets.{Life}
use Rattle.mip_outside.specs.declared.claim.Claim.{Claim}
use Rattle.mip_outside.specs.declared.claim.Claim.TheVariants.{Held, Waiting, Taken}
use Rattle.mip_entries.specs.declared.answer.Answer.{Answer}
use Rattle.mip_entries.specs.declared.entry.Entry.{Entry}
use Rattle.mip_entries.specs.declared.entry.Entry.TheVariants as entries
use Rattle.mip_entries.specs.Completed.{node_id, named}
use Rattle.mip_entries.proofs.TransitionLaws.{noted-now, noted-known}
use Rattle.mip_entries.proofs.ShowLaws.{answers-noted}
use Rattle.mip_rules_correspondent.specs.Wholes.{is_own}
use Rattle.mip_rules_mobile.specs.declared.attachment.Attachment.{Attachment}
use Rattle.mip_rules_mobile.specs.declared.attachment.Attachment.TheVariants.{Detached, AtHome, Away}
use Rattle.mip_rules_mobile.specs.Calls as calls
use Rattle.mip_rules_mobile.specs.Calls.{Call}
use Rattle.mip_rules_mobile.specs.Steps.{Step, Called, Parts, Notes, Sends, Unsends, Drops, Claims, Releases, FindsTaken, Arrives, Detaches, Restarts, Registers, Unregisters, IsRefused, Resequences, Seeks, SeeksAgain, GivesUp, Finds, Chooses, Learns, Meets, Tries, Updates, Forgets, Binds, Unbinds, myself, answer_of, answers_of}
use Rattle.mip_rules_mobile.specs.Sendings.{shield_of, packet_of_sending, update_packet}
use Rattle.mip_rules_mobile.specs.Known.{Known}
use Rattle.mip_rules_mobile.specs.HomeQuestions.{home_of, standing_at, standing_after}
use Rattle.mip_rules_mobile.specs.Questions.{after}
use Rattle.mip_rules_mobile.specs.Transitions.{Transition, begun, noted}
use Rattle.mip_rules_mobile.specs.MovingRules.{arrives_by, address_under, arrives, settles, uses_prefix, leaves_first, attaches, registers_if_away, restarts}
use Rattle.mip_rules_mobile.specs.PartLaws.{is_restart}
use Rattle.mip_rules_mobile.specs.Answering.{stays_put}
use Rattle.mip_rules_mobile.specs.Doing.{does, transition_of}
use Rattle.mip_rules_mobile.specs.Fitting.{Fits, kind_of, OfAck, Steady}
use Rattle.mip_rules_mobile.proofs.Steady.{Goes, Askings, Notings, standing-noted}
use Rattle.mip_rules_mobile.proofs.HomeWalks.{Acks, every-registers}
use Rattle.mip_rules_mobile.proofs.MovingWalks.{every-settles}
use Rattle.mip_rules_mobile.proofs.Walks.{Dropping, every-staying}
use Rattle.mip_history.specs.Setup.{Setup}
use Rattle.mip_history.specs.Runs.{Run}
use Rattle.mip_history.specs.Nodes.{marked, left_by, answered_one, answered}
use Rattle.mip_settled.proofs.Answered.{IsQuiet, tells, tells_marked, tells_sent, tells_released, tells_claimed}

-- a step that claims no address, and changes neither where the mobile stands nor its life
abbrev pub is_plain : Step → Bool
is_plain (Claims address) = false
is_plain (FindsTaken address holder) = false
is_plain (Arrives address) = false
is_plain Detaches = false
is_plain (Restarts secrets) = false
is_plain _ = true

-- the entry that it leaves
abbrev pub entry_of : Step → Option Entry
entry_of (Notes entry) = Some entry
entry_of (Unsends why) = Some (entries.Unsent myself why)
entry_of (Drops number why) = Some (entries.Dropped myself number why)
entry_of (Registers agent end renew) = Some (entries.Registered myself agent end)
entry_of (Unregisters agent) = Some (entries.Unregistered myself agent)
entry_of (IsRefused status) = Some (entries.Refused myself status)
entry_of (Chooses agent) = Some (entries.Chosen myself agent)
entry_of (Learns valid preferred) = Some (entries.Prefixes myself valid preferred)
entry_of (Updates row update) = Some (entries.Made myself update.peer 0 update.made.home update.made.careof)
entry_of (Binds row peer end renew) = Some (entries.Bound myself peer end)
entry_of (Unbinds row peer) = Some (entries.Unbound myself peer)
entry_of _ = None

abbrev pub says_of : {S : Type 0} → (Entry → Option S) → ℕ → ℕ → Option Entry → Option S
says_of says n k None = None
says_of says n k (Some e) = says (named n 0 k e)

-- an entry of the correspondent part is one that a correspondent leaves
abbrev pub IsRightNote : Step → Type 0
IsRightNote (Notes entry) = is_own entry ≡ true
IsRightNote _ = Unit {0}

right_note : (c : Call) (now : ℕ) (k : Known) (step : Step) → Fits c now k step → IsRightNote step
right_note c now k (Notes entry) fits = fits
right_note c now k _ fits = tt

steady_plain : (step : Step) → kind_of step ≡ Steady → is_plain step ≡ true
steady_plain (Claims address) is = absurd cc
steady_plain (FindsTaken address holder) is = absurd cc
steady_plain (Arrives address) is = absurd cc
steady_plain Detaches is = absurd cc
steady_plain (Restarts secrets) is = absurd cc
steady_plain _ is = refl

ack_plain : (step : Step) → kind_of step ≡ OfAck → is_plain step ≡ true
ack_plain (Claims address) is = absurd cc
ack_plain (FindsTaken address holder) is = absurd cc
ack_plain (Arrives address) is = absurd cc
ack_plain Detaches is = absurd cc
ack_plain (Restarts secrets) is = absurd cc
ack_plain _ is = refl

pub plain_standing : (k : Known) (step : Step) → is_plain step ≡ true → standing_after k step ≡ k.standing
plain_standing k (FindsTaken address holder) is = absurd cc
plain_standing k (Arrives address) is = absurd cc
plain_standing k Detaches is = absurd cc
plain_standing k _ is = refl

-- a question that the entries of node n answer, what its steps say of it, and what it knows of it. What is seen of the two
-- answers is the same
pub record IsKnown {S V : Type 0} (n : ℕ) (I : Known → Type 0) (says : Entry → Option S) (said : Step → Option S) (knows : Known → S) (view : S → V) : Type 0 where
  pub quiet : IsQuiet says
  pub own : (k : ℕ) (step : Step) → is_plain step ≡ true → IsRightNote step → says_of says n k (entry_of step) ≡ said step
  pub kept : (c : Call) (now : ℕ) (k : Known) (step : Step) → I k → Fits c now k step → I (after k (record { at = now; step = step }))
  pub row : (c : Call) (now : ℕ) (k : Known) (step : Step) → is_plain step ≡ true → I k → Fits c now k step → view (knows (after k (record { at = now; step = step }))) ≡ view (unwrap_or (said step) (knows k))
  pub claims : (now : ℕ) (k : Known) (address : Address) → view (knows (after k (record { at = now; step = Claims address }))) ≡ view (knows k)
  pub arrives : (now : ℕ) (k : Known) (address : Address) → I k → view (knows (after k (record { at = now; step = Arrives address }))) ≡ view (unwrap_or (says (entries.Careof (node_id n) address)) (knows k))
  pub reborn : (now : ℕ) (k : Known) (secrets : Life) → view (knows (after k (record { at = now; step = Restarts secrets }))) ≡ view (unwrap_or (says (entries.Restarted (node_id n))) (knows k))

-- where it stands as a router advertised a prefix
abbrev pub arrived_at : Claim → (own : Address) → (prefix : ℕ) → Attachment
arrived_at Held own prefix = standing_at own (address_under own prefix)
arrived_at Waiting own prefix = standing_at own (address_under own prefix)
arrived_at (Taken holder) own prefix = Detached

module _ {S V : Type 0} (s : Setup) (n : ℕ) (own : Address) (I : Known → Type 0) (homely : (k : Known) → I k → home_of k ≡ own) (says : Entry → Option S) (said : Step → Option S)
    (knows : Known → S) (view : S → V) (q : IsKnown n I says said knows view) (d : S) where
  abbrev pub seen : Run → V
  seen run = view (tells s says d run)

  -- what a plain step leaves
  noted_own : (x : Run) (e : Entry) → is_own e ≡ true → tells s says d (left_by s n x e) ≡ unwrap_or (says (named n 0 (length x.posts) e)) (tells s says d x)
  noted_own x (entries.Claimed who link address) is = absurd cc
  noted_own x (entries.Taken who link address holder) is = absurd cc
  noted_own x (entries.Released who link address) is = absurd cc
  noted_own x (entries.Restarted node) is = absurd cc
  noted_own x e is = tells_marked s says d q.quiet x (named n 0 (length x.posts) e)

  entered_own : (x : Run) (e : Entry) → tells s says d (marked (named n 0 (length x.posts) e) x) ≡ unwrap_or (says (named n 0 (length x.posts) e)) (tells s says d x)
  entered_own x e = tells_marked s says d q.quiet x (named n 0 (length x.posts) e)

  plain_step : (from : ℕ) (x : Run) (step : Step) → is_plain step ≡ true → IsRightNote step
      → tells s says d (answered s n from x (answer_of step)) ≡ unwrap_or (says_of says n (length x.posts) (entry_of step)) (tells s says d x)
  unfolding answered
  plain_step from x (Called call) is right = refl
  plain_step from x (Parts call) is right = refl
  plain_step from x (Notes entry) is right = noted_own x entry right
  plain_step from x (Sends sending) is right = tells_sent s says d q.quiet n from (shield_of sending) (packet_of_sending sending) x
  plain_step from x (Unsends why) is right = entered_own x (entries.Unsent myself why)
  plain_step from x (Drops number why) is right = entered_own x (entries.Dropped myself number why)
  plain_step from x (Claims address) is right = absurd cc
  plain_step from x (Releases address) is right = tells_released s says d q.quiet n address x
  plain_step from x (FindsTaken address holder) is right = absurd cc
  plain_step from x (Arrives address) is right = absurd cc
  plain_step from x Detaches is right = absurd cc
  plain_step from x (Restarts secrets) is right = absurd cc
  plain_step from x (Registers agent end renew) is right = entered_own x (entries.Registered myself agent end)
  plain_step from x (Unregisters agent) is right = entered_own x (entries.Unregistered myself agent)
  plain_step from x (IsRefused status) is right = entered_own x (entries.Refused myself status)
  plain_step from x (Resequences agent last) is right = refl
  plain_step from x Seeks is right = refl
  plain_step from x SeeksAgain is right = refl
  plain_step from x GivesUp is right = refl
  plain_step from x (Finds agents) is right = refl
  plain_step from x (Chooses agent) is right = entered_own x (entries.Chosen myself agent)
  plain_step from x (Learns valid preferred) is right = entered_own x (entries.Prefixes myself valid preferred)
  plain_step from x (Meets peer) is right = refl
  plain_step from x (Tries row change) is right = refl
  plain_step from x (Updates row update) is right =
      tells_sent s says d q.quiet n from None (update_packet update) (marked (named n 0 (length x.posts) (entries.Made myself update.peer 0 update.made.home update.made.careof)) x)
      ∙ entered_own x (entries.Made myself update.peer 0 update.made.home update.made.careof)
  plain_step from x (Forgets row) is right = refl
  plain_step from x (Binds row peer end renew) is right = entered_own x (entries.Bound myself peer end)
  plain_step from x (Unbinds row peer) is right = entered_own x (entries.Unbound myself peer)
  plain_step from x _ is right = refl

  -- in a transition from a run on: the history says what the mobile knows, and it stands there
  module _ (from : ℕ) (start : Run) where
    abbrev pub then_ : Transition → Run
    then_ t = answered s n from start (answers_of t.steps)

    pub record Tells (st : Attachment) (t : Transition) : Type 0 where
      pub so : seen (then_ t) ≡ view (knows t.known)
      pub stands : t.known.standing ≡ st
      pub holds : I t.known

    answered_both : (x : Run) (one two : List Answer) → answered s n from x (one ++ two) ≡ answered s n from (answered s n from x one) two
    unfolding answered
    answered_both x one two = fold-append (λ (r : Run) (a : Answer). answered_one s n from r a) x one two

    pub then_noted : (step : Step) (t : Transition) → then_ (noted step t) ≡ answered s n from (then_ t) (answer_of step)
    then_noted step t = ap (answered s n from start) (answers-noted answer_of after step t) ∙ answered_both start (answers_of t.steps) (answer_of step)

    merged : (o : Option S) (a b : S) → view a ≡ view b → view (unwrap_or o a) ≡ view (unwrap_or o b)
    merged (Some x) a b same = refl
    merged None a b same = same

    pub tells_noted : (c : Call) (st : Attachment) (step : Step) (t : Transition) → is_plain step ≡ true → Fits c t.now t.known step → Tells st t → Tells st (noted step t)
    tells_noted c st step t plain fits p =
        let x : Run = then_ t in
        let right = right_note c t.now t.known step fits in
        record {
          so =
              ap seen (then_noted step t) ∙ ap view (plain_step from x step plain right) ∙ ap (λ (o : Option S). view (unwrap_or o (tells s says d x))) (q.own (length x.posts) step plain right)
              ∙ merged (said step) (tells s says d x) (knows t.known) p.so ∙ sym (q.row c t.now t.known step plain p.holds fits)
              ∙ ap (λ (k : Known). view (knows k)) (sym (noted-known after step t));
          stands = standing-noted step t ∙ plain_standing t.known step plain ∙ p.stands;
          holds = subst I (sym (noted-known after step t)) (q.kept c t.now t.known step p.holds fits);
        }

    module _ (c : Call) (st : Attachment) where
      more : Goes c (Tells st)
      more step t steady fits p = tells_noted c st step t (steady_plain step steady) fits p

      asks : Askings (Tells st)
      asks call t p = tells_noted c st (Parts call) t refl tt p

      notes : Notings (Tells st)
      notes entry t right p = tells_noted c st (Notes entry) t refl right p

      acks : Acks c (Tells st)
      acks step t ack fits led p = tells_noted c st step t (ack_plain step ack) fits p

      drops : Dropping (Tells st)
      drops number why t right p = tells_noted c st (Drops number why) t refl right p

    -- before the transition
    pub first : (c : Call) (now : ℕ) (k : Known) → seen start ≡ view (knows k) → I k → Tells k.standing (noted (Called c) (begun now k))
    unfolding answered
    first c now k is holds = tells_noted c k.standing (Called c) (begun now k) refl refl (record { so = is; stands = refl; holds = holds })

    -- a call by which the mobile stays where it stands, and goes on living
    pub staying_tells : (k : Known) (now : ℕ) (c : Call) → stays_put c ≡ true → is_restart c ≡ false → seen start ≡ view (knows k) → I k → Tells k.standing (transition_of k now c)
    unfolding does
    staying_tells k now c stays lives is holds =
        every-staying c (Tells k.standing) (more c k.standing) (asks c k.standing) (notes c k.standing) (acks c k.standing) (drops c k.standing)
        (noted (Called c) (begun now k)) (first c now k is holds) c refl stays lives

    -- it restarts, and its entry stood before the transition
    pub restart_tells : (k : Known) (now : ℕ) (secrets : Life) → seen start ≡ view (unwrap_or (says (entries.Restarted (node_id n))) (knows k)) → I k → Tells k.standing (transition_of k now (calls.Restart secrets))
    unfolding does restarts answered
    restart_tells k now secrets is holds = by first_transition.known.standing refl
      where
        c : Call
        c = calls.Restart secrets

        first_transition : Transition
        first_transition = noted (Called c) (begun now k)

        next : Transition
        next = noted (Restarts secrets) first_transition

        first_known : first_transition.known ≡ after k (record { at = now; step = Called c })
        first_known = noted-known after (Called c) (begun now k)

        first_now : first_transition.now ≡ now
        first_now = noted-now after (Called c) (begun now k)

        first_holds : I first_transition.known
        first_holds = subst I (sym first_known) (q.kept c now k (Called c) holds refl)

        -- a call alone says nothing
        first_knows : view (knows first_transition.known) ≡ view (unwrap_or (said (Called c)) (knows k))
        first_knows = ap (λ (l : Known). view (knows l)) first_known ∙ q.row c now k (Called c) refl holds refl

        none_said : said (Called c) ≡ None
        none_said = sym (q.own 0 (Called c) refl tt)

        first_same : view (knows first_transition.known) ≡ view (knows k)
        first_same = first_knows ∙ ap (λ (o : Option S). view (unwrap_or o (knows k))) none_said

        first_then : then_ first_transition ≡ start
        first_then = then_noted (Called c) (begun now k)

        next_then : then_ next ≡ start
        next_then = then_noted (Restarts secrets) first_transition ∙ first_then

        told : Tells k.standing next
        told = record {
          so =
              ap seen next_then ∙ is
              ∙ merged (says (entries.Restarted (node_id n))) (knows k) (knows first_transition.known) (sym first_same)
              ∙ sym (q.reborn first_transition.now first_transition.known secrets)
              ∙ ap (λ (l : Known). view (knows l)) (sym (noted-known after (Restarts secrets) first_transition));
          stands = standing-noted (Restarts secrets) first_transition ∙ standing-noted (Called c) (begun now k);
          holds = subst I (sym (noted-known after (Restarts secrets) first_transition)) (q.kept c first_transition.now first_transition.known (Restarts secrets) first_holds refl);
        }

        by : (st : Attachment) → first_transition.known.standing ≡ st → Tells k.standing (registers_if_away st next)
        by Detached here = told
        by AtHome here = told
        by (Away careof) here = every-registers c (Tells k.standing) (more c k.standing) careof next (standing-noted (Restarts secrets) first_transition ∙ here) told

    -- a router advertises the prefix that it uses
    pub using_tells : (k : Known) (now prefix : ℕ) (of_home of_address : Claim) → uses_prefix k.standing (home_of k) prefix ≡ true → seen start ≡ view (knows k) → I k
        → Tells k.standing (transition_of k now (calls.Attach prefix of_home of_address))
    unfolding does attaches
    using_tells k now prefix of_home of_address uses is holds =
        let c : Call = calls.Attach prefix of_home of_address in
        let p = first c now k is holds in
        let t : Transition = noted (Called c) (begun now k) in
        let same : home_of t.known ≡ home_of k = homely t.known p.holds ∙ sym (homely k holds) in
        let yes : uses_prefix t.known.standing (home_of t.known) prefix ≡ true =
        ap (λ (st : Attachment). uses_prefix st (home_of t.known) prefix) p.stands ∙ ap (λ (a : Address). uses_prefix k.standing a prefix) same ∙ uses in
        subst (λ (b : Bool). Tells k.standing (if b then t else arrives prefix of_address (leaves_first t.known.standing of_home t))) (sym yes) p

    -- a mobile that uses no address hears of a prefix
    module _ (k : Known) (now prefix : ℕ) (of_home of_address : Claim) (apart : k.standing ≡ Detached) (is : seen start ≡ view (knows k)) (holds : I k)
        (free : (x : S) → view x ≡ view (knows k) → (link : LinkId) (address : Address) (holder : ℕ) → view (unwrap_or (says (entries.Taken n link address holder)) x) ≡ view x)
        (lost : (l : Known) (at : ℕ) (address : Address) (holder : ℕ) → view (knows l) ≡ view (knows k) → view (knows (after l (record { at = at; step = FindsTaken address holder }))) ≡ view (knows k)) where
      abbrev ca : Call
      ca = calls.Attach prefix of_home of_address

      abbrev ta : Transition
      ta = noted (Called ca) (begun now k)

      pa : Tells k.standing ta
      pa = first ca now k is holds

      at_first : seen (then_ ta) ≡ view (knows k)
      unfolding answered
      at_first = ap seen (then_noted (Called ca) (begun now k)) ∙ is

      same_first : view (knows ta.known) ≡ view (knows k)
      same_first = sym (pa.so) ∙ at_first

      claims_told : (address : Address) → Tells k.standing (noted (Claims address) ta)
      unfolding answered
      claims_told address = record {
        so =
            ap seen (then_noted (Claims address) ta)
            ∙ tells_claimed s says d q.quiet view n address (then_ ta) (λ link holder. free (tells s says d (then_ ta)) at_first link address holder)
            ∙ pa.so ∙ sym (q.claims ta.now ta.known address) ∙ ap (λ (l : Known). view (knows l)) (sym (noted-known after (Claims address) ta));
        stands = standing-noted (Claims address) ta ∙ pa.stands;
        holds = subst I (sym (noted-known after (Claims address) ta)) (q.kept ca ta.now ta.known (Claims address) pa.holds tt);
      }

      arrives_told : (st : Attachment) (address : Address) (t : Transition) → Tells st t → Tells (standing_at own address) (noted (Arrives address) t)
      unfolding answered
      arrives_told st address t p = record {
        so =
            ap seen (then_noted (Arrives address) t)
            ∙ ap view (entered_own (then_ t) (entries.Careof myself address))
            ∙ merged (says (entries.Careof (node_id n) address)) (tells s says d (then_ t)) (knows t.known) p.so
            ∙ sym (q.arrives t.now t.known address p.holds) ∙ ap (λ (l : Known). view (knows l)) (sym (noted-known after (Arrives address) t));
        stands = standing-noted (Arrives address) t ∙ ap (λ (a : Address). standing_at a address) (homely t.known p.holds);
        holds = subst I (sym (noted-known after (Arrives address) t)) (q.kept ca t.now t.known (Arrives address) p.holds tt);
      }

      taken_told : (address : Address) (holder : ℕ) → Tells Detached (noted (FindsTaken address holder) ta)
      unfolding answered
      taken_told address holder = record {
        so =
            ap seen (then_noted (FindsTaken address holder) ta)
            ∙ tells_claimed s says d q.quiet view n address (then_ ta) (λ link other. free (tells s says d (then_ ta)) at_first link address other)
            ∙ at_first ∙ sym (lost ta.known ta.now address holder same_first) ∙ ap (λ (l : Known). view (knows l)) (sym (noted-known after (FindsTaken address holder) ta));
        stands = standing-noted (FindsTaken address holder) ta;
        holds = subst I (sym (noted-known after (FindsTaken address holder) ta)) (q.kept ca ta.now ta.known (FindsTaken address holder) pa.holds tt);
      }

      settled_told : (st : Attachment) (t : Transition) → Tells st t → Tells st (settles t)
      settled_told st t p = every-settles ca (Tells st) (more ca st) t p

      under : address_under (home_of ta.known) prefix ≡ address_under own prefix
      under = ap (λ (a : Address). address_under a prefix) (homely ta.known pa.holds)

      by_claim : (claim : Claim) (address : Address) → address ≡ address_under own prefix → Tells (arrived_at claim own prefix) (arrives_by claim address ta)
      by_claim Held address e =
          subst (λ (a : Address). Tells (standing_at own a) (settles (noted (Arrives address) (noted (Claims address) ta)))) e
          (settled_told (standing_at own address) (noted (Arrives address) (noted (Claims address) ta)) (arrives_told k.standing address (noted (Claims address) ta) (claims_told address)))
      by_claim Waiting address e =
          subst (λ (a : Address). Tells (standing_at own a) (settles (noted (Arrives address) ta))) e
          (settled_told (standing_at own address) (noted (Arrives address) ta) (arrives_told k.standing address ta pa))
      by_claim (Taken holder) address e = taken_told address holder

      arriving : Tells (arrived_at of_address own prefix) (arrives prefix of_address ta)
      unfolding arrives
      arriving = by_claim of_address (address_under (home_of ta.known) prefix) under

      pub attaching_tells : Tells (arrived_at of_address own prefix) (transition_of k now ca)
      unfolding does attaches
      attaching_tells =
          subst (λ (st : Attachment). Tells (arrived_at of_address own prefix) (if uses_prefix st (home_of ta.known) prefix then ta else arrives prefix of_address (leaves_first st of_home ta))) (sym (pa.stands ∙ apart)) arriving
