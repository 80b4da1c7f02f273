-- What an event leaves that delivers no packet, and what it leaves of addresses; and that only the delivery of a packet leaves that
-- it was handed over, or that nobody took it.
use Rattle.std.proofs.Common.{◌≡◌, ℕ, zero, suc, ◌<◌, List, [], ◌∷◌, ◌++◌, Bool, true, false, length, drop, inl, inr, refl, sym, ap, ◌∙◌, subst, arith}
use Rattle.std.specs.Prelude.{Option, Some, None, is_some, Contains, ◌==◌, ◌&&◌, ◌||◌, if◌then◌else◌, slice_get, slice_index_or, slice_set}
use Rattle.std.specs.List.{list_any, AllByRecursion}
use Rattle.std.proofs.lemmas.List.{append_assoc, append-nil}
use Rattle.std.proofs.lemmas.List.Folds.{list_any-append}
use Rattle.std.proofs.lemmas.Bool.{or_parts, eqb-true, eq-eqb}
use Rattle.mip_words.specs.declared.address.Address.{Address}
use Rattle.mip_words.specs.declared.ids.NodeId.{NodeId}
use Rattle.mip_words.specs.declared.why.Why.{Why}
use Rattle.mip_words.specs.declared.shield.Shield.{Shield}
use Rattle.mip_entries.specs.declared.answer.Answer.{Answer}
use Rattle.mip_entries.specs.declared.answer.Answer.TheVariants.{Send, Note}
use Rattle.mip_entries.specs.declared.entry.Entry.{Entry}
use Rattle.mip_entries.specs.declared.entry.Entry.TheVariants as entries
use Rattle.mip_entries.specs.Completed.{node_id, named}
use Rattle.mip_entries.specs.Stamped.{Stamped}
use Rattle.mip_provenance.specs.declared.accepted_update.AcceptedUpdate.{AcceptedUpdate}
use Rattle.mip_provenance.specs.declared.mark.Mark.{Mark}
use Rattle.mip_provenance.specs.declared.mark.Mark.TheVariants.{Origin, Forged}
use Rattle.mip_provenance.specs.Entries.{update_accepted, mark_entry}
use Rattle.mip_provenance.specs.Marks.{mark_in}
use Rattle.mip_rules_agent.specs.declared.home_row.HomeRow.{HomeRow}
use Rattle.mip_rules_agent.specs.Steps as agents
use Rattle.mip_rules_agent.specs.Calls as agent_calls
use Rattle.mip_rules_agent.specs.Transitions.{with_transition}
use Rattle.mip_rules_agent.specs.Doing.{transition_of}
use Rattle.mip_rules_agent.specs.Questions.{rows_at, known}
use Rattle.mip_rules_correspondent.specs.Calls as correspondent_calls
use Rattle.mip_rules_correspondent.specs.Doing.{transition_of as correspondent_transition}
use Rattle.mip_rules_mobile.specs.Calls as mobile_calls
use Rattle.mip_rules_mobile.specs.Doing.{transition_of as mobile_transition}
use Rattle.mip_links.specs.Table.{Post, link_of, holder_outside}
use Rattle.mip_links.specs.Nets.{lowest_of, is_held_by}
use Rattle.mip_schedule.specs.declared.event.Event.{Event}
use Rattle.mip_schedule.specs.declared.event.Event.TheVariants.{Deliver, Repeat, Carry, Restart}
use Rattle.mip_history.specs.Setup.{Setup, Host, Kind}
use Rattle.mip_history.specs.Setup.Kind.{Correspondent, Agent, Mobile}
use Rattle.mip_history.specs.Registered.{is_agent_host, is_agent_at}
use Rattle.mip_history.specs.Runs.{Run, note, notes, entered, with_agent_past}
use Rattle.mip_history.specs.Questions.{holder_in, hears_in, life_in}
use Rattle.mip_history.specs.Calls as calls
use Rattle.mip_history.specs.Calls.{Call, for_correspondent, for_agent, for_mobile}
use Rattle.mip_history.specs.Claims.{link_id, claim_entry, claimed_on, claims}
use Rattle.mip_history.specs.Homes.{resident, passes_to, left_on, given_up_on, gives_up}
use Rattle.mip_history.specs.Knowing.{now_in, secrets_in, known_in, agent_known_in, mobile_known_in, around_in, identity_in, agent_of}
use Rattle.mip_history.specs.Nodes.{marks_of, marked, left_by, answered_one, answered, asks, by_kind, by_host, acts, after_transition, after_agent_transition, after_mobile_transition}
use Rattle.mip_history.specs.Posting.{heards, is_other, overheard}
use Rattle.mip_history.specs.Delivery.{delivered, carried_one, carried}
use Rattle.mip_history.specs.Restarting.{homes_left, reborn_by_kind, reborn_by_host, restarted}
use Rattle.mip_history.specs.Permitted.{happens}
use Rattle.mip_history.proofs.Changes.{Delivers as Delivers_of, IsLeft, Change, left, comes, injects, drops, squats, yields, acted, moved, reborn, gives, renewed, happens_keeps}
use Rattle.mip_law_delivery.specs.Stretches.{run_on, left_by as left_by_events}
use Rattle.mip_law_delivery.specs.StretchesLaws.{IsSingle}
use Rattle.mip_law_delivery.specs.Answers.{IsReached}
use Rattle.mip_law_delivery.specs.AnswersLaws.{Delivers}
use Rattle.mip_law_delivery.proofs.Leaving.{drop_front}

-- packet k was handed to a node, or nobody took it
abbrev pub is_reach : ℕ → Entry → Bool
is_reach k (entries.Handed number node) = number == k
is_reach k (entries.Gone number why) = number == k
is_reach k _ = false

-- no item of a list is what none of them is
pub none_contained : {X : Type 0} (f : X → Bool) (xs : List X) (x : X) → list_any f xs ≡ false → Contains xs x → f x ≡ false
none_contained {X = X} f xs x none c = by xs c.0 none c.1 c.2
  where
    by : (xs : List X) (k : ℕ) → list_any f xs ≡ false → k < length xs → slice_index_or xs k x ≡ x → f x ≡ false
    by [] k none inside is = absurd (omega (arith, inside))
    by (y ∷ xs) zero none inside is = let parts = or_parts (f y) (list_any f xs) none in ap f (sym is) ∙ parts.0
    by (y ∷ xs) (suc k) none inside is = let parts = or_parts (f y) (list_any f xs) none in by xs k parts.1 (omega (arith, inside)) is

-- an entry that tells of a delivery, or of who holds an address
abbrev pub is_special : Entry → Bool
is_special (entries.Handed number node) = true
is_special (entries.Gone number why) = true
is_special (entries.Claimed who link address) = true
is_special (entries.Released who link address) = true
is_special _ = false

-- a node gives up no address but what it may
abbrev pub MayEntry : (ℕ → Address → Type 0) → ℕ → Entry → Type 0
MayEntry may n (entries.Released who link address) = may n address
MayEntry may n _ = Unit {0}

abbrev pub MayAnswer : (ℕ → Address → Type 0) → ℕ → Answer → Type 0
MayAnswer may n (Send shield packet) = Unit {0}
MayAnswer may n (Note e) = MayEntry may n e

-- no entry is of this kind that tells neither of a delivery, nor of an address that is on no link, nor of one that a node may not give
-- up; what agents may give up is so as long as a fact on their pasts stands
pub record IsMild (s : Setup) (bad : Entry → Bool) (may : ℕ → Address → Type 0) (stand : List (List (Stamped agents.Step)) → Type 0) : Type 0 where
  pub other : (e : Entry) → is_special e ≡ false → bad e ≡ false
  pub claimed : (who link : ℕ) (address : Address) → link_of s.links address.0 ≡ Some link → bad (entries.Claimed who (link_id link) address) ≡ false
  pub released : (who link : ℕ) (address : Address) → may who address → bad (entries.Released who (link_id link) address) ≡ false
  pub free : (n : ℕ) → is_agent_at s n ≡ false → (address : Address) → may n address
  pub outside : (o : ℕ) (address : Address) → may (holder_outside o) address
  pub transition : (n : ℕ) (own : Address) (preference life room : ℕ) (serves : List Address) → slice_get s.hosts n ≡ Some (record { address = own; kind = Agent preference life room serves })
      → (pasts : List (List (Stamped agents.Step))) → stand pasts → (now : ℕ) (c : agent_calls.Call)
      → AllByRecursion (MayAnswer may n) (agents.answers_of (transition_of (agent_of own preference life room) (known serves (slice_index_or pasts n [])) now c).steps)
      × stand (slice_set pasts n (with_transition (slice_index_or pasts n []) (transition_of (agent_of own preference life room) (known serves (slice_index_or pasts n [])) now c)))
  pub rows : (n : ℕ) (own : Address) (preference life room : ℕ) (serves : List Address) → slice_get s.hosts n ≡ Some (record { address = own; kind = Agent preference life room serves })
      → (pasts : List (List (Stamped agents.Step))) → stand pasts → (now : ℕ)
      → AllByRecursion (λ (r : HomeRow). may n r.home) (rows_at now (known serves (slice_index_or pasts n [])).homes) × stand (slice_set pasts n [])

-- nor does one that tells of packet number
pub record IsMildOf (bad : Entry → Bool) (number : ℕ) : Type 0 where
  pub handed : (n : ℕ) → bad (entries.Handed number (node_id n)) ≡ false
  pub gone : (why : Why) → bad (entries.Gone number why) ≡ false

-- who may give up any address
pub all_may : (may : ℕ → Address → Type 0) (n : ℕ) → ((address : Address) → may n address) → (answers : List Answer) → AllByRecursion (MayAnswer may n) answers
all_may may n any [] = tt
all_may may n any (Send shield packet ∷ answers) = (tt, all_may may n any answers)
all_may may n any (Note e ∷ answers) = (by e, all_may may n any answers)
  where
    by : (e : Entry) → MayEntry may n e
    by (entries.Released who link address) = any address
    by _ = tt

-- an event that delivers packets
abbrev pub is_delivery : Event → Bool
is_delivery (Deliver number) = true
is_delivery (Repeat number) = true
is_delivery (Carry count) = true
is_delivery _ = false

abbrev is_restart : Event → Bool
is_restart (Restart node) = true
is_restart _ = false

alive : (event : Event) (node : NodeId) → event ≡ Restart node → is_restart event ≡ false → ⊥
alive event node so lives = absurd (let both : true ≡ false = sym (ap is_restart so) ∙ lives in cc)

module _ (s : Setup) (bad : Entry → Bool) (may : ℕ → Address → Type 0) (stand : List (List (Stamped agents.Step)) → Type 0) (mild : IsMild s bad may stand) (front : List Entry) where
  -- what a run leaves behind this front has no such entry
  pub record Calm (run : Run) : Type 0 where
    pub rest : List Entry
    pub whole : run.past ≡ front ++ rest
    pub calm : list_any bad rest ≡ false
    pub stands : stand run.agent_pasts

  no_bad : (es : List Entry) → list_any is_special es ≡ false → list_any bad es ≡ false
  no_bad [] none = refl
  no_bad (e ∷ es) none =
      let parts = or_parts (is_special e) (list_any is_special es) none in
      ap (λ (b : Bool). b || list_any bad es) (mild.other e parts.0) ∙ no_bad es parts.1

  calm_more : (es : List Entry) (run : Run) → list_any bad es ≡ false → Calm run → Calm (notes es run)
  calm_more es run none c = record {
    rest = c.rest ++ es;
    whole = ap (λ (l : List Entry). l ++ es) c.whole ∙ append_assoc front c.rest es;
    calm = list_any-append bad c.rest es ∙ ap (λ (b : Bool). b || list_any bad es) c.calm ∙ none;
    stands = c.stands;
  }

  calm_notes : (es : List Entry) (run : Run) → list_any is_special es ≡ false → Calm run → Calm (notes es run)
  calm_notes es run none c = calm_more es run (no_bad es none) c

  single : (run : Run) (e : Entry) → bad e ≡ false → Calm run → Calm (note e run)
  single run e none c = calm_more (e ∷ []) run (ap (λ (b : Bool). b || false) none) c

  pub one : (run : Run) (e : Entry) → is_special e ≡ false → Calm run → Calm (note e run)
  one run e none c = single run e (mild.other e none) c

  same : (a b : Run) → b.past ≡ a.past → b.agent_pasts ≡ a.agent_pasts → Calm a → Calm b
  same a b is pasts c = record { rest = c.rest; whole = is ∙ c.whole; calm = c.calm; stands = subst stand (sym pasts) c.stands }

  -- what outsiders hear
  heards_calm : (hears : ℕ → Bool) (number o : ℕ) → list_any is_special (heards hears number o) ≡ false
  heards_calm hears number zero = refl
  heards_calm hears number (suc o) =
      list_any-append is_special (heards hears number o) (if hears o then entries.Heard number o ∷ [] else [])
      ∙ ap (λ (b : Bool). b || list_any is_special (if hears o then entries.Heard number o ∷ [] else [])) (heards_calm hears number o)
      ∙ by (hears o)
    where
      by : (b : Bool) → (false || list_any is_special (if b then entries.Heard number o ∷ [] else [])) ≡ false
      by true = refl
      by false = refl

  overhears : (link : ℕ) (shield : Option Shield) (by : Option ℕ) (number : ℕ) (run : Run) → Calm run → Calm (overheard s link shield by number run)
  overhears link shield by number run c = at (is_some shield)
    where
      hears : ℕ → Bool
      hears o = is_other by o && hears_in run.past o link

      at : (b : Bool) → Calm (if b then run else notes (heards hears number s.outsiders) run)
      at true = c
      at false = calm_notes (heards hears number s.outsiders) run (heards_calm hears number s.outsiders) c

  -- addresses are claimed and given up
  pub claims_calm : (who : ℕ) (address : Address) (run : Run) → Calm run → Calm (claims s who address run)
  claims_calm who address run c = by (link_of s.links address.0) refl
    where
      of_other : (link other : ℕ) → link_of s.links address.0 ≡ Some link → (b : Bool) → Calm (note (if b then entries.Claimed who (link_id link) address else entries.Taken who (link_id link) address other) run)
      of_other link other on true = single run (entries.Claimed who (link_id link) address) (mild.claimed who link address on) c
      of_other link other on false = one run (entries.Taken who (link_id link) address other) refl c

      claim : (link : ℕ) → link_of s.links address.0 ≡ Some link → (holder : Option ℕ) → Calm (note (claim_entry who address link holder) run)
      claim link on None = single run (entries.Claimed who (link_id link) address) (mild.claimed who link address on) c
      claim link on (Some other) = of_other link other on (other == who)

      by : (link : Option ℕ) → link_of s.links address.0 ≡ link → Calm (claimed_on who address run link)
      by None on = one run entries.Idle refl c
      by (Some link) on = claim link on (holder_in run.past address.0)

  passes_calm : (who : ℕ) (address : Address) (link : ℕ) (run : Run) (o : Option ℕ) → link_of s.links address.0 ≡ Some link → Calm run → Calm (passes_to who address link run o)
  passes_calm who address link run None on c = c
  passes_calm who address link run (Some m) on c = by (m == who)
    where
      by : (b : Bool) → Calm (if b then run else note (entries.Claimed m (link_id link) address) run)
      by true = c
      by false = single run (entries.Claimed m (link_id link) address) (mild.claimed m link address on) c

  pub gives_up_calm : (who : ℕ) (address : Address) (run : Run) → may who address → Calm run → Calm (gives_up s who address run)
  gives_up_calm who address run allowed c = by (link_of s.links address.0) refl
    where
      held : (link : ℕ) → link_of s.links address.0 ≡ Some link → (b : Bool) → Calm (if b then left_on s who address link run else note entries.Idle run)
      held link on true =
          passes_calm who address link (note (entries.Released who (link_id link) address) run) (resident s run address.0) on
          (single run (entries.Released who (link_id link) address) (mild.released who link address allowed) c)
      held link on false = one run entries.Idle refl c

      by : (link : Option ℕ) → link_of s.links address.0 ≡ link → Calm (given_up_on s who address run link)
      by None on = one run entries.Idle refl c
      by (Some link) on = held link on (is_held_by (holder_in run.past address.0) who)

  -- what a node leaves
  marks_calm : (past : List Entry) (o : Option AcceptedUpdate) → list_any is_special (marks_of past o) ≡ false
  marks_calm past None = refl
  marks_calm past (Some a) = by (mark_in past a)
    where
      by : (m : Mark) → list_any is_special (mark_entry m ∷ []) ≡ false
      by (Origin hot cot update) = refl
      by (Forged cause) = refl

  marked_calm : (e : Entry) (run : Run) → is_special e ≡ false → Calm run → Calm (marked e run)
  marked_calm e run none c =
      calm_notes (e ∷ marks_of run.past (update_accepted e)) run
      (ap (λ (b : Bool). b || list_any is_special (marks_of run.past (update_accepted e))) none ∙ marks_calm run.past (update_accepted e)) c

  left_calm : (n : ℕ) (run : Run) (e : Entry) → MayEntry may n e → Calm run → Calm (left_by s n run e)
  left_calm n run (entries.Claimed who link address) allowed c = claims_calm n address run c
  left_calm n run (entries.Taken who link address holder) allowed c = claims_calm n address run c
  left_calm n run (entries.Released who link address) allowed c = gives_up_calm n address run allowed c
  left_calm n run (entries.Restarted node) allowed c = c
  left_calm n run e allowed c = marked_calm (named n 0 (length run.posts) e) run refl c

  answer_calm : (n from : ℕ) (run : Run) (answer : Answer) → MayAnswer may n answer → Calm run → Calm (answered_one s n from run answer)
  answer_calm n from run (Send shield packet) allowed c =
      let e : Entry = entries.Sent (length run.posts) (node_id n) (is_some shield) packet in
      let post : Post = record { from = from; shield = shield; packet = packet } in
      overhears from shield None (length run.posts) (entered post (note e run)) (same (note e run) (entered post (note e run)) refl refl (one run e refl c))
  answer_calm n from run (Note e) allowed c = left_calm n run e allowed c

  pub answers_calm : (n from : ℕ) (run : Run) (answers : List Answer) → AllByRecursion (MayAnswer may n) answers → Calm run → Calm (answered s n from run answers)
  unfolding answered
  answers_calm n from run [] allowed c = c
  answers_calm n from run (answer ∷ answers) allowed c = answers_calm n from (answered_one s n from run answer) answers allowed.1 (answer_calm n from run answer allowed.0 c)

  asks_calm : {C : Type 0} (does : C → Run → Run) (call : Option C) (run : Run) → ((x : C) → Calm (does x run)) → Calm run → Calm (asks does call run)
  asks_calm does None run each c = one run entries.Idle refl c
  asks_calm does (Some x) run each c = each x

  pub acts_calm : (run : Run) (n : ℕ) (call : Call) → Calm run → Calm (acts s n call run)
  acts_calm run n call c = by_node (slice_get s.hosts n) refl
    where
      kinds : (own : Address) (kind : Kind) → slice_get s.hosts n ≡ Some (record { address = own; kind = kind }) → Calm (by_kind s n own call run kind)
      kinds own (Correspondent room) host =
          asks_calm (λ (x : correspondent_calls.Call) (r : Run). after_transition s n own (correspondent_transition (identity_in s r n own room) (known_in s r n room) (now_in s r) x) r) (for_correspondent call) run
          (λ (x : correspondent_calls.Call). answers_calm n _ _ _ (all_may may n (mild.free n (ap is_agent_host host)) _) (record { rest = c.rest; whole = c.whole; calm = c.calm; stands = c.stands })) c
      kinds own (Agent preference life room serves) host =
          asks_calm (λ (x : agent_calls.Call) (r : Run). after_agent_transition s n own (transition_of (agent_of own preference life room) (agent_known_in r n serves) (now_in s r) x) r) (for_agent (around_in run n None) call) run
          (λ (x : agent_calls.Call).
          let m = mild.transition n own preference life room serves host run.agent_pasts c.stands (now_in s run) x in
          answers_calm n _ _ _ m.0 (record { rest = c.rest; whole = c.whole; calm = c.calm; stands = m.1 })) c
      kinds own (Mobile agent) host =
          asks_calm (λ (x : mobile_calls.Call) (r : Run). after_mobile_transition s n own (mobile_transition (mobile_known_in s r n own agent) (now_in s r) x) r) (for_mobile (around_in run n (Some own.0)) own call) run
          (λ (x : mobile_calls.Call). answers_calm n _ _ _ (all_may may n (mild.free n (ap is_agent_host host)) _) (record { rest = c.rest; whole = c.whole; calm = c.calm; stands = c.stands })) c

      by_node : (o : Option Host) → slice_get s.hosts n ≡ o → Calm (by_host s n call run o)
      by_node None host = one run entries.Idle refl c
      by_node (Some h) host = kinds h.address h.kind host

  -- a node begins its next life
  homes_calm : (n : ℕ) (rows : List HomeRow) (run : Run) → AllByRecursion (λ (r : HomeRow). may n r.home) rows → Calm run → Calm (homes_left s n rows run)
  unfolding homes_left
  homes_calm n [] run allowed c = c
  homes_calm n (r ∷ rows) run allowed c = homes_calm n rows (gives_up s n r.home run) allowed.1 (gives_up_calm n r.home run allowed.0 c)

  restarted_calm : (run : Run) (n : ℕ) → Calm run → Calm (restarted s run n)
  unfolding restarted
  restarted_calm run n c = by (slice_get s.hosts n) refl
    where
      next : Run
      next = note (entries.Restarted (node_id n)) run

      so : Calm next
      so = one run (entries.Restarted (node_id n)) refl c

      of_kind : (own : Address) (kind : Kind) → slice_get s.hosts n ≡ Some (record { address = own; kind = kind }) → Calm (reborn_by_kind s n run kind)
      of_kind own (Correspondent room) host = record { rest = so.rest; whole = so.whole; calm = so.calm; stands = so.stands }
      of_kind own (Agent preference life room serves) host =
          let m = mild.rows n own preference life room serves host run.agent_pasts c.stands (now_in s run) in
          homes_calm n (rows_at (now_in s run) (agent_known_in run n serves).homes) (note (entries.Restarted (node_id n)) (with_agent_past n [] run)) m.0
          (record { rest = so.rest; whole = so.whole; calm = so.calm; stands = m.1 })
      of_kind own (Mobile agent) host = acts_calm next n (calls.Restart (secrets_in s n (life_in next.past n))) so

      by : (o : Option Host) → slice_get s.hosts n ≡ o → Calm (reborn_by_host s n run o)
      by None host = so
      by (Some h) host = of_kind h.address h.kind host

  -- what each change leaves, but for the homes that an agent gives up as it begins its next life
  abbrev AreMild : Event → Type 0
  AreMild event = (number : ℕ) → Delivers_of event number → IsMildOf bad number

  left_single : (event : Event) → AreMild event → (run : Run) (e : Entry) → IsLeft s event run e → bad e ≡ false
  left_single event all run (entries.Handed number node) is = (all number is.delivers).handed node.0
  left_single event all run (entries.Gone number why) is = (all number is.delivers).gone why
  left_single event all run (entries.Claimed who link address) is = absurd is
  left_single event all run (entries.Released who link address) is = absurd is
  left_single event all run e is = mild.other e refl

  change_calm : (event : Event) → is_restart event ≡ false → AreMild event → (a b : Run) → Change s event a b → Calm a → Calm b
  change_calm event lives all _ _ (left run e is) c = single run e (left_single event all run e is) c
  change_calm event lives all _ _ (comes run m wait early) c = one run (entries.At (record { 0 = m })) refl c
  change_calm event lives all _ _ (injects run o link packet is) c =
      let e : Entry = entries.Injected (length run.posts) o link packet in
      same (note e run) (entered (record { from = link.0; shield = None; packet = packet }) (note e run)) refl refl (one run e refl c)
  change_calm event lives all _ _ (drops run k) c = record { rest = c.rest; whole = c.whole; calm = c.calm; stands = c.stands }
  change_calm event lives all _ _ (squats run o address so) c = claims_calm (holder_outside o) address run c
  change_calm event lives all _ _ (yields run o address so) c = gives_up_calm (holder_outside o) address run (mild.outside o address) c
  change_calm event lives all _ _ (acted run n call is) c = acts_calm run n call c
  change_calm event lives all _ _ (moved run node link so is) c = one (acts s node.0 calls.Leave run) (entries.Moved node link) refl (acts_calm run node.0 calls.Leave c)
  change_calm event lives all _ _ (reborn run node so is) c = absurd (alive event node so lives)
  change_calm event lives all _ _ (gives run node address so is) c = absurd (alive event node so lives)
  change_calm event lives all _ _ (renewed run node secrets so is life) c = absurd (alive event node so lives)

  happens_calm : (run : Run) (event : Event) → is_restart event ≡ false → AreMild event → Calm run → Calm (happens s run event)
  happens_calm run event lives all c = happens_keeps s Calm run event (change_calm event lives all) c

  pub delivered_calm : (run : Run) (number : ℕ) (keep : Bool) → IsMildOf bad number → Calm run → Calm (delivered s run number keep)
  delivered_calm run number true other c = happens_calm run (Repeat number) refl (λ k same. subst (IsMildOf bad) same other) c
  delivered_calm run number false other c = happens_calm run (Deliver number) refl (λ k same. subst (IsMildOf bad) same other) c

  -- an event that delivers no packet
  pub event_calm : (run : Run) (event : Event) → is_delivery event ≡ false → Calm run → Calm (happens s run event)
  event_calm run (Restart node) none c = restarted_calm run node.0 c
  event_calm run (Deliver number) none c = absurd cc
  event_calm run (Repeat number) none c = absurd cc
  event_calm run (Carry count) none c = absurd cc
  event_calm run event none c = happens_calm run event refl (λ number delivers. absurd delivers) c

  -- any event
  pub any_calm : ((number : ℕ) → IsMildOf bad number) → (run : Run) (event : Event) → Calm run → Calm (happens s run event)
  any_calm all run (Restart node) c = restarted_calm run node.0 c
  any_calm all run event c = happens_calm run event refl (λ number delivers. all number) c

  pub events_calm : ((number : ℕ) → IsMildOf bad number) → (run : Run) (events : List Event) → Calm run → Calm (run_on s run events)
  events_calm all run [] c = c
  events_calm all run (event ∷ events) c = events_calm all (happens s run event) events (any_calm all run event c)

-- where nodes may give up any address
abbrev pub any_may : ℕ → Address → Type 0
any_may n address = Unit {0}

abbrev pub any_stand : List (List (Stamped agents.Step)) → Type 0
any_stand pasts = Unit {0}

all_rows : (rows : List HomeRow) → AllByRecursion (λ (r : HomeRow). Unit {0}) rows
all_rows [] = tt
all_rows (r ∷ rows) = (tt, all_rows rows)

pub mild_of : (s : Setup) (bad : Entry → Bool) → ((e : Entry) → is_special e ≡ false → bad e ≡ false)
    → ((who link : ℕ) (address : Address) → link_of s.links address.0 ≡ Some link → bad (entries.Claimed who (link_id link) address) ≡ false)
    → ((who link : ℕ) (address : Address) → bad (entries.Released who (link_id link) address) ≡ false) → IsMild s bad any_may any_stand
mild_of s bad other claimed released = record {
  other = other;
  claimed = claimed;
  released = λ who link address allowed. released who link address;
  free = λ n none address. tt;
  outside = λ o address. tt;
  transition = λ n own preference life room serves host pasts stand now c. (all_may any_may n (λ address. tt) _, tt);
  rows = λ n own preference life room serves host pasts stand now. (all_rows _, tt);
}

-- no entry at all
pub none_bad : (s : Setup) → IsMild s (λ (e : Entry). false) any_may any_stand
none_bad s = mild_of s (λ (e : Entry). false) (λ e plain. refl) (λ who link address on. refl) (λ who link address. refl)

-- of packet k
pub reach_mild : (s : Setup) (k : ℕ) → IsMild s (is_reach k) any_may any_stand
reach_mild s k = mild_of s (is_reach k) other (λ who link address on. refl) (λ who link address. refl)
  where
    other : (e : Entry) → is_special e ≡ false → is_reach k e ≡ false
    other (entries.Handed number node) none = absurd cc
    other (entries.Gone number why) none = absurd cc
    other _ none = refl

module _ (s : Setup) (run : Run) (k : ℕ) where
  abbrev Quiet : Run → Type 0
  Quiet after = Calm s (is_reach k) any_may any_stand (reach_mild s k) run.past after

  -- nothing is told of packet k where all is calm
  pub reached_false : (after : Run) → Quiet after → IsReached (drop (length run.past) after.past) k → ⊥
  reached_false after c reached = by reached
    where
      left : drop (length run.past) after.past ≡ c.rest
      left = ap (λ (l : List Entry). drop (length run.past) l) c.whole ∙ drop_front run.past c.rest

      never : (e : Entry) → is_reach k e ≡ true → Contains (drop (length run.past) after.past) e → ⊥
      never e is there =
          let none : is_reach k e ≡ false = none_contained (is_reach k) c.rest e c.calm (subst (λ (l : List Entry). Contains l e) left there) in
          absurd (let both : true ≡ false = sym is ∙ none in cc)

      by : IsReached (drop (length run.past) after.past) k → ⊥
      by (inl x) = never (entries.Handed k x.0) (eq-eqb k k refl) x.1
      by (inr x) = never (entries.Gone k x.0) (eq-eqb k k refl) x.1

  abbrev Reaches : Event → Type 0
  Reaches event = IsReached (left_by_events s run (event ∷ [])) k

  start : Quiet run
  start = record { rest = []; whole = sym (append-nil run.past); calm = refl; stands = tt }

  by_number : (event : Event) (number : ℕ) (keep : Bool) → happens s run event ≡ delivered s run number keep → Reaches event → Delivers s run event k
  by_number event number keep is reached = by (number == k) refl
    where
      by : (b : Bool) → (number == k) ≡ b → Delivers s run event k
      by true same = record { keep = keep; is = is ∙ ap (λ (m : ℕ). delivered s run m keep) (eqb-true number k same) }
      by false other =
          let calm : Quiet (delivered s run number keep) = delivered_calm s (is_reach k) any_may any_stand (reach_mild s k) run.past run number keep (record { handed = λ n. other; gone = λ why. other }) start in
          absurd (reached_false (happens s run event) (subst Quiet (sym is) calm) reached)

  carried_by : (o : Option ℕ) → lowest_of run.flying ≡ o → Reaches (Carry 1) → Delivers s run (Carry 1) k
  unfolding carried
  carried_by None is reached = absurd (reached_false (happens s run (Carry 1)) (subst Quiet (sym (ap (λ (o : Option ℕ). carried_one s run o) is)) start) reached)
  carried_by (Some number) is reached = by_number (Carry 1) number false (ap (λ (o : Option ℕ). carried_one s run o) is) reached

  -- an event that leaves that packet k was handed over, or that nobody took it, delivers packet k
  pub reached_by : (event : Event) → IsSingle event → Reaches event → Delivers s run event k
  reached_by (Deliver number) single reached = by_number (Deliver number) number false refl reached
  reached_by (Repeat number) single reached = by_number (Repeat number) number true refl reached
  reached_by (Carry count) single reached =
      subst (λ (n : ℕ). Reaches (Carry n) → Delivers s run (Carry n) k) (sym single) (carried_by (lowest_of run.flying) refl) reached
  reached_by event single reached = absurd (reached_false (happens s run event) (event_calm s (is_reach k) any_may any_stand (reach_mild s k) run.past run event refl start) reached)
