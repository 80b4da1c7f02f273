-- A packet that is dropped, and an update that is denied, change nothing but the moments of the last calls.
use Rattle.std.proofs.Common.{◌≡◌, ℕ, List, [], ◌∷◌, Bool, true, false, ◌⊎◌, inl, inr, refl, sym, ap, ◌∙◌, subst}
use Rattle.std.specs.Prelude.{Option, Some, None, ◌&&◌, is_none, if◌then◌else◌}
use Rattle.std.specs.List.{list_any, AllByRecursion}
use Rattle.mip_words.specs.declared.address.Address.{Address}
use Rattle.mip_words.specs.declared.shield.Shield.{Shield}
use Rattle.mip_words.specs.declared.why.Why.{Why}
use Rattle.mip_words.specs.declared.why.Why.TheVariants as whys
use Rattle.mip_ipv6.specs.Packet.{Packet, source_of, destination_of}
use Rattle.mip_mobhdr.specs.Said.{Said}
use Rattle.mip_mobhdr.specs.Said.Said.{HomeInit, CareofInit, Update}
use Rattle.mip_reception.specs.Says.{message_in}
use Rattle.mip_entries.specs.declared.answer.Answer.{Answer}
use Rattle.mip_entries.specs.declared.answer.Answer.TheVariants.{Send, Note}
use Rattle.mip_entries.specs.declared.entry.Entry.{Entry}
use Rattle.mip_entries.proofs.TransitionLaws.{noted-known, noted_all, noted_all-is, none-noted}
use Rattle.mip_reception.specs.declared.reply.Reply.{Reply}
use Rattle.mip_reception.specs.declared.refusal.Refusal.{Refusal}
use Rattle.mip_reception.specs.Replies.{reply_packet}
use Rattle.mip_reception.specs.declared.registration.Registration.{Registration}
use Rattle.mip_reception.specs.Registrations.{registration}
use Rattle.mip_reception.specs.Acks.{ack_packet}
use Rattle.mip_rules_correspondent.specs.declared.identity.Identity.{Identity}
use Rattle.mip_rules_correspondent.specs.declared.known.Known as kept
use Rattle.mip_rules_correspondent.specs.declared.verdict.Verdict.{Verdict}
use Rattle.mip_rules_correspondent.specs.declared.verdict.Verdict.TheVariants.{Refuse, Deny, Accept}
use Rattle.mip_rules_correspondent.specs.Verdicts.{verdict}
use Rattle.mip_rules_correspondent.specs.Cache.{CacheSeen}
use Rattle.mip_rules_correspondent.specs.Seen.{called}
use Rattle.mip_rules_correspondent.specs.Steps as part_steps
use Rattle.mip_rules_correspondent.specs.StepsLaws as part_steps_laws
use Rattle.mip_rules_correspondent.specs.Questions as part_questions
use Rattle.mip_rules_correspondent.specs.Transitions as part_transitions
use Rattle.mip_rules_correspondent.specs.Rules as part_rules
use Rattle.mip_rules_correspondent.specs.Doing as part_doing
use Rattle.mip_rules_correspondent.proofs.Refusals.{keeps-call}
use Rattle.mip_rules_correspondent.specs.Calls as parts
use Rattle.mip_rules_correspondent.specs.Rules.{is_for_part}
use Rattle.mip_rules_mobile.specs.declared.attachment.Attachment.{Attachment}
use Rattle.mip_rules_mobile.specs.declared.attachment.Attachment.TheVariants.{Detached, AtHome, Away}
use Rattle.mip_rules_mobile.specs.Calls as calls
use Rattle.mip_rules_mobile.specs.Calls.{Call}
use Rattle.mip_rules_mobile.specs.Sendings.{Inner, OfPart, FromHome, ByTunnel}
use Rattle.mip_rules_mobile.specs.Steps.{Step, Called, Parts, Notes, Sends, Unsends, Drops, Claims, Releases, FindsTaken, Arrives, Detaches, Restarts, Registers, Unregisters, IsRefused, Resequences, Seeks, SeeksAgain, GivesUp, Finds, Chooses, Learns, Meets, Tries, Updates, Forgets, Binds}
use Rattle.mip_rules_mobile.specs.Known.{Known}
use Rattle.mip_rules_mobile.specs.HomeQuestions.{home_of, registered_agent}
use Rattle.mip_rules_mobile.specs.Questions.{after}
use Rattle.mip_rules_mobile.specs.Transitions.{Transition, begun, noted}
use Rattle.mip_rules_mobile.specs.OutRules.{tunnels, goes_from, goes_out, passes_all, part_answers, asks_part, goes_back, replies}
use Rattle.mip_rules_mobile.specs.ReceivingRules.{then_meets, takes_for_part, refuses}
use Rattle.mip_rules_mobile.specs.Doing.{does, transition_of}
use Rattle.mip_rules_mobile.specs.Coming.{IsOfTake}
use Rattle.mip_rules_mobile.specs.Fitting.{OfAck, Steady, kind_of}
use Rattle.mip_rules_mobile.specs.Refusing.{tells_of_refusal, is_refusal, tables_of}
use Rattle.mip_rules_mobile.proofs.Steady.{Goes}
use Rattle.mip_rules_mobile.proofs.HomeWalks.{Acks}
use Rattle.mip_rules_mobile.proofs.PeerWalks.{every-meets}
use Rattle.mip_rules_mobile.proofs.ReceivingWalks.{every-takes}

-- no refusal so far
abbrev IsQuiet : Transition → Type 0
IsQuiet t = list_any is_refusal t.steps ≡ false

quiet-noted : (step : Step) (t : Transition) → is_refusal step ≡ false → IsQuiet t → IsQuiet (noted step t)
quiet-noted step t is quiet = none-noted after is_refusal step t quiet is

steady-quiet : (step : Step) → kind_of step ≡ Steady → is_refusal step ≡ false
steady-quiet (Called call) is = absurd cc
steady-quiet (Parts call) is = absurd cc
steady-quiet (Notes entry) is = absurd cc
steady-quiet (Sends sending) is = refl
steady-quiet (Unsends why) is = refl
steady-quiet (Drops number why) is = absurd cc
steady-quiet (Claims address) is = refl
steady-quiet (Releases address) is = refl
steady-quiet (FindsTaken address holder) is = absurd cc
steady-quiet (Arrives address) is = absurd cc
steady-quiet Detaches is = absurd cc
steady-quiet (Restarts secrets) is = absurd cc
steady-quiet (Registers agent end renew) is = absurd cc
steady-quiet (Unregisters agent) is = refl
steady-quiet (IsRefused status) is = refl
steady-quiet (Resequences agent last) is = refl
steady-quiet Seeks is = refl
steady-quiet SeeksAgain is = refl
steady-quiet GivesUp is = refl
steady-quiet (Finds agents) is = refl
steady-quiet (Chooses agent) is = refl
steady-quiet (Learns valid preferred) is = refl
steady-quiet (Meets peer) is = refl
steady-quiet (Tries row change) is = refl
steady-quiet (Updates row update) is = refl
steady-quiet (Forgets row) is = refl
steady-quiet (Binds row peer end renew) is = absurd cc
steady-quiet _ is = refl

ack-quiet : (step : Step) → kind_of step ≡ OfAck → is_refusal step ≡ false
ack-quiet (Called call) is = absurd cc
ack-quiet (Parts call) is = absurd cc
ack-quiet (Notes entry) is = absurd cc
ack-quiet (Sends sending) is = absurd cc
ack-quiet (Unsends why) is = absurd cc
ack-quiet (Drops number why) is = absurd cc
ack-quiet (Claims address) is = absurd cc
ack-quiet (Releases address) is = absurd cc
ack-quiet (FindsTaken address holder) is = absurd cc
ack-quiet (Arrives address) is = absurd cc
ack-quiet Detaches is = absurd cc
ack-quiet (Restarts secrets) is = absurd cc
ack-quiet (Registers agent end renew) is = refl
ack-quiet (Unregisters agent) is = absurd cc
ack-quiet (IsRefused status) is = absurd cc
ack-quiet (Resequences agent last) is = absurd cc
ack-quiet Seeks is = absurd cc
ack-quiet SeeksAgain is = absurd cc
ack-quiet GivesUp is = absurd cc
ack-quiet (Finds agents) is = absurd cc
ack-quiet (Chooses agent) is = absurd cc
ack-quiet (Learns valid preferred) is = absurd cc
ack-quiet (Meets peer) is = absurd cc
ack-quiet (Tries row change) is = absurd cc
ack-quiet (Updates row update) is = absurd cc
ack-quiet (Forgets row) is = absurd cc
ack-quiet (Binds row peer end renew) is = refl
ack-quiet _ is = absurd cc

goes-quiet : (c : Call) → Goes c IsQuiet
goes-quiet c step t is fits quiet = quiet-noted step t (steady-quiet step is) quiet

acks-quiet : (c : Call) → Acks c IsQuiet
acks-quiet c step t is fits led quiet = quiet-noted step t (ack-quiet step is) quiet

-- a packet from the home address, and an entry of the correspondent part, change nothing
sent-same : (home : Address) (inner : Inner) (t : Transition) → (noted (Sends (FromHome home inner)) t).known ≡ t.known
unfolding after
sent-same home inner t = noted-known after (Sends (FromHome home inner)) t

tunnelled-same : (home careof agent : Address) (inner : Inner) (t : Transition) → (noted (Sends (ByTunnel home careof agent inner)) t).known ≡ t.known
unfolding after
tunnelled-same home careof agent inner t = noted-known after (Sends (ByTunnel home careof agent inner)) t

unsent-same : (why : Why) (t : Transition) → (noted (Unsends why) t).known ≡ t.known
unfolding after
unsent-same why t = noted-known after (Unsends why) t

told-same : (entry : Entry) (t : Transition) → (noted (Notes entry) t).known ≡ t.known
unfolding after
told-same entry t = noted-known after (Notes entry) t

dropped-same : (number : ℕ) (why : Why) (t : Transition) → (noted (Drops number why) t).known ≡ t.known
unfolding after
dropped-same number why t = noted-known after (Drops number why) t

out-same : (inner : Inner) (t : Transition) → (goes_out inner t).known ≡ t.known
unfolding goes_out
out-same inner t = by t.known.standing
  where
    away : (careof : Address) (agent : Option Address) → (let u : Transition = tunnels careof inner agent t in u.known) ≡ t.known
    away careof None = unsent-same whys.Unregistered t
    away careof (Some agent) = tunnelled-same (home_of t.known) careof agent inner t

    by : (s : Attachment) → (let u : Transition = goes_from s inner t in u.known) ≡ t.known
    by Detached = unsent-same whys.Detached t
    by AtHome = sent-same (home_of t.known) inner t
    by (Away careof) = away careof (registered_agent t.known t.now)

passes-same : (answers : List Answer) (t : Transition) → (passes_all answers t).known ≡ t.known
unfolding passes_all
passes-same [] t = refl
passes-same (Send shield packet ∷ answers) t = passes-same answers (goes_out (OfPart packet) t) ∙ out-same (OfPart packet) t
passes-same (Note entry ∷ answers) t = passes-same answers (noted (Notes entry) t) ∙ told-same entry t

replies-same : (source : Address) (bytes : List ℕ) (reply : Reply) (t : Transition) → (replies source bytes reply t).known ≡ t.known
unfolding replies
replies-same source bytes reply t = by (reply_packet (home_of t.known) source bytes reply)
  where
    by : (o : Option (List ℕ)) → (let u : Transition = goes_back o t in u.known) ≡ t.known
    by None = refl
    by (Some packet) = out-same (OfPart packet) t

-- going out is no refusal, and answers without one leave none
out-quiet : (inner : Inner) (t : Transition) → IsQuiet t → IsQuiet (goes_out inner t)
unfolding goes_out
out-quiet inner t quiet = by t.known.standing
  where
    away : (careof : Address) (agent : Option Address) → IsQuiet (tunnels careof inner agent t)
    away careof None = quiet-noted (Unsends whys.Unregistered) t refl quiet
    away careof (Some agent) = quiet-noted (Sends (ByTunnel (home_of t.known) careof agent inner)) t refl quiet

    by : (s : Attachment) → IsQuiet (goes_from s inner t)
    by Detached = quiet-noted (Unsends whys.Detached) t refl quiet
    by AtHome = quiet-noted (Sends (FromHome (home_of t.known) inner)) t refl quiet
    by (Away careof) = away careof (registered_agent t.known t.now)

abbrev AnswersQuietly : Answer → Type 0
AnswersQuietly (Send shield packet) = Unit {0}
AnswersQuietly (Note entry) = tells_of_refusal entry ≡ false

passes-quiet : (answers : List Answer) → AllByRecursion AnswersQuietly answers → (t : Transition) → IsQuiet t → IsQuiet (passes_all answers t)
unfolding passes_all
passes-quiet [] all t quiet = quiet
passes-quiet (Send shield packet ∷ answers) all t quiet = passes-quiet answers all.1 (goes_out (OfPart packet) t) (out-quiet (OfPart packet) t quiet)
passes-quiet (Note entry ∷ answers) all t quiet = passes-quiet answers all.1 (noted (Notes entry) t) (quiet-noted (Notes entry) t all.0 quiet)

-- what the correspondent part does about a packet that is for it: it accepts an update, or its cache stays; where it accepts
-- one, and where it hands up data, it refuses nothing
module _ (me : Identity) (k : kept.Known) (now number : ℕ) (packet : Packet) where
  abbrev call : part_steps.Step
  call = part_steps.Called (parts.Part number packet)

  abbrev given : part_transitions.Transition
  given = part_transitions.noted call (part_transitions.begun now k)

  abbrev AnswersOf : part_transitions.Transition → Type 0
  AnswersOf u = AllByRecursion AnswersQuietly (part_steps.answers_of u.steps)

  abbrev Decides : part_transitions.Transition → Type 0
  Decides u = (list_any part_steps_laws.is_acceptance u.steps ≡ false) ⊎ AnswersOf u

  -- steps behind the call, none of them an acceptance
  none : (steps : List part_steps.Step) → list_any part_steps_laws.is_acceptance steps ≡ false → Decides (noted_all part_questions.after steps given)
  none steps calm = inl (ap (λ (u : part_transitions.Transition). list_any part_steps_laws.is_acceptance u.steps) (noted_all-is part_questions.after (call ∷ steps) (part_transitions.begun now k)) ∙ calm)

  -- steps behind the call, whose answers tell of no refusal
  told : (steps : List part_steps.Step) → AllByRecursion AnswersQuietly (part_steps.answers_of steps) → AnswersOf (noted_all part_questions.after steps given)
  told steps all = subst AnswersOf (sym (noted_all-is part_questions.after (call ∷ steps) (part_transitions.begun now k))) all

  of-verdict : (r : Registration) (v : Verdict) → Decides (part_rules.judged me number r v given)
  unfolding part_rules.denies part_rules.accepts
  of-verdict r (Refuse why) = none (part_steps.Drops number why ∷ []) refl
  of-verdict r (Deny status last kbm) = none (part_steps.Denies number status ∷ part_steps.Sends (ack_packet me.own r status last 0 kbm) ∷ []) refl
  of-verdict r (Accept home binding accepted granted kbm) = by r.ack
    where
      first : part_transitions.Transition
      first = part_transitions.noted (part_steps.Accepts number home binding accepted) given

      by : (ack : Bool) → Decides (let u : part_transitions.Transition = (if ack then part_transitions.noted (part_steps.Sends (ack_packet me.own r 0 r.sequence granted (Some kbm))) first else first) in u)
      by true = inr (told (part_steps.Accepts number home binding accepted ∷ part_steps.Sends (ack_packet me.own r 0 r.sequence granted (Some kbm)) ∷ []) (refl, (tt, tt)))
      by false = inr (told (part_steps.Accepts number home binding accepted ∷ []) (refl, tt))

  -- data is handed up
  abbrev up : part_steps.Step
  up = part_steps.HandsUp number (source_of packet.head) (destination_of packet.head) packet.head.proto packet.body

  of-message : (message : Option Said) → is_for_part packet.head.proto message ≡ true → Decides (part_rules.by_message me number packet message given)
  unfolding part_rules.hands_up part_rules.answers_home_init part_rules.answers_careof_init part_rules.takes_update
  of-message None is = none (up ∷ []) refl
  of-message (Some (HomeInit cookie options)) is = none (part_steps.Sends (part_rules.home_test me given.now packet.head.source cookie) ∷ []) refl
  of-message (Some (CareofInit cookie options)) is = none (part_steps.Sends (part_rules.careof_test me given.now packet.head.source cookie) ∷ []) refl
  of-message (Some (Update s a h l k' t' o)) is =
      let r = registration packet.head.source packet.head.home s a h t' o in
      of-verdict r (verdict (part_rules.bench me given.known given.now r) r packet.body)
  of-message (Some _) is = absurd cc

  decides : (message : Option Said) → message_in packet ≡ message → is_for_part packet.head.proto message ≡ true → Decides (part_doing.transition_of me k now (parts.Part number packet))
  unfolding part_doing.does part_doing.parts
  decides message read mine = subst (λ (o : Option Said). Decides (part_rules.by_message me number packet o given)) (sym read) (of-message message mine)

  -- where data is handed up, nothing is refused
  data-quiet : message_in packet ≡ None → AnswersOf (part_doing.transition_of me k now (parts.Part number packet))
  unfolding part_doing.does part_doing.parts part_rules.hands_up
  data-quiet read = subst (λ (o : Option Said). AnswersOf (part_rules.by_message me number packet o given)) (sym read) (told (up ∷ []) (refl, tt))

-- the tables with this cache
abbrev with_cache : Known → CacheSeen → Known
with_cache k cache = record (tables_of k) { part = record { identity = k.part.identity; known = record { last = record { 0 = 0 }; cache = cache } } }

parted-tables : (call : parts.Call) (t : Transition) → (called t.known.part t.now call).known.cache ≡ t.known.part.known.cache → tables_of (noted (Parts call) t).known ≡ tables_of t.known
unfolding after
parted-tables call t same = ap tables_of (noted-known after (Parts call) t) ∙ ap (with_cache t.known) same

-- where a packet is refused, the tables are those from which it began
module _ (c : Call) (t : Transition) (quiet : IsQuiet t) where
  abbrev Keeps : Transition → Type 0
  Keeps u = list_any is_refusal u.steps ≡ true → tables_of u.known ≡ tables_of t.known

  quiet-keeps : (u : Transition) → IsQuiet u → Keeps u
  quiet-keeps u none some = absurd (let both : false ≡ true = sym none ∙ some in cc)

  drop-keeps : (number : ℕ) (why : Why) → Keeps (noted (Drops number why) t)
  drop-keeps number why some = ap tables_of (dropped-same number why t)

  refuse-keeps : (number : ℕ) (bytes : List ℕ) (source : Address) (refusal : Refusal) → Keeps (refuses number bytes source refusal t)
  unfolding refuses
  refuse-keeps number bytes source refusal some =
      ap tables_of (replies-same source bytes refusal.reply (noted (Drops number refusal.why) t) ∙ dropped-same number refusal.why t)

  part-keeps : (number : ℕ) (tunnelled : Bool) (shield : Option Shield) (packet : Packet) (message : Option Said) → IsOfTake c t.known t.now number tunnelled shield packet → message_in packet ≡ message → is_for_part packet.head.proto message ≡ true → Keeps (takes_for_part number tunnelled packet message t)
  unfolding takes_for_part asks_part
  part-keeps number tunnelled shield packet message of read mine = by message read mine tunnelled
    where
      call : parts.Call
      call = parts.Part number packet

      first : Transition
      first = noted (Parts call) t

      calm : IsQuiet first
      calm = quiet-noted (Parts call) t refl quiet

      me : Identity
      me = t.known.part.identity

      met : (m : Bool) → AllByRecursion AnswersQuietly (part_answers t call) → Keeps (then_meets m packet (passes_all (part_answers t call) first))
      met true all =
          quiet-keeps (then_meets true packet (passes_all (part_answers t call) first))
          (every-meets c IsQuiet (goes-quiet c) (source_of packet.head) (passes_all (part_answers t call) first) (passes-quiet (part_answers t call) all first calm))
      met false all = quiet-keeps (passes_all (part_answers t call) first) (passes-quiet (part_answers t call) all first calm)

      alone : (list_any part_steps_laws.is_acceptance (part_doing.transition_of me t.known.part.known t.now call).steps ≡ false) ⊎ AllByRecursion AnswersQuietly (part_answers t call) → Keeps (passes_all (part_answers t call) first)
      alone (inl none) some =
          ap tables_of (passes-same (part_answers t call) first)
          ∙ parted-tables call t (keeps-call me call (part_transitions.begun t.now t.known.part.known) refl none)
      alone (inr all) some = quiet-keeps (passes_all (part_answers t call) first) (passes-quiet (part_answers t call) all first calm) some

      by : (message : Option Said) → message_in packet ≡ message → is_for_part packet.head.proto message ≡ true → (tunnelled : Bool)
          → Keeps (then_meets (tunnelled && is_none message) packet (passes_all (part_answers t call) first))
      by None read mine true = met true (data-quiet me t.known.part.known t.now number packet read)
      by None read mine false = met false (data-quiet me t.known.part.known t.now number packet read)
      by (Some m) read mine true = alone (decides me t.known.part.known t.now number packet (Some m) read mine)
      by (Some m) read mine false = alone (decides me t.known.part.known t.now number packet (Some m) read mine)

called-tables : (c : Call) (k : Known) (now : ℕ) → tables_of (noted (Called c) (begun now k)).known ≡ tables_of k
unfolding after
called-tables c k now = ap tables_of (noted-known after (Called c) (begun now k))

pub refused-keeps : (k : Known) (now number : ℕ) (shield : Option Shield) (bytes : List ℕ) → list_any is_refusal (transition_of k now (calls.Take number shield bytes)).steps ≡ true
    → tables_of (transition_of k now (calls.Take number shield bytes)).known ≡ tables_of k
unfolding does
refused-keeps k now number shield bytes some =
    let c : Call = calls.Take number shield bytes in
    let t = noted (Called c) (begun now k) in
    let quiet : IsQuiet t = quiet-noted (Called c) (begun now k) refl refl in
    let kept = every-takes c IsQuiet (goes-quiet c) (acks-quiet c) (Keeps c t quiet) (quiet-keeps c t quiet) t quiet (λ number why right. drop-keeps c t quiet number why) (λ number bytes source refusal right. refuse-keeps c t quiet number bytes source refusal) (part-keeps c t quiet) number shield bytes refl in
    kept some ∙ called-tables c k now
