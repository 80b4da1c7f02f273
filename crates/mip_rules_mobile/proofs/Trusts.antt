-- What stands behind a step that takes somebody's word: the parts of what counts, and how it stays over a timer that is stopped.
use Rattle.std.proofs.Common.{◌≡◌, ℕ, ◌<◌, ◌≤◌, List, [], ◌∷◌, ◌++◌, Bool, true, false, ◌⊎◌, inl, inr, refl, sym, ap, ◌∙◌, subst, arith}
use Rattle.std.specs.Prelude.{Option, Some, None, Ok, Result, ◌&&◌, ◌||◌, not, ◌==◌, is_some, is_none, nat_le}
use Rattle.std.proofs.lemmas.Bool.{and_parts, cond_both, eqb-true, eq-eqb}
use Rattle.std.proofs.lemmas.Bool.Decides.{nat_tests}
use Rattle.mip_words.specs.Protocols.{mobility_header}
use Rattle.mip_words.specs.declared.address.Address.{Address}
use Rattle.mip_words.specs.declared.shield.Shield.{Shield}
use Rattle.mip_ipv6.specs.Packet.{Packet, source_of}
use Rattle.mip_ipv6.specs.Reading.{packet_of}
use Rattle.mip_mobhdr.specs.OptionValues.{Values}
use Rattle.mip_mobhdr.specs.Said.{Said}
use Rattle.mip_mobhdr.specs.Said.Said.{HomeTest, CareofTest, Acknowledgement}
use Rattle.mip_ipv6.specs.declared.exit_fault.ExitFault.{ExitFault}
use Rattle.mip_ipv6.specs.Tunnel.{opened}
use Rattle.mip_reception.specs.Says.{message_in, said_by, carried}
use Rattle.mip_reception.proofs.Sayings.{carried_message, carried_opened}
use Rattle.mip_bulist.specs.declared.any.Any.TheVariants.{Pending}
use Rattle.mip_bulist.specs.declared.state.Pending as pending
use Rattle.mip_bulist.specs.declared.trial.Trial.{Trial}
use Rattle.mip_bulist.specs.declared.work.Work.{Work}
use Rattle.mip_reception.specs.Statuses.{accepts_it, sequence_out_of_window}
use Rattle.mip_entries.proofs.TransitionLaws.{noted-now, noted-known, noted-steps}
use Rattle.mip_rules_mobile.specs.declared.attachment.Attachment.{Attachment}
use Rattle.mip_rules_mobile.specs.declared.attachment.Attachment.TheVariants.{Detached, AtHome, Away}
use Rattle.mip_rules_mobile.specs.declared.home_update.HomeUpdate.{HomeUpdate}
use Rattle.mip_rules_mobile.specs.Calls.{Call, Take}
use Rattle.mip_rules_mobile.specs.Coming.{IsTunnelled, Came, IsOfTake}
use Rattle.mip_rules_mobile.specs.Trials.{last_made}
use Rattle.mip_rules_mobile.specs.Steps.{Step, Stops}
use Rattle.mip_rules_mobile.specs.Known.{Known}
use Rattle.mip_rules_mobile.specs.HomeQuestions.{home_of}
use Rattle.mip_rules_mobile.specs.RowQuestions.{row_of, trial_of}
use Rattle.mip_rules_mobile.specs.HomeRules.{is_answered_at, if_answered, answered_by}
use Rattle.mip_rules_mobile.specs.PeerRules.{comes_right, test_at, is_genuine, is_trusted, acknowledges}
use Rattle.mip_rules_mobile.specs.Questions.{after}
use Rattle.mip_rules_mobile.specs.Transitions.{Transition, noted}
use Rattle.mip_rules_mobile.specs.Trusting.{IsAnswered, IsAcknowledged, IsByTunnel}
use Rattle.mip_rules_mobile.specs.Resting.{last_step}
use Rattle.mip_rules_mobile.specs.Fitting.{IsHanded, is_detached}
use Rattle.mip_rules_mobile.proofs.Checks.{in-proto, in-reads, opened-reads}

pub accepts-below : (status : ℕ) → accepts_it status ≡ true → status < 128
accepts-below status is = grind (arith, nat_tests)

-- a timer that is stopped changes nothing of what an answer is measured by
pub latest-stopped : (work : Work) (t : Transition) → (noted (Stops work) t).known.latest ≡ t.known.latest
unfolding after
latest-stopped work t = ap (λ (k : Known). k.latest) (noted-known after (Stops work) t)

-- the last step of a transition
last-push : (before : Option Step) (steps : List Step) (step : Step) → last_step before (steps ++ step ∷ []) ≡ Some step
last-push before [] step = refl
last-push before (s ∷ steps) step = last-push (Some s) steps step

pub last-noted : (step : Step) (t : Transition) → last_step None (noted step t).steps ≡ Some step
last-noted step t = ap (last_step None) (noted-steps after step t) ∙ last-push None t.steps step

-- what came says what was handed over
carried-came : (k : Known) (now : ℕ) (tunnelled : Bool) (shield : Option Shield) (bytes : List ℕ) (packet : Packet) → Came k now tunnelled shield bytes packet → (m : Said) → message_in packet ≡ Some m
    → carried bytes ≡ said_by packet.head.source (source_of packet.head) packet.head.destination packet.body m
carried-came k now false shield bytes packet read m is = carried_message bytes packet m read (in-proto packet m is) (in-reads packet m is)
carried-came k now true shield bytes packet within m is =
    carried_opened bytes within.outer packet within.agent within.read within.opens
    ∙ carried_message within.outer.body packet m (opened-reads within.agent within.outer packet within.opens) (in-proto packet m is) (in-reads packet m is)

-- what is opened came from the entry
straight-not : (b : Bool) → not b ≡ false → b ≡ true
straight-not true is = refl
straight-not false is = absurd cc

pub opened-source : (agent : Address) (p q : Packet) → opened agent p ≡ Ok q → p.head.source.0 ≡ agent.0
unfolding opened
opened-source agent p q =
    cond_both (not (p.head.proto == 41)) _ _ (λ (r : Result Packet ExitFault). r ≡ Ok q → p.head.source.0 ≡ agent.0) (λ is e. absurd cc)
    (λ right. cond_both (not (p.head.source.0 == agent.0)) _ _ (λ (r : Result Packet ExitFault). r ≡ Ok q → p.head.source.0 ≡ agent.0) (λ is e. absurd cc)
    (λ same e. eqb-true p.head.source.0 agent.0 (straight-not (p.head.source.0 == agent.0) same)))

-- what is not refused for want of a shield has one, where it is a mobility message
pub shielded-not : (proto : ℕ) (shield : Option Shield) → proto ≡ 135 → ((proto == mobility_header) && is_none shield) ≡ false → is_some shield ≡ true
shielded-not proto (Some s) mobility bare = refl
shielded-not proto None mobility bare = absurd (let is : (proto == 135) ≡ true = eq-eqb proto 135 mobility in let both : (true && true) ≡ false = subst (λ (b : Bool). (b && true) ≡ false) is bare in cc)

module _ (c : Call) (k : Known) (now number : ℕ) (tunnelled : Bool) (shield : Option Shield) (packet : Packet) (of : IsOfTake c k now number tunnelled shield packet) where
  -- what came by a tunnel with a mobility message came under a shield
  by-tunnel : tunnelled ≡ true → packet.head.proto ≡ 135 → IsByTunnel c now k
  by-tunnel through proto = by shield refl
    where
      within : IsTunnelled k now shield of.bytes packet
      within = subst (λ (b : Bool). Came k now b shield of.bytes packet) through of.came

      by : (o : Option Shield) → shield ≡ o → IsByTunnel c now k
      by None bare = absurd (let both : false ≡ true = sym (ap (λ (s : Option Shield). is_some s) bare) ∙ within.shielded proto in cc)
      by (Some s) under = record {
        number = number;
        shield = s;
        bytes = of.bytes;
        call = of.call ∙ ap (λ (x : Option Shield). Take number x of.bytes) under;
        outer = within.outer;
        read = within.read;
        agent = within.agent;
        of = within.of;
        from = opened-source within.agent within.outer packet within.opens;
        packet = packet;
        inside = opened-reads within.agent within.outer packet within.opens;
      }

  -- a test that is told was handed over, and came as it is to come
  pub handed-home : (index cookie : ℕ) (token : List ℕ) (options : Values) → message_in packet ≡ Some (HomeTest index cookie token options) → comes_right k.standing tunnelled ≡ true
      → IsHanded c now k 0 (test_at now index token)
  handed-home index cookie token options says right = record {
    number = number;
    shield = shield;
    packet = of.bytes;
    destination = packet.head.destination;
    call = of.call;
    says = carried-came k now tunnelled shield of.bytes packet of.came (HomeTest index cookie token options) says;
    moment = refl;
    way = λ kind careof away.
        let through : tunnelled ≡ true = subst (λ (s : Attachment). comes_right s tunnelled ≡ true) away right in
        by-tunnel through (in-proto packet (HomeTest index cookie token options) says);
  }

  pub handed-careof : (index cookie : ℕ) (token : List ℕ) (options : Values) → message_in packet ≡ Some (CareofTest index cookie token options) → IsHanded c now k 1 (test_at now index token)
  handed-careof index cookie token options says = record {
    number = number;
    shield = shield;
    packet = of.bytes;
    destination = packet.head.destination;
    call = of.call;
    says = carried-came k now tunnelled shield of.bytes packet of.came (CareofTest index cookie token options) says;
    moment = refl;
    way = λ kind careof away. absurd (omega (arith, kind));
  }

-- what counts as an answer of the agent
pub record Counts (s : Attachment) (tunnelled : Bool) (shield : Option Shield) (source : Address) (status sequence : ℕ) (o : Option HomeUpdate) (u : HomeUpdate) : Type 0 where
  pub straight : tunnelled ≡ false
  pub shielded : is_some shield ≡ true
  pub last : o ≡ Some u
  pub from : source.0 ≡ u.agent.0
  pub answers : (sequence ≡ u.sequence) ⊎ (status ≡ 135)
  pub there : is_detached s ≡ false
  pub undone : s ≡ AtHome → u.deletes ≡ true

not-true : (b : Bool) → not b ≡ true → b ≡ false
not-true false is = refl
not-true true is = absurd cc

answered-there : (s : Attachment) (u : HomeUpdate) → is_answered_at s u ≡ true → is_detached s ≡ false
answered-there Detached u is = absurd cc
answered-there AtHome u is = refl
answered-there (Away careof) u is = refl

answered-home : (s : Attachment) (u : HomeUpdate) → is_answered_at s u ≡ true → s ≡ AtHome → u.deletes ≡ true
answered-home Detached u is home = absurd cc
answered-home AtHome u is home = is
answered-home (Away careof) u is home = absurd cc

pub answer-counts : (s : Attachment) (tunnelled : Bool) (shield : Option Shield) (source : Address) (status sequence : ℕ) (o : Option HomeUpdate) (u : HomeUpdate)
    → answered_by s tunnelled shield source status sequence o ≡ Some u → Counts s tunnelled shield source status sequence o u
answer-counts s tunnelled shield source status sequence None u is = absurd cc
answer-counts s tunnelled shield source status sequence (Some v) u is =
    by (not tunnelled) (is_some shield) (source.0 == v.agent.0) (sequence == v.sequence) (status == sequence_out_of_window) (is_answered_at s v) refl refl refl refl refl refl is
  where
    counts : v ≡ u → not tunnelled ≡ true → is_some shield ≡ true → (source.0 == v.agent.0) ≡ true → (sequence ≡ v.sequence) ⊎ (status ≡ 135) → is_answered_at s v ≡ true
        → Counts s tunnelled shield source status sequence (Some v) u
    counts same a b d answers there = record {
      straight = not-true tunnelled a;
      shielded = b;
      last = ap (λ (x : HomeUpdate). Some x) same;
      from = subst (λ (x : HomeUpdate). source.0 ≡ x.agent.0) same (eqb-true source.0 v.agent.0 d);
      answers = subst (λ (x : HomeUpdate). (sequence ≡ x.sequence) ⊎ (status ≡ 135)) same answers;
      there = answered-there s v there;
      undone = subst (λ (x : HomeUpdate). s ≡ AtHome → x.deletes ≡ true) same (answered-home s v there);
    }

    by : (a b d e f g : Bool) → not tunnelled ≡ a → is_some shield ≡ b → (source.0 == v.agent.0) ≡ d → (sequence == v.sequence) ≡ e → (status == sequence_out_of_window) ≡ f → is_answered_at s v ≡ g
        → if_answered (a && (b && (d && ((e || f) && g)))) v ≡ Some u → Counts s tunnelled shield source status sequence (Some v) u
    by true true true true f true ta tb td te tf tg so = let same : v ≡ u = cc in counts same ta tb td (inl (eqb-true sequence v.sequence te)) tg
    by true true true false true true ta tb td te tf tg so = let same : v ≡ u = cc in counts same ta tb td (inr (eqb-true status 135 tf)) tg
    by false b d e f g ta tb td te tf tg so = absurd cc
    by true false d e f g ta tb td te tf tg so = absurd cc
    by true true false e f g ta tb td te tf tg so = absurd cc
    by true true true true f false ta tb td te tf tg so = absurd cc
    by true true true false false g ta tb td te tf tg so = absurd cc
    by true true true false true false ta tb td te tf tg so = absurd cc

-- so an acknowledgement that counts is the agent's answer
pub answer-is : (c : Call) (k : Known) (now number : ℕ) (tunnelled : Bool) (shield : Option Shield) (packet : Packet) → IsOfTake c k now number tunnelled shield packet
    → (status : ℕ) (key : Bool) (sequence lifetime : ℕ) (options : Values) → message_in packet ≡ Some (Acknowledgement status key sequence lifetime options)
    → (u : HomeUpdate) → Counts k.standing tunnelled shield (source_of packet.head) status sequence k.latest u → IsAnswered c k.latest u status sequence lifetime
answer-is c k now number tunnelled shield packet of status key sequence lifetime options says u counts = by shield refl
  where
    read : packet_of of.bytes ≡ Ok packet
    read = subst (λ (b : Bool). Came k now b shield of.bytes packet) counts.straight of.came

    by : (o : Option Shield) → shield ≡ o → IsAnswered c k.latest u status sequence lifetime
    by None bare = absurd (let both : false ≡ true = sym (ap (λ (s : Option Shield). is_some s) bare) ∙ counts.shielded in cc)
    by (Some s) under = record {
      number = number;
      shield = s;
      bytes = of.bytes;
      call = of.call ∙ ap (λ (x : Option Shield). Take number x of.bytes) under;
      packet = packet;
      read = read;
      key = key;
      options = options;
      says = says;
      last = counts.last;
      from = counts.from;
      answers = counts.answers;
    }

-- an acknowledgement of a peer that accepts has an authenticator, and the sequence of the last update
trusted-parts : (home : Address) (u : Trial pending.Pending) (status sequence : ℕ) (o : Option (List ℕ)) (message : List ℕ) → accepts_it status ≡ true → acknowledges home status sequence o message u ≡ true
    → (is_some o ≡ true) × (is_genuine home u message ≡ true) × (sequence ≡ (last_made u).sequence)
trusted-parts home u status sequence None message low is =
    let below : status < 128 = accepts-below status low in
    let parts = and_parts (is_trusted home u status None message) _ is in
    absurd (let told : (nat_le 136 status && nat_le status 138) ≡ true = parts.0 in
    let high : nat_le 136 status ≡ true = (and_parts (nat_le 136 status) (nat_le status 138) told).0 in
    let over : 136 ≤ status = grind (arith, nat_tests) in omega (arith, below, over))
trusted-parts home u status sequence (Some authenticator) message low is =
    let below : status < 128 = accepts-below status low in
    let parts = and_parts (is_trusted home u status (Some authenticator) message) ((sequence == (last_made u).sequence) || (status == sequence_out_of_window)) is in
    (refl, parts.0, by (sequence == (last_made u).sequence) (status == sequence_out_of_window) refl refl below parts.1)
  where
    by : (same behind : Bool) → (sequence == (last_made u).sequence) ≡ same → (status == sequence_out_of_window) ≡ behind → status < 128 → (same || behind) ≡ true → sequence ≡ (last_made u).sequence
    by true behind e f below so = eqb-true sequence (last_made u).sequence e
    by false true e f below so = absurd (let at : status ≡ 135 = eqb-true status 135 f in omega (arith, at, below))
    by false false e f below so = absurd cc

pub acknowledged-is : (c : Call) (k : Known) (now number : ℕ) (tunnelled : Bool) (shield : Option Shield) (packet : Packet) → IsOfTake c k now number tunnelled shield packet
    → (status : ℕ) (key : Bool) (sequence lifetime : ℕ) (options : Values) → message_in packet ≡ Some (Acknowledgement status key sequence lifetime options)
    → (row : ℕ) (u : Trial pending.Pending) → row_of k (source_of packet.head) ≡ Some row → trial_of k row ≡ Some (Pending u)
    → acknowledges (home_of k) status sequence options.authorization packet.body u ≡ true → accepts_it status ≡ true → IsAcknowledged c k now row sequence lifetime
acknowledged-is c k now number tunnelled shield packet of status key sequence lifetime options says row u placed pending right low =
    let parts = trusted-parts (home_of k) u status sequence options.authorization packet.body low right in
    record {
      number = number;
      tunnelled = tunnelled;
      shield = shield;
      packet = packet;
      handed = of;
      status = status;
      key = key;
      options = options;
      says = says;
      accepts = accepts-below status low;
      signed = parts.0;
      placed = placed;
      trial = u;
      pending = pending;
      authentic = parts.1;
      numbered = parts.2;
    }

-- it stays one while a timer is stopped
came-stopped : (k : Known) (now at : ℕ) (work : Work) (tunnelled : Bool) (shield : Option Shield) (bytes : List ℕ) (packet : Packet) → Came k now tunnelled shield bytes packet
    → Came (after k (record { at = at; step = Stops work })) now tunnelled shield bytes packet
unfolding after
came-stopped k now at work false shield bytes packet read = read
came-stopped k now at work true shield bytes packet within = record {
  outer = within.outer;
  agent = within.agent;
  read = within.read;
  of = within.of;
  opens = within.opens;
  shielded = within.shielded;
}

stopped-after : (c : Call) (k : Known) (now at : ℕ) (work : Work) (row sequence granted : ℕ) → IsAcknowledged c k now row sequence granted
    → IsAcknowledged c (after k (record { at = at; step = Stops work })) now row sequence granted
unfolding after
stopped-after c k now at work row sequence granted is = record {
  number = is.number;
  tunnelled = is.tunnelled;
  shield = is.shield;
  packet = is.packet;
  handed = record { bytes = is.handed.bytes; call = is.handed.call; came = came-stopped k now at work is.tunnelled is.shield is.handed.bytes is.packet is.handed.came };
  status = is.status;
  key = is.key;
  options = is.options;
  says = is.says;
  accepts = is.accepts;
  signed = is.signed;
  placed = is.placed;
  trial = is.trial;
  pending = is.pending;
  authentic = is.authentic;
  numbered = is.numbered;
}

pub acknowledged-stops : (c : Call) (work : Work) (row sequence granted : ℕ) (t : Transition) → IsAcknowledged c t.known t.now row sequence granted
    → IsAcknowledged c (noted (Stops work) t).known (noted (Stops work) t).now row sequence granted
acknowledged-stops c work row sequence granted t is =
    subst (λ (n : ℕ). IsAcknowledged c (noted (Stops work) t).known n row sequence granted) (sym (noted-now after (Stops work) t))
    (subst (λ (k : Known). IsAcknowledged c k t.now row sequence granted) (sym (noted-known after (Stops work) t))
    (stopped-after c t.known t.now t.now work row sequence granted is))
