-- A transition of any node keeps what is kept of homes: what an agent registers was sent by the mobile with that home.
use Rattle.std.proofs.Common.{◌≡◌, ◌≢◌, ℕ, ◌<◌, List, [], ◌∷◌, ◌++◌, Bool, true, false, length, inl, inr, refl, sym, ap, ◌∙◌, subst, arith, length-set}
use Rattle.std.specs.Prelude.{Option, Some, None, option_map, unwrap_or, Result, Ok, Err, ◌==◌, ◌&&◌, ◌||◌, if◌then◌else◌, slice_get, slice_set, slice_index, slice_index_or}
use Rattle.std.specs.List.{list_any}
use Rattle.std.proofs.lemmas.List.{get_or-set_same, get_or-set_other}
use Rattle.std.proofs.lemmas.Option.{slice_get_within}
use Rattle.std.proofs.lemmas.Bool.{cases_eq, eq-eqb, ne_eqb}
use Rattle.mip_words.specs.declared.address.Address.{Address}
use Rattle.mip_words.specs.declared.shield.Shield.{Shield}
use Rattle.mip_words.proofs.EachLaws.{each-append}
use Rattle.mip_ipv6.specs.declared.not_packet.NotPacket.{NotPacket}
use Rattle.mip_ipv6.specs.Packet.{Packet}
use Rattle.mip_ipv6.specs.Reading.{packet_of}
use Rattle.mip_ipv6.specs.Tunnel.{lowered_packet}
use Rattle.mip_ipv6.specs.TunnelLaws.{lowered_if_read}
use Rattle.mip_ipv6.proofs.Tunnels.{packet_of_lowered}
use Rattle.mip_outside.specs.declared.claim.Claim.{Claim}
use Rattle.mip_entries.specs.declared.answer.Answer.{Answer}
use Rattle.mip_entries.specs.declared.answer.Answer.TheVariants.{Send, Note}
use Rattle.mip_entries.specs.declared.entry.Entry.{Entry}
use Rattle.mip_entries.specs.Stamped.{Stamped}
use Rattle.mip_reception.specs.declared.registration.Registration.{Registration}
use Rattle.mip_reception.specs.Registrations.{registration_in, home_of}
use Rattle.mip_rules_correspondent.specs.Steps as correspondents
use Rattle.mip_entries.specs.Transitions.{StandsBy}
use Rattle.mip_rules_agent.specs.declared.identity.Identity.{Identity}
use Rattle.mip_rules_agent.specs.declared.home_binding.HomeBinding.{HomeBinding}
use Rattle.mip_rules_agent.specs.Known as agent_known
use Rattle.mip_rules_agent.specs.Calls as agent_calls
use Rattle.mip_rules_agent.specs.Steps.{Step, Called, Sends, Registers, Claims, Releases, Denies, Drops, Rang, answers_of}
use Rattle.mip_rules_agent.specs.StepsLaws.{is_registration}
use Rattle.mip_rules_agent.specs.Transitions as agent_transitions
use Rattle.mip_rules_agent.specs.Questions.{known, binding_of, holds}
use Rattle.mip_rules_agent.specs.Doing.{transition_of}
use Rattle.mip_rules_agent.specs.Rules.{bench, claim_with}
use Rattle.mip_rules_agent.specs.Verdicts.{binding_for}
use Rattle.mip_rules_agent.specs.Pasts.{is_one_of, is_registration_of}
use Rattle.mip_rules_agent.specs.Soundness.{IsShielded, IsSound}
use Rattle.mip_rules_agent.specs.Taken.{IsUpdateIn}
use Rattle.mip_rules_agent.specs.TakenLaws.{IsUpdateTaken}
use Rattle.mip_rules_agent.specs.Shielding.{ShieldNoUpdate}
use Rattle.mip_rules_agent.specs.Granting.{IsBounded}
use Rattle.mip_rules_agent.proofs.Granting.{accepted-bounded}
use Rattle.mip_rules_agent.proofs.VerdictLaws.{sound}
use Rattle.mip_rules_agent.proofs.Pasts.{stands-known, known-binding, known-unserved}
use Rattle.mip_rules_agent.proofs.Calls.{call-stands}
use Rattle.mip_rules_agent.proofs.HomeLaws.{keeps-call, of_home_none, becomes}
use Rattle.mip_rules_agent.proofs.Shielding.{call-none}
use Rattle.mip_rules_mobile.specs.Shielding.{AreShieldedFrom}
use Rattle.mip_history.specs.Setup.{Setup}
use Rattle.mip_history.specs.Setup.Kind.{Agent, Mobile}
use Rattle.mip_history.specs.Runs.{Run, note, agent_past_at, with_agent_past}
use Rattle.mip_history.specs.Knowing.{link_or_first, now_in, agent_of, agent_known_in}
use Rattle.mip_history.specs.Nodes.{after_agent_transition, answered}
use Rattle.mip_history.specs.Delivery.{handed_over}
use Rattle.mip_history.specs.Registered.{is_agent_host, is_agent_at, registration_entry, last_registration, IsSentFrom, IsRegistration}
use Rattle.mip_history.proofs.Keeping.{IsHanded}
use Rattle.mip_history.proofs.Homed.{MeetsHome, IsUnder, serves_by_host, serves_in, AreHomes, IsHomed, under_more, registration_push, is_home, IsMobileAt, AreFine, homed_answers}

-- what a correspondent answers
pub correspondent_fine : (s : Setup) (n : ℕ) (steps : List correspondents.Step) → AreFine s n (correspondents.answers_of steps)
correspondent_fine s n [] = tt
correspondent_fine s n (correspondents.Called call ∷ steps) = correspondent_fine s n steps
correspondent_fine s n (correspondents.Sends packet ∷ steps) = (tt, correspondent_fine s n steps)
correspondent_fine s n (correspondents.Accepts number home binding a ∷ steps) = (refl, correspondent_fine s n steps)
correspondent_fine s n (correspondents.Denies number status ∷ steps) = (refl, correspondent_fine s n steps)
correspondent_fine s n (correspondents.Drops number why ∷ steps) = (refl, correspondent_fine s n steps)
correspondent_fine s n (correspondents.HandsUp number source destination proto payload ∷ steps) = (refl, correspondent_fine s n steps)
correspondent_fine s n (correspondents.Idles ∷ steps) = (refl, correspondent_fine s n steps)

-- a mobile
and_false : (a b : Bool) → b ≡ false → (a && b) ≡ false
and_false true b is = is
and_false false b is = refl

module _ (s : Setup) (n : ℕ) (home : Address) (agent : Option Address) (host : slice_get s.hosts n ≡ Some (record { address = home; kind = Mobile agent })) where
  mobile_at : (a : Address) → a ≡ home → IsMobileAt s n a
  mobile_at a same = subst (λ (x : Address). IsMobileAt s n x) (sym same) (record { agent = agent; host = host })

  pub mobile_fine : (answers : List Answer) → AreShieldedFrom home answers → AreFine s n answers
  mobile_fine [] under = tt
  mobile_fine (Send None packet ∷ answers) under = (tt, mobile_fine answers under.1)
  mobile_fine (Send (Some shield) packet ∷ answers) under = (inl (mobile_at shield.from under.0), mobile_fine answers under.1)
  mobile_fine (Note e ∷ answers) under = (and_false (is_home e) (is_agent_at s n) (ap is_agent_host host), mobile_fine answers under.1)

-- an agent, where it registers nothing
pub agent_fine : (s : Setup) (n : ℕ) (steps : List Step) → list_any is_registration steps ≡ false → ShieldNoUpdate (answers_of steps) → AreFine s n (answers_of steps)
agent_fine s n [] none under = tt
agent_fine s n (Called call ∷ steps) none under = agent_fine s n steps none under
agent_fine s n (Sends None packet ∷ steps) none under = (tt, agent_fine s n steps none under.1)
agent_fine s n (Sends (Some shield) packet ∷ steps) none under = (inr under.0, agent_fine s n steps none under.1)
agent_fine s n (Registers number home binding ∷ steps) none under = absurd cc
agent_fine s n (Claims home ∷ steps) none under = (refl, agent_fine s n steps none under.1)
agent_fine s n (Releases home ∷ steps) none under = (refl, agent_fine s n steps none under.1)
agent_fine s n (Denies number status ∷ steps) none under = (refl, agent_fine s n steps none under.1)
agent_fine s n (Drops number why ∷ steps) none under = (refl, agent_fine s n steps none under.1)
agent_fine s n (Rang ∷ steps) none under = agent_fine s n steps none under

-- the update in what is handed over is that of what was posted
pub update_posted : (bytes : List ℕ) (link : Option ℕ) (update : Registration) → IsUpdateIn (handed_over bytes link) update → IsUpdateIn bytes update
update_posted bytes None update is = is
update_posted bytes (Some link) update is = by (packet_of bytes) refl (sym (packet_of_lowered bytes) ∙ is.read)
  where
    by : (r : Result Packet NotPacket) → packet_of bytes ≡ r → lowered_if_read r ≡ Ok is.packet → IsUpdateIn bytes update
    by (Ok p) read e =
        let same : is.packet ≡ lowered_packet p = cc in
        record {
          packet = p;
          read = read;
          mobility = subst (λ (q : Packet). q.head.proto ≡ 135) same is.mobility;
          of_type = subst (λ (q : Packet). slice_index q.body 2 ≡ 5) same is.of_type;
          asks = subst (λ (q : Packet). registration_in q.head.source q.head.home q.body ≡ Some update) same is.asks;
        }
    by (Err fault) read e = absurd cc

same_address : (a b : Address) → a.0 ≡ b.0 → a ≡ b
same_address a b e = ap (λ (n : ℕ). record { 0 = n }) e

-- nothing is registered of a home before the first step
pub none_known : (serves : List Address) (home : Address) → binding_of (known serves []) home ≡ None
none_known serves home = by (is_one_of serves home) refl
  where
    by : (b : Bool) → is_one_of serves home ≡ b → binding_of (known serves []) home ≡ None
    by true is = known-binding home serves [] is
    by false is = known-unserved home serves [] is

module _ (s : Setup) (n : ℕ) (own : Address) (preference life room : ℕ) (serves : List Address)
    (host : slice_get s.hosts n ≡ Some (record { address = own; kind = Agent preference life room serves })) (run : Run) (h : IsHomed s run) where
  abbrev me : Identity
  me = agent_of own preference life room

  abbrev k : agent_known.Known
  k = agent_known_in run n serves

  abbrev now : ℕ
  now = now_in s run

  abbrev transition : agent_calls.Call → agent_transitions.Transition
  transition c = transition_of me k now c

  abbrev more : agent_calls.Call → List (Stamped Step)
  more c = agent_transitions.with_transition (agent_past_at run n) (transition c)

  abbrev middle : agent_calls.Call → Run
  middle c = with_agent_past n (more c) run

  serving : serves_in s n ≡ Some serves
  serving = ap serves_by_host host

  stands : agent_transitions.Stands serves (agent_past_at run n) k
  unfolding known StandsBy
  stands = refl

  known_then : (c : agent_calls.Call) → known serves (more c) ≡ (transition c).known
  known_then c = sym (stands-known serves (more c) (transition c).known (call-stands serves (agent_past_at run n) k now me c stands))

  long : (past : List (Stamped Step)) → length (slice_set run.agent_pasts n past) ≡ length s.hosts
  long past = length-set run.agent_pasts n past ∙ h.agents

  here : (past : List (Stamped Step)) → slice_index_or (slice_set run.agent_pasts n past) n [] ≡ past
  here past =
      let inside : n < length s.hosts = slice_get_within s.hosts n (record { address = own; kind = Agent preference life room serves }) host in
      get_or-set_same run.agent_pasts n past [] (let i = h.agents in omega (arith, i, inside))

  -- the agent keeps what the history says, if it does of this node
  pub homes_with : (past : List Entry) (steps : List (Stamped Step))
      → ((home : Address) → binding_of (known serves steps) home ≡ last_registration past n home)
      → ((m : ℕ) (home : Address) → m ≢ n → last_registration past m home ≡ last_registration run.past m home)
      → AreHomes s past (slice_set run.agent_pasts n steps)
  homes_with past steps mine others m homes is home =
      elim (cases_eq m n) as (λ _. binding_of (known homes (slice_index_or (slice_set run.agent_pasts n steps) m [])) home ≡ last_registration past m home) [
        | inl e ↦
            let same : homes ≡ serves = (let both : Some homes ≡ Some serves = sym is ∙ ap (λ (x : ℕ). serves_in s x) e ∙ serving in cc) in
            subst (λ (x : ℕ). binding_of (known homes (slice_index_or (slice_set run.agent_pasts n steps) x [])) home ≡ last_registration past x home) (sym e)
            (ap (λ (l : List (Stamped Step)). binding_of (known homes l) home) (here steps)
            ∙ ap (λ (l : List Address). binding_of (known l steps) home) same ∙ mine home)
        | inr other ↦
            ap (λ (l : List (Stamped Step)). binding_of (known homes l) home) (get_or-set_other run.agent_pasts n m steps [] other)
            ∙ h.homes m homes is home ∙ sym (others m home other)
      ]

  known_before : (home : Address) → binding_of k home ≡ last_registration run.past n home
  known_before home = h.homes n serves serving home

  -- a transition in which nothing is registered
  pub quiet_agent : (c : agent_calls.Call) → list_any is_registration (transition c).steps ≡ false → IsHomed s (after_agent_transition s n own (transition c) run)
  quiet_agent c none =
      homed_answers s n (link_or_first s own.0) (answers_of (transition c).steps) (middle c) (agent_fine s n (transition c).steps none (call-none me k now c))
      (record {
        agents = long (more c);
        each = h.each;
        under = h.under;
        homes = homes_with run.past (more c)
            (λ home. ap (λ (l : agent_known.Known). binding_of l home) (known_then c) ∙ keeps-call home me k now c (of_home_none home (transition c).steps none) ∙ known_before home)
            (λ m home other. refl);
      })

  -- one in which an update is accepted
  module _ (number : ℕ) (shield : Option Shield) (bytes : List ℕ) (claim : Claim) (handed : IsHanded run n number shield bytes)
      (u : IsUpdateTaken me k now number shield bytes claim (transition (agent_calls.Take number shield bytes claim)).steps) where
    abbrev call : agent_calls.Call
    call = agent_calls.Take number shield bytes claim

    abbrev b : HomeBinding
    b = binding_for now u.careof u.sequence u.granted

    abbrev entry : Entry
    entry = registration_entry n u.home b

    abbrev past : List Entry
    past = run.past ++ entry ∷ []

    judged : IsSound (bench me k now u.update) shield (claim_with (holds k (home_of u.update)) claim) u.update u.home u.careof u.sequence u.granted
    judged = sound (bench me k now u.update) shield (claim_with (holds k (home_of u.update)) claim) u.update u.home u.careof u.sequence u.granted u.verdict_is

    bounded : IsBounded (bench me k now u.update).valid u.update u.granted
    bounded = accepted-bounded (bench me k now u.update) shield (claim_with (holds k (home_of u.update)) claim) u.update u.home u.careof u.sequence u.granted u.verdict_is

    -- the update stands behind it
    stands_behind : IsRegistration s run.past n u.home b
    stands_behind = by (h.under number handed.post ends handed.posted (sym handed.under ∙ under.stands))
      where
        under : IsShielded shield (home_of u.update)
        under = let j = judged in let f = j.fit in f.shielded

        ends : Shield
        ends = under.ends

        is_in : IsUpdateIn handed.post.packet u.update
        is_in = update_posted handed.post.packet handed.link u.update (subst (λ (l : List ℕ). IsUpdateIn l u.update) handed.as_posted u.is_in)

        from_home : ends.from ≡ u.home
        from_home = let j = judged in same_address ends.from (home_of u.update) under.from ∙ sym j.of_home

        by : IsUnder s run.past number ends handed.post.packet → IsRegistration s run.past n u.home b
        by (inr none) = absurd (none u.update is_in)
        by (inl sent) = let j = judged in let fit = j.fit in record {
          number = number;
          earlier = handed.earlier;
          handed = handed.told;
          bytes = handed.post.packet;
          sent = subst (λ (a : Address). IsSentFrom s run.past number a handed.post.packet) from_home sent;
          update = u.update;
          is_in = is_in;
          of_home = sym j.of_home;
          of_careof = j.of_careof;
          of_sequence = j.of_sequence;
          newer = λ last e. j.newer last (ap (option_map (λ (x : HomeBinding). x.sequence)) (ap (binding_of k) (sym j.of_home) ∙ known_before u.home) ∙ e);
          for_agent = fit.for_agent;
          granted = u.granted;
          until = refl;
          hour = bounded.hour;
          as_asked = bounded.asked;
          none = bounded.none;
          some = bounded.some;
        }

    steps_of_home : (home : Address) (same : Bool) → (u.home.0 == home.0) ≡ same → list_any (is_registration_of home) (transition call).steps ≡ same
    steps_of_home home same is =
        ap (list_any (is_registration_of home)) u.steps_are
        ∙ ap (λ (x : Bool). x || list_any (is_registration_of home) u.rest) is
        ∙ ap (λ (x : Bool). same || x) (of_home_none home u.rest u.none)
        ∙ alone same
      where
        alone : (x : Bool) → (x || false) ≡ x
        alone true = refl
        alone false = refl

    said : (home : Address) (same : Bool) → (u.home.0 == home.0) ≡ same
        → last_registration past n home ≡ unwrap_or (if same then Some (Some b) else None) (last_registration run.past n home)
    said home same is =
        registration_push run.past entry n home
        ∙ ap (λ (x : Bool). unwrap_or (if x && (u.home.0 == home.0) then Some (Some b) else None) (last_registration run.past n home)) (eq-eqb n n refl)
        ∙ ap (λ (x : Bool). unwrap_or (if x then Some (Some b) else None) (last_registration run.past n home)) is

    -- the agent keeps it, and so does the history
    kept_then : (home : Address) → binding_of (transition call).known home ≡ last_registration past n home
    kept_then home = by (u.home.0 == home.0) refl
      where
        by : (same : Bool) → (u.home.0 == home.0) ≡ same → binding_of (transition call).known home ≡ last_registration past n home
        by true is =
            let j = judged in
            becomes me k now number shield bytes claim home (steps_of_home home true is) u
            ∙ ap (λ (a : Address). Some (binding_for now a u.update.sequence u.granted)) (sym j.of_careof)
            ∙ ap (λ (q : ℕ). Some (binding_for now u.careof q u.granted)) (sym j.of_sequence)
            ∙ sym (said home true is)
        by false is = keeps-call home me k now call (steps_of_home home false is) ∙ known_before home ∙ sym (said home false is)

    others_then : (m : ℕ) (home : Address) → m ≢ n → last_registration past m home ≡ last_registration run.past m home
    others_then m home other =
        registration_push run.past entry m home
        ∙ ap (λ (x : Bool). unwrap_or (if x && (u.home.0 == home.0) then Some (Some b) else None) (last_registration run.past m home)) (ne_eqb m n other)

    abbrev left : Run
    left = note entry (middle call)

    left_homed : IsHomed s left
    left_homed = record {
      agents = long (more call);
      each = each-append (MeetsHome s) [] run.past (entry ∷ []) h.each ((λ mine. stands_behind), tt);
      under = λ i post shield at is. under_more s run.past (entry ∷ []) i shield post.packet (h.under i post shield at is);
      homes = homes_with past (more call) (λ home. ap (λ (l : agent_known.Known). binding_of l home) (known_then call) ∙ kept_then home) others_then;
    }

    rest_shielded : ShieldNoUpdate (answers_of u.rest)
    rest_shielded = let all : ShieldNoUpdate (answers_of (Called call ∷ Registers number u.home b ∷ u.rest)) = subst (λ (l : List Step). ShieldNoUpdate (answers_of l)) u.steps_are (call-none me k now call) in all.1

    behind : IsHomed s (answered s n (link_or_first s own.0) (middle call) (answers_of (Called call ∷ Registers number u.home b ∷ u.rest)))
    unfolding answered
    behind = homed_answers s n (link_or_first s own.0) (answers_of u.rest) left (agent_fine s n u.rest u.none rest_shielded) left_homed

    pub taking_agent : IsHomed s (after_agent_transition s n own (transition call) run)
    taking_agent = subst (λ (l : List Step). IsHomed s (answered s n (link_or_first s own.0) (middle call) (answers_of l))) (sym u.steps_are) behind
