-- What is asked at a place of the history of a run is what nodes know there.
use Rattle.std.proofs.Common.{◌≡◌, ℕ, zero, suc, ◌+◌, ◌<◌, List, [], ◌∷◌, ◌++◌, length, take, drop, Bool, true, false, refl, sym, ap, subst, ◌∙◌, arith}
use Rattle.std.specs.Prelude.{Option, Some, None, is_some, option_map, slice_get, ◌||◌}
use Rattle.std.specs.Option.{option_or}
use Rattle.std.proofs.lemmas.List.{append_assoc, take-append-drop, take_more, length-take-le}
use Rattle.std.proofs.lemmas.Option.{slice_get_within, get_or_from_slice_get}
use Rattle.std.proofs.Math.Seq.{take-append_seam}
use Rattle.mip_words.specs.declared.address.Address.{Address}
use Rattle.mip_binding.proofs.HeldLaws.{holds_some}
use Rattle.mip_entries.specs.declared.entry.Entry.{Entry}
use Rattle.mip_entries.specs.declared.entry.Entry.TheVariants.{Claimed, Released, Taken}
use Rattle.mip_rules_correspondent.specs.declared.known.Known.{Known}
use Rattle.mip_rules_agent.specs.Known as agents
use Rattle.mip_rules_agent.specs.declared.home_binding.HomeBinding.{HomeBinding}
use Rattle.mip_rules_agent.specs.Questions.{if_standing, careof_at}
use Rattle.mip_rules_mobile.specs.declared.attachment.Attachment.{Attachment}
use Rattle.mip_rules_mobile.specs.Known as mobiles
use Rattle.mip_rules_mobile.specs.HomeQuestions.{registered_agent, agent_of}
use Rattle.mip_schedule.specs.Contents.{Content}
use Rattle.mip_schedule.specs.declared.event.Event.{Event}
use Rattle.mip_history.specs.Setup.{Setup, Host, Kind, is_mobile_host, setup_of}
use Rattle.mip_history.specs.Setup.Kind.{Correspondent, Agent, Mobile}
use Rattle.mip_history.specs.Questions.{moment_in, declared_in}
use Rattle.mip_history.specs.Knowing.{known_in, now_in, agent_known_in, mobile_known_in}
use Rattle.mip_history.specs.Permitted.{permitted}
use Rattle.mip_history.specs.Bound.{accepted_by}
use Rattle.mip_history.specs.Registered.{is_agent_host, registered_in, IsRegistered}
use Rattle.mip_history.specs.Told.{careof_in}
use Rattle.mip_history.specs.Settled.{any_below, any_node}
use Rattle.mip_history.proofs.Fronts.{front_of_run}
use Rattle.mip_history.proofs.Histories.{run_held, run_holds, run_floor, part_held, part_holds, part_floor, permitted_held, permitted_under, permitted_claimed, permitted_released, permitted_taken}
use Rattle.mip_history.proofs.Homed.{IsHomed, serves_by_host}
use Rattle.mip_history.proofs.HomedRuns.{homed_run}
use Rattle.mip_history.proofs.Registrations.{run_careof, run_kept, permitted_registered}
use Rattle.mip_settled.proofs.AnyNode.{node_here}
use Rattle.mip_settled.proofs.AsTold.{found_as_told, registered_as_told, bound_as_told}
use Rattle.mip_settled.proofs.Declared.{declared_of_run}
use Rattle.mip_settled.proofs.OfKinds.{present_at_own, registers_none}
use Rattle.mip_past.specs.Asking.{present_from, present_told, standing_by, standing_from, leaves_by, leaves_from}
use Rattle.mip_past.specs.Registering.{last_sent_to, agent_of_told}
use Rattle.mip_past.specs.SendingLaws.{IsThroughAsAsked}
use Rattle.mip_past.proofs.ThroughTold.{sent_as_told}
use Rattle.mip_past.proofs.Standing.{standing_is}
use Rattle.mip_past.proofs.EndsTold.{due_as_told}
use Rattle.mip_past.proofs.AgentsHeard.{agents_as_told}
use Rattle.mip_past.proofs.PlacesTold.{number_as_told}
use Rattle.mip_past.specs.Hearing.{router_of, agents_in}
use Rattle.mip_past.specs.HearingLaws.{AreListedAsAsked}
use Rattle.mip_past.proofs.Leaving.{leaves_is}
use Rattle.mip_past.specs.Places.{run_at, place_at, front_at}
use Rattle.mip_past.specs.AsAsked.{IsFront, KeepsAsAsked, AreKeepersAsAsked, RegistersAsAsked, IsRegisteredBy, AreAgentsAsAsked, released, MovesAsAsked, AreMobilesAsAsked, IsHolderFound, IsHeldBound, AreRegistered, IsPermittedFront}

-- what is true of one of the first so many numbers
found_below : (is : ℕ → Bool) (n : ℕ) → any_below is n ≡ true → (m : ℕ) × (is m ≡ true)
unfolding any_below
found_below is zero any = absurd cc
found_below is (suc n) any = by (any_below is n) (is n) refl (found_below is n) any
  where
    by : (a b : Bool) → is n ≡ b → (a ≡ true → (m : ℕ) × (is m ≡ true)) → (a || b) ≡ true → (m : ℕ) × (is m ≡ true)
    by true b here before any = before refl
    by false true here before any = (n, here)
    by false false here before any = absurd cc

found_node : (is : ℕ → Bool) → any_node is ≡ true → (m : ℕ) × (is m ≡ true)
unfolding any_node
found_node is any = found_below is 256 any

-- where there is a first answer, no other one counts
first_alone : (o p q : Option Address) → is_some o ≡ true → option_or o p ≡ option_or o q
first_alone None p q some = absurd cc
first_alone (Some a) p q some = refl

module _ (s : Setup) (events : List Event) (k : ℕ) where
  front_is : front_at s events k ≡ (run_at s events k).past
  front_is = let b = front_of_run s events k in ap (take (place_at s events k)) b.whole ∙ take-append_seam (run_at s events k).past b.rest

  pub is_front : IsFront s events k
  is_front = record {
    front = front_is;
    moment = ap (moment_in s.start) front_is;
    own = λ n host is. ap (λ (past : List Entry). declared_in past n) front_is ∙ declared_of_run s (take k events) n host is;
  }

  -- correspondents, and the correspondent parts of mobiles
  keeps : (n : ℕ) (known : Known) → KeepsAsAsked s (run_at s events k).past n known → KeepsAsAsked s (front_at s events k) n known
  keeps n known is = subst (λ (past : List Entry). KeepsAsAsked s past n known) (sym front_is) is

  pub keepers_as_asked : AreKeepersAsAsked s events k
  keepers_as_asked = record {
    correspondent = λ n own room is. keeps n (known_in s (run_at s events k) n room) (record {
      held = λ home. sym (run_held s (take k events) n own room home is);
      holds = λ home careof. sym (run_holds s (take k events) n own room home is careof);
      floor = λ home. sym (run_floor s (take k events) n own room home is);
    });
    part = λ n own agent is.
        let known : Known = (mobile_known_in s (run_at s events k) n own agent).part.known in
        keeps n known (record {
          held = λ home. sym (part_held s (take k events) n own agent home is);
          holds = λ home careof. sym (part_holds s (take k events) n own agent home is careof);
          floor = λ home. sym (part_floor s (take k events) n own agent home is);
        });
  }

  -- agents
  registers : (n : ℕ) (own : Address) (preference life room : ℕ) (serves : List Address) → slice_get s.hosts n ≡ Some (record { address = own; kind = Agent preference life room serves })
      → RegistersAsAsked s (front_at s events k) n (agent_known_in (run_at s events k) n serves)
  registers n own preference life room serves is =
      let known : agents.Known = agent_known_in (run_at s events k) n serves in
      subst (λ (past : List Entry). RegistersAsAsked s past n known) (sym front_is) (record {
        careof = λ home. sym (run_careof s (take k events) n own preference life room serves home is);
        until = λ home.
            let h : IsHomed s (run_at s events k) = homed_run s (take k events) in
            ap (λ (o : Option HomeBinding). option_map (λ b. b.end) (if_standing home (now_in s (run_at s events k)) o)) (sym (h.homes n serves (ap serves_by_host is) home));
        sequence = λ home. sym (run_kept s (take k events) n own preference life room serves home is);
        due = due_as_told s (take k events) n own preference life room serves is (now_in s (run_at s events k)) (omega arith);
      })

  abbrev careofs : Address → ℕ → Option Address
  careofs home g = careof_in (moment_in s.start (front_at s events k)) (front_at s events k) g home

  careof_is : (n : ℕ) (own : Address) (preference life room : ℕ) (serves : List Address) → slice_get s.hosts n ≡ Some (record { address = own; kind = Agent preference life room serves }) → (home : Address)
      → careofs home n ≡ careof_at (agent_known_in (run_at s events k) n serves) (now_in s (run_at s events k)) home
  careof_is n own preference life room serves is home =
      ap (λ (past : List Entry). careof_in (moment_in s.start past) past n home) front_is ∙ sym (run_careof s (take k events) n own preference life room serves home is)

  -- a node that is no agent has nothing registered
  has_none : (home : Address) (g : ℕ) → is_agent_host (slice_get s.hosts g) ≡ false → is_some (careofs home g) ≡ false
  has_none home g none =
      ap (λ (past : List Entry). is_some (careof_in (moment_in s.start past) past g home)) front_is
      ∙ ap is_some (registers_none s g none (take k events) home (now_in s (run_at s events k)))

  some_agent : (home : Address) (g : ℕ) → is_some (careofs home g) ≡ true → IsRegisteredBy s (run_at s events k) home
  some_agent home g has = by (slice_get s.hosts g) refl
    where
      kinds : (own : Address) (kind : Kind) → slice_get s.hosts g ≡ Some (record { address = own; kind = kind }) → IsRegisteredBy s (run_at s events k) home
      kinds own (Agent preference life room serves) is = record {
        agent = g;
        own = own;
        preference = preference;
        life = life;
        room = room;
        serves = serves;
        is_agent = is;
        registered = ap is_some (sym (careof_is g own preference life room serves is home)) ∙ has;
      }
      kinds own (Correspondent room) is = absurd (let none = has_none home g (ap is_agent_host is) in cc)
      kinds own (Mobile agent) is = absurd (let none = has_none home g (ap is_agent_host is) in cc)

      by : (o : Option Host) → slice_get s.hosts g ≡ o → IsRegisteredBy s (run_at s events k) home
      by None is = absurd (let none = has_none home g (ap is_agent_host is) in cc)
      by (Some host) is = kinds host.address host.kind is

  pub agents_as_asked : AreAgentsAsAsked s events k
  agents_as_asked = record {
    agent = registers;
    some = λ home any. let found = found_node (λ g. is_some (careofs home g)) any in some_agent home found.0 found.1;
    each = λ home by less.
        node_here (λ g. is_some (careofs home g)) by.agent (ap is_some (careof_is by.agent by.own by.preference by.life by.room by.serves by.is_agent home) ∙ by.registered) less;
  }

  -- mobiles, and where other nodes are
  pub mobiles_as_asked : AreMobilesAsAsked s events k
  mobiles_as_asked = record {
    mobile = λ n own agent is.
        let known : mobiles.Known = mobile_known_in s (run_at s events k) n own agent in
        subst (λ (past : List Entry). MovesAsAsked s past n own known) (sym front_is) (record {
          present =
              ap (present_from (run_at s events k).past n) (declared_of_run s (take k events) n (record { address = own; kind = Mobile agent }) is)
              ∙ found_as_told s (take k events) n own agent is;
          standing =
              ap (standing_from (run_at s events k).past n) (declared_of_run s (take k events) n (record { address = own; kind = Mobile agent }) is)
              ∙ ap (standing_by own) (found_as_told s (take k events) n own agent is)
              ∙ standing_is s (run_at s events k) n own agent;
          leaves = λ t home.
              leaves_is n (run_at s events k).past own known.standing t home
              ∙ ap (λ (o : Option Address). released o t) (sym
              (ap (leaves_from (run_at s events k).past n) (declared_of_run s (take k events) n (record { address = own; kind = Mobile agent }) is)
              ∙ ap (λ (st : Attachment). leaves_by n (run_at s events k).past own st) (ap (standing_by own) (found_as_told s (take k events) n own agent is) ∙ standing_is s (run_at s events k) n own agent)));
          agent = λ node. registered_as_told s (take k events) n own agent is node (now_in s (run_at s events k));
          through = λ node registered.
              ap (λ (o : Option Address). option_or o (last_sent_to (run_at s events k).past n)) (registered_as_told s (take k events) n own agent is node (now_in s (run_at s events k)))
              ∙ first_alone (registered_agent known (now_in s (run_at s events k))) (last_sent_to (run_at s events k).past n) known.agent registered;
          number = λ some. number_as_told s n own agent is some (take k events);
          bound = λ peer. bound_as_told s (take k events) n own agent is peer (now_in s (run_at s events k)) (omega arith);
        });
    others = λ n host is none.
        ap (λ (past : List Entry). present_told past n) front_is
        ∙ ap (present_from (run_at s events k).past n) (declared_of_run s (take k events) n host is)
        ∙ present_at_own s n (ap is_mobile_host is ∙ none) (take k events) host.address;
  }

pub permitted_front : (c : Content) (k : ℕ) → IsPermittedFront c k
unfolding permitted
permitted_front c k = front_is (setup_of c) c.events k

-- every place, with the entry that stands there
module _ (xs : List Entry) (place : ℕ) (e : Entry) (here : slice_get xs place ≡ Some e) where
  inside : place < length xs
  inside = slice_get_within xs place e here

  split_at : xs ≡ take place xs ++ e ∷ drop (place + 1) xs
  split_at =
      sym (take-append-drop (place + 1) xs)
      ∙ ap (λ (front : List Entry). front ++ drop (place + 1) xs) (take_more xs place e inside ∙ ap (λ (y : Entry). take place xs ++ y ∷ []) (get_or_from_slice_get xs place e e here))
      ∙ append_assoc (take place xs) (e ∷ []) (drop (place + 1) xs)

  before_length : length (take place xs) ≡ place
  before_length = length-take-le place xs (omega (arith, inside))

pub holder_found : (c : Content) (place : ℕ) → IsHolderFound c place
holder_found c place =
    let past : List Entry = permitted c in
    record {
      claimed = λ who link address here behind.
          let e : Entry = Claimed who link address in
          permitted_claimed c (take place past) who link address (drop (place + 1) past) (split_at past place e here) (omega (arith, behind, before_length past place e here));
      released = λ who link address here. permitted_released c (take place past) who link address (drop (place + 1) past) (split_at past place (Released who link address) here);
      taken = λ who link address holder here. permitted_taken c (take place past) who link address holder (drop (place + 1) past) (split_at past place (Taken who link address holder) here);
    }

pub held_bound : (c : Content) (place : ℕ) → IsHeldBound c place
held_bound c place =
    let past : List Entry = permitted c in
    record {
      held = λ n home careof is. permitted_held c (take place past) (drop place past) n home careof (sym (take-append-drop place past)) is;
      some = λ n home careof is.
          let f = holds_some (accepted_by (setup_of c).start (take place past) n) home (moment_in (setup_of c).start (take place past)) careof is in
          (f.0, permitted_under c (take place past) (drop place past) n home f.0 careof (sym (take-append-drop place past)) f.1);
      under = λ n home number careof is. permitted_under c (take place past) (drop place past) n home number careof (sym (take-append-drop place past)) is;
    }

-- the schedule of the first k events has the history that lies before their place
abbrev first_events : Content → ℕ → Content
first_events c k = record { version = c.version; seed = c.seed; start = c.start; declarations = c.declarations; events = take k c.events }

pub registered_at : (c : Content) (k : ℕ) → AreRegistered c k
unfolding permitted
registered_at c k n home careof mine is =
    let same : front_at (setup_of c) c.events k ≡ permitted (first_events c k) = front_is (setup_of c) c.events k in
    subst (λ (past : List Entry). IsRegistered (setup_of c) past n home careof) (sym same)
    (permitted_registered (first_events c k) n home careof mine (ap (λ (past : List Entry). registered_in (setup_of c) past n home) (sym same) ∙ is))

-- the agents that an agent knows of
pub listed_as_asked : (c : Content) (k : ℕ) → AreListedAsAsked c k
listed_as_asked c k apart small n own preference life room serves is =
    ap (λ (past : List Entry). agents_in (router_of c.declarations) c.start.0 past n) (front_is (setup_of c) c.events k)
    ∙ agents_as_told c (take k c.events) apart small n own preference life room serves is

-- the agent of a mobile, whether it is registered or not
pub through_as_asked : (s : Setup) (events : List Event) (k : ℕ) → IsThroughAsAsked s events k
through_as_asked s events k n own agent is node are =
    let known : mobiles.Known = mobile_known_in s (run_at s events k) n own agent in
    let now : ℕ = now_in s (run_at s events k) in
    ap (λ (past : List Entry). agent_of_told (moment_in s.start past) past n) (front_is s events k)
    ∙ ap (λ (o : Option Address). option_or o (last_sent_to (run_at s events k).past n)) (registered_as_told s (take k events) n own agent is node now)
    ∙ ap (λ (o : Option Address). option_or (registered_agent known now) o) (sent_as_told s n own agent is (take k events) are)
    ∙ sym (ap (λ (past : List Entry). agent_of known (moment_in s.start past)) (front_is s events k))
