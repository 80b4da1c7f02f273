-- What a node of a run does with data that it is handed, by what it knows then: an end hands it up, an agent sends it on.
use Rattle.std.proofs.Common.{◌≡◌, ◌≢◌, ℕ, ◌≤◌, List, [], ◌∷◌, Bool, true, false, refl, sym, ap, ◌∙◌, arith}
use Rattle.std.specs.Prelude.{Option, Some, None, is_some, Ok, ◌||◌, ◌==◌, slice_get}
use Rattle.std.proofs.lemmas.Bool.{cond-false, eq-eqb, ne_eqb, not_from_true}
use Rattle.mip_words.specs.declared.address.Address.{Address}
use Rattle.mip_words.specs.declared.shield.Shield.{Shield}
use Rattle.mip_ipv6.specs.Packet.{Packet}
use Rattle.mip_entries.specs.declared.answer.Answer.TheVariants.{Send}
use Rattle.mip_ipv6.specs.Tunnel.{inner, opened, encapsulated}
use Rattle.mip_rules_correspondent.specs.Rules as correspondents
use Rattle.mip_rules_correspondent.specs.Rules.{is_data, place_in, holds_option}
use Rattle.mip_rules_agent.specs.Rules as agents
use Rattle.mip_rules_agent.specs.Questions.{careof_at}
use Rattle.mip_rules_agent.specs.Rules.{is_careof, anycast_of, shield_for}
use Rattle.mip_rules_mobile.specs.HomeQuestions.{home_of, agent_of}
use Rattle.mip_rules_mobile.specs.Known.{Known}
use Rattle.mip_rules_mobile.specs.ReceivingRules as mobiles
use Rattle.mip_history.specs.Setup.{Setup}
use Rattle.mip_history.specs.Setup.Kind.{Correspondent, Agent, Mobile}
use Rattle.mip_history.specs.Runs.{Run}
use Rattle.mip_history.specs.Calls.{Take}
use Rattle.mip_history.specs.Knowing as knowing
use Rattle.mip_history.specs.Knowing.{link_or_first, now_in, identity_in, known_in, agent_known_in, mobile_known_in}
use Rattle.mip_history.specs.Nodes.{acts}
use Rattle.mip_law_delivery.proofs.Passing.{caught, passed, data_passed}
use Rattle.mip_law_delivery.proofs.Taking.{taken_by_correspondent, taken_straight, taken_tunnelled}
use Rattle.mip_law_delivery.proofs.Carrying.{Way, head_on, data_on, Carries, Tunnels}
use Rattle.mip_law_delivery.proofs.Delivering.{IsBeside, LeavesFirst, LeavesPost, up_entry, head_read, correspondent_hands_up, mobile_hands_up, agent_sends}

module _ (s : Setup) (run : Run) (n : ℕ) where
  -- handed data on this way, node n hands it up
  abbrev pub TakesStraight : Way → Type 0
  TakesStraight w =
      (beside : Run) → IsBeside run beside → (number hop : ℕ) (bytes : List ℕ) → Carries w hop bytes → LeavesFirst beside (acts s n (Take number None bytes) beside) (up_entry n number (data_on w hop))

  -- or out of a tunnel between these addresses
  abbrev pub TakesTunnelled : (entry exit : Address) → Way → Type 0
  TakesTunnelled entry exit w =
      (beside : Run) → IsBeside run beside → (number hop : ℕ) (bytes : List ℕ) → Tunnels entry exit w hop bytes → LeavesFirst beside (acts s n (Take number None bytes) beside) (up_entry n number (data_on w hop))

  -- it puts the data into a tunnel to a care-of address
  abbrev pub Catches : (own careof : Address) → Way → Type 0
  Catches own careof w =
      (beside : Run) → IsBeside run beside → (number hop : ℕ) (bytes : List ℕ) → Carries w hop bytes → 2 ≤ hop
      → LeavesPost s n (link_or_first s own.0) beside (encapsulated own careof bytes) (acts s n (Take number None bytes) beside)

  -- it takes the data out of a tunnel from a care-of address, and sends it on
  abbrev pub PassesOn : (own careof : Address) → Way → Type 0
  PassesOn own careof w =
      (beside : Run) → IsBeside run beside → (number hop : ℕ) (bytes : List ℕ) → (t : Tunnels careof own w hop bytes)
      → LeavesPost s n (link_or_first s own.0) beside t.inner (acts s n (Take number None bytes) beside)

  module _ (own : Address) (w : Way) (of_data : is_data w.proto ≡ true) (plain : w.proto ≢ 135) where
    pub correspondent_straight : (room : ℕ) → slice_get s.hosts n ≡ Some (record { address = own; kind = Correspondent room })
        → w.destination.0 ≡ own.0 → is_some w.route ≡ false → (is_some w.home ≡ true → holds_option (known_in s run n room) (now_in s run) w.source w.home ≡ true) → TakesStraight w
    correspondent_straight room host mine straight holds beside is number hop bytes c =
        correspondent_hands_up s run beside is n own number None bytes room (data_on w hop) host
        (record {
          rest = [];
          is = taken_by_correspondent (identity_in s run n own room) (known_in s run n room) (now_in s run) number None bytes (data_on w hop) (record {
            read = c.read;
            plain = of_data;
            passes =
                data_passed (correspondents.standing_of (identity_in s run n own room) (known_in s run n room) (now_in s run) (head_on w hop)) (place_in bytes (data_on w hop)) (data_on w hop) plain
                (eq-eqb w.destination.0 own.0 mine) (λ e. absurd (let both : true ≡ false = sym e ∙ straight in cc)) holds;
          });
        })

    module _ (agent : Option Address) (host : slice_get s.hosts n ≡ Some (record { address = own; kind = Mobile agent })) where
      abbrev k : Known
      k = mobile_known_in s run n own agent

      pub mobile_straight : mobiles.is_address_of k.standing (home_of k) w.destination ≡ true → (is_some w.route ≡ true → mobiles.takes_route k.standing (home_of k) w.route ≡ true)
          → (is_some w.home ≡ true → holds_option k.part.known (now_in s run) w.source w.home ≡ true) → TakesStraight w
      mobile_straight mine routed holds beside is number hop bytes c =
          mobile_hands_up s run beside is n own number None bytes agent (data_on w hop) host
          (record {
            rest = [];
            is = taken_straight k (now_in s run) number None bytes (data_on w hop) (record {
              read = c.read;
              plain = of_data;
              passes = data_passed (mobiles.standing_of k (now_in s run) (head_on w hop)) (place_in bytes (data_on w hop)) (data_on w hop) plain mine routed holds;
            });
          })

      opens : (entry exit : Address) (hop : ℕ) (bytes : List ℕ) (t : Tunnels entry exit w hop bytes)
          → opened entry (record { head = record { source = entry; destination = exit; hop = t.outer; class = 0; flow = 0; route = None; home = None; proto = 41 }; body = t.inner }) ≡ Ok (data_on w hop)
      unfolding opened
      opens entry exit hop bytes t = cond-false _ _ _ (not_from_true _ (eq-eqb entry.0 entry.0 refl)) ∙ ap inner t.inside.read

      pub mobile_tunnelled : (entry exit : Address) → mobiles.is_address_of k.standing (home_of k) exit ≡ true → agent_of k (now_in s run) ≡ Some entry → w.destination.0 ≡ (home_of k).0 → is_some w.route ≡ false
          → (is_some w.home ≡ true → holds_option k.part.known (now_in s run) w.source w.home ≡ true) → TakesTunnelled entry exit w
      mobile_tunnelled entry exit mine is_agent home straight holds beside is number hop bytes t =
          let outer : Packet = record { head = record { source = entry; destination = exit; hop = t.outer; class = 0; flow = 0; route = None; home = None; proto = 41 }; body = t.inner } in
          mobile_hands_up s run beside is n own number None bytes agent (data_on w hop) host
          (taken_tunnelled k (now_in s run) number None bytes outer (data_on w hop) (record {
            read = t.read;
            tunnel = refl;
            passes = data_passed (mobiles.standing_of k (now_in s run) outer.head) (place_in bytes outer) outer (λ e. omega (arith, e)) mine (λ e. absurd cc) (λ e. absurd cc);
            agent = entry;
            is_agent = is_agent;
            inside = opens entry exit hop bytes t;
            plain = of_data;
            home = home;
            straight = straight;
            inner_passes =
                data_passed (mobiles.inner_standing k (now_in s run) (head_on w hop)) (place_in outer.body (data_on w hop)) (data_on w hop) plain refl
                (λ e. absurd (let both : true ≡ false = sym e ∙ straight in cc)) holds;
          }))

    module _ (preference life room : ℕ) (serves : List Address) (host : slice_get s.hosts n ≡ Some (record { address = own; kind = Agent preference life room serves })) where
      pub agent_catches : (careof : Address) → careof_at (agent_known_in run n serves) (now_in s run) w.destination ≡ Some careof → Catches own careof w
      agent_catches careof registered beside is number hop bytes c few =
          agent_sends s run beside is n own number None bytes preference life room serves (encapsulated own careof bytes) host (λ claim.
          caught (knowing.agent_of own preference life room) (agent_known_in run n serves) (now_in s run) number None bytes claim (data_on w hop) careof
          (record { read = c.read; registered = registered; hop = (let e = (head_read bytes (data_on w hop) c.read).1 in omega (arith, e, few)); size = c.size })
          ∙ ap (λ (o : Option Shield). Send o (encapsulated own careof bytes) ∷ []) (cond-false (w.proto == 135) _ _ (ne_eqb w.proto 135 plain)))

      pub agent_passes : (careof : Address) → careof_at (agent_known_in run n serves) (now_in s run) own ≡ None → is_careof (agent_known_in run n serves) (now_in s run) w.source careof ≡ true
          → w.destination.0 ≢ own.0 → PassesOn own careof w
      agent_passes careof homeless registered further beside is number hop bytes t =
          let outer : Packet = record { head = record { source = careof; destination = own; hop = t.outer; class = 0; flow = 0; route = None; home = None; proto = 41 }; body = t.inner } in
          agent_sends s run beside is n own number None bytes preference life room serves t.inner host (λ claim.
          passed (knowing.agent_of own preference life room) (agent_known_in run n serves) (now_in s run) number None bytes claim outer (data_on w hop) (record {
            read = t.read;
            tunnel = refl;
            exit = refl;
            own = homeless;
            passes =
                data_passed (agents.standing_of (knowing.agent_of own preference life room) (agent_known_in run n serves) (now_in s run) outer.head) (agents.place_in bytes outer) outer (λ e. omega (arith, e))
                (ap (λ (b : Bool). b || (own.0 == anycast_of own)) (eq-eqb own.0 own.0 refl)) (λ e. absurd cc) (λ e. absurd cc);
            inside = t.inside.read;
            registered = registered;
            further = further;
            plain = plain;
          }))
