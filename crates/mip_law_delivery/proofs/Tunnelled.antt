-- Data that its sender puts into the tunnel to its agent arrives.
use Rattle.std.proofs.Common.{◌≡◌, ◌≢◌, ℕ, ◌<◌, ◌≤◌, ◌^◌, List, [], ◌∷◌, ◌++◌, Bool, true, false, length, ◌⊎◌, inl, inr, refl, sym, ap, ◌∙◌, subst, arith, length-append}
use Rattle.std.specs.Prelude.{Option, Some, None, is_some, option_map, not, ◌==◌, slice_get}
use Rattle.std.specs.Option.{option_map_or}
use Rattle.std.proofs.lemmas.Bool.{and_parts, or_left, eq-eqb, eqb-true}
use Rattle.std.proofs.lemmas.Option.{slice_get_within}
use Rattle.mip_words.specs.Addresses.{is_routable}
use Rattle.mip_words.specs.declared.address.Address.{Address}
use Rattle.mip_ipv6.specs.declared.head.Head.{Head}
use Rattle.mip_words.specs.EachAfter.{EachAfter}
use Rattle.mip_binding.specs.Held.{held as held_by}
use Rattle.mip_entries.specs.declared.entry.Entry.{Entry}
use Rattle.mip_packets.specs.Packets.{data_packet}
use Rattle.mip_ipv6.specs.Tunnel.{encapsulated}
use Rattle.mip_links.specs.Table.{holder_outside}
use Rattle.mip_rules_correspondent.specs.Questions.{held_of}
use Rattle.mip_rules_correspondent.specs.Rules.{is_data}
use Rattle.mip_rules_correspondent.specs.Doing as part_doing
use Rattle.mip_rules_agent.specs.Questions.{careof_at}
use Rattle.mip_rules_mobile.specs.declared.attachment.Attachment.{Attachment}
use Rattle.mip_rules_mobile.specs.declared.attachment.Attachment.TheVariants.{Away}
use Rattle.mip_rules_mobile.specs.Known.{Known}
use Rattle.mip_rules_mobile.specs.HomeQuestions.{home_of, registered_agent}
use Rattle.mip_rules_mobile.specs.RowQuestions.{bound_row_of}
use Rattle.mip_rules_mobile.proofs.Shielding.{past-home}
use Rattle.mip_schedule.specs.Contents.{Content}
use Rattle.mip_schedule.specs.declared.event.Event.{Event}
use Rattle.mip_history.specs.Setup.{Setup, is_mobile_host, setup_of}
use Rattle.mip_history.specs.Setup.Kind.{Mobile}
use Rattle.mip_history.specs.Runs.{Run, mobile_past_at}
use Rattle.mip_history.specs.Questions.{holder_in, declared_in}
use Rattle.mip_history.specs.Knowing.{now_in, secrets_in, agent_known_in, mobile_known_in}
use Rattle.mip_history.specs.Bound.{accepted_by}
use Rattle.mip_history.specs.Registered.{is_agent_host}
use Rattle.mip_history.specs.Permitted.{opening_claims, opened, happens, permitted, run_of}
use Rattle.mip_history.specs.Found.{address_of}
use Rattle.mip_history.specs.Told.{is_bound_in, careof_in}
use Rattle.mip_history.specs.Settled.{is_held_right}
use Rattle.mip_history.proofs.Numbered.{IsNumbered}
use Rattle.mip_history.proofs.Numbers.{run_numbers}
use Rattle.mip_history.proofs.Bindings.{each_rest}
use Rattle.mip_history.proofs.Histories.{part_held}
use Rattle.mip_history.proofs.Registrations.{permitted_registered, run_careof}
use Rattle.mip_settled.proofs.AsTold.{found_as_told, registered_as_told, bound_as_told}
use Rattle.mip_settled.proofs.OfKinds.{present_at_own}
use Rattle.mip_law_delivery.specs.Orderly.{IsOrderly}
use Rattle.mip_law_delivery.specs.Legs.{CanBeSent, sends_from}
use Rattle.mip_law_delivery.specs.Stretches.{run_on}
use Rattle.mip_law_delivery.specs.StretchesLaws.{AreSingle}
use Rattle.mip_law_delivery.specs.Quiet.{Circle, has_node, has_address, is_loud, IsQuiet}
use Rattle.mip_law_delivery.specs.Reached.{sending, IsHandedUp, IsAllDelivered, AreSettledEnds, IsPayload, EachReaches}
use Rattle.mip_law_delivery.proofs.Leaving.{mobile_leaves}
use Rattle.mip_law_delivery.proofs.Taking.{NoOther, no_other}
use Rattle.mip_law_delivery.proofs.Lasting.{Stretch, past_begins, run_of_append, careof_stays}
use Rattle.mip_law_delivery.proofs.Holding.{held_on_link, in_range}
use Rattle.mip_law_delivery.proofs.Circles.{has_first_holder}
use Rattle.mip_law_delivery.proofs.Settling.{IsPresent, IsAway, away_parts, IsCorrespondentAt, IsMobileAt, end_kind}
use Rattle.mip_law_delivery.proofs.Carrying.{Way, head_on, Carries, carries_into}
use Rattle.mip_law_delivery.proofs.Happening.{FindsHolder}
use Rattle.mip_law_delivery.proofs.Ends.{PassesOn, agent_passes}
use Rattle.mip_law_delivery.proofs.Receiving.{IsAgentAt, agent_kind, address_is, stands_away}
use Rattle.mip_law_delivery.proofs.Posting.{Posts, posted_stays, tunnel_posts}
use Rattle.mip_law_delivery.proofs.Owning.{holder_along, own_held}
use Rattle.mip_law_delivery.proofs.Joining.{handed_up_is, passed_arrives}
use Rattle.mip_law_delivery.proofs.Arriving.{parts as arriving_parts, until, c, at_front, holds_on, arrives_plain, arrives_routed}
use Rattle.mip_law_delivery.proofs.Straightly.{plain_of, way_to, at_home_is, sent_can, sent_carries, kind_of, held_range, GoesOut, straight_goes_out, split_single, singles_behind, singles_front}

-- no agent has its own address registered
abbrev pub AreHomeless : Setup → Type 0
AreHomeless s = (events : List Event) (g : ℕ) (own : Address) → IsAgentAt s g own → careof_in (now_in s (run_of s events)) (run_of s events).past g own ≡ None

-- an end is no agent
not_agent : (s : Setup) (y g : ℕ) (to own : Address) → IsCorrespondentAt s y to ⊎ IsMobileAt s y to → IsAgentAt s g own → y ≢ g
not_agent s y g to own (inl k) a same = absurd (let both : false ≡ true = sym (ap is_agent_host k.1) ∙ ap (λ (n : ℕ). is_agent_host (slice_get s.hosts n)) same ∙ ap is_agent_host a.host in cc)
not_agent s y g to own (inr k) a same = absurd (let both : false ≡ true = sym (ap is_agent_host k.1) ∙ ap (λ (n : ℕ). is_agent_host (slice_get s.hosts n)) same ∙ ap is_agent_host a.host in cc)

pub homeless_of : (content : Content) → IsOrderly (setup_of content) → AreHomeless (setup_of content)
unfolding permitted
homeless_of content orderly events g own a = by (careof_in (now_in (setup_of content) (run_of (setup_of content) events)) (run_of (setup_of content) events).past g own) refl
  where
    by : (o : Option Address) → careof_in (now_in (setup_of content) (run_of (setup_of content) events)) (run_of (setup_of content) events).past g own ≡ o → o ≡ None
    by None is = refl
    by (Some careof) is =
        let registered = permitted_registered (record content { events = events }) g own careof (ap is_agent_host a.host) is in
        let sent = registered.stands.sent in
        let same : sent.mobile ≡ g = orderly.differ sent.mobile g _ _ sent.is_mobile a.host refl in
        absurd (not_agent (setup_of content) sent.mobile g own own (inr (sent.agent, sent.is_mobile)) a same)

module _ (s : Setup) (orderly : IsOrderly s) (homeless : AreHomeless s) (before more : List Event) (single : AreSingle more) (x y : ℕ) (own to : Address) (proto : ℕ) (payload : List ℕ)
    (is_payload : IsPayload proto payload) (ends : AreSettledEnds s (run_of s before) x y own to) (agent : Option Address) (host : slice_get s.hosts x ≡ Some (record { address = own; kind = Mobile agent })) where
  abbrev start : Run
  start = run_of s before

  abbrev first : Event
  first = sending x to proto payload

  abbrev firsts : List Event
  firsts = before ++ first ∷ []

  abbrev here : IsPresent s.start start.past x y own to
  here = (arriving_parts s orderly before more single x y own to proto payload ends).sender

  abbrev there : IsPresent s.start start.past y x to own
  there = (arriving_parts s orderly before more single x y own to proto payload ends).receiver

  abbrev k : Known
  k = mobile_known_in s start x own agent

  abbrev o : Option Address
  o = held_of k.part.known (now_in s start) to

  kind : IsCorrespondentAt s y to ⊎ IsMobileAt s y to
  kind = end_kind s before y to ends.receiver ends.destination

  home_is : home_of k ≡ own
  home_is = past-home own agent s.numbers (secrets_in s x 0) (mobile_past_at start x)

  module _ (apart : (here.present.0 == own.0) ≡ false) where
    away : IsAway (now_in s start) start.past x own here.present
    away = away_parts (now_in s start) start.past x own here.present here.placed apart

    has_careof : careof_in (now_in s start) start.past away.g own ≡ Some here.present
    has_careof = address_is (careof_in (now_in s start) start.past away.g own) here.present away.careof

    agent_at : IsAgentAt s away.g away.agent
    agent_at = agent_kind s before away.g (now_in s start) own here.present away.agent has_careof (address_is (declared_in start.past away.g) away.agent away.declared)

    held : holder_in start.past away.agent.0 ≡ Some away.g
    held = let a = agent_at in own_held s orderly away.g away.agent a.preference a.life a.room a.serves a.host before

    node : has_node (c s orderly before more single x y own to proto payload ends) away.g ≡ true
    node = has_first_holder start.past x y away.g own ends.source away.holds

    module _ (quiet : IsQuiet s start (first ∷ more) x y) where
      -- the agent holds its address on the way
      agent_holder : FindsHolder s (run_of s firsts) more away.agent.0 away.g
      agent_holder = holds_on s orderly before more single x y own to proto payload ends quiet away.agent away.g held (λ m st. stays m st ∙ sym held)
        where
          stays : (m : List Event) (st : Stretch s (c s orderly before more single x y own to proto payload ends) start (run_of s (until s orderly before more single x y own to proto payload ends m)))
              → holder_in (run_of s (until s orderly before more single x y own to proto payload ends m)).past away.agent.0 ≡ Some away.g
          stays m st =
              let evs : List Event = until s orderly before more single x y own to proto payload ends m in
              let opening = past_begins s (opened s) before in
              let long : length (opening_claims s) ≤ length start.past = omega (arith, ap length opening.whole, length-append (opening_claims s) opening.rest) in
              let numbered = run_numbers s evs in
              let each : EachAfter (IsNumbered s) start.past st.es = each_rest (IsNumbered s) [] start.past st.es (subst (λ (l : List Entry). EachAfter (IsNumbered s) [] l) st.whole numbered.each) in
              ap (λ (l : List Entry). holder_in l away.agent.0) st.whole
              ∙ holder_along s away.g away.agent.0 (is_loud circle) (λ who link address mine at. or_left (has_node circle who) (has_address circle address) (ap (has_node circle) mine ∙ node))
              start.past st.es long each st.silent held
            where
              circle : Circle
              circle = c s orderly before more single x y own to proto payload ends

      -- and sends on what comes out of the tunnel
      agent_passes_all : (w : Way) → is_data w.proto ≡ true → NoOther w.proto → w.source ≡ own → w.destination.0 ≢ away.agent.0 → (m : List Event)
          → Stretch s (c s orderly before more single x y own to proto payload ends) start (run_of s (until s orderly before more single x y own to proto payload ends m))
          → PassesOn s (run_of s (until s orderly before more single x y own to proto payload ends m)) away.g away.agent here.present w
      agent_passes_all w of_data other source further m st =
          let evs : List Event = until s orderly before more single x y own to proto payload ends m in
          let run : Run = run_of s evs in
          let a = agent_at in
          agent_passes s run away.g away.agent w of_data (plain_of 135 other.message) a.preference a.life a.room a.serves a.host here.present
          (run_careof s evs away.g away.agent a.preference a.life a.room a.serves away.agent a.host ∙ homeless evs away.g away.agent a)
          (ap (λ (h : Address). option_map_or (λ (z : Address). z.0 == here.present.0) (careof_at (agent_known_in run away.g a.serves) (now_in s run) h) false) source
          ∙ ap (λ (p : Option Address). option_map_or (λ (z : Address). z.0 == here.present.0) p false)
          (run_careof s evs away.g away.agent a.preference a.life a.room a.serves own a.host
          ∙ careof_stays s (c s orderly before more single x y own to proto payload ends) start run st away.g own node ∙ has_careof)
          ∙ eq-eqb here.present.0 here.present.0 refl)
          further

    careof_is : (careof : Address) → is_held_right to there.present (Some careof.0) ≡ true → careof.0 ≡ there.present.0
    careof_is careof right = let both = and_parts (careof.0 == there.present.0) (not (there.present.0 == to.0)) right in eqb-true careof.0 there.present.0 both.0

    -- neither end is found at the agent's address
    not_home : to.0 ≢ away.agent.0
    not_home same = by kind
      where
        by : IsCorrespondentAt s y to ⊎ IsMobileAt s y to → ⊥
        by (inl z) = not_agent s y away.g to away.agent (inl z) agent_at (orderly.differ y away.g _ _ z.1 agent_at.host same)
        by (inr z) = not_agent s y away.g to away.agent (inr z) agent_at (orderly.differ y away.g _ _ z.1 agent_at.host same)

    not_present : there.present.0 ≢ away.agent.0
    not_present same =
        let both : (let p : Option ℕ = Some y in p) ≡ Some away.g = sym there.holds ∙ ap (holder_in start.past) same ∙ held in
        not_agent s y away.g to away.agent kind agent_at (let one : y ≡ away.g = cc in one)

    pub from_tunnel : bound_row_of k (now_in s start) to ≡ None → GoesOut s orderly before more single x y own to proto payload is_payload ends
    from_tunnel unbound =
        let few : x < 32 = (kind_of s orderly before more single x y own to proto payload is_payload ends x own (inr (agent, host))).0 in
        let uses : Some here.present ≡ address_of own k.standing = sym here.found ∙ found_as_told s before x own agent host in
        let st : k.standing ≡ Away here.present = stands_away own here.present k.standing apart uses in
        let outside : (p : ℕ) → x ≢ holder_outside p = λ p same. omega (arith, few, same) in
        let registered : registered_agent k (now_in s start) ≡ Some away.agent = sym (registered_as_told s before x own agent host outside (now_in s start)) ∙ away.registered in
        let head : part_doing.data_head (home_of k) to proto o ≡ head_on (way_to own None to proto payload o) 64 = ap (λ (a : Address). part_doing.data_head a to proto o) home_is ∙ at_home_is own to proto payload o in
        let posts : Posts s start (happens s start first) (encapsulated here.present away.agent (data_packet (head_on (way_to own None to proto payload o) 64) payload)) =
        subst (λ (h : Head). Posts s start (happens s start first) (encapsulated here.present away.agent (data_packet h payload))) head
        (tunnel_posts s start x own to proto payload agent host here.present away.agent st unbound registered (subst (λ (h : Head). CanBeSent h payload) (sym head) can) (plain_of 135 other.message)) in
        record {
          one =
              mobile_leaves s start x own to proto payload agent host
              (ap (λ (z : Attachment). sends_from z (registered_agent k (now_in s start))) st ∙ ap (λ (p : Option Address). is_some p) registered);
          arrives = λ quiet all. by quiet all o (part_held s before x own agent to host) posts (sent_carries own None to proto payload o can is_payload.short);
        }
      where
        other : NoOther proto
        other = no_other proto is_payload.of_data

        of_x : (x < 32) × (is_routable own.0 ≡ true) × (own.0 < 2 ^ 128)
        of_x = kind_of s orderly before more single x y own to proto payload is_payload ends x own (inr (agent, host))

        of_y : (y < 32) × (is_routable to.0 ≡ true) × (to.0 < 2 ^ 128)
        of_y = kind_of s orderly before more single x y own to proto payload is_payload ends y to kind

        can : CanBeSent (head_on (way_to own None to proto payload o) 64) payload
        can =
            sent_can own None to proto payload o is_payload.body is_payload.short of_y.1 refl of_x.2 of_y.2 tt
            (held_range s orderly before more single x y own to proto payload is_payload ends o (part_held s before x own agent to host))

        entry : here.present.0 < 2 ^ 128
        entry = in_range s orderly here.present.0 (held_on_link s orderly here.present.0 before x here.holds)

        exit : away.agent.0 < 2 ^ 128
        exit = in_range s orderly away.agent.0 (orderly.linked away.g _ agent_at.host)

        small : away.g < 32
        small = omega (arith, orderly.few, slice_get_within s.hosts away.g _ agent_at.host)

        same : run_of s firsts ≡ happens s start first
        same = run_of_append s before (first ∷ [])

        by : IsQuiet s start (first ∷ more) x y → IsAllDelivered s (run_of s firsts) more (length start.posts) → (p : Option Address) → option_map (λ a. a.0) p ≡ held_by (accepted_by s.start start.past x) to.0 (now_in s start)
            → Posts s start (happens s start first) (encapsulated here.present away.agent (data_packet (head_on (way_to own None to proto payload p) 64) payload))
            → Carries (way_to own None to proto payload p) 64 (data_packet (head_on (way_to own None to proto payload p) 64) payload)
            → IsHandedUp s (run_of s firsts) more (length start.posts) y own to proto payload
        by quiet all None is posts written =
            let v : Way = way_to own None to proto payload None in
            let packet : List ℕ = data_packet (head_on v 64) payload in
            let posted = ap (λ (r : Run). slice_get (run_on s r more).posts (length start.posts)) same ∙ posted_stays s start (happens s start first) (encapsulated here.present away.agent packet) posts more in
            handed_up_is s firsts more single v (plain_of 41 other.tunnel) y of_y.0 (length start.posts) own to refl refl
            (passed_arrives s firsts more single v (plain_of 41 other.tunnel) y of_y.0 away.g away.agent here.present 1 small (agent_holder quiet)
            (at_front s orderly before more single x y own to proto payload ends quiet (λ (r : Run). PassesOn s r away.g away.agent here.present v) (agent_passes_all quiet v is_payload.of_data other refl not_home))
            (arrives_plain s orderly before more single x y own to proto payload ends quiet v is_payload.of_data (plain_of 135 other.message) (plain_of 41 other.tunnel) of_y.0 (inl refl) refl refl)
            (length start.posts) posts.link 63 (encapsulated here.present away.agent packet) posted (carries_into here.present away.agent v 64 packet entry exit written) (omega arith) (omega arith) all)
        by quiet all (Some careof) is posts written =
            let v : Way = way_to own None to proto payload (Some careof) in
            let packet : List ℕ = data_packet (head_on v 64) payload in
            let right : is_held_right to there.present (Some careof.0) ≡ true = ap (is_held_right to there.present) is ∙ there.right in
            let posted = ap (λ (r : Run). slice_get (run_on s r more).posts (length start.posts)) same ∙ posted_stays s start (happens s start first) (encapsulated here.present away.agent packet) posts more in
            handed_up_is s firsts more single v (plain_of 41 other.tunnel) y of_y.0 (length start.posts) own to refl refl
            (passed_arrives s firsts more single v (plain_of 41 other.tunnel) y of_y.0 away.g away.agent here.present 1 small (agent_holder quiet)
            (at_front s orderly before more single x y own to proto payload ends quiet (λ (r : Run). PassesOn s r away.g away.agent here.present v)
            (agent_passes_all quiet v is_payload.of_data other refl (λ e. not_present (sym (careof_is careof right) ∙ e))))
            (arrives_routed s orderly before more single x y own to proto payload ends quiet v is_payload.of_data (plain_of 135 other.message) (plain_of 41 other.tunnel) of_y.0 (inl refl) careof refl refl right)
            (length start.posts) posts.link 63 (encapsulated here.present away.agent packet) posted (carries_into here.present away.agent v 64 packet entry exit written) (omega arith) (omega arith) all)

module _ (s : Setup) (orderly : IsOrderly s) (homeless : AreHomeless s) (before more : List Event) (single : AreSingle more) (x y : ℕ) (own to : Address) (proto : ℕ) (payload : List ℕ)
    (is_payload : IsPayload proto payload) (ends : AreSettledEnds s (run_of s before) x y own to) where
  abbrev Out : Type 0
  Out = GoesOut s orderly before more single x y own to proto payload is_payload ends

  mobile_out : (agent : Option Address) → slice_get s.hosts x ≡ Some (record { address = own; kind = Mobile agent }) → Out
  mobile_out agent host = by (sender.present.0 == own.0) refl
    where
      sender : IsPresent s.start (run_of s before).past x y own to
      sender = (arriving_parts s orderly before more single x y own to proto payload ends).sender

      unbound : (row : Option ℕ) → is_some row ≡ false → row ≡ None
      unbound None e = refl
      unbound (Some n) e = absurd cc

      away : (sender.present.0 == own.0) ≡ false → (b : Bool) → is_bound_in (now_in s (run_of s before)) (run_of s before).past x to ≡ b → Out
      away apart true bound = straight_goes_out s orderly before more single x y own to proto payload is_payload ends (inr bound)
      away apart false none =
          from_tunnel s orderly homeless before more single x y own to proto payload is_payload ends agent host apart
          (unbound _ (sym (bound_as_told s before x own agent host to (now_in s (run_of s before)) (omega arith)) ∙ none))

      by : (b : Bool) → (sender.present.0 == own.0) ≡ b → Out
      by true home =
          straight_goes_out s orderly before more single x y own to proto payload is_payload ends
          (inl (sender.found ∙ ap (λ (n : ℕ). let a : Address = record { 0 = n } in Some a) (eqb-true sender.present.0 own.0 home)))
      by false apart = away apart (is_bound_in (now_in s (run_of s before)) (run_of s before).past x to) refl

  out : Out
  out = by (end_kind s before x own ends.sender ends.source)
    where
      by : IsCorrespondentAt s x own ⊎ IsMobileAt s x own → Out
      by (inl z) = straight_goes_out s orderly before more single x y own to proto payload is_payload ends (inl (present_at_own s x (ap is_mobile_host z.1) before own))
      by (inr z) = mobile_out z.0 z.1

pub each_reaches : (content : Content) (events : List Event) → IsOrderly (setup_of content) → EachReaches (setup_of content) events
each_reaches content events orderly before more rest x y own to proto payload whole is_payload ends =
    let s : Setup = setup_of content in
    let behind : AreSingle (sending x to proto payload ∷ (more ++ rest)) = singles_behind before (sending x to proto payload ∷ (more ++ rest)) (subst AreSingle whole (split_single events)) in
    let single : AreSingle more = singles_front more rest behind.1 in
    let g = out s orderly (homeless_of content orderly) before more single x y own to proto payload is_payload ends in
    let same : run_of s (before ++ sending x to proto payload ∷ []) ≡ run_on s (run_of s before) (sending x to proto payload ∷ []) = run_of_append s before (sending x to proto payload ∷ []) in
    record {
      one = g.one;
      arrives = λ quiet all.
          subst (λ (r : Run). IsHandedUp s r more (length (run_of s before).posts) y own to proto payload) same
          (g.arrives quiet (subst (λ (r : Run). IsAllDelivered s r more (length (run_of s before).posts)) (sym same) all));
    }
