-- Data that its sender does not put into a tunnel arrives.
use Rattle.std.proofs.Common.{◌≡◌, ◌≢◌, ℕ, zero, suc, replicate, ◌<◌, ◌≤◌, ◌^◌, List, [], ◌∷◌, ◌++◌, Bool, true, false, length, ◌⊎◌, inl, inr, refl, sym, ap, ◌∙◌, subst, arith}
use Rattle.std.specs.Prelude.{Option, Some, None, is_some, option_map, unwrap_or, not, ◌&&◌, ◌==◌, slice_get}
use Rattle.std.proofs.lemmas.Bool.{eq-eqb, eqb-true, eqb-false}
use Rattle.std.proofs.lemmas.Option.{slice_get_within}
use Rattle.mip_words.specs.Addresses.{is_routable}
use Rattle.mip_words.specs.declared.address.Address.{Address}
use Rattle.mip_ipv6.specs.declared.head.Head.{Head}
use Rattle.mip_ipv6.specs.Packet.{names_no_body, is_routable_if_any}
use Rattle.mip_ipv6.specs.PacketLaws.{IsAddressIfAny}
use Rattle.mip_binding.specs.Held.{held}
use Rattle.mip_packets.specs.Packets.{data_packet}
use Rattle.mip_links.specs.Table.{holder_outside}
use Rattle.mip_rules_correspondent.specs.Questions.{held_of}
use Rattle.mip_rules_correspondent.specs.Doing as part_doing
use Rattle.mip_rules_mobile.specs.declared.attachment.Attachment.{Attachment}
use Rattle.mip_rules_mobile.specs.declared.attachment.Attachment.TheVariants.{AtHome, Away}
use Rattle.mip_rules_mobile.specs.Known.{Known}
use Rattle.mip_rules_mobile.specs.HomeQuestions.{home_of, registered_agent}
use Rattle.mip_rules_mobile.specs.RowQuestions.{bound_row_of}
use Rattle.mip_rules_mobile.specs.Sendings as sendings
use Rattle.mip_rules_mobile.proofs.Shielding.{past-home}
use Rattle.mip_schedule.specs.declared.event.Event.{Event}
use Rattle.mip_schedule.specs.declared.event.Event.TheVariants.{Carry}
use Rattle.mip_history.specs.Setup.{Setup}
use Rattle.mip_history.specs.Setup.Kind.{Mobile}
use Rattle.mip_history.specs.Runs.{Run, mobile_past_at}
use Rattle.mip_history.specs.Knowing.{now_in, secrets_in, known_in, mobile_known_in}
use Rattle.mip_history.specs.Bound.{accepted_by}
use Rattle.mip_history.specs.Permitted.{happens, run_of}
use Rattle.mip_history.specs.Found.{address_of}
use Rattle.mip_history.specs.Told.{is_bound_in}
use Rattle.mip_history.specs.Settled.{is_held_right, is_bound_right}
use Rattle.mip_history.proofs.Histories.{run_held, part_held}
use Rattle.mip_settled.proofs.AsTold.{found_as_told, registered_as_told, bound_as_told}
use Rattle.mip_law_delivery.specs.Orderly.{IsOrderly}
use Rattle.mip_law_delivery.specs.Legs.{CanBeSent, sends_from}
use Rattle.mip_law_delivery.specs.Stretches.{run_on, left_by, split}
use Rattle.mip_law_delivery.specs.StretchesLaws.{AreSingle}
use Rattle.mip_law_delivery.specs.Quiet.{IsQuiet}
use Rattle.mip_law_delivery.specs.Reached.{sending, SendsOne, IsHandedUp, IsAllDelivered, AreSettledEnds, IsPayload}
use Rattle.mip_law_delivery.specs.ReachedLaws.{SendsStraight, EachReachesStraight}
use Rattle.mip_law_delivery.proofs.Leaving.{correspondent_leaves, mobile_leaves}
use Rattle.mip_law_delivery.proofs.Taking.{NoOther, no_other}
use Rattle.mip_law_delivery.proofs.Lasting.{run_of_append}
use Rattle.mip_law_delivery.proofs.Holding.{held_on_link, in_range, known_abroad}
use Rattle.mip_law_delivery.proofs.Settling.{IsPresent, AreSettled, away_parts, IsCorrespondentAt, IsMobileAt, end_kind}
use Rattle.mip_law_delivery.proofs.Carrying.{Way, head_on, Carries, can_be_sent, carries_sent}
use Rattle.mip_law_delivery.proofs.Receiving.{stands_home, stands_away, IsNamed}
use Rattle.mip_law_delivery.proofs.Posting.{Posts, posted_stays, correspondent_posts, home_posts, bound_posts}
use Rattle.mip_law_delivery.proofs.Joining.{handed_up_is, within}
use Rattle.mip_law_delivery.proofs.Arriving.{parts as arriving_parts, arrives_plain, arrives_routed}

-- a number that is not another one
pub plain_of : (n : ℕ) {proto : ℕ} → (proto == n) ≡ false → proto ≢ n
plain_of n {proto} is = eqb-false proto n is

-- the way of data to an address, through it where a care-of address is held for it
abbrev pub way_to : (source : Address) (home : Option Address) (to : Address) (proto : ℕ) (payload : List ℕ) → Option Address → Way
way_to source home to proto payload None = record { source = source; destination = to; route = None; home = home; proto = proto; payload = payload }
way_to source home to proto payload (Some careof) = record { source = source; destination = careof; route = Some to; home = home; proto = proto; payload = payload }

-- it is written as a node does
pub at_home_is : (own to : Address) (proto : ℕ) (payload : List ℕ) (o : Option Address) → part_doing.data_head own to proto o ≡ head_on (way_to own None to proto payload o) 64
at_home_is own to proto payload None = refl
at_home_is own to proto payload (Some careof) = refl

bound_is : (own careof to : Address) (proto : ℕ) (payload : List ℕ) (o : Option Address) → sendings.data_head own careof to proto o ≡ head_on (way_to careof (Some own) to proto payload o) 64
bound_is own careof to proto payload None = refl
bound_is own careof to proto payload (Some held) = refl

module _ (source : Address) (home : Option Address) (to : Address) (proto : ℕ) (payload : List ℕ) where
  proto_is : (o : Option Address) → (way_to source home to proto payload o).proto ≡ proto
  proto_is None = refl
  proto_is (Some careof) = refl

  -- it can be written
  pub sent_can : (o : Option Address) → names_no_body proto ≡ false → length payload ≤ 512 → is_routable to.0 ≡ true → is_routable_if_any home ≡ true → source.0 < 2 ^ 128 → to.0 < 2 ^ 128
      → IsAddressIfAny home → ((careof : Address) → o ≡ Some careof → careof.0 < 2 ^ 128) → CanBeSent (head_on (way_to source home to proto payload o) 64) payload
  sent_can None body short routable home_routable first second third each =
      can_be_sent (way_to source home to proto payload None) (rw (body, home_routable) refl) (record { source = first; destination = second; class = omega arith; route = tt; home = third }) short
  sent_can (Some careof) body short routable home_routable first second third each =
      can_be_sent (way_to source home to proto payload (Some careof)) (rw (body, routable, home_routable) refl)
      (record { source = first; destination = each careof refl; class = omega arith; route = second; home = third }) short

  pub sent_carries : (o : Option Address) → CanBeSent (head_on (way_to source home to proto payload o) 64) payload → length payload ≤ 512
      → Carries (way_to source home to proto payload o) 64 (data_packet (head_on (way_to source home to proto payload o) 64) payload)
  sent_carries None can short = carries_sent (way_to source home to proto payload None) can short
  sent_carries (Some careof) can short = carries_sent (way_to source home to proto payload (Some careof)) can short

module _ (s : Setup) (orderly : IsOrderly s) (before more : List Event) (single : AreSingle more) (x y : ℕ) (own to : Address) (proto : ℕ) (payload : List ℕ) (is_payload : IsPayload proto payload)
    (ends : AreSettledEnds s (run_of s before) x y own to) where
  abbrev pub start : Run
  start = run_of s before

  abbrev pub first : Event
  first = sending x to proto payload

  abbrev pub firsts : List Event
  firsts = before ++ first ∷ []

  abbrev pub parts : AreSettled s.start start.past x y own to
  parts = arriving_parts s orderly before more single x y own to proto payload ends

  abbrev pub here : IsPresent s.start start.past x y own to
  here = parts.sender

  abbrev pub there : IsPresent s.start start.past y x to own
  there = parts.receiver

  abbrev pub held_there : Option ℕ
  held_there = held (accepted_by s.start start.past x) to.0 (now_in s start)

  pub kind_of : (n : ℕ) (a : Address) → IsCorrespondentAt s n a ⊎ IsMobileAt s n a → (n < 32) × (is_routable a.0 ≡ true) × (a.0 < 2 ^ 128)
  kind_of n a (inl k) = (omega (arith, orderly.few, slice_get_within s.hosts n _ k.1), orderly.routable n _ k.1, in_range s orderly a.0 (orderly.linked n _ k.1))
  kind_of n a (inr k) = (omega (arith, orderly.few, slice_get_within s.hosts n _ k.1), orderly.routable n _ k.1, in_range s orderly a.0 (orderly.linked n _ k.1))

  -- what is held for the destination is in range
  pub held_range : (o : Option Address) → option_map (λ a. a.0) o ≡ held_there → (careof : Address) → o ≡ Some careof → careof.0 < 2 ^ 128
  held_range o is careof some =
      let right : is_held_right to there.present (Some careof.0) ≡ true =
      ap (is_held_right to there.present) (sym (ap (λ (p : Option Address). option_map (λ (a : Address). a.0) p) some) ∙ is) ∙ there.right in
      let same : careof.0 ≡ there.present.0 = by (careof.0 == there.present.0) refl right in
      subst (λ (a : ℕ). a < 2 ^ 128) (sym same) (in_range s orderly there.present.0 (held_on_link s orderly there.present.0 before y there.holds))
    where
      by : (b : Bool) → (careof.0 == there.present.0) ≡ b → (b && not (there.present.0 == to.0)) ≡ true → careof.0 ≡ there.present.0
      by true e t = eqb-true careof.0 there.present.0 e
      by false e t = absurd cc

  -- what is sent without a tunnel arrives
  module _ (source : Address) (home : Option Address) (o : Option Address) (held_is : option_map (λ a. a.0) o ≡ held_there) (first_range : source.0 < 2 ^ 128) (home_range : IsAddressIfAny home)
      (home_routable : is_routable_if_any home ≡ true) (named_here : (home ≡ None) ⊎ ((home ≡ Some own) × (held (accepted_by s.start start.past y) own.0 (now_in s start) ≡ Some source.0))) (named_own : unwrap_or home source ≡ own) where
    abbrev w : Way
    w = way_to source home to proto payload o

    kind_y : (y < 32) × (is_routable to.0 ≡ true) × (to.0 < 2 ^ 128)
    kind_y = kind_of y to (end_kind s before y to ends.receiver ends.destination)

    carries : Carries w 64 (data_packet (head_on w 64) payload)
    carries =
        sent_carries source home to proto payload o
        (sent_can source home to proto payload o is_payload.body is_payload.short kind_y.1 home_routable first_range kind_y.2 home_range (held_range o held_is)) is_payload.short

    goes : Posts s start (happens s start first) (data_packet (head_on w 64) payload) → IsQuiet s start (first ∷ more) x y → IsAllDelivered s (run_of s firsts) more (length start.posts) → IsHandedUp s (run_of s firsts) more (length start.posts) y own to proto payload
    goes posts quiet all = by o held_is posts carries named_way
      where
        other : NoOther proto
        other = no_other proto is_payload.of_data

        named_way : (p : Option Address) → IsNamed s before y own (way_to source home to proto payload p)
        named_way None = named_here
        named_way (Some careof) = named_here

        same : run_of s firsts ≡ happens s start first
        same = run_of_append s before (first ∷ [])

        by : (p : Option Address) → option_map (λ a. a.0) p ≡ held_there → Posts s start (happens s start first) (data_packet (head_on (way_to source home to proto payload p) 64) payload)
            → Carries (way_to source home to proto payload p) 64 (data_packet (head_on (way_to source home to proto payload p) 64) payload) → ((q : Option Address) → IsNamed s before y own (way_to source home to proto payload q))
            → IsHandedUp s (run_of s firsts) more (length start.posts) y own to proto payload
        by None is posts written named =
            let v : Way = way_to source home to proto payload None in
            let few : y < 32 = kind_y.0 in
            let posted = ap (λ (r : Run). slice_get (run_on s r more).posts (length start.posts)) same ∙ posted_stays s start (happens s start first) (data_packet (head_on v 64) payload) posts more in
            handed_up_is s firsts more single v (plain_of 41 (other.tunnel)) y few (length start.posts) own to named_own refl
            (within s firsts more single v (plain_of 41 (other.tunnel)) y few 1 2 (length start.posts) (omega arith)
            (arrives_plain s orderly before more single x y own to proto payload ends quiet v is_payload.of_data (plain_of 135 (other.message)) (plain_of 41 (other.tunnel)) few (named None) refl refl
            (length start.posts) posts.link 64 (data_packet (head_on v 64) payload) posted written (omega arith) all))
        by (Some careof) is posts written named =
            let v : Way = way_to source home to proto payload (Some careof) in
            let few : y < 32 = kind_y.0 in
            let right : is_held_right to there.present (Some careof.0) ≡ true = ap (is_held_right to there.present) is ∙ there.right in
            let posted = ap (λ (r : Run). slice_get (run_on s r more).posts (length start.posts)) same ∙ posted_stays s start (happens s start first) (data_packet (head_on v 64) payload) posts more in
            handed_up_is s firsts more single v (plain_of 41 (other.tunnel)) y few (length start.posts) own to named_own refl
            (within s firsts more single v (plain_of 41 (other.tunnel)) y few 1 2 (length start.posts) (omega arith)
            (arrives_routed s orderly before more single x y own to proto payload ends quiet v is_payload.of_data (plain_of 135 (other.message)) (plain_of 41 (other.tunnel)) few (named (Some careof)) careof refl refl right
            (length start.posts) posts.link 64 (data_packet (head_on v 64) payload) posted written (omega arith) all))

  -- the case of each sender
  abbrev pub ArrivesUp : Type 0
  ArrivesUp = IsQuiet s start (first ∷ more) x y → IsAllDelivered s (run_of s firsts) more (length start.posts) → IsHandedUp s (run_of s firsts) more (length start.posts) y own to proto payload

  pub record GoesOut : Type 0 where
    pub one : SendsOne (left_by s start (first ∷ [])) (length start.posts) x
    pub arrives : ArrivesUp

  from_correspondent : IsCorrespondentAt s x own → GoesOut
  from_correspondent k =
      let o : Option Address = held_of (known_in s start x k.0) (now_in s start) to in
      let ranges = kind_of x own (inl k) in
      record {
        one = correspondent_leaves s start x own to proto payload k.0 k.1;
        arrives =
            goes own None o (run_held s before x own k.0 to k.1) ranges.2 tt refl (inl refl) refl
            (subst (λ (h : Head). Posts s start (happens s start first) (data_packet h payload)) (at_home_is own to proto payload o) (correspondent_posts s start x own to proto payload k.0 k.1));
      }

  module _ (agent : Option Address) (host : slice_get s.hosts x ≡ Some (record { address = own; kind = Mobile agent })) where
    abbrev k : Known
    k = mobile_known_in s start x own agent

    home_is : home_of k ≡ own
    home_is = past-home own agent s.numbers (secrets_in s x 0) (mobile_past_at start x)

    uses : Some here.present ≡ address_of own k.standing
    uses = sym here.found ∙ found_as_told s before x own agent host

    abbrev part_o : Option Address
    part_o = held_of k.part.known (now_in s start) to

    ranges : (x < 32) × (is_routable own.0 ≡ true) × (own.0 < 2 ^ 128)
    ranges = kind_of x own (inr (agent, host))

    from_home : (here.present.0 == own.0) ≡ true → GoesOut
    from_home at =
        let st : k.standing ≡ AtHome = stands_home own here.present k.standing (known_abroad own agent s.numbers (secrets_in s x 0) (mobile_past_at start x)) at uses in
        record {
          one = mobile_leaves s start x own to proto payload agent host (ap (λ (z : Attachment). sends_from z (registered_agent k (now_in s start))) st);
          arrives =
              goes own None part_o (part_held s before x own agent to host) ranges.2 tt refl (inl refl) refl
              (subst (λ (h : Head). Posts s start (happens s start first) (data_packet h payload))
              (ap (λ (a : Address). part_doing.data_head a to proto part_o) home_is ∙ at_home_is own to proto payload part_o) (home_posts s start x own to proto payload agent host st));
        }

    from_binding : (here.present.0 == own.0) ≡ false → is_bound_in (now_in s start) start.past x to ≡ true → GoesOut
    from_binding apart bound =
        let st : k.standing ≡ Away here.present = stands_away own here.present k.standing apart uses in
        let away = away_parts (now_in s start) start.past x own here.present here.placed apart in
        let node : (o : ℕ) → x ≢ holder_outside o = λ o same. omega (arith, ranges.0, same) in
        let registered : registered_agent k (now_in s start) ≡ Some away.agent = sym (registered_as_told s before x own agent host node (now_in s start)) ∙ away.registered in
        by (bound_row_of k (now_in s start) to) refl st (ap (λ (o : Option Address). is_some o) registered) (sym bound ∙ bound_as_told s before x own agent host to (now_in s start) (omega arith))
      where
        held_right : held (accepted_by s.start start.past y) own.0 (now_in s start) ≡ Some here.present.0
        held_right = at (held (accepted_by s.start start.past y) own.0 (now_in s start)) (ap (λ (b : Bool). is_bound_right b here.present (held (accepted_by s.start start.past y) own.0 (now_in s start))) (sym bound) ∙ here.bound)
          where
            at : (o : Option ℕ) → is_bound_right true here.present o ≡ true → o ≡ Some here.present.0
            at None e = absurd cc
            at (Some careof) e = ap (λ (n : ℕ). Some n) (eqb-true careof here.present.0 e)

        by : (row : Option ℕ) → bound_row_of k (now_in s start) to ≡ row → k.standing ≡ Away here.present → is_some (registered_agent k (now_in s start)) ≡ true → true ≡ is_some (bound_row_of k (now_in s start) to) → GoesOut
        by None is st registered e = absurd (let both : true ≡ false = e ∙ ap (λ (o : Option ℕ). is_some o) is in cc)
        by (Some row) is st registered e = record {
          one =
              mobile_leaves s start x own to proto payload agent host
              (ap (λ (z : Attachment). sends_from z (registered_agent k (now_in s start))) st ∙ registered);
          arrives =
              goes here.present (Some own) part_o (part_held s before x own agent to host) (in_range s orderly here.present.0 (held_on_link s orderly here.present.0 before x here.holds)) ranges.2 ranges.1
              (inr (refl, held_right)) refl
              (subst (λ (h : Head). Posts s start (happens s start first) (data_packet h payload))
              (ap (λ (a : Address). sendings.data_head a here.present to proto part_o) home_is ∙ bound_is own here.present to proto payload part_o)
              (bound_posts s start x own to proto payload agent host here.present row st is));
        }

    pub from_mobile : SendsStraight s start x own to → GoesOut
    from_mobile straight = by (here.present.0 == own.0) refl straight
      where
        by : (b : Bool) → (here.present.0 == own.0) ≡ b → SendsStraight s start x own to → GoesOut
        by true at z = from_home at
        by false apart (inl home) =
            absurd (let same : (let o : Option Address = Some here.present in o) ≡ Some own = sym here.found ∙ home in
            let one : here.present ≡ own = cc in
            let both : true ≡ false = sym (eq-eqb here.present.0 own.0 (ap (λ (a : Address). a.0) one)) ∙ apart in cc)
        by false apart (inr bound) = from_binding apart bound

  pub straight_goes_out : SendsStraight s start x own to → GoesOut
  straight_goes_out straight = by (end_kind s before x own ends.sender ends.source)
    where
      by : IsCorrespondentAt s x own ⊎ IsMobileAt s x own → GoesOut
      by (inl k) = from_correspondent k
      by (inr k) = from_mobile k.0 k.1 straight

-- each event of a list in which `carry N` stands as N times `carry 1` carries one packet at most
replicated : (n : ℕ) → AreSingle (replicate n (Carry 1))
replicated zero = tt
replicated (suc n) = (refl, replicated n)

singles_both : (xs ys : List Event) → AreSingle xs → AreSingle ys → AreSingle (xs ++ ys)
singles_both [] ys p q = q
singles_both (e ∷ xs) ys p q = (p.0, singles_both xs ys p.1 q)

pub split_single : (events : List Event) → AreSingle (split events)
split_single [] = tt
split_single (Carry count ∷ events) = singles_both (replicate count (Carry 1)) (split events) (replicated count) (split_single events)
split_single (event ∷ events) = (tt, split_single events)

pub singles_behind : (front rest : List Event) → AreSingle (front ++ rest) → AreSingle rest
singles_behind [] rest all = all
singles_behind (e ∷ front) rest all = singles_behind front rest all.1

pub singles_front : (front rest : List Event) → AreSingle (front ++ rest) → AreSingle front
singles_front [] rest all = tt
singles_front (e ∷ front) rest all = (all.0, singles_front front rest all.1)

pub each_straight : (s : Setup) (events : List Event) → IsOrderly s → EachReachesStraight s events
each_straight s events orderly before more rest x y own to proto payload whole is_payload straight ends =
    let behind : AreSingle (sending x to proto payload ∷ (more ++ rest)) = singles_behind before (sending x to proto payload ∷ (more ++ rest)) (subst AreSingle whole (split_single events)) in
    let single : AreSingle more = singles_front more rest behind.1 in
    let g = straight_goes_out s orderly before more single x y own to proto payload is_payload ends straight in
    let same : run_of s (before ++ sending x to proto payload ∷ []) ≡ run_on s (run_of s before) (sending x to proto payload ∷ []) = run_of_append s before (sending x to proto payload ∷ []) in
    record {
      one = g.one;
      arrives = λ quiet all.
          subst (λ (r : Run). IsHandedUp s r more (length (run_of s before).posts) y own to proto payload) same
          (g.arrives quiet (subst (λ (r : Run). IsAllDelivered s r more (length (run_of s before).posts)) (sym same) all));
    }
