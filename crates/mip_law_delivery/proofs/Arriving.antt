-- Data between two settled ends of a run: which packet goes out, and that it arrives.
use Rattle.std.proofs.Common.{◌≡◌, ◌≢◌, ℕ, ◌<◌, ◌≤◌, ◌^◌, List, [], ◌∷◌, ◌++◌, Bool, true, false, ◌⊎◌, inl, inr, refl, sym, ap, ◌∙◌, subst, arith}
use Rattle.std.specs.Prelude.{Option, Some, None, is_some, not, ◌==◌, slice_get}
use Rattle.std.specs.List.{list_any}
use Rattle.std.proofs.lemmas.Bool.{and_parts, eqb-true}
use Rattle.std.proofs.lemmas.Option.{slice_get_within}
use Rattle.mip_words.specs.declared.address.Address.{Address}
use Rattle.mip_words.specs.Asked.{asked}
use Rattle.mip_entries.specs.declared.entry.Entry.{Entry}
use Rattle.mip_links.specs.Table.{link_of}
use Rattle.mip_rules_correspondent.specs.Rules.{is_data}
use Rattle.mip_schedule.specs.declared.event.Event.{Event}
use Rattle.mip_history.specs.Setup.{Setup}
use Rattle.mip_history.specs.Runs.{Run}
use Rattle.mip_history.specs.Questions.{holder_in, declared_in}
use Rattle.mip_history.specs.Knowing.{now_in}
use Rattle.mip_history.specs.Permitted.{run_of}
use Rattle.mip_history.specs.Told.{present_in, careof_in}
use Rattle.mip_history.specs.Settled.{is_held_right}
use Rattle.mip_law_delivery.specs.Orderly.{IsOrderly}
use Rattle.mip_law_delivery.specs.Stretches.{run_on}
use Rattle.mip_law_delivery.specs.StretchesLaws.{AreSingle}
use Rattle.mip_law_delivery.specs.Quiet.{Circle, circle_of, IsQuiet}
use Rattle.mip_law_delivery.specs.Reached.{sending, AreSettledEnds, IsAllDelivered}
use Rattle.mip_settled.proofs.AsTold.{found_as_told}
use Rattle.mip_law_delivery.proofs.Silence.{is_loud_or_taken}
use Rattle.mip_law_delivery.proofs.Untaken.{found_says, found_so, untaken}
use Rattle.mip_law_delivery.proofs.Lasting.{Stretch, quiet_stretch, run_of_append, present_stays, holder_stays, held_stays, careof_stays, agent_stays}
use Rattle.mip_law_delivery.proofs.Holding.{held_on_link, in_range}
use Rattle.mip_law_delivery.proofs.Circles.{has_second, has_second_holder, has_home, has_present}
use Rattle.mip_law_delivery.proofs.Settling.{IsPresent, AreSettled, settled_parts, away_parts, IsCorrespondentAt, IsMobileAt, end_kind}
use Rattle.mip_law_delivery.proofs.Carrying.{Way, Carries}
use Rattle.mip_law_delivery.proofs.Happening.{FindsHolder}
use Rattle.mip_law_delivery.proofs.Ends.{TakesStraight, TakesTunnelled, Catches}
use Rattle.mip_law_delivery.proofs.Receiving.{IsAgentAt, agent_kind, address_is, IsNamed, away_mobile, home_straight, mobile_away, mobile_from_agent, home_catches}
use Rattle.mip_law_delivery.proofs.Joining.{bare, EachFront, ArrivesBy, straight_arrives, caught_arrives, within}

module _ (s : Setup) (orderly : IsOrderly s) (before more : List Event) (single : AreSingle more) (x y : ℕ) (own to : Address) (proto : ℕ) (payload : List ℕ)
    (ends : AreSettledEnds s (run_of s before) x y own to) where
  abbrev pub start : Run
  start = run_of s before

  abbrev pub first : Event
  first = sending x to proto payload

  abbrev pub firsts : List Event
  firsts = before ++ first ∷ []

  abbrev pub c : Circle
  c = circle_of start.past x y

  pub parts : AreSettled s.start start.past x y own to
  parts = settled_parts s.start start.past x y own to ends.source ends.destination ends.settled

  abbrev there : IsPresent s.start start.past y x to own
  there = parts.receiver

  abbrev present : Address
  present = there.present

  -- the events up to a place in the stretch
  abbrev pub until : List Event → List Event
  until m = before ++ first ∷ m

  until_is : (m : List Event) → run_of s (until m) ≡ run_on s (run_of s firsts) m
  until_is m = run_of_append s before (first ∷ m) ∙ ap (λ (r : Run). run_on s r m) (sym (run_of_append s before (first ∷ [])))

  module _ (quiet : IsQuiet s start (first ∷ more) x y) where
    stretch : (m : List Event) (event : Event) (after : List Event) → more ≡ m ++ event ∷ after → Stretch s c start (run_of s (until m))
    stretch m event after place =
        subst (Stretch s c start) (sym (run_of_append s before (first ∷ m)))
        (quiet_stretch s before (first ∷ m) (event ∷ after) x y (subst (λ (l : List Event). IsQuiet s start (first ∷ l) x y) place quiet))

    -- a fact at each place
    pub at_front : (P : Run → Type 0) → ((m : List Event) → Stretch s c start (run_of s (until m)) → P (run_of s (until m))) → EachFront s firsts more single P
    at_front P all m event after place = subst P (until_is m) (all m (stretch m event after place))

    -- who holds an address at the start and on the way
    pub holds_on : (a : Address) (n : ℕ) → holder_in start.past a.0 ≡ Some n → ((m : List Event) → Stretch s c start (run_of s (until m)) → holder_in (run_of s (until m)).past a.0 ≡ holder_in start.past a.0)
        → FindsHolder s (run_of s firsts) more a.0 n
    holds_on a n is stays m event after place =
        let on = some_link (link_of s.links a.0) (held_on_link s orderly a.0 before n is) in
        (on.0, on.1, ap (λ (r : Run). holder_in r.past a.0) (sym (until_is m)) ∙ stays m (stretch m event after place) ∙ is)
      where
        some_link : (o : Option ℕ) → is_some o ≡ true → (l : ℕ) × (o ≡ Some l)
        some_link None e = absurd cc
        some_link (Some l) e = (l, refl)

    present_holder : FindsHolder s (run_of s firsts) more present.0 y
    present_holder = holds_on present y there.holds (λ m st. holder_stays s c start (run_of s (until m)) st present (has_present start.past x y to present ends.destination there.found))

    home_holder : (g : ℕ) → holder_in start.past to.0 ≡ Some g → FindsHolder s (run_of s firsts) more to.0 g
    home_holder g is = holds_on to g is (λ m st. holder_stays s c start (run_of s (until m)) st to (has_home start.past x y to present ends.destination there.found))

    found : (m : List Event) → Stretch s c start (run_of s (until m)) → present_in (run_of s (until m)).past y to ≡ Some present
    found m st = present_stays s c start (run_of s (until m)) st y to (has_second start.past x y) ∙ there.found

    -- a mobile finds no address taken in the stretch
    untaken_on : y < 32 → IsMobileAt s y to → (m : List Event) (st : Stretch s c start (run_of s (until m))) → list_any (is_loud_or_taken c y (has_second start.past x y)) st.es ≡ false
    untaken_on few mobile m st =
        untaken c y (has_second start.past x y) to present start.past st.es st.silent
        (ap (λ (l : List Entry). asked (found_says y) (Some to) l) (sym st.whole)
        ∙ found_so s y to mobile.0 mobile.1 (λ o same. omega (arith, few, same)) (until m)
        ∙ sym (found_as_told s (until m) y to mobile.0 mobile.1) ∙ found m st)

    module _ (w : Way) (of_data : is_data w.proto ≡ true) (plain : w.proto ≢ 135) (single_packet : w.proto ≢ 41) (few : y < 32) (named : IsNamed s before y own w) where
      named_on : (m : List Event) → Stretch s c start (run_of s (until m)) → IsNamed s (until m) y own w
      named_on m st = by named
        where
          by : IsNamed s before y own w → IsNamed s (until m) y own w
          by (inl none) = inl none
          by (inr z) = inr (z.0, held_stays s c start (run_of s (until m)) st y own.0 (has_second start.past x y) ∙ z.1)

      abbrev Arrives : Type 0
      Arrives =
          (k fl hop : ℕ) (bytes : List ℕ) → slice_get (run_on s (run_of s firsts) more).posts k ≡ Some (bare fl bytes) → Carries w hop bytes → 3 ≤ hop → IsAllDelivered s (run_of s firsts) more k
          → ArrivesBy s firsts more single w single_packet y few 1 k

      abbrev Kind : Type 0
      Kind = IsCorrespondentAt s y to ⊎ IsMobileAt s y to

      kind : Kind
      kind = end_kind s before y to ends.receiver ends.destination

      -- at home
      arrives_home : (present.0 == to.0) ≡ true → w.destination ≡ to → is_some w.route ≡ false → Arrives
      arrives_home home destination straight k fl hop bytes posted carries many all =
          let holder : FindsHolder s (run_of s firsts) more w.destination.0 y =
          subst (λ (a : ℕ). FindsHolder s (run_of s firsts) more a y) (eqb-true present.0 to.0 home ∙ ap (λ (a : Address). a.0) (sym destination)) present_holder in
          within s firsts more single w single_packet y few 0 1 k (omega arith)
          (straight_arrives s firsts more single w single_packet y few holder
          (at_front (λ (r : Run). TakesStraight s r y w)
          (λ m st. home_straight s orderly (until m) y own to present (found m st) w of_data plain (named_on m st) kind home (ap (λ (a : Address). a.0) destination) straight))
          k fl hop bytes posted carries (omega (arith, many)) all)

      -- away, straight to where it is
      arrives_away : (present.0 == to.0) ≡ false → w.destination.0 ≡ present.0 → w.route ≡ Some to → Arrives
      arrives_away apart destination routed k fl hop bytes posted carries many all =
          let holder : FindsHolder s (run_of s firsts) more w.destination.0 y = subst (λ (a : ℕ). FindsHolder s (run_of s firsts) more a y) (sym destination) present_holder in
          let mobile = away_mobile s before y to present there.found apart kind in
          within s firsts more single w single_packet y few 0 1 k (omega arith)
          (straight_arrives s firsts more single w single_packet y few holder
          (at_front (λ (r : Run). TakesStraight s r y w)
          (λ m st. mobile_away s orderly (until m) y own to present (found m st) w of_data plain (named_on m st) mobile.0 mobile.1 apart destination routed))
          k fl hop bytes posted carries (omega (arith, many)) all)

      -- away, through its agent
      arrives_caught : (present.0 == to.0) ≡ false → w.destination ≡ to → is_some w.route ≡ false → Arrives
      arrives_caught apart destination straight k fl hop bytes posted carries many all =
          let away = away_parts (now_in s start) start.past y to present there.placed apart in
          let mobile = away_mobile s before y to present there.found apart kind in
          let registered : careof_in (now_in s start) start.past away.g to ≡ Some present = address_is (careof_in (now_in s start) start.past away.g to) present away.careof in
          let declared : declared_in start.past away.g ≡ Some away.agent = address_is (declared_in start.past away.g) away.agent away.declared in
          let agent : IsAgentAt s away.g away.agent = agent_kind s before away.g (now_in s start) to present away.agent registered declared in
          let node = has_second_holder start.past x y away.g to ends.destination away.holds in
          let small : away.g < 32 = omega (arith, orderly.few, slice_get_within s.hosts away.g _ agent.host) in
          let here : present.0 < 2 ^ 128 = in_range s orderly present.0 (held_on_link s orderly present.0 before y there.holds) in
          let entry : away.agent.0 < 2 ^ 128 = in_range s orderly away.agent.0 (orderly.linked away.g _ agent.host) in
          caught_arrives s firsts more single w single_packet y few away.agent present present_holder
          (at_front (λ (r : Run). TakesTunnelled s r y away.agent present w)
          (λ m st. mobile_from_agent s orderly (until m) y own to present (found m st) w of_data plain (named_on m st) mobile.0 mobile.1 apart away.agent present refl
          (agent_stays s c start (run_of s (until m)) st y (has_second start.past x y) (untaken_on few mobile m st) ∙ away.registered) (ap (λ (a : Address). a.0) destination) straight))
          away.g small entry here
          (subst (λ (a : Address). FindsHolder s (run_of s firsts) more a.0 away.g) (sym destination) (home_holder away.g away.holds))
          (at_front (λ (r : Run). Catches s r away.g away.agent present w)
          (λ m st. home_catches s (until m) away.g away.agent to present w of_data plain agent destination (careof_stays s c start (run_of s (until m)) st away.g to node ∙ registered)))
          k fl hop bytes posted carries many all

      -- data to its home address arrives, and so does data to where it is, through its home address
      pub arrives_plain : w.destination ≡ to → is_some w.route ≡ false → Arrives
      arrives_plain destination straight = by (present.0 == to.0) refl
        where
          by : (b : Bool) → (present.0 == to.0) ≡ b → Arrives
          by true home = arrives_home home destination straight
          by false apart = arrives_caught apart destination straight

      pub arrives_routed : (careof : Address) → w.destination ≡ careof → w.route ≡ Some to → is_held_right to present (Some careof.0) ≡ true → Arrives
      arrives_routed careof destination routed right =
          let parts = and_parts (careof.0 == present.0) (not (present.0 == to.0)) right in
          arrives_away (negated (present.0 == to.0) parts.1) (ap (λ (a : Address). a.0) destination ∙ eqb-true careof.0 present.0 parts.0) routed
        where
          negated : (t : Bool) → not t ≡ true → t ≡ false
          negated true e = absurd cc
          negated false e = refl
