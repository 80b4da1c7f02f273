-- What the receiver of two settled ends does with data, anywhere in a stretch that is quiet for them; and what its agent does.
use Rattle.std.proofs.Common.{◌≡◌, ◌≢◌, ℕ, List, true, false, ◌⊎◌, inl, inr, refl, sym, ap, ◌∙◌, arith}
use Rattle.std.specs.Prelude.{Option, Some, None, is_some, ◌==◌, slice_get}
use Rattle.std.specs.Option.{option_or}
use Rattle.std.proofs.lemmas.Bool.{eq-eqb, eqb-true}
use Rattle.std.proofs.lemmas.Option.{slice_get_within}
use Rattle.mip_words.specs.declared.address.Address.{Address}
use Rattle.mip_binding.specs.Held.{held, holds}
use Rattle.mip_binding.proofs.HeldLaws.{held_is_one}
use Rattle.mip_links.specs.Table.{is_address, holder_outside}
use Rattle.mip_rules_correspondent.specs.Rules.{is_data, holds_option}
use Rattle.mip_rules_correspondent.specs.declared.known.Known as parts
use Rattle.mip_rules_correspondent.specs.Questions.{holds_for}
use Rattle.mip_rules_agent.specs.Questions.{careof_at}
use Rattle.mip_rules_mobile.specs.declared.attachment.Attachment.{Attachment}
use Rattle.mip_rules_mobile.specs.declared.attachment.Attachment.TheVariants.{Detached, AtHome, Away}
use Rattle.mip_rules_mobile.specs.Known.{Known}
use Rattle.mip_rules_mobile.specs.HomeQuestions.{home_of, registered_agent}
use Rattle.mip_rules_mobile.specs.ReceivingRules as mobiles
use Rattle.mip_rules_mobile.proofs.Shielding.{past-home}
use Rattle.mip_schedule.specs.declared.event.Event.{Event}
use Rattle.mip_history.specs.Setup.{Setup, Host, Kind, is_mobile_host}
use Rattle.mip_history.specs.Setup.Kind.{Correspondent, Agent, Mobile}
use Rattle.mip_history.specs.Runs.{Run, mobile_past_at}
use Rattle.mip_history.specs.Questions.{declared_in}
use Rattle.mip_history.specs.Knowing.{now_in, secrets_in, known_in, agent_known_in, mobile_known_in}
use Rattle.mip_history.specs.Registered.{is_agent_host}
use Rattle.mip_history.specs.Bound.{accepted_by}
use Rattle.mip_history.specs.Permitted.{run_of}
use Rattle.mip_history.specs.Found.{address_of}
use Rattle.mip_history.specs.Told.{present_in, agent_in, careof_in}
use Rattle.mip_history.proofs.Histories.{run_holds, part_holds as part_holds_it}
use Rattle.mip_history.proofs.Registrations.{run_careof}
use Rattle.mip_settled.proofs.AsTold.{found_as_told, registered_as_told}
use Rattle.mip_settled.proofs.Declared.{declared_of_run}
use Rattle.mip_settled.proofs.OfKinds.{present_at_own, registers_none}
use Rattle.mip_law_delivery.specs.Orderly.{IsOrderly}
use Rattle.mip_law_delivery.proofs.Holding.{IsAbroad, known_abroad}
use Rattle.mip_law_delivery.proofs.Settling.{IsCorrespondentAt, IsMobileAt}
use Rattle.mip_law_delivery.proofs.Carrying.{Way}
use Rattle.mip_law_delivery.proofs.Ends.{TakesStraight, TakesTunnelled, Catches, correspondent_straight, mobile_straight, mobile_tunnelled, agent_catches}

same_address : (a b : Address) → a.0 ≡ b.0 → a ≡ b
same_address a b is = ap (λ (n : ℕ). let x : Address = record { 0 = n } in x) is

some_same : (a b : Address) → (let o : Option Address = Some a in o) ≡ Some b → a ≡ b
some_same a b e = cc

pub address_is : (o : Option Address) (a : Address) → is_address o a ≡ true → o ≡ Some a
address_is None a is = absurd cc
address_is (Some b) a is = ap (λ (x : Address). Some x) (same_address b a (eqb-true b.0 a.0 is))

-- where a mobile uses an address, that is where it stands
pub stands_home : (own present : Address) (st : Attachment) → IsAbroad own st → (present.0 == own.0) ≡ true → Some present ≡ address_of own st → st ≡ AtHome
stands_home own present Detached abroad here is = absurd cc
stands_home own present AtHome abroad here is = refl
stands_home own present (Away careof) abroad here is =
    absurd (let same : present ≡ careof = some_same present careof is in let both : true ≡ false = sym here ∙ ap (λ (a : Address). a.0 == own.0) same ∙ abroad in cc)

pub stands_away : (own present : Address) (st : Attachment) → (present.0 == own.0) ≡ false → Some present ≡ address_of own st → st ≡ Away present
stands_away own present Detached apart is = absurd cc
stands_away own present AtHome apart is =
    absurd (let same : present ≡ own = some_same present own is in let both : true ≡ false = sym (eq-eqb present.0 own.0 (ap (λ (a : Address). a.0) same)) ∙ apart in cc)
stands_away own present (Away careof) apart is = ap Away (sym (some_same present careof is))

-- an agent with this address
pub record IsAgentAt (s : Setup) (g : ℕ) (own : Address) : Type 0 where
  pub preference : ℕ
  pub life : ℕ
  pub room : ℕ
  pub serves : List Address
  pub host : slice_get s.hosts g ≡ Some (record { address = own; kind = Agent preference life room serves })

-- who has a home registered is an agent
pub agent_kind : (s : Setup) (events : List Event) (g now : ℕ) (home careof agent : Address) → careof_in now (run_of s events).past g home ≡ Some careof → declared_in (run_of s events).past g ≡ Some agent
    → IsAgentAt s g agent
agent_kind s events g now home careof agent registered told = by (slice_get s.hosts g) refl
  where
    never : is_agent_host (slice_get s.hosts g) ≡ false → ⊥
    never none = absurd (let both = sym registered ∙ registers_none s g none events home now in cc)

    of_kind : (address : Address) (kind : Kind) → slice_get s.hosts g ≡ Some (record { address = address; kind = kind }) → IsAgentAt s g agent
    of_kind address (Correspondent room) there = absurd (never (ap is_agent_host there))
    of_kind address (Mobile to) there = absurd (never (ap is_agent_host there))
    of_kind address (Agent preference life room serves) there =
        let same : address ≡ agent = some_same address agent (sym (declared_of_run s events g (record { address = address; kind = Agent preference life room serves }) there) ∙ told) in
        record {
          preference = preference;
          life = life;
          room = room;
          serves = serves;
          host = there ∙ ap (λ (a : Address). Some (let h : Host = record { address = a; kind = Agent preference life room serves } in h)) same;
        }

    by : (o : Option Host) → slice_get s.hosts g ≡ o → IsAgentAt s g agent
    by None there = absurd (never (ap is_agent_host there))
    by (Some host) there = of_kind host.address host.kind there

-- data on this way is in nobody's name, or in that of a home address whose binding node y holds
abbrev pub IsNamed : Setup → List Event → ℕ → Address → Way → Type 0
IsNamed s events y own w =
    (w.home ≡ None) ⊎ ((w.home ≡ Some own) × (held (accepted_by s.start (run_of s events).past y) own.0 (now_in s (run_of s events)) ≡ Some w.source.0))

module _ (s : Setup) (orderly : IsOrderly s) (events : List Event) (y : ℕ) (own to present : Address) (found : present_in (run_of s events).past y to ≡ Some present) (w : Way) (of_data : is_data w.proto ≡ true) (plain : w.proto ≢ 135)
    (named : IsNamed s events y own w) where
  abbrev run : Run
  run = run_of s events

  holds_by : (k : parts.Known) → holds_for k (now_in s run) own w.source ≡ holds (accepted_by s.start run.past y) own.0 (now_in s run) w.source.0
      → is_some w.home ≡ true → holds_option k (now_in s run) w.source w.home ≡ true
  holds_by k is some = by named
    where
      by : IsNamed s events y own w → holds_option k (now_in s run) w.source w.home ≡ true
      by (inl none) = absurd (let both : true ≡ false = sym some ∙ ap (λ (o : Option Address). is_some o) none in cc)
      by (inr x) = ap (holds_option k (now_in s run) w.source) x.0 ∙ is ∙ held_is_one (accepted_by s.start run.past y) own.0 (now_in s run) w.source.0 x.1

  module _ (agent : Option Address) (host : slice_get s.hosts y ≡ Some (record { address = to; kind = Mobile agent })) where
    abbrev k : Known
    k = mobile_known_in s run y to agent

    home_is : home_of k ≡ to
    home_is = past-home to agent s.numbers (secrets_in s y 0) (mobile_past_at run y)

    uses : Some present ≡ address_of to k.standing
    uses = sym found ∙ found_as_told s events y to agent host

    part_holds : is_some w.home ≡ true → holds_option k.part.known (now_in s run) w.source w.home ≡ true
    part_holds = holds_by k.part.known (part_holds_it s events y to agent own host w.source)

    mobile_home : (present.0 == to.0) ≡ true → w.destination.0 ≡ to.0 → is_some w.route ≡ false → TakesStraight s run y w
    mobile_home here mine straight =
        let st : k.standing ≡ AtHome = stands_home to present k.standing (known_abroad to agent s.numbers (secrets_in s y 0) (mobile_past_at run y)) here uses in
        mobile_straight s run y to w of_data plain agent host
        (ap (λ (x : Attachment). mobiles.is_address_of x (home_of k) w.destination) st ∙ eq-eqb w.destination.0 (home_of k).0 (mine ∙ ap (λ (a : Address). a.0) (sym home_is)))
        (λ e. absurd (let both : true ≡ false = sym e ∙ straight in cc)) part_holds

    at_present : (present.0 == to.0) ≡ false → (a : Address) → a.0 ≡ present.0 → mobiles.is_address_of k.standing (home_of k) a ≡ true
    at_present apart a mine =
        let st : k.standing ≡ Away present = stands_away to present k.standing apart uses in
        ap (λ (x : Attachment). mobiles.is_address_of x (home_of k) a) st ∙ eq-eqb a.0 present.0 mine

    pub mobile_away : (present.0 == to.0) ≡ false → w.destination.0 ≡ present.0 → w.route ≡ Some to → TakesStraight s run y w
    mobile_away apart mine routed =
        let st : k.standing ≡ Away present = stands_away to present k.standing apart uses in
        mobile_straight s run y to w of_data plain agent host (at_present apart w.destination mine)
        (λ some. ap (λ (x : Attachment). mobiles.takes_route x (home_of k) w.route) st ∙ ap (mobiles.takes_route (Away present) (home_of k)) routed ∙ eq-eqb to.0 (home_of k).0 (ap (λ (a : Address). a.0) (sym home_is)))
        part_holds

    pub mobile_from_agent : (present.0 == to.0) ≡ false → (entry exit : Address) → exit.0 ≡ present.0 → agent_in (now_in s run) run.past y ≡ Some entry → w.destination.0 ≡ to.0 → is_some w.route ≡ false
        → TakesTunnelled s run y entry exit w
    mobile_from_agent apart entry exit mine registered home straight =
        let node : (o : ℕ) → y ≢ holder_outside o = λ o same. omega (arith, orderly.few, slice_get_within s.hosts y _ host, same) in
        let known : registered_agent k (now_in s run) ≡ Some entry = sym (registered_as_told s events y to agent host node (now_in s run)) ∙ registered in
        mobile_tunnelled s run y to w of_data plain agent host entry exit (at_present apart exit mine) (ap (λ (o : Option Address). option_or o k.agent) known)
        (home ∙ ap (λ (a : Address). a.0) (sym home_is)) straight part_holds

  -- at home it takes data for its home address
  pub home_straight : IsCorrespondentAt s y to ⊎ IsMobileAt s y to → (present.0 == to.0) ≡ true → w.destination.0 ≡ to.0 → is_some w.route ≡ false → TakesStraight s run y w
  home_straight (inl x) here mine straight = correspondent_straight s run y to w of_data plain x.0 x.1 mine straight (holds_by (known_in s run y x.0) (run_holds s events y to x.0 own x.1 w.source))
  home_straight (inr x) here mine straight = mobile_home x.0 x.1 here mine straight

-- an end that is away is a mobile
pub away_mobile : (s : Setup) (events : List Event) (y : ℕ) (to present : Address) → present_in (run_of s events).past y to ≡ Some present → (present.0 == to.0) ≡ false → IsCorrespondentAt s y to ⊎ IsMobileAt s y to → IsMobileAt s y to
away_mobile s events y to present found apart (inr x) = x
away_mobile s events y to present found apart (inl x) =
    absurd (let own : (let o : Option Address = Some to in o) ≡ Some present = sym (present_at_own s y (ap is_mobile_host x.1) events to) ∙ found in
    let both : true ≡ false = sym (eq-eqb present.0 to.0 (ap (λ (a : Address). a.0) (sym (some_same to present own)))) ∙ apart in cc)

-- the agent of a home puts data for it into a tunnel
pub home_catches : (s : Setup) (events : List Event) (g : ℕ) (agent to careof : Address) (w : Way) → is_data w.proto ≡ true → w.proto ≢ 135 → IsAgentAt s g agent → w.destination ≡ to
    → careof_in (now_in s (run_of s events)) (run_of s events).past g to ≡ Some careof → Catches s (run_of s events) g agent careof w
home_catches s events g agent to careof w of_data plain x destination registered =
    agent_catches s (run_of s events) g agent w of_data plain x.preference x.life x.room x.serves x.host careof
    (ap (careof_at (agent_known_in (run_of s events) g x.serves) (now_in s (run_of s events))) destination ∙ run_careof s events g agent x.preference x.life x.room x.serves to x.host ∙ registered)
