-- What a call of a mobile is to its correspondent part.
use Rattle.std.proofs.Common.{◌≡◌, ℕ, List, [], ◌∷◌, ◌++◌, Bool, true, false, ◌⊎◌, inl, inr, refl, sym, ap, ◌∙◌, subst}
use Rattle.std.specs.Prelude.{Option, Some, None, ◌||◌, ◌&&◌, is_none}
use Rattle.std.specs.List.{list_any, AllByRecursion}
use Rattle.std.proofs.lemmas.List.{append_assoc, append-nil}
use Rattle.std.proofs.lemmas.List.Folds.{list_any-append}
use Rattle.mip_words.specs.declared.address.Address.{Address}
use Rattle.mip_words.specs.declared.shield.Shield.{Shield}
use Rattle.mip_words.specs.declared.why.Why.{Why}
use Rattle.mip_words.specs.declared.why.Why.TheVariants as whys
use Rattle.mip_nonce.specs.Secrets.{Life}
use Rattle.mip_ipv6.specs.Packet.{Packet, source_of}
use Rattle.mip_mobhdr.specs.Said.{Said}
use Rattle.mip_entries.specs.declared.answer.Answer.{Answer}
use Rattle.mip_entries.specs.declared.answer.Answer.TheVariants.{Send, Note}
use Rattle.mip_entries.proofs.TransitionLaws.{noted-now, noted-known, noted-steps}
use Rattle.mip_reception.specs.declared.refusal.Refusal.{Refusal}
use Rattle.mip_rules_correspondent.specs.Calls as parts
use Rattle.mip_rules_correspondent.specs.Steps as part_steps
use Rattle.mip_rules_correspondent.specs.StepsLaws as part_steps_laws
use Rattle.mip_rules_correspondent.specs.Questions.{held_of}
use Rattle.mip_rules_correspondent.specs.Seen.{CorrespondentSeen, transition_at}
use Rattle.mip_rules_correspondent.specs.Taken.{IsUpdateParted}
use Rattle.mip_rules_correspondent.proofs.Taken.{refreshed_none, sent_none}
use Rattle.mip_rules_correspondent.proofs.Parted.{parted_is}
use Rattle.mip_rules_mobile.specs.declared.attachment.Attachment.{Attachment}
use Rattle.mip_rules_mobile.specs.declared.attachment.Attachment.TheVariants.{Detached, AtHome, Away}
use Rattle.mip_rules_mobile.specs.Calls as calls
use Rattle.mip_rules_mobile.specs.Calls.{Call}
use Rattle.mip_rules_mobile.specs.Sendings.{Inner, OfPart, Given, FromHome, ByTunnel, SendsData, Solicits}
use Rattle.mip_rules_mobile.specs.Steps.{Step, Called, Parts, Notes, Sends, Unsends, Drops, Restarts}
use Rattle.mip_rules_mobile.specs.Known.{Known}
use Rattle.mip_rules_mobile.specs.HomeQuestions.{home_of, registered_agent, agent_of}
use Rattle.mip_rules_mobile.specs.RowQuestions.{bound_row_of}
use Rattle.mip_rules_mobile.specs.Questions.{after}
use Rattle.mip_rules_mobile.specs.Transitions.{Transition, begun, noted}
use Rattle.mip_rules_mobile.specs.OutRules.{tunnels, goes_from, goes_out, passes_all, asks_part}
use Rattle.mip_rules_mobile.specs.MovingRules.{leaves, attaches, registers_if_away, restarts}
use Rattle.mip_rules_mobile.specs.ReceivingRules.{then_meets, takes_for_part, refuses}
use Rattle.mip_rules_mobile.specs.RingingRules.{ticks_all}
use Rattle.mip_rules_mobile.specs.Doing.{transmits_from, transmits, solicits_from, solicits, handles, does, transition_of}
use Rattle.mip_rules_mobile.specs.Coming.{Came, IsOfTake}
use Rattle.mip_rules_mobile.specs.Fitting.{Fits, OfAck, OfMove, Steady, kind_of}
use Rattle.mip_rules_mobile.specs.PartLaws.{tells_of_acceptance, concerns_part, accepted_note, IsPartTransition, Silent, Asked, Accepting, is_restart, IsPartReborn}
use Rattle.mip_rules_mobile.proofs.Steady.{Goes, standing-noted}
use Rattle.mip_rules_mobile.proofs.OutWalks.{every-replies}
use Rattle.mip_rules_mobile.proofs.HomeWalks.{Acks, every-registers}
use Rattle.mip_rules_mobile.proofs.PeerWalks.{every-meets}
use Rattle.mip_rules_mobile.proofs.MovingWalks.{Moves, every-leaves, every-attaches}
use Rattle.mip_rules_mobile.proofs.RingWalks.{every-ticks_all}
use Rattle.mip_rules_mobile.proofs.ReceivingWalks.{every-takes}

-- the steps so far are these, and some that are nothing to the part
record IsBehind (first : List Step) (t : Transition) : Type 0 where
  more : List Step
  steps : t.steps ≡ first ++ more
  silent : list_any concerns_part more ≡ false

begins : (first : List Step) (t : Transition) → t.steps ≡ first → IsBehind first t
begins first t is = record { more = []; steps = is ∙ sym (append-nil first); silent = refl }

one_more : (first : List Step) (step : Step) (t : Transition) → t.steps ≡ first → (noted step t).steps ≡ first ++ step ∷ []
one_more first step t is = noted-steps after step t ∙ ap (λ (l : List Step). l ++ step ∷ []) is

behind-noted : (first : List Step) (step : Step) (t : Transition) → concerns_part step ≡ false → IsBehind first t → IsBehind first (noted step t)
behind-noted first step t is b = record {
  more = b.more ++ step ∷ [];
  steps = noted-steps after step t ∙ ap (λ (l : List Step). l ++ step ∷ []) b.steps ∙ append_assoc first b.more (step ∷ []);
  silent =
      list_any-append concerns_part b.more (step ∷ [])
      ∙ ap (λ (x : Bool). x || (concerns_part step || false)) b.silent
      ∙ ap (λ (x : Bool). x || false) is;
}

-- steady steps and acknowledgements are nothing to the part, nor are moves but for a restart
steady-silent : (step : Step) → kind_of step ≡ Steady → concerns_part step ≡ false
steady-silent (Parts call) is = absurd cc
steady-silent (Notes entry) is = absurd cc
steady-silent (Restarts secrets) is = absurd cc
steady-silent _ is = refl

ack-silent : (step : Step) → kind_of step ≡ OfAck → concerns_part step ≡ false
ack-silent (Parts call) is = absurd cc
ack-silent (Notes entry) is = absurd cc
ack-silent (Restarts secrets) is = absurd cc
ack-silent _ is = refl

move-silent : (c : Call) (now : ℕ) (k : Known) (step : Step) → is_restart c ≡ false → kind_of step ≡ OfMove → Fits c now k step → concerns_part step ≡ false
move-silent c now k (Parts call) other is fits = absurd cc
move-silent c now k (Notes entry) other is fits = absurd cc
move-silent c now k (Restarts secrets) other is fits = absurd (let both : true ≡ false = sym (ap is_restart fits) ∙ other in cc)
move-silent c now k _ other is fits = refl

module _ (c : Call) (first : List Step) where
  goes : Goes c (IsBehind first)
  goes step t is fits b = behind-noted first step t (steady-silent step is) b

  acks : Acks c (IsBehind first)
  acks step t is fits led b = behind-noted first step t (ack-silent step is) b

  moves : is_restart c ≡ false → Moves c (IsBehind first)
  moves other step t is fits b = behind-noted first step t (move-silent c t.now t.known step other is fits) b

  -- what goes out from the home address is nothing to the part
  out-behind : (inner : Inner) (t : Transition) → IsBehind first t → IsBehind first (goes_out inner t)
  unfolding goes_out
  out-behind inner t b = by t.known.standing
    where
      away : (careof : Address) (agent : Option Address) → IsBehind first (tunnels careof inner agent t)
      away careof None = behind-noted first (Unsends whys.Unregistered) t refl b
      away careof (Some agent) = behind-noted first (Sends (ByTunnel (home_of t.known) careof agent inner)) t refl b

      by : (s : Attachment) → IsBehind first (goes_from s inner t)
      by Detached = behind-noted first (Unsends whys.Detached) t refl b
      by AtHome = behind-noted first (Sends (FromHome (home_of t.known) inner)) t refl b
      by (Away careof) = away careof (registered_agent t.known t.now)

-- answers by which no update is accepted
abbrev TellsNone : Answer → Type 0
TellsNone (Send shield packet) = Unit {0}
TellsNone (Note entry) = tells_of_acceptance entry ≡ false

passes-behind : (c : Call) (first : List Step) (answers : List Answer) → AllByRecursion TellsNone answers → (t : Transition) → IsBehind first t → IsBehind first (passes_all answers t)
unfolding passes_all
passes-behind c first [] all t b = b
passes-behind c first (Send shield packet ∷ answers) all t b = passes-behind c first answers all.1 (goes_out (OfPart packet) t) (out-behind c first (OfPart packet) t b)
passes-behind c first (Note entry ∷ answers) all t b = passes-behind c first answers all.1 (noted (Notes entry) t) (behind-noted first (Notes entry) t all.0 b)

none-told : (steps : List part_steps.Step) → list_any part_steps_laws.is_acceptance steps ≡ false → AllByRecursion TellsNone (part_steps.answers_of steps)
none-told [] none = tt
none-told (part_steps.Accepts number home binding accepted ∷ steps) none = absurd cc
none-told (part_steps.Called call ∷ steps) none = none-told steps none
none-told (part_steps.Sends packet ∷ steps) none = (tt, none-told steps none)
none-told (part_steps.Denies number status ∷ steps) none = (refl, none-told steps none)
none-told (part_steps.Drops number why ∷ steps) none = (refl, none-told steps none)
none-told (part_steps.HandsUp number source destination proto payload ∷ steps) none = (refl, none-told steps none)
none-told (part_steps.Idles ∷ steps) none = (refl, none-told steps none)

abbrev answers_at : CorrespondentSeen → ℕ → parts.Call → List Answer
answers_at part now call = part_steps.answers_of (transition_at part now call).steps

-- a transition in which the mobile was called, and no more
module _ (k : Known) (now : ℕ) (c : Call) (t : Transition) (called : t.steps ≡ Called c ∷ []) (part : t.known.part ≡ k.part) (moment : t.now ≡ now) (entry : agent_of t.known t.now ≡ agent_of k now) where
  abbrev Is : Transition → Type 0
  Is u = IsPartTransition k now c u.steps

  abbrev Calm : Transition → Type 0
  Calm u = IsBehind (Called c ∷ []) u

  calm : Calm t
  calm = begins (Called c ∷ []) t called

  silent : (u : Transition) → Calm u → Is u
  silent u b = Silent (ap (list_any concerns_part) b.steps ∙ b.silent)

  -- the part is called
  abbrev asked : parts.Call → Transition
  asked call = noted (Parts call) t

  asked-steps : (call : parts.Call) → (asked call).steps ≡ Called c ∷ Parts call ∷ []
  asked-steps call = one_more (Called c ∷ []) (Parts call) t called

  asks-as : (call : parts.Call) → asks_part call t ≡ passes_all (answers_at k.part now call) (asked call)
  unfolding asks_part
  asks-as call =
      ap (λ (p : CorrespondentSeen). passes_all (answers_at p t.now call) (asked call)) part
      ∙ ap (λ (n : ℕ). passes_all (answers_at k.part n call) (asked call)) moment

  asks-none : (call : parts.Call) → list_any part_steps_laws.is_acceptance (transition_at k.part now call).steps ≡ false → IsBehind (Called c ∷ Parts call ∷ []) (asks_part call t)
  asks-none call none =
      subst (IsBehind (Called c ∷ Parts call ∷ [])) (sym (asks-as call))
      (passes-behind c (Called c ∷ Parts call ∷ []) (answers_at k.part now call) (none-told (transition_at k.part now call).steps none) (asked call)
      (begins (Called c ∷ Parts call ∷ []) (asked call) (asked-steps call)))

  of-none : (call : parts.Call) → list_any part_steps_laws.is_acceptance (transition_at k.part now call).steps ≡ false → (u : Transition) → IsBehind (Called c ∷ Parts call ∷ []) u → Is u
  of-none call none u b = Asked call b.more b.steps b.silent none

  refreshes : (home : Address) → Is (asks_part (parts.Refresh home) t)
  refreshes home =
      let q = refreshed_none k.part.identity k.part.known now home in
      of-none (parts.Refresh home) q.1 (asks_part (parts.Refresh home) t) (asks-none (parts.Refresh home) q.1)

  sends : (to : Address) (proto : ℕ) (payload : List ℕ) → Is (asks_part (parts.Send to proto payload) t)
  sends to proto payload =
      let q = sent_none k.part.identity k.part.known now to proto payload in
      of-none (parts.Send to proto payload) q.1 (asks_part (parts.Send to proto payload) t) (asks-none (parts.Send to proto payload) q.1)

  sends-data : (to : Address) (proto : ℕ) (payload : List ℕ) → Is (transmits to proto payload t)
  unfolding transmits
  sends-data to proto payload = by t.known.standing (bound_row_of t.known t.now to)
    where
      by : (s : Attachment) (row : Option ℕ) → Is (transmits_from s row to proto payload t)
      by (Away careof) (Some row) =
          let step = Sends (SendsData (home_of t.known) careof to (held_of t.known.part.known t.now to) proto payload) in
          silent (noted step t) (behind-noted (Called c ∷ []) step t refl calm)
      by (Away careof) None = sends to proto payload
      by Detached row = sends to proto payload
      by AtHome row = sends to proto payload

  -- a packet came as it does where the call begins
  came-before : (tunnelled : Bool) (shield : Option Shield) (bytes : List ℕ) (packet : Packet) → Came t.known t.now tunnelled shield bytes packet → Came k now tunnelled shield bytes packet
  came-before false shield bytes packet read = read
  came-before true shield bytes packet within =
      record { outer = within.outer; agent = within.agent; read = within.read; of = sym entry ∙ within.of; opens = within.opens; shielded = within.shielded }

  -- a packet is handed to the part
  module _ (number : ℕ) (tunnelled : Bool) (shield : Option Shield) (packet : Packet) (message : Option Said) (of : IsOfTake c t.known t.now number tunnelled shield packet) where
    abbrev call : parts.Call
    call = parts.Part number packet

    met : (first : List Step) (m : Bool) (u : Transition) → IsBehind first u → IsBehind first (then_meets m packet u)
    met first true u b = every-meets c (IsBehind first) (goes c first) (source_of packet.head) u b
    met first false u b = b

    -- it accepts the update in it
    module _ (x : IsUpdateParted k.part.identity k.part.known now number packet (transition_at k.part now call).steps) where
      abbrev note : Step
      note = Notes (accepted_note number x.home x.binding x.accepted)

      abbrev first : List Step
      first = Called c ∷ Parts call ∷ note ∷ []

      accepting : IsBehind first (asks_part call t)
      unfolding passes_all
      accepting =
          subst (IsBehind first) (sym (asks-as call ∙ ap (λ (l : List part_steps.Step). passes_all (part_steps.answers_of l) (asked call)) x.steps_are))
          (passes-behind c first (part_steps.answers_of x.rest) (none-told x.rest x.none) (noted note (asked call))
          (begins first (noted note (asked call)) (one_more (Called c ∷ Parts call ∷ []) note (asked call) (asked-steps call))))

      of-accepting : (u : Transition) → IsBehind first u → Is u
      of-accepting u b = Accepting (record {
        number = number;
        shield = shield;
        bytes = of.bytes;
        call = of.call;
        packet = packet;
        tunnelled = tunnelled;
        came = came-before tunnelled shield of.bytes packet of.came;
        taken = x;
        rest = b.more;
        steps_are = b.steps;
        none = b.silent;
      })

    parting : Is (takes_for_part number tunnelled packet message t)
    unfolding takes_for_part
    parting = by (tunnelled && is_none message) found.1
      where
        found : ((transition_at k.part now call).now ≡ now) × ((list_any part_steps_laws.is_acceptance (transition_at k.part now call).steps ≡ false) ⊎ IsUpdateParted k.part.identity k.part.known now number packet (transition_at k.part now call).steps)
        found = parted_is k.part.identity k.part.known now number packet

        by : (m : Bool) → (list_any part_steps_laws.is_acceptance (transition_at k.part now call).steps ≡ false) ⊎ IsUpdateParted k.part.identity k.part.known now number packet (transition_at k.part now call).steps
            → Is (then_meets m packet (asks_part call t))
        by m (inl none) = of-none call none (then_meets m packet (asks_part call t)) (met (Called c ∷ Parts call ∷ []) m (asks_part call t) (asks-none call none))
        by m (inr x) = of-accepting x (then_meets m packet (asks_part call t)) (met (first x) m (asks_part call t) (accepting x))

  -- a packet is dropped, and perhaps answered
  drops : (number : ℕ) (why : Why) → Is (noted (Drops number why) t)
  drops number why = silent (noted (Drops number why) t) (behind-noted (Called c ∷ []) (Drops number why) t refl calm)

  refusing : (number : ℕ) (bytes : List ℕ) (source : Address) (refusal : Refusal) → Is (refuses number bytes source refusal t)
  unfolding refuses
  refusing number bytes source refusal =
      silent (refuses number bytes source refusal t)
      (every-replies c Calm (goes c (Called c ∷ [])) source bytes refusal.reply (noted (Drops number refusal.why) t)
      (behind-noted (Called c ∷ []) (Drops number refusal.why) t refl calm))

  takes-one : (number : ℕ) (shield : Option Shield) (bytes : List ℕ) → c ≡ calls.Take number shield bytes → Is (handles (calls.Take number shield bytes) t)
  takes-one number shield bytes is =
      every-takes c Calm (goes c (Called c ∷ [])) (acks c (Called c ∷ [])) Is silent t calm (λ number why right. drops number why) (λ number bytes source refusal right. refusing number bytes source refusal)
      (λ number tunnelled shield packet message of read mine. parting number tunnelled shield packet message of)
      number shield bytes is

  solicits-one : Is (solicits t)
  unfolding solicits
  solicits-one = by t.known.standing (registered_agent t.known t.now)
    where
      unsent : Is (noted (Unsends whys.Unregistered) t)
      unsent = silent (noted (Unsends whys.Unregistered) t) (behind-noted (Called c ∷ []) (Unsends whys.Unregistered) t refl calm)

      by : (s : Attachment) (agent : Option Address) → Is (solicits_from s agent t)
      by (Away careof) (Some agent) =
          let step = Sends (Solicits (home_of t.known) careof agent t.known.solicitations) in
          silent (noted step t) (behind-noted (Called c ∷ []) step t refl calm)
      by (Away careof) None = unsent
      by Detached agent = unsent
      by AtHome agent = unsent

  -- all is lost, and the mobile registers anew where it is away
  reborn : (secrets : Life) → c ≡ calls.Restart secrets → (let u : Transition = restarts secrets t in IsPartReborn secrets u.steps)
  unfolding restarts
  reborn secrets is = by t.known.standing refl
    where
      first : List Step
      first = Called c ∷ Restarts secrets ∷ []

      u : Transition
      u = noted (Restarts secrets) t

      q : IsBehind first u
      q = begins first u (one_more (Called c ∷ []) (Restarts secrets) t called)

      end : (v : Transition) → IsBehind first v → IsPartReborn secrets v.steps
      end v b = record { rest = b.more; steps_are = b.steps ∙ ap (λ (d : Call). Called d ∷ Restarts secrets ∷ b.more) is; none = b.silent }

      by : (s : Attachment) → t.known.standing ≡ s → (let v : Transition = registers_if_away s u in IsPartReborn secrets v.steps)
      by Detached here = end u q
      by AtHome here = end u q
      by (Away careof) here =
          end (registers_if_away (Away careof) u) (every-registers c (IsBehind first) (goes c first) careof u (standing-noted (Restarts secrets) t ∙ here) q)

  handled : is_restart c ≡ false → Is (handles c t)
  handled other = by c refl
    where
      quiet : Moves c Calm
      quiet = moves c (Called c ∷ []) other

      by : (d : Call) → c ≡ d → Is (handles d t)
      by (calls.Attach prefix of_home of_address) is =
          silent (attaches prefix of_home of_address t) (every-attaches c Calm (goes c (Called c ∷ [])) quiet prefix of_home of_address t calm)
      by (calls.Leave of_home) is = silent (leaves of_home t) (every-leaves c Calm (goes c (Called c ∷ [])) quiet of_home t calm)
      by (calls.Take number shield packet) is = takes-one number shield packet is
      by calls.Tick is = silent (ticks_all t) (every-ticks_all c Calm (goes c (Called c ∷ [])) is t calm)
      by (calls.Send to proto payload) is = sends-data to proto payload
      by (calls.Refresh home) is = refreshes home
      by calls.Ask is = solicits-one
      by (calls.Restart secrets) is = absurd (let both : true ≡ false = sym (ap is_restart is) ∙ other in cc)
      by (calls.Tunnel inner) is = silent (goes_out (Given inner) t) (out-behind c (Called c ∷ []) (Given inner) t calm)

called-part : (c : Call) (k : Known) (now : ℕ) → (noted (Called c) (begun now k)).known.part ≡ k.part
unfolding after
called-part c k now = ap (λ (l : Known). l.part) (noted-known after (Called c) (begun now k))

called-agent : (c : Call) (k : Known) (now : ℕ) → agent_of (noted (Called c) (begun now k)).known (noted (Called c) (begun now k)).now ≡ agent_of k now
unfolding after
called-agent c k now =
    ap (λ (l : Known). agent_of l (noted (Called c) (begun now k)).now) (noted-known after (Called c) (begun now k))
    ∙ ap (agent_of k) (noted-now after (Called c) (begun now k))

pub call-part : (k : Known) (now : ℕ) (c : Call) → is_restart c ≡ false → IsPartTransition k now c (transition_of k now c).steps
unfolding does
call-part k now c other =
    handled k now c (noted (Called c) (begun now k)) (noted-steps after (Called c) (begun now k)) (called-part c k now) (noted-now after (Called c) (begun now k)) (called-agent c k now) other

pub restart-part : (k : Known) (now : ℕ) (secrets : Life) → IsPartReborn secrets (transition_of k now (calls.Restart secrets)).steps
unfolding does
restart-part k now secrets =
    let c : Call = calls.Restart secrets in
    reborn k now c (noted (Called c) (begun now k)) (noted-steps after (Called c) (begun now k)) (called-part c k now) (noted-now after (Called c) (begun now k)) (called-agent c k now) secrets refl
