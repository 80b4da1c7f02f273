-- What each step of a rule keeps, a whole call keeps.
use Rattle.std.proofs.Common.{◌≡◌, ℕ, List, refl}
use Rattle.std.specs.Prelude.{Option, Some, None, Bool, true, false, ◌&&◌, is_none}
use Rattle.mip_words.specs.declared.address.Address.{Address}
use Rattle.mip_words.specs.declared.why.Why.{Why}
use Rattle.mip_words.specs.declared.why.Why.TheVariants as whys
use Rattle.mip_ipv6.specs.Packet.{Packet, source_of}
use Rattle.mip_mobhdr.specs.Said.{Said}
use Rattle.mip_reception.specs.declared.refusal.Refusal.{Refusal}
use Rattle.mip_entries.specs.Reasons.{is_dropped_why}
use Rattle.mip_rules_correspondent.specs.Calls as parts
use Rattle.mip_rules_correspondent.specs.Questions.{held_of}
use Rattle.mip_rules_mobile.specs.declared.attachment.Attachment.{Attachment}
use Rattle.mip_rules_mobile.specs.declared.attachment.Attachment.TheVariants.{Detached, AtHome, Away}
use Rattle.mip_rules_mobile.specs.Calls as calls
use Rattle.mip_rules_mobile.specs.Calls.{Call}
use Rattle.mip_rules_mobile.specs.Sendings.{Given, SendsData, Solicits}
use Rattle.mip_rules_mobile.specs.Steps.{Called, Sends, Unsends, Drops}
use Rattle.mip_rules_mobile.specs.HomeQuestions.{home_of, registered_agent}
use Rattle.mip_rules_mobile.specs.RowQuestions.{bound_row_of}
use Rattle.mip_rules_mobile.specs.Transitions.{Transition, noted}
use Rattle.mip_rules_mobile.specs.PartLaws.{is_restart}
use Rattle.mip_rules_mobile.specs.Answering.{stays_put}
use Rattle.mip_rules_mobile.specs.OutRules.{asks_part}
use Rattle.mip_rules_mobile.specs.ReceivingRules.{then_meets, takes_for_part, refuses}
use Rattle.mip_rules_mobile.specs.Doing.{transmits_from, transmits, solicits_from, solicits, handles, does}
use Rattle.mip_rules_mobile.proofs.Steady.{Goes, Askings, Notings}
use Rattle.mip_rules_mobile.proofs.OutWalks.{every-goes_out, every-asks_part, every-replies}
use Rattle.mip_rules_mobile.proofs.HomeWalks.{Acks}
use Rattle.mip_rules_mobile.proofs.PeerWalks.{every-meets}
use Rattle.mip_rules_mobile.proofs.MovingWalks.{Moves, every-leaves, every-attaches, every-restarts}
use Rattle.mip_rules_mobile.proofs.RingWalks.{every-ticks_all}
use Rattle.mip_rules_mobile.proofs.ReceivingWalks.{every-takes}

module _ (c : Call) (P : Transition → Type 0) (more : Goes c P) (asks : Askings P) (notes : Notings P) where
  pub every-transmits : (to : Address) (proto : ℕ) (payload : List ℕ) → c ≡ calls.Send to proto payload → (t : Transition) → P t → P (transmits to proto payload t)
  unfolding transmits
  every-transmits to proto payload asked t p = by t.known.standing (bound_row_of t.known t.now to) refl
    where
      by : (s : Attachment) (row : Option ℕ) → t.known.standing ≡ s → P (transmits_from s row to proto payload t)
      by (Away careof) (Some row) here =
          more (Sends (SendsData (home_of t.known) careof to (held_of t.known.part.known t.now to) proto payload)) t refl ((here, refl), asked) p
      by (Away careof) None here = every-asks_part c P more asks notes (parts.Send to proto payload) asked t p
      by Detached row here = every-asks_part c P more asks notes (parts.Send to proto payload) asked t p
      by AtHome row here = every-asks_part c P more asks notes (parts.Send to proto payload) asked t p

  pub every-solicits : (t : Transition) → P t → P (solicits t)
  unfolding solicits
  every-solicits t p = by t.known.standing (registered_agent t.known t.now) refl
    where
      by : (s : Attachment) (agent : Option Address) → t.known.standing ≡ s → P (solicits_from s agent t)
      by (Away careof) (Some agent) here = more (Sends (Solicits (home_of t.known) careof agent t.known.solicitations)) t refl (here, refl) p
      by (Away careof) None here = more (Unsends whys.Unregistered) t refl refl p
      by Detached agent here = more (Unsends whys.Unregistered) t refl refl p
      by AtHome agent here = more (Unsends whys.Unregistered) t refl refl p

  -- the correspondent part, and a peer that is met
  pub every-for_part : (number : ℕ) (tunnelled : Bool) (packet : Packet) (message : Option Said) (t : Transition) → P t → P (takes_for_part number tunnelled packet message t)
  unfolding takes_for_part
  every-for_part number tunnelled packet message t p = by (tunnelled && is_none message)
    where
      first : Transition
      first = asks_part (parts.Part number packet) t

      q : P first
      q = every-asks_part c P more asks notes (parts.Part number packet) tt t p

      by : (met : Bool) → P (then_meets met packet first)
      by true = every-meets c P more (source_of packet.head) first q
      by false = q

-- a packet may be dropped
abbrev pub Dropping : (Transition → Type 0) → Type 0
Dropping P = (number : ℕ) (why : Why) (t : Transition) → is_dropped_why why ≡ true → P t → P (noted (Drops number why) t)

module _ (c : Call) (P : Transition → Type 0) (more : Goes c P) (asks : Askings P) (notes : Notings P) (acks : Acks c P) (drops : Dropping P) where
  every-refuses : (number : ℕ) (bytes : List ℕ) (source : Address) (refusal : Refusal) (t : Transition) → is_dropped_why refusal.why ≡ true → P t → P (refuses number bytes source refusal t)
  unfolding refuses
  every-refuses number bytes source refusal t right p =
      every-replies c P more source bytes refusal.reply (noted (Drops number refusal.why) t) (drops number refusal.why t right p)

  -- of a call by which the mobile stays where it stands, and goes on living
  pub every-staying : (t : Transition) → P t → (d : Call) → c ≡ d → stays_put d ≡ true → is_restart d ≡ false → P (handles d t)
  every-staying t p (calls.Attach prefix of_home of_address) is stays lives = absurd cc
  every-staying t p (calls.Leave of_home) is stays lives = absurd cc
  every-staying t p (calls.Restart secrets) is stays lives = absurd cc
  every-staying t p (calls.Take number shield packet) is stays lives =
      every-takes c P more acks P (λ u q. q) t p (λ number why right. drops number why t right p)
      (λ number bytes source refusal right. every-refuses number bytes source refusal t right p)
      (λ number tunnelled shield packet message of read mine. every-for_part c P more asks notes number tunnelled packet message t p)
      number shield packet is
  every-staying t p calls.Tick is stays lives = every-ticks_all c P more is t p
  every-staying t p (calls.Send to proto payload) is stays lives = every-transmits c P more asks notes to proto payload is t p
  every-staying t p (calls.Refresh home) is stays lives = every-asks_part c P more asks notes (parts.Refresh home) tt t p
  every-staying t p calls.Ask is stays lives = every-solicits c P more asks notes t p
  every-staying t p (calls.Tunnel inner) is stays lives = every-goes_out c P more (Given inner) t is p

module _ (c : Call) (P : Transition → Type 0) (more : Goes c P) (asks : Askings P) (notes : Notings P) (acks : Acks c P) (moves : Moves c P) (drops : Dropping P) where
  -- of the call that it is
  pub every-handles : (t : Transition) → P t → P (handles c t)
  every-handles t p = by c refl
    where
      staying : (d : Call) → c ≡ d → stays_put d ≡ true → is_restart d ≡ false → P (handles d t)
      staying = every-staying c P more asks notes acks drops t p

      by : (d : Call) → c ≡ d → P (handles d t)
      by (calls.Attach prefix of_home of_address) is = every-attaches c P more moves prefix of_home of_address t p
      by (calls.Leave of_home) is = every-leaves c P more moves of_home t p
      by (calls.Take number shield packet) is = staying (calls.Take number shield packet) is refl refl
      by calls.Tick is = staying calls.Tick is refl refl
      by (calls.Send to proto payload) is = staying (calls.Send to proto payload) is refl refl
      by (calls.Refresh home) is = staying (calls.Refresh home) is refl refl
      by calls.Ask is = staying calls.Ask is refl refl
      by (calls.Restart secrets) is = every-restarts c P more moves secrets is t p
      by (calls.Tunnel inner) is = staying (calls.Tunnel inner) is refl refl

  pub every-call : ((t : Transition) → P t → P (noted (Called c) t)) → (t : Transition) → P t → P (does c t)
  unfolding does
  every-call called t p = every-handles (noted (Called c) t) (called t p)
