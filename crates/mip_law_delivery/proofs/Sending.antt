-- What a node sends of data that it is to send: one packet.
use Rattle.std.proofs.Common.{◌≡◌, ◌≢◌, ℕ, List, [], ◌∷◌, refl, ◌∙◌, ap}
use Rattle.std.specs.Prelude.{false, ◌==◌, Option, Some, None, Ok}
use Rattle.std.proofs.lemmas.Bool.{ne_eqb}
use Rattle.mip_words.specs.declared.address.Address.{Address}
use Rattle.mip_ipv6.specs.declared.head.Head.{Head}
use Rattle.mip_ipv6.specs.Reading.{packet_of}
use Rattle.mip_ipv6.proofs.Canonical.{packet_back}
use Rattle.mip_entries.specs.declared.answer.Answer.TheVariants.{Send}
use Rattle.mip_packets.specs.Packets.{data_packet}
use Rattle.mip_ipv6.specs.Tunnel.{encapsulated}
use Rattle.mip_entries.specs.Transitions.{noted_by}
use Rattle.mip_rules_correspondent.specs.declared.identity.Identity.{Identity}
use Rattle.mip_rules_correspondent.specs.declared.known.Known as parts
use Rattle.mip_rules_correspondent.specs.Calls as part_calls
use Rattle.mip_rules_correspondent.specs.Steps as part_steps
use Rattle.mip_rules_correspondent.specs.Questions.{held_of, after as part_after}
use Rattle.mip_rules_correspondent.specs.Doing as part_doing
use Rattle.mip_rules_correspondent.specs.Doing.{does as part_does, transmits as part_transmits}
use Rattle.mip_rules_mobile.specs.declared.attachment.Attachment.TheVariants.{AtHome, Away}
use Rattle.mip_rules_mobile.specs.Known.{Known}
use Rattle.mip_rules_mobile.specs.Calls.{Send as Sending}
use Rattle.mip_rules_mobile.specs.Steps.{answers_of}
use Rattle.mip_rules_mobile.specs.Sendings as sendings
use Rattle.mip_rules_mobile.specs.HomeQuestions.{home_of, registered_agent}
use Rattle.mip_rules_mobile.specs.RowQuestions.{bound_row_of}
use Rattle.mip_rules_mobile.specs.Questions.{after}
use Rattle.mip_rules_mobile.specs.OutRules.{goes_out, passes_all, asks_part}
use Rattle.mip_rules_mobile.specs.Doing.{does, transmits, transition_of}
use Rattle.mip_law_delivery.specs.Legs.{CanBeSent}

pub sent_by_correspondent : (me : Identity) (k : parts.Known) (now : ℕ) (to : Address) (proto : ℕ) (payload : List ℕ)
    → part_steps.answers_of (part_doing.transition_of me k now (part_calls.Send to proto payload)).steps ≡ Send None (data_packet (part_doing.data_head me.own to proto (held_of k now to)) payload) ∷ []
unfolding part_does part_transmits noted_by part_after
sent_by_correspondent me k now to proto payload = refl

module _ (k : Known) (now : ℕ) (to : Address) (proto : ℕ) (payload : List ℕ) where
  -- the packet that it sends at home
  abbrev head_at_home : Head
  head_at_home = part_doing.data_head (home_of k) to proto (held_of k.part.known now to)

  pub sent_at_home : k.standing ≡ AtHome → answers_of (transition_of k now (Sending to proto payload)).steps ≡ Send None (data_packet head_at_home payload) ∷ []
  unfolding does transmits asks_part passes_all goes_out noted_by after part_does part_transmits part_after
  sent_at_home home = rw (home) refl

  pub sent_bound : (careof : Address) (row : ℕ) → k.standing ≡ Away careof → bound_row_of k now to ≡ Some row
      → answers_of (transition_of k now (Sending to proto payload)).steps ≡ Send None (data_packet (sendings.data_head (home_of k) careof to proto (held_of k.part.known now to)) payload) ∷ []
  unfolding does transmits noted_by after
  sent_bound careof row away bound = rw (away, bound) refl

  -- through the tunnel goes what it sends at home
  pub sent_into_tunnel : (careof agent : Address) → k.standing ≡ Away careof → registered_agent k now ≡ Some agent → bound_row_of k now to ≡ None
      → answers_of (transition_of k now (Sending to proto payload)).steps
      ≡ Send (sendings.shield_of (sendings.ByTunnel (home_of k) careof agent (sendings.OfPart (data_packet head_at_home payload)))) (encapsulated careof agent (data_packet head_at_home payload)) ∷ []
  unfolding does transmits asks_part passes_all goes_out noted_by after part_does part_transmits part_after
  sent_into_tunnel careof agent away registered unbound = rw (away, unbound, registered) refl

  -- it is read as it was made
  read_back : CanBeSent head_at_home payload → packet_of (data_packet head_at_home payload) ≡ Ok (record { head = head_at_home; body = payload })
  unfolding data_packet
  read_back can = packet_back (record { head = head_at_home; body = payload }) can.plain can.range can.size

  -- and has no mobility message
  no_signal : CanBeSent head_at_home payload → proto ≢ 135 → sendings.is_mobility (packet_of (data_packet head_at_home payload)) ≡ false
  no_signal can plain = ap sendings.is_mobility (read_back can) ∙ by (held_of k.part.known now to)
    where
      by : (held : Option Address) → ((part_doing.data_head (home_of k) to proto held).proto == 135) ≡ false
      by None = ne_eqb proto 135 plain
      by (Some careof) = ne_eqb proto 135 plain

  pub sent_tunnelled : (careof agent : Address) → k.standing ≡ Away careof → bound_row_of k now to ≡ None → registered_agent k now ≡ Some agent → CanBeSent head_at_home payload → proto ≢ 135
      → answers_of (transition_of k now (Sending to proto payload)).steps ≡ Send None (encapsulated careof agent (data_packet head_at_home payload)) ∷ []
  unfolding does transmits asks_part passes_all goes_out noted_by after part_does part_transmits part_after
  sent_tunnelled careof agent away unbound registered can plain = rw (away, unbound, registered, no_signal can plain) refl
