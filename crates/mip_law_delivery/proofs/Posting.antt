-- The packet that an end of a run posts as it is to send data.
use Rattle.std.proofs.Common.{◌≡◌, ◌≢◌, ℕ, List, [], ◌∷◌, ◌++◌, length, sym, ap, ◌∙◌, subst}
use Rattle.std.specs.Prelude.{Option, Some, None, unwrap_or, slice_get}
use Rattle.mip_words.specs.declared.address.Address.{Address}
use Rattle.mip_entries.specs.declared.answer.Answer.TheVariants.{Send}
use Rattle.mip_packets.specs.Packets.{data_packet}
use Rattle.mip_ipv6.specs.Tunnel.{encapsulated}
use Rattle.mip_links.specs.Table.{Post}
use Rattle.mip_rules_correspondent.specs.Calls as part_calls
use Rattle.mip_rules_correspondent.specs.Steps as part_steps
use Rattle.mip_rules_correspondent.specs.Questions.{held_of}
use Rattle.mip_rules_correspondent.specs.Transitions as part_transitions
use Rattle.mip_rules_correspondent.specs.Doing as part_doing
use Rattle.mip_rules_mobile.specs.declared.attachment.Attachment.TheVariants.{AtHome, Away}
use Rattle.mip_rules_mobile.specs.Known.{Known}
use Rattle.mip_rules_mobile.specs.Calls as mobile_calls
use Rattle.mip_rules_mobile.specs.Steps as mobile_steps
use Rattle.mip_rules_mobile.specs.Sendings as sendings
use Rattle.mip_rules_mobile.specs.HomeQuestions.{home_of, registered_agent}
use Rattle.mip_rules_mobile.specs.RowQuestions.{bound_row_of}
use Rattle.mip_rules_mobile.specs.Transitions as mobile_transitions
use Rattle.mip_rules_mobile.specs.Doing as mobile_doing
use Rattle.mip_schedule.specs.declared.event.Event.{Event}
use Rattle.mip_history.specs.Setup.{Setup, Host}
use Rattle.mip_history.specs.Setup.Kind.{Correspondent, Mobile}
use Rattle.mip_history.specs.Runs.{Run, past_at, mobile_past_at, with_past, with_mobile_past}
use Rattle.mip_history.specs.Calls as calls
use Rattle.mip_history.specs.Knowing.{link_or_first, now_in, identity_in, known_in, mobile_known_in, stands_on}
use Rattle.mip_history.specs.Nodes.{by_host}
use Rattle.mip_history.specs.Permitted.{happens}
use Rattle.mip_law_delivery.specs.Legs.{CanBeSent}
use Rattle.mip_law_delivery.specs.Stretches.{run_on}
use Rattle.mip_law_delivery.specs.Reached.{sending}
use Rattle.mip_law_delivery.proofs.Sending.{sent_by_correspondent, sent_at_home, sent_bound, sent_tunnelled}
use Rattle.mip_law_delivery.proofs.Delivering.{send_left}
use Rattle.mip_history.proofs.Effects.{get_last}
use Rattle.mip_law_delivery.proofs.Growing.{post_stays}
use Rattle.mip_law_delivery.proofs.Joining.{bare}

-- this packet is posted next
pub record Posts (s : Setup) (run after : Run) (packet : List ℕ) : Type 0 where
  pub link : ℕ
  pub posts : after.posts ≡ run.posts ++ bare link packet ∷ []

-- it has the number of how many were posted before, and keeps it
pub posted_stays : (s : Setup) (run after : Run) (packet : List ℕ) → (p : Posts s run after packet) → (more : List Event) → slice_get (run_on s after more).posts (length run.posts) ≡ Some (bare p.link packet)
posted_stays s run after packet p more =
    post_stays s after more (length run.posts) (bare p.link packet) (ap (λ (ps : List Post). slice_get ps (length run.posts)) p.posts ∙ get_last run.posts (bare p.link packet))

module _ (s : Setup) (run : Run) (n : ℕ) (own to : Address) (proto : ℕ) (payload : List ℕ) where
  abbrev after : Run
  after = happens s run (sending n to proto payload)

  abbrev call : calls.Call
  call = calls.Send to proto payload

  pub correspondent_posts : (room : ℕ) → slice_get s.hosts n ≡ Some (record { address = own; kind = Correspondent room })
      → Posts s run after (data_packet (part_doing.data_head own to proto (held_of (known_in s run n room) (now_in s run) to)) payload)
  correspondent_posts room host =
      let transition : part_transitions.Transition = part_doing.transition_of (identity_in s run n own room) (known_in s run n room) (now_in s run) (part_calls.Send to proto payload) in
      let next : Run = with_past n (part_transitions.with_transition (past_at run n) transition) run in
      let packet : List ℕ = data_packet (part_doing.data_head own to proto (held_of (known_in s run n room) (now_in s run) to)) payload in
      let left = send_left s n (link_or_first s own.0) next packet (part_steps.answers_of transition.steps)
      (sent_by_correspondent (identity_in s run n own room) (known_in s run n room) (now_in s run) to proto payload) in
      subst (λ (o : Option Host). Posts s run (by_host s n call run o) packet) (sym host) (record { link = link_or_first s own.0; posts = left.posts })

  module _ (agent : Option Address) (host : slice_get s.hosts n ≡ Some (record { address = own; kind = Mobile agent })) where
    abbrev k : Known
    k = mobile_known_in s run n own agent

    mobile_posts : (packet : List ℕ) → mobile_steps.answers_of (mobile_doing.transition_of k (now_in s run) (mobile_calls.Send to proto payload)).steps ≡ Send None packet ∷ [] → Posts s run after packet
    mobile_posts packet sends =
        let transition : mobile_transitions.Transition = mobile_doing.transition_of k (now_in s run) (mobile_calls.Send to proto payload) in
        let next : Run = with_mobile_past n (mobile_transitions.with_transition (mobile_past_at run n) transition) run in
        let left = send_left s n (unwrap_or (stands_on s run n own) 0) next packet (mobile_steps.answers_of transition.steps) sends in
        subst (λ (o : Option Host). Posts s run (by_host s n call run o) packet) (sym host) (record { link = unwrap_or (stands_on s run n own) 0; posts = left.posts })

    pub home_posts : k.standing ≡ AtHome → Posts s run after (data_packet (part_doing.data_head (home_of k) to proto (held_of k.part.known (now_in s run) to)) payload)
    home_posts home = mobile_posts _ (sent_at_home k (now_in s run) to proto payload home)

    pub bound_posts : (careof : Address) (row : ℕ) → k.standing ≡ Away careof → bound_row_of k (now_in s run) to ≡ Some row
        → Posts s run after (data_packet (sendings.data_head (home_of k) careof to proto (held_of k.part.known (now_in s run) to)) payload)
    bound_posts careof row away bound = mobile_posts _ (sent_bound k (now_in s run) to proto payload careof row away bound)

    pub tunnel_posts : (careof agent_address : Address) → k.standing ≡ Away careof → bound_row_of k (now_in s run) to ≡ None → registered_agent k (now_in s run) ≡ Some agent_address
        → CanBeSent (part_doing.data_head (home_of k) to proto (held_of k.part.known (now_in s run) to)) payload → proto ≢ 135
        → Posts s run after (encapsulated careof agent_address (data_packet (part_doing.data_head (home_of k) to proto (held_of k.part.known (now_in s run) to)) payload))
    tunnel_posts careof agent_address away unbound registered can plain = mobile_posts _ (sent_tunnelled k (now_in s run) to proto payload careof agent_address away unbound registered can plain)
