-- Data that one correspondent sends to another on its link, and that is handed over in a quiet stretch.
use Rattle.std.proofs.Common.{◌≡◌, ℕ, zero, suc, List, [], ◌∷◌, ◌++◌, Bool, true, false, length, inl, refl, sym, ap, ◌∙◌, subst, arith}
use Rattle.std.specs.Prelude.{Option, Some, None, Ok, Contains, option_map, drop}
use Rattle.std.specs.List.{list_any}
use Rattle.mip_words.specs.declared.address.Address.{Address}
use Rattle.mip_ipv6.specs.Packet.{Packet, source_of, destination_of}
use Rattle.mip_ipv6.specs.Reading.{packet_of}
use Rattle.mip_ipv6.proofs.Canonical.{packet_back}
use Rattle.mip_packets.specs.Packets.{straight, data_packet}
use Rattle.mip_binding.specs.Held.{held}
use Rattle.mip_entries.specs.declared.answer.Answer.{Answer}
use Rattle.mip_entries.specs.declared.answer.Answer.TheVariants.{Send}
use Rattle.mip_entries.specs.declared.entry.Entry.{Entry}
use Rattle.mip_entries.specs.declared.entry.Entry.TheVariants as entries
use Rattle.mip_entries.specs.Completed.{node_id}
use Rattle.mip_links.specs.Table.{Post, link_of}
use Rattle.mip_rules_correspondent.specs.Calls as parts
use Rattle.mip_rules_correspondent.specs.Steps as part_steps
use Rattle.mip_rules_correspondent.specs.Transitions.{Transition, with_transition}
use Rattle.mip_rules_correspondent.specs.Questions.{held_of}
use Rattle.mip_rules_correspondent.specs.Rules.{standing_of, place_in}
use Rattle.mip_rules_correspondent.specs.Doing.{transition_of, data_head}
use Rattle.mip_schedule.specs.declared.event.Event.{Event}
use Rattle.mip_schedule.specs.declared.event.Event.TheVariants.{Deliver}
use Rattle.mip_history.specs.Runs.{Run, note, notes, entered, without, past_at, with_past}
use Rattle.mip_history.specs.Knowing.{link_or_first, now_in, identity_in, known_in}
use Rattle.mip_history.specs.Nodes.{answered}
use Rattle.mip_history.specs.Delivery.{other_link, arrival_link, overheard_at, handed, delivered}
use Rattle.mip_history.specs.Bound.{accepted_by, held_in}
use Rattle.mip_history.specs.Permitted.{happens}
use Rattle.mip_history.proofs.Histories.{run_held}
use Rattle.mip_law_delivery.specs.Stretches.{run_on, left_by}
use Rattle.mip_law_delivery.specs.Answers.{IsAnswer, IsDelivered}
use Rattle.mip_law_delivery.specs.Quiet.{is_loud, circle_of, IsQuiet}
use Rattle.mip_law_delivery.specs.QuietLaws.{HasQuietDelivery}
use Rattle.mip_law_delivery.specs.Reached.{sending, IsAllDelivered}
use Rattle.mip_law_delivery.specs.Legs.{up, IsDataHere}
use Rattle.mip_law_delivery.proofs.Sending.{sent_by_correspondent}
use Rattle.mip_law_delivery.proofs.Taking.{taken_by_correspondent}
use Rattle.mip_law_delivery.proofs.Instances.{data_from, can_from, passes_from}
use Rattle.mip_law_delivery.proofs.Reaching.{none_contained}
use Rattle.mip_law_delivery.proofs.Delivering.{head_read, delivered_to}
use Rattle.mip_law_delivery.proofs.Happening.{contains_at}
use Rattle.mip_law_delivery.proofs.Examples.{own, to, s, run, orderly, ends, payload, settled}

-- the packet
abbrev p : Packet
p = data_from 18446744073709551626 18446744073709551627

abbrev packet : List ℕ
packet = data_packet (straight own to 17) []

read : packet_of packet ≡ Ok p
unfolding data_packet
read = let can = can_from 18446744073709551626 18446744073709551627 (omega arith) (omega arith) in packet_back p can.plain can.range can.size

-- its sender holds no care-of address for its destination, so it goes straight
nothing_held : held_in s run.past 0 to.0 ≡ None
unfolding held accepted_by
nothing_held = refl

none_held : held_of (known_in s run 0 4) (now_in s run) to ≡ None
none_held = by (held_of (known_in s run 0 4) (now_in s run) to) (run_held s [] 0 own 4 to refl ∙ nothing_held)
  where
    by : (o : Option Address) → option_map (λ a. a.0) o ≡ None → o ≡ None
    by None e = refl
    by (Some a) e = absurd cc

abbrev sends : Transition
sends = transition_of (identity_in s run 0 own 4) (known_in s run 0 4) (now_in s run) (parts.Send to 17 [])

one_packet : part_steps.answers_of sends.steps ≡ Send None packet ∷ []
one_packet =
    sent_by_correspondent (identity_in s run 0 own 4) (known_in s run 0 4) (now_in s run) to 17 []
    ∙ ap (λ (o : Option Address). Send None (data_packet (data_head own to 17 o) []) ∷ []) none_held

abbrev behind : Run
behind = with_past 0 (with_transition (past_at run 0) sends) run

abbrev post : Post
post = record { from = 0; shield = None; packet = packet }

-- the run behind its sending
abbrev sent : Run
sent = notes [] (entered post (note (entries.Sent 0 (node_id 0) false packet) behind))

sent_is : run_on s run (sending 0 to 17 [] ∷ []) ≡ sent
unfolding answered
sent_is = ap (λ (l : List Answer). answered s 0 (link_or_first s own.0) behind l) one_packet

-- it comes to the link from which it was sent, and its receiver hands it up
same_link : arrival_link s post ≡ None
same_link = let head = head_read packet p read in ap (λ (d : ℕ). other_link (link_of s.links d) 0) head.0

abbrev beside : Run
beside = note (entries.Handed 0 (node_id 1)) (without 0 sent)

abbrev takes : Transition
takes = transition_of (identity_in s beside 1 to 4) (known_in s beside 1 4) (now_in s beside) (parts.Take 0 None packet)

here : IsDataHere (identity_in s beside 1 to 4) (known_in s beside 1 4) (now_in s beside) packet p
here = record {
  read = read;
  plain = refl;
  passes = passes_from (standing_of (identity_in s beside 1 to 4) (known_in s beside 1 4) (now_in s beside) p.head) (place_in packet p) 18446744073709551626 18446744073709551627 refl;
}

abbrev after : Run
after = with_past 1 (with_transition (past_at beside 1) takes) beside

taken_is : delivered s sent 0 false ≡ answered s 1 (link_or_first s to.0) after (up 0 p ∷ [])
unfolding handed
taken_is =
    delivered_to s sent 0 false post p 0 1 refl refl read refl refl (omega arith) (omega arith)
    ∙ ap (λ (l : Option ℕ). handed s 0 post 1 l (overheard_at s post 0 l (without 0 sent))) same_link
    ∙ ap (λ (l : List Answer). answered s 1 (link_or_first s to.0) after l) (taken_by_correspondent (identity_in s beside 1 to 4) (known_in s beside 1 4) (now_in s beside) 0 None packet p here)

abbrev told : List Entry
told = entries.Handed 0 (node_id 1) ∷ entries.Up (node_id 1) 0 (source_of p.head) (destination_of p.head) 17 [] ∷ []

left_is : (happens s sent (Deliver 0)).past ≡ sent.past ++ told
unfolding answered
left_is = ap (λ (r : Run). r.past) taken_is

left_there : left_by s (run_on s run (sending 0 to 17 [] ∷ [])) (Deliver 0 ∷ []) ≡ told
left_there =
    ap (λ (r : Run). drop (length r.past) (let x : Run = happens s r (Deliver 0) in x.past)) sent_is
    ∙ ap (λ (l : List Entry). drop (length sent.past) l) left_is

-- the stretch is quiet
quiet : IsQuiet s run (sending 0 to 17 [] ∷ Deliver 0 ∷ []) 0 1
quiet = record {
  settled = settled;
  silent =
      ap (λ (l : List Entry). list_any (is_loud (circle_of run.past 0 1)) (drop (length run.past) l))
      (ap (λ (r : Run). let x : Run = happens s r (Deliver 0) in x.past) sent_is ∙ left_is);
  lasting = refl;
}

there : Contains (left_by s (run_on s run (sending 0 to 17 [] ∷ [])) (Deliver 0 ∷ [])) (entries.Handed 0 (node_id 1))
there = subst (λ (l : List Entry). Contains l (entries.Handed 0 (node_id 1))) (sym left_there) (contains_at [] (entries.Handed 0 (node_id 1)) (drop 1 told))

-- nothing is sent in answer to it
abbrev is_sent : Entry → Bool
is_sent (entries.Sent number node shielded packet) = true
is_sent _ = false

no_answer : (i : ℕ) → IsAnswer s (run_on s run (sending 0 to 17 [] ∷ [])) (Deliver 0 ∷ []) 0 i → ⊥
no_answer i a = by a.one.before a.one.event a.one.after a.one.place a.one.is
  where
    by : (before : List Event) (event : Event) (rest : List Event) → Deliver 0 ∷ [] ≡ before ++ event ∷ rest → a.entries ≡ left_by s (run_on s (run_on s run (sending 0 to 17 [] ∷ [])) before) (event ∷ []) → ⊥
    by [] event rest place is =
        let same : Deliver 0 ≡ event = cc in
        let whole : a.entries ≡ told = is ∙ ap (λ (e : Event). left_by s (run_on s run (sending 0 to 17 [] ∷ [])) (e ∷ [])) (sym same) ∙ left_there in
        let none : true ≡ false = none_contained is_sent a.entries (entries.Sent i a.node a.shielded a.packet) (ap (list_any is_sent) whole) a.sent in
        absurd cc
    by (x ∷ []) event rest place is = absurd cc
    by (x ∷ y ∷ before) event rest place is = absurd cc

all : IsAllDelivered s (run_on s run (sending 0 to 17 [] ∷ [])) (Deliver 0 ∷ []) 0
all zero j same =
    subst (λ (i : ℕ). IsDelivered s (run_on s run (sending 0 to 17 [] ∷ [])) (Deliver 0 ∷ []) i) (sym same) (record {
      entries = left_by s (run_on s run (sending 0 to 17 [] ∷ [])) (Deliver 0 ∷ []);
      one = record { before = []; event = Deliver 0; after = []; place = refl; is = refl };
      reached = inl (node_id 1, there);
    })
all (suc answers) j d = absurd (no_answer d.0 d.1)

pub quiet_delivery : HasQuietDelivery
quiet_delivery = record {
  s = s;
  orderly = orderly;
  before = [];
  more = Deliver 0 ∷ [];
  x = 0;
  y = 1;
  own = own;
  to = to;
  proto = 17;
  payload = [];
  of_data = payload;
  ends = ends;
  quiet = quiet;
  all = all;
  handed = there;
}
