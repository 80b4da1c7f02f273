-- Deliveries: a packet that is handed to a node is the one that was posted, but for its hop limit.
use Rattle.std.proofs.Common.{◌≡◌, ℕ, ◌<◌, List, [], ◌∷◌, ◌++◌, Bool, true, false, length, ◌⊎◌, inl, inr, refl, sym, ap, ◌∙◌, subst}
use Rattle.std.specs.Prelude.{Option, Some, None, Result, Ok, Err, slice_get}
use Rattle.std.specs.List.{list_any}
use Rattle.std.proofs.lemmas.Option.{slice_get_within}
use Rattle.mip_words.specs.declared.address.Address.{Address}
use Rattle.mip_ipv6.specs.declared.not_packet.NotPacket.{NotPacket}
use Rattle.mip_ipv6.specs.Packet.{Packet}
use Rattle.mip_ipv6.specs.Reading.{packet_of}
use Rattle.mip_ipv6.specs.Tunnel.{lowered_packet}
use Rattle.mip_ipv6.specs.TunnelLaws.{lowered_if_read}
use Rattle.mip_ipv6.proofs.Tunnels.{packet_of_lowered}
use Rattle.mip_binding.specs.Acceptance.{Acceptance}
use Rattle.mip_binding.specs.Held.{floor, is_full}
use Rattle.mip_entries.specs.declared.entry.Entry.{Entry}
use Rattle.mip_entries.specs.declared.entry.Entry.TheVariants as entries
use Rattle.mip_entries.specs.Completed.{node_id}
use Rattle.mip_entries.specs.Stamped.{Stamped}
use Rattle.mip_nonce.specs.Secrets.{Life}
use Rattle.mip_rules_correspondent.specs.declared.identity.Identity.{Identity}
use Rattle.mip_reception.specs.declared.registration.Registration.{Registration}
use Rattle.mip_rules_correspondent.specs.Steps.{Step}
use Rattle.mip_rules_correspondent.specs.StepsLaws.{is_acceptance}
use Rattle.mip_rules_correspondent.specs.Questions.{known}
use Rattle.mip_rules_correspondent.specs.Transitions.{Transition}
use Rattle.mip_reception.specs.Registrations.{registration_in, home_of}
use Rattle.mip_rules_correspondent.specs.declared.verdict.Verdict.TheVariants.{Accept}
use Rattle.mip_rules_correspondent.specs.Verdicts.{Bench, verdict}
use Rattle.mip_rules_correspondent.specs.Rules.{bench}
use Rattle.mip_rules_correspondent.specs.Calls.{Take}
use Rattle.mip_rules_correspondent.specs.Doing.{transition_of}
use Rattle.mip_rules_correspondent.specs.Taken.{IsUpdateTaken}
use Rattle.mip_rules_correspondent.proofs.Acceptances.{floor-answers, full-answers}
use Rattle.mip_rules_correspondent.proofs.Pasts.{known-numbers}
use Rattle.mip_rules_correspondent.proofs.VerdictLaws.{sound}
use Rattle.mip_links.specs.Table.{Post}
use Rattle.mip_history.specs.Setup.{Setup}
use Rattle.mip_history.specs.SetupLaws.{is_correspondent_host, is_correspondent_at}
use Rattle.mip_history.specs.Setup.Kind.{Correspondent}
use Rattle.mip_history.specs.Runs.{Run, note, past_at}
use Rattle.mip_history.specs.Questions.{moment_in, life_in}
use Rattle.mip_history.specs.Knowing.{link_or_first, secrets_in, identity_in, known_in, now_in}
use Rattle.mip_history.specs.Nodes.{after_transition}
use Rattle.mip_history.specs.Delivery.{handed_over}
use Rattle.mip_history.specs.Bound.{accepted_by, packet_in, judge_in, IsAccepted}
use Rattle.mip_history.proofs.Runs.{IsPast, IsRun, Goes}
use Rattle.mip_history.proofs.Transitions.{done, quiet_transition, accepting_transition}
use Rattle.mip_rules_correspondent.proofs.Taken.{accepted_home, taken_is}

-- a transition of a correspondent in which nothing is accepted
pub after_quiet_transition : (s : Setup) (n : ℕ) (own : Address) (run : Run) (t : Transition) → IsRun s run → n < length s.hosts → is_correspondent_at s n ≡ true
    → t.now ≡ now_in s run → list_any is_acceptance t.steps ≡ false → Goes s run (after_transition s n own t run)
after_quiet_transition s n own run t is inside corresponds now none =
    subst (λ (at : ℕ). Goes s run (done s n (link_or_first s own.0) at t.steps run)) (sym now)
    (quiet_transition s n (link_or_first s own.0) run is inside corresponds t.steps none)

-- what is handed over reads as what was posted
pub record ReadsAs (bytes : List ℕ) (q : Packet) : Type 0 where
  pub packet : Packet
  pub read : packet_of bytes ≡ Ok packet
  pub source : q.head.source ≡ packet.head.source
  pub home : q.head.home ≡ packet.head.home
  pub proto : q.head.proto ≡ packet.head.proto
  pub body : q.body ≡ packet.body

pub reads_as : (bytes : List ℕ) (link : Option ℕ) (q : Packet) → packet_of (handed_over bytes link) ≡ Ok q → ReadsAs bytes q
reads_as bytes None q read = record { packet = q; read = read; source = refl; home = refl; proto = refl; body = refl }
reads_as bytes (Some link) q read = by (packet_of bytes) refl (sym (packet_of_lowered bytes) ∙ read)
  where
    by : (r : Result Packet NotPacket) → packet_of bytes ≡ r → lowered_if_read r ≡ Ok q → ReadsAs bytes q
    by (Ok p) is e =
        let same : q ≡ lowered_packet p = cc in
        record {
          packet = p;
          read = is;
          source = ap (λ (x : Packet). x.head.source) same;
          home = ap (λ (x : Packet). x.head.home) same;
          proto = ap (λ (x : Packet). x.head.proto) same;
          body = ap (λ (x : Packet). x.body) same;
        }
    by (Err fault) is e = absurd cc

bench_same : (own : Address) (now : ℕ) {s t : Life} {a b : Option ℕ} {x y : Bool} {m n : ℕ} → s ≡ t → a ≡ b → x ≡ y → m ≡ n
    → (let k : Bench = record { own = own; secrets = s; now = now; floor = a; full = x; numbers = m } in k) ≡ record { own = own; secrets = t; now = now; floor = b; full = y; numbers = n }
bench_same own now o p q r = cc

-- the judge of a transition is the one of the history
pub judge_same : (s : Setup) (past : List Entry) (n : ℕ) (own : Address) (secrets : Life) (room : ℕ) (steps : List (Stamped Step)) → secrets ≡ secrets_in s n (life_in past n) → IsPast s past steps n
    → (r : Registration) (home : Address) → home ≡ home_of r
    → bench (record { own = own; secrets = secrets; room = room }) (known room s.numbers steps) (moment_in s.start past) r ≡ judge_in s past n own room home.0
judge_same s past n own secrets room steps mine p r home same =
    let now : ℕ = moment_in s.start past in
    bench_same own now mine
    (floor-answers room s.numbers steps p.rises now (home_of r) p.early
    ∙ ap (λ (xs : List Acceptance). floor xs (home_of r).0 now) p.accepted
    ∙ ap (λ (h : Address). floor (accepted_by s.start past n) h.0 now) (sym same))
    (full-answers room s.numbers steps p.rises now (home_of r) p.early
    ∙ ap (λ (xs : List Acceptance). is_full room xs (home_of r).0 now) p.accepted
    ∙ ap (λ (h : Address). is_full room (accepted_by s.start past n) h.0 now) (sym same))
    (known-numbers room s.numbers steps)

-- a packet is handed over to a node
module _ (s : Setup) (k n : ℕ) (post : Post) (link : Option ℕ) (before : Run) (is : IsRun s (note (entries.Handed k (node_id n)) before))
    (posted : packet_in (before.past ++ entries.Handed k (node_id n) ∷ []) k ≡ Some post.packet) (own : Address) (room : ℕ)
    (host_is : slice_get s.hosts n ≡ Some (record { address = own; kind = Correspondent room })) where
  abbrev pub run : Run
  run = note (entries.Handed k (node_id n)) before

  run_is : IsRun s run
  run_is = is

  inside : n < length s.hosts
  inside = slice_get_within s.hosts n (record { address = own; kind = Correspondent room }) host_is

  corresponds : is_correspondent_at s n ≡ true
  corresponds = ap is_correspondent_host host_is

  abbrev pub me : Identity
  me = identity_in s run n own room

  same_judge : (r : Registration) (home : Address) → home ≡ home_of r → bench me (known_in s run n room) (now_in s run) r ≡ judge_in s run.past n own room home.0
  same_judge r home same = judge_same s run.past n own me.secrets room (past_at run n) refl (run_is.pasts n corresponds) r home same

  abbrev steps : List Step
  steps = (transition_of me (known_in s run n room) (now_in s run) (Take k post.shield (handed_over post.packet link))).steps

  -- an update that is accepted stands behind its packet
  stands : (u : IsUpdateTaken me (known_in s run n room) (now_in s run) k post.shield (handed_over post.packet link) steps) → IsAccepted s run.past n k u.home u.binding u.accepted
  stands u =
      let as_posted = reads_as post.packet link u.packet u.read in
      let accepts : verdict (judge_in s run.past n own room u.home.0) u.registration as_posted.packet.body ≡ Accept u.home u.binding u.accepted u.granted u.kbm =
      ap (λ (b : Bench). verdict b u.registration as_posted.packet.body) (sym (same_judge u.registration u.home (accepted_home _ u.registration u.packet.body u.home u.binding u.accepted u.granted u.kbm u.verdict_is)))
      ∙ ap (λ (l : List ℕ). verdict (bench me (known_in s run n room) (now_in s run) u.registration) u.registration l) (sym as_posted.body)
      ∙ u.verdict_is in
      record {
        own = own;
        kind = Correspondent room;
        room = room;
        is_host = host_is;
        has_room = refl;
        earlier = before.past;
        handed = refl;
        bytes = post.packet;
        posted = posted;
        packet = as_posted.packet;
        read = as_posted.read;
        mobility = sym as_posted.proto ∙ u.mobility;
        registration = u.registration;
        asks = same as_posted.source as_posted.home as_posted.body ∙ u.asks;
        granted = u.granted;
        kbm = u.kbm;
        verdict_is = accepts;
        sound = sound (judge_in s run.past n own room u.home.0) u.registration as_posted.packet.body u.home u.binding u.accepted u.granted u.kbm accepts;
      }
    where
      same : {a b : Address} {x y : Option Address} {l m : List ℕ} → b ≡ a → y ≡ x → m ≡ l → registration_in a x l ≡ registration_in b y m
      same p q r = cc

  pub handed_to : Goes s run (after_transition s n own (transition_of me (known_in s run n room) (now_in s run) (Take k post.shield (handed_over post.packet link))) run)
  handed_to = by found.1
    where
      t : Transition
      t = transition_of me (known_in s run n room) (now_in s run) (Take k post.shield (handed_over post.packet link))

      found : (t.now ≡ now_in s run) × ((list_any is_acceptance t.steps ≡ false) ⊎ IsUpdateTaken me (known_in s run n room) (now_in s run) k post.shield (handed_over post.packet link) t.steps)
      found = taken_is me (known_in s run n room) (now_in s run) k post.shield (handed_over post.packet link)

      by : ((list_any is_acceptance t.steps ≡ false) ⊎ IsUpdateTaken me (known_in s run n room) (now_in s run) k post.shield (handed_over post.packet link) t.steps) → Goes s run (after_transition s n own t run)
      by (inl none) = after_quiet_transition s n own run t run_is inside corresponds found.0 none
      by (inr u) =
          subst (λ (at : ℕ). Goes s run (done s n (link_or_first s own.0) at t.steps run)) (sym found.0)
          (subst (λ (l : List Step). Goes s run (done s n (link_or_first s own.0) (now_in s run) l run)) (sym u.steps_are)
          (accepting_transition s n (link_or_first s own.0) run run_is inside corresponds (Take k post.shield (handed_over post.packet link)) k u.home u.binding u.accepted u.rest u.none (stands u)))
