-- Deliveries to mobiles: what the correspondent part reads is the packet that was posted, but for its hop limit, or the one within
-- its tunnel.
use Rattle.std.proofs.Common.{◌≡◌, ℕ, List, [], ◌∷◌, ◌++◌, Bool, true, false, refl, sym, ap, ◌∙◌, subst}
use Rattle.std.specs.Prelude.{Option, Some, None, is_some, Result, Ok, Err, not, ◌==◌, if◌then◌else◌, slice_get}
use Rattle.mip_words.specs.declared.address.Address.{Address}
use Rattle.mip_words.specs.declared.shield.Shield.{Shield}
use Rattle.mip_ipv6.specs.Packet.{Packet}
use Rattle.mip_ipv6.specs.Reading.{packet_of}
use Rattle.mip_ipv6.specs.declared.exit_fault.ExitFault.{ExitFault}
use Rattle.mip_ipv6.specs.declared.exit_fault.ExitFault.TheVariants.{NotTunnel, WrongEntry}
use Rattle.mip_ipv6.specs.Tunnel.{inner, opened}
use Rattle.mip_entries.specs.declared.entry.Entry.{Entry}
use Rattle.mip_entries.specs.declared.entry.Entry.TheVariants as entries
use Rattle.mip_entries.specs.Completed.{node_id}
use Rattle.mip_reception.specs.Registrations.{registration_in}
use Rattle.mip_rules_correspondent.specs.declared.verdict.Verdict.TheVariants.{Accept}
use Rattle.mip_rules_correspondent.specs.Verdicts.{Bench, verdict}
use Rattle.mip_rules_correspondent.specs.Rules.{bench}
use Rattle.mip_rules_correspondent.specs.Seen.{CorrespondentSeen}
use Rattle.mip_rules_correspondent.proofs.Taken.{accepted_home}
use Rattle.mip_rules_correspondent.proofs.VerdictLaws.{sound}
use Rattle.mip_rules_mobile.specs.Calls.{Call, Take}
use Rattle.mip_rules_mobile.specs.Known.{Known}
use Rattle.mip_rules_mobile.specs.Questions.{part_room}
use Rattle.mip_rules_mobile.specs.Doing.{transition_of}
use Rattle.mip_rules_mobile.specs.Coming.{Came}
use Rattle.mip_rules_mobile.specs.PartLaws.{PartLife, IsPartTaken}
use Rattle.mip_rules_mobile.proofs.PartLives.{part_is}
use Rattle.mip_rules_mobile.proofs.Trusts.{opened-source}
use Rattle.mip_links.specs.Table.{Post}
use Rattle.mip_history.specs.Setup.{Setup}
use Rattle.mip_history.specs.Setup.Kind.{Mobile}
use Rattle.mip_history.specs.Runs.{Run, note, mobile_past_at}
use Rattle.mip_history.specs.Knowing.{now_in, secrets_in, mobile_known_in}
use Rattle.mip_history.specs.KnowingLaws.{part_in}
use Rattle.mip_history.specs.Nodes.{after_mobile_transition}
use Rattle.mip_history.specs.Delivery.{handed_over}
use Rattle.mip_history.specs.Shields.{is_shielded_in}
use Rattle.mip_history.specs.Bound.{IsReadIn, Itself, Within, packet_in, judge_in, IsAccepted}
use Rattle.mip_history.proofs.Runs.{IsPart, IsRun, Goes}
use Rattle.mip_history.proofs.Handing.{reads_as, judge_same}
use Rattle.mip_history.proofs.PartTransitions.{mobile_transition}

-- what is handed over has in it what was posted
record ReadsIn (past : List Entry) (k : ℕ) (bytes : List ℕ) (q : Packet) : Type 0 where
  packet : Packet
  read : IsReadIn past k bytes packet
  source : q.head.source ≡ packet.head.source
  home : q.head.home ≡ packet.head.home
  proto : q.head.proto ≡ packet.head.proto
  body : q.body ≡ packet.body

-- a tunnel packet is opened alike, whatever its hop limit
opened_alike : (entry : Address) (p q : Packet) → p.head.source ≡ q.head.source → p.head.proto ≡ q.head.proto → p.body ≡ q.body → opened entry p ≡ opened entry q
unfolding opened
opened_alike entry p q source proto body =
    ap (λ (n : ℕ). exit n p.head.source p.body) proto
    ∙ ap (λ (a : Address). exit q.head.proto a p.body) source
    ∙ ap (λ (l : List ℕ). exit q.head.proto q.head.source l) body
  where
    exit : ℕ → Address → List ℕ → Result Packet ExitFault
    exit n a l = if not (n == 41) then Err NotTunnel else if not (a.0 == entry.0) then Err (WrongEntry a) else inner (packet_of l)

-- the packet itself, or the one within a tunnel that came under a shield
reads_itself : (past : List Entry) (k : ℕ) (bytes : List ℕ) (link : Option ℕ) (q : Packet) → packet_of (handed_over bytes link) ≡ Ok q → ReadsIn past k bytes q
reads_itself past k bytes link q read =
    let found = reads_as bytes link q read in
    record { packet = found.packet; read = Itself found.read; source = found.source; home = found.home; proto = found.proto; body = found.body }

reads_within : (past : List Entry) (k : ℕ) (bytes : List ℕ) (link : Option ℕ) (q outer : Packet) (agent : Address) → packet_of (handed_over bytes link) ≡ Ok outer → opened agent outer ≡ Ok q
    → is_shielded_in past k ≡ Some true → ReadsIn past k bytes q
reads_within past k bytes link q outer agent read opens shielded =
    let found = reads_as bytes link outer read in
    let same : agent ≡ outer.head.source = ap (λ (n : ℕ). record { 0 = n }) (sym (opened-source agent outer q opens)) in
    record {
      packet = q;
      read = Within found.packet found.read
          (subst (λ (a : Address). opened a found.packet ≡ Ok q) (same ∙ found.source) (sym (opened_alike agent outer found.packet found.source found.proto found.body) ∙ opens)) shielded;
      source = refl;
      home = refl;
      proto = refl;
      body = refl;
    }

-- the packet of a call
abbrev number_in : Call → ℕ
number_in (Take number shield packet) = number
number_in _ = 0

abbrev bytes_in : Call → List ℕ
bytes_in (Take number shield packet) = packet
bytes_in _ = []

abbrev shield_in : Call → Option Shield
shield_in (Take number shield packet) = shield
shield_in _ = None

module _ (s : Setup) (k n : ℕ) (post : Post) (link : Option ℕ) (before : Run) (is : IsRun s (note (entries.Handed k (node_id n)) before))
    (posted : packet_in (before.past ++ entries.Handed k (node_id n) ∷ []) k ≡ Some post.packet)
    (under : is_shielded_in (before.past ++ entries.Handed k (node_id n) ∷ []) k ≡ Some (is_some post.shield)) (own : Address) (agent : Option Address)
    (host_is : slice_get s.hosts n ≡ Some (record { address = own; kind = Mobile agent })) where
  abbrev run : Run
  run = note (entries.Handed k (node_id n)) before

  run_is : IsRun s run
  run_is = is

  abbrev known : Known
  known = mobile_known_in s run n own agent

  abbrev p : PartLife
  p = part_in s run n own

  p_is : IsPart s run.past p n
  p_is = run_is.parts n own agent host_is

  abbrev c : Call
  c = Take k post.shield (handed_over post.packet link)

  module _ (x : IsPartTaken known (now_in s run) c (transition_of known (now_in s run) c).steps) where
    abbrev bench_of : CorrespondentSeen → Bench
    bench_of part = bench part.identity part.known (now_in s run) x.taken.registration

    -- the judge of the part is the one of the history
    same_judge : bench_of known.part ≡ judge_in s run.past n own part_room x.taken.home.0
    same_judge =
        ap bench_of (part_is own agent s.numbers (secrets_in s n 0) (mobile_past_at run n))
        ∙ judge_same s run.past n own p.secrets part_room p.past p_is.secrets p_is.past x.taken.registration x.taken.home
        (accepted_home _ x.taken.registration x.packet.body x.taken.home x.taken.binding x.taken.accepted x.taken.granted x.taken.kbm x.taken.verdict_is)

    -- the bytes that came are those that were handed over
    came_bytes : handed_over post.packet link ≡ x.bytes
    came_bytes = ap bytes_in x.call

    as_posted : ReadsIn run.past k post.packet x.packet
    as_posted = by x.tunnelled x.came
      where
        by : (tunnelled : Bool) → Came known (now_in s run) tunnelled x.shield x.bytes x.packet → ReadsIn run.past k post.packet x.packet
        by false read = reads_itself run.past k post.packet link x.packet (subst (λ (l : List ℕ). packet_of l ≡ Ok x.packet) (sym came_bytes) read)
        by true within =
            reads_within run.past k post.packet link x.packet within.outer within.agent (subst (λ (l : List ℕ). packet_of l ≡ Ok within.outer) (sym came_bytes) within.read) within.opens
            (under ∙ ap (λ (o : Option Shield). Some (is_some o)) (ap shield_in x.call) ∙ ap (λ (b : Bool). Some b) (within.shielded x.taken.mobility))

    accepts : verdict (judge_in s run.past n own part_room x.taken.home.0) x.taken.registration as_posted.packet.body ≡ Accept x.taken.home x.taken.binding x.taken.accepted x.taken.granted x.taken.kbm
    accepts =
        ap (λ (b : Bench). verdict b x.taken.registration as_posted.packet.body) (sym same_judge)
        ∙ ap (λ (l : List ℕ). verdict (bench_of known.part) x.taken.registration l) (sym as_posted.body)
        ∙ x.taken.verdict_is

    same_asks : {a b : Address} {x y : Option Address} {l m : List ℕ} → b ≡ a → y ≡ x → m ≡ l → registration_in a x l ≡ registration_in b y m
    same_asks p q r = cc

    -- an update that is accepted stands behind its packet
    stands_at : IsAccepted s run.past n k x.taken.home x.taken.binding x.taken.accepted
    stands_at = record {
      own = own;
      kind = Mobile agent;
      room = part_room;
      is_host = host_is;
      has_room = refl;
      earlier = before.past;
      handed = refl;
      bytes = post.packet;
      posted = posted;
      packet = as_posted.packet;
      read = as_posted.read;
      mobility = sym as_posted.proto ∙ x.taken.mobility;
      registration = x.taken.registration;
      asks = same_asks as_posted.source as_posted.home as_posted.body ∙ x.taken.asks;
      granted = x.taken.granted;
      kbm = x.taken.kbm;
      verdict_is = accepts;
      sound = sound (judge_in s run.past n own part_room x.taken.home.0) x.taken.registration as_posted.packet.body x.taken.home x.taken.binding x.taken.accepted x.taken.granted x.taken.kbm accepts;
    }

    stands : IsAccepted s run.past n x.number x.taken.home x.taken.binding x.taken.accepted
    stands = subst (λ (number : ℕ). IsAccepted s run.past n number x.taken.home x.taken.binding x.taken.accepted) (ap number_in x.call) stands_at

  pub handed_to_part : Goes s run (after_mobile_transition s n own (transition_of known (now_in s run) c) run)
  handed_to_part = mobile_transition s n own agent run run_is host_is c refl stands
