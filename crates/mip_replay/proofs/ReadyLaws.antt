-- Every event of a schedule finds the engine ready.
use Rattle.std.proofs.Common.{◌≡◌, ℕ, suc, ◌+◌, ◌<◌, ◌≤◌, ◌^◌, List, [], ◌∷◌, length, Bool, true, false, refl, ap, ◌∙◌, arith, drop}
use Rattle.std.proofs.lemmas.Bool.{leb-false}
use Rattle.std.proofs.lemmas.List.Sums.{sum_by-cons}
use Rattle.std.proofs.Math.Seq.{split_at}
use Rattle.std.specs.Prelude.{Some, None, not, ◌&&◌, ◌||◌, ◌==◌, nat_le, nat_lt, take, get_or, slice_get, if◌then◌else◌}
use Rattle.std.specs.List.{sum_by}
use Rattle.mip_words.specs.declared.ids.LinkId.{LinkId}
use Rattle.mip_links.specs.Table.{Asked}
use Rattle.mip_schedule.specs.Contents.{Content, holding}
use Rattle.mip_schedule.specs.EventTimes.{wait_of, waited, carried, is_reserved, is_packet, misfit, untimely}
use Rattle.mip_schedule.specs.Lawful.{IsEvent, IsLawful, IsLink, IsNode, IsOutsider}
use Rattle.mip_schedule.specs.Versions.{is_numbered, numbers_in}
use Rattle.mip_symbols.specs.Places.{AreFew}
use Rattle.mip_symbols.specs.declared.declaration.Declaration.{Declaration}
use Rattle.mip_schedule.specs.declared.event.Event.{Event}
use Rattle.mip_schedule.specs.declared.event.Event.TheVariants.{Wait, Advertise, Payload, Inject, Bind, Listen, Deaf, Squat, Yield, Restart, Settle}
use Rattle.mip_symbols.specs.declared.reason.Reason.TheVariants as reasons
use Rattle.mip_history.specs.Setup.{setup_of, links_in}
use Rattle.mip_history.specs.Questions.{moment_in, life_in}
use Rattle.mip_history.specs.Permitted.{permitted, run_of}
use Rattle.mip_history.specs.Passing.{waited_by, restarted_by}
use Rattle.mip_history.proofs.Declarations.{hosts_count}
use Rattle.mip_engine.specs.Nodes.{NodeSeen}
use Rattle.mip_engine.specs.Engines.{EngineSeen}
use Rattle.mip_words.specs.declared.ids.NodeId.{NodeId}
use Rattle.mip_words.specs.declared.address.Address.{Address}
use Rattle.mip_engine.specs.Payloads.{is_payload}
use Rattle.mip_replay.specs.Ready.{IsReady, IsEar}
use Rattle.mip_engine.specs.Standing.{IsAt}
use Rattle.mip_engine.proofs.JoinLaws.{passed, many_links}
use Rattle.mip_engine.proofs.NodeLaws.{host_of}

-- what is known of every history
abbrev pub AreWaits : Type 0
AreWaits = (c : Content) → moment_in (setup_of c).start (permitted c) ≡ c.start.0 + sum_by waited_by c.events

abbrev pub AreRestarts : Type 0
AreRestarts = (c : Content) (n : ℕ) → life_in (permitted c) n ≡ sum_by (restarted_by n) c.events

timely : (ds : List Declaration) (count waits carries : ℕ) (event : Event) → untimely ds count waits carries event ≡ None
    → (count < 20000) × (misfit ds waits carries event ≡ None)
unfolding untimely
timely ds count waits carries event e =
    let p = passed (nat_le 20000 count) reasons.Limit (misfit ds waits carries event) e in
    (leb-false 20000 count p.0, p.1)

wait_fits : (ds : List Declaration) (waits carries ms : ℕ) → misfit ds waits carries (Wait ms) ≡ None → waits + ms ≤ 36000000
unfolding misfit
wait_fits ds waits carries ms e =
    let p = passed (nat_lt 36000000 (waits + ms)) reasons.Time None e in
    let early = leb-false (suc 36000000) (waits + ms) p.0 in
    omega arith

payload_of : (b0 b41 b43 b44 b50 b51 b58 b59 b60 b135 : Bool)
    → (b0 || b41 || b43 || b44 || b50 || b51 || b58 || b59 || b60 || b135) ≡ false
    → ((not b41 && not b58 && not b59 && not b135) && not (((((b0 || b43) || b44) || b50) || b51) || b60)) ≡ true
payload_of true b41 b43 b44 b50 b51 b58 b59 b60 b135 e = absurd cc
payload_of false true b43 b44 b50 b51 b58 b59 b60 b135 e = absurd cc
payload_of false false true b44 b50 b51 b58 b59 b60 b135 e = absurd cc
payload_of false false false true b50 b51 b58 b59 b60 b135 e = absurd cc
payload_of false false false false true b51 b58 b59 b60 b135 e = absurd cc
payload_of false false false false false true b58 b59 b60 b135 e = absurd cc
payload_of false false false false false false true b59 b60 b135 e = absurd cc
payload_of false false false false false false false true b60 b135 e = absurd cc
payload_of false false false false false false false false true b135 e = absurd cc
payload_of false false false false false false false false false true e = absurd cc
payload_of false false false false false false false false false false e = refl

-- what is not reserved is data
data_fits : (proto : ℕ) → is_reserved proto ≡ false → is_payload proto ≡ true
unfolding is_reserved
data_fits p e = payload_of (p == 0) (p == 41) (p == 43) (p == 44) (p == 50) (p == 51) (p == 58) (p == 59) (p == 60) (p == 135) e

packet_fits : (packet : List ℕ) → (if is_packet packet then None else Some reasons.Packet) ≡ None → 40 ≤ length packet
unfolding is_packet
packet_fits packet e = by (nat_lt (length packet) 40) _ refl e
  where
    by : (short rest : Bool) → nat_lt (length packet) 40 ≡ short → (if (if short then false else rest) then None else Some reasons.Packet) ≡ None → 40 ≤ length packet
    by true rest is e = absurd cc
    by false rest is e = let long = leb-false (suc (length packet)) 40 is in omega arith

-- waits and restarts, event by event
wait_is : (event : Event) → waited_by event ≡ wait_of event
wait_is (Wait ms) = refl
wait_is _ = refl

pub waits_are : (events : List Event) → sum_by waited_by events ≡ sum_by wait_of events
waits_are [] = refl
waits_are (event ∷ events) = omega (arith, sum_by-cons waited_by event events, sum_by-cons wait_of event events, wait_is event, waits_are events)

restart_once : (n : ℕ) (event : Event) → restarted_by n event ≤ 1
restart_once n (Restart node) = by (n == node.0)
  where
    by : (b : Bool) → (if b then 1 else 0) ≤ 1
    by true = omega arith
    by false = omega arith
restart_once n _ = omega arith

restarts_few : (n : ℕ) (events : List Event) → sum_by (restarted_by n) events ≤ length events
restarts_few n [] = omega arith
restarts_few n (event ∷ events) = omega (arith, sum_by-cons (restarted_by n) event events, restart_once n event, restarts_few n events)

-- a schedule with these events
abbrev so_far : Content → List Event → Content
so_far c events = holding c.version c.seed c.start c.declarations events

moment_is : AreWaits → (c : Content) (events : List Event) → moment_in (setup_of c).start (run_of (setup_of c) events).past ≡ c.start.0 + waited events
unfolding permitted waited
moment_is waits c events = waits (so_far c events) ∙ ap (λ (n : ℕ). c.start.0 + n) (waits_are events)

life_is : AreRestarts → (c : Content) (events : List Event) (n : ℕ) → life_in (run_of (setup_of c) events).past n ≤ length events
unfolding permitted
life_is lives c events n = omega (arith, lives (so_far c events) n, restarts_few n events)

-- what an event sends as data may be sent
pub payload_fits : (numbered : Bool) (ds : List Declaration) (before : List Event) (node : NodeId) (to : Address) (proto : ℕ) (payload : List ℕ) → IsEvent numbered ds before (Payload node to proto payload) → is_payload proto ≡ true
unfolding misfit
payload_fits numbered ds before node to proto payload is =
    data_fits proto (passed (is_reserved proto) reasons.Number None (timely ds (length before) (waited before) (carried before) (Payload node to proto payload) is.fits).1).0

few_numbers : (numbered : Bool) → numbers_in numbered ≤ 8
few_numbers true = omega arith
few_numbers false = omega arith

module _ (waits : AreWaits) (lives : AreRestarts) (c : Content) (lawful : IsLawful c) (few : AreFew c.declarations)
    (before : List Event) (e : EngineSeen) (at : IsAt e (setup_of c) (run_of (setup_of c) before)) where
  abbrev ds : List Declaration
  ds = c.declarations

  outsider_there : (o : ℕ) → IsOutsider ds o → o < 8
  outsider_there o declared = omega (arith, declared, few.outsiders)

  ear : (o : ℕ) (link : LinkId) → IsOutsider ds o → IsLink ds link → IsEar e o link
  ear o link outsider declared =
      let links : length e.net.links ≡ length (links_in ds) = ap (λ (q : Asked). length q.links) at.asked in
      record { outsider = outsider_there o outsider; small = omega (arith, declared, few.links); link = omega (arith, declared, links, many_links ds) }

  link_there : (link : LinkId) → IsLink ds link → link.0 < length e.net.links
  link_there link declared =
      let links : length e.net.links ≡ length (links_in ds) = ap (λ (q : Asked). length q.links) at.asked in
      omega (arith, declared, links, many_links ds)

  wait_ready : (ms : ℕ) → IsEvent (is_numbered c.version) ds before (Wait ms) → IsReady e (Wait ms)
  wait_ready ms is =
      let fits = wait_fits ds (waited before) (carried before) ms (timely ds (length before) (waited before) (carried before) (Wait ms) is.fits).1 in
      (omega (arith, at.now, moment_is waits c before, fits, lawful.start), record { setup = setup_of c; events = before; stands = at })

  node_there : (node : NodeId) → IsNode ds node → node.0 < length e.nodes
  node_there node declared = omega (arith, declared, at.count, hosts_count ds 0 ds)

  restart_ready : (n : ℕ) → length before < 20000 → (x : NodeSeen) → slice_get e.nodes n ≡ Some x → x.life + 1 < 2 ^ 32
  restart_ready n short x there =
      let found = host_of e (setup_of c) (run_of (setup_of c) before) at n x there in
      let life = ap (λ (x : NodeSeen). x.life) found.2 in
      omega (arith, life, life_is lives c before n, short)

  fits : (event : Event) → IsEvent (is_numbered c.version) ds before event → (length before < 20000) × (misfit ds (waited before) (carried before) event ≡ None)
  fits event is = timely ds (length before) (waited before) (carried before) event is.fits

  pub ready : (event : Event) → IsEvent (is_numbered c.version) ds before event → IsReady e event
  unfolding misfit
  ready (Wait ms) is = wait_ready ms is
  ready (Advertise link) is = link_there link is.within
  ready (Payload node to proto payload) is = (data_fits proto (passed (is_reserved proto) reasons.Number None (fits _ is).1).0, is.within.2)
  ready (Inject o link packet) is = packet_fits packet (fits _ is).1
  ready (Bind o link ends sequence lifetime kh kc number) is = (is.within.4, omega (arith, is.within.6, few_numbers (is_numbered c.version)))
  ready (Listen o link) is = ear o link is.within.0 is.within.1
  ready (Deaf o link) is = ear o link is.within.0 is.within.1
  ready (Squat o address) is = outsider_there o is.within.0
  ready (Yield o address) is = outsider_there o is.within.0
  ready (Restart node) is = restart_ready node.0 (fits _ is).0
  ready (Settle a b) is = (node_there a is.within.0, node_there b is.within.1, record { setup = setup_of c; events = before; stands = at })
  ready _ is = tt

-- each event of a schedule, after those before it
pub finds_ready : AreWaits → AreRestarts → (c : Content) → IsLawful c → AreFew c.declarations → (i : ℕ) (event : Event) → i < length c.events
    → (e : EngineSeen) → IsAt e (setup_of c) (run_of (setup_of c) (take i c.events)) → IsReady e (get_or c.events i event)
finds_ready waits lives c lawful few i event inside e at =
    ready waits lives c lawful few (take i c.events) e at (get_or c.events i event)
    (lawful.events (take i c.events) (get_or c.events i event) (drop (suc i) c.events) (split_at c.events i event inside))
