-- What nodes and network know of two ends is what the entries of the run tell.
use Rattle.std.proofs.Common.{◌≡◌, ◌≢◌, ℕ, zero, suc, ◌<◌, ◌≤◌, List, [], ◌∷◌, Bool, true, false, length, refl, sym, ap, ◌∙◌, arith}
use Rattle.std.specs.Prelude.{Option, Some, None, is_some, option_map, not, ◌&&◌, ◌||◌, ◌==◌, if◌then◌else◌, slice_get, take}
use Rattle.std.specs.List.{list_any}
use Rattle.std.specs.Option.{option_map_or}
use Rattle.std.proofs.lemmas.Bool.{and_right, eq-eqb}
use Rattle.std.proofs.lemmas.List.{take_all}
use Rattle.std.proofs.lemmas.Option.{slice_get_within}
use Rattle.mip_words.specs.declared.address.Address.{Address}
use Rattle.mip_entries.specs.declared.entry.Entry.{Entry}
use Rattle.mip_links.specs.Table.{Asked, holder_outside, is_address}
use Rattle.mip_links.specs.Nets.{holder_of, is_held_by}
use Rattle.mip_schedule.specs.declared.event.Event.{Event}
use Rattle.mip_history.specs.Setup.{Setup, Host, Kind, is_mobile_host}
use Rattle.mip_history.specs.Setup.Kind.{Correspondent as OfCorrespondent, Agent as OfAgent, Mobile as OfMobile}
use Rattle.mip_history.specs.Runs.{Run}
use Rattle.mip_history.specs.Questions.{moment_in, holder_in, declared_in}
use Rattle.mip_history.specs.Bound.{held_in}
use Rattle.mip_history.specs.Permitted.{run_of}
use Rattle.mip_history.specs.Registered.{is_agent_host}
use Rattle.mip_history.specs.Told.{present_in, agent_in, is_bound_in, careof_in}
use Rattle.mip_history.specs.Settled as told
use Rattle.mip_history.specs.Settled.{any_below, any_node, is_held_right, is_bound_right, is_settled}
use Rattle.mip_history.proofs.Histories.{run_held, part_held}
use Rattle.mip_history.proofs.Registrations.{run_careof}
use Rattle.mip_settled.proofs.AsTold.{found_as_told, registered_as_told, bound_as_told}
use Rattle.mip_settled.proofs.Declared.{declared_of_run}
use Rattle.mip_settled.proofs.OfKinds.{present_at_own, bound_to_none, agent_holds_none, registers_none}
use Rattle.mip_roles.specs.Ends.{present_of, agent_of, is_bound_to, held_by_role, careof_of}
use Rattle.mip_roles.specs.Nodes.{NodeSeen}
use Rattle.mip_engine.specs.Engines.{EngineSeen}
use Rattle.mip_engine.specs.Standing.{IsAt, role_in, node_in}
use Rattle.mip_engine.specs.Settling.{has_home, has_home_there, is_with_agent, is_placed, is_settled_there, is_settled_to, are_settled_by, are_settled}
use Rattle.mip_engine.proofs.NodeLaws.{host_of, no_host}

-- a place within a list has an item
missing : {X : Type 0} (xs : List X) (i : ℕ) → slice_get xs i ≡ None → i < length xs → ⊥
missing [] i none inside = let never : i < 0 = inside in omega (arith, never)
missing (x ∷ xs) zero none inside = absurd cc
missing (x ∷ xs) (suc i) none inside = missing xs i none (let next : suc i < suc (length xs) = inside in omega (arith, next))

-- one of the first so many of a list
or_false : (b : Bool) → (b || false) ≡ b
or_false true = refl
or_false false = refl

or_more : (a b c : Bool) → (a || (b || c)) ≡ ((a || b) || c)
or_more true b c = refl
or_more false b c = refl

module _ {X : Type 0} (has : X → Bool) where
  any_take : (xs : List X) (n : ℕ) → list_any has (take (suc n) xs) ≡ (list_any has (take n xs) || option_map_or has (slice_get xs n) false)
  any_take [] zero = refl
  any_take [] (suc n) = refl
  any_take (x ∷ xs) zero = or_false (has x)
  any_take (x ∷ xs) (suc n) = ap (λ (b : Bool). has x || b) (any_take xs n) ∙ or_more (has x) (list_any has (take n xs)) (option_map_or has (slice_get xs n) false)

  module _ (is : ℕ → Bool) (xs : List X) (each : (n : ℕ) → is n ≡ option_map_or has (slice_get xs n) false) where
    below_is : (n : ℕ) → any_below is n ≡ list_any has (take n xs)
    unfolding any_below
    below_is zero = refl
    below_is (suc n) = ap (λ (b : Bool). b || is n) (below_is n) ∙ ap (λ (b : Bool). list_any has (take n xs) || b) (each n) ∙ sym (any_take xs n)

    any_node_is : length xs ≤ 256 → any_node is ≡ list_any has xs
    unfolding any_node
    any_node_is few = below_is 256 ∙ ap (λ (l : List X). list_any has l) (take_all 256 xs few)

both : (a b c d : Bool) → a ≡ c → b ≡ d → (a && b) ≡ (c && d)
both a b c d one two = ap (λ (x : Bool). x && b) one ∙ ap (λ (x : Bool). c && x) two

module _ (e : EngineSeen) (s : Setup) (events : List Event) (at : IsAt e s (run_of s events)) (few : length e.nodes ≤ 32) where
  abbrev run : Run
  run = run_of s events

  abbrev past : List Entry
  past = run.past

  holder_is : (a : ℕ) → holder_of e.net.rows a ≡ holder_in past a
  holder_is a = ap (λ (q : Asked). q.holder a) at.asked

  -- a node's number is no outsider's
  is_node : (n : ℕ) (host : Host) → slice_get s.hosts n ≡ Some host → (o : ℕ) → n ≢ holder_outside o
  is_node n host there o same = absurd (omega (arith, few, at.count, slice_get_within s.hosts n host there, same))

  -- what a node of each kind knows
  module _ (n : ℕ) (own : Address) where
    present_is : (kind : Kind) → slice_get s.hosts n ≡ Some (record { address = own; kind = kind }) → present_of own (role_in s run n own kind) ≡ present_in past n own
    present_is (OfCorrespondent room) there = sym (present_at_own s n (ap is_mobile_host there) events own)
    present_is (OfAgent preference life room serves) there = sym (present_at_own s n (ap is_mobile_host there) events own)
    present_is (OfMobile agent) there = sym (found_as_told s events n own agent there)

    bound_is : (kind : Kind) → slice_get s.hosts n ≡ Some (record { address = own; kind = kind }) → (peer : Address) → is_bound_to (role_in s run n own kind) e.moment peer ≡ is_bound_in e.moment past n peer
    bound_is (OfCorrespondent room) there peer = sym (bound_to_none s n (ap is_mobile_host there) events peer e.moment)
    bound_is (OfAgent preference life room serves) there peer = sym (bound_to_none s n (ap is_mobile_host there) events peer e.moment)
    bound_is (OfMobile agent) there peer = sym (bound_as_told s events n own agent there peer e.moment (omega (arith, at.now)))

    held_is : (kind : Kind) → slice_get s.hosts n ≡ Some (record { address = own; kind = kind }) → (home : Address)
        → option_map (λ (a : Address). a.0) (held_by_role (role_in s run n own kind) e.moment home) ≡ held_in s past n home.0
    held_is (OfCorrespondent room) there home = rw at.now (run_held s events n own room home there)
    held_is (OfAgent preference life room serves) there home = sym (agent_holds_none s n (ap is_agent_host there) events home.0 (moment_in s.start past))
    held_is (OfMobile agent) there home = rw at.now (part_held s events n own agent home there)

    careof_is : (kind : Kind) → slice_get s.hosts n ≡ Some (record { address = own; kind = kind }) → (home : Address) → careof_of (role_in s run n own kind) e.moment home ≡ careof_in e.moment past n home
    careof_is (OfCorrespondent room) there home = sym (registers_none s n (ap is_agent_host there) events home e.moment)
    careof_is (OfAgent preference life room serves) there home = rw at.now (run_careof s events n own preference life room serves home there)
    careof_is (OfMobile agent) there home = sym (registers_none s n (ap is_agent_host there) events home e.moment)

  -- what any number has registered
  careof_there : (g : ℕ) (home : Address) (o : Option NodeSeen) → slice_get e.nodes g ≡ o → option_map_or (has_home e.moment home) o false ≡ is_some (careof_in e.moment past g home)
  careof_there g home None none = ap (λ (x : Option Address). is_some x) (sym (registers_none s g (ap is_agent_host (no_host e s run at g none)) events home e.moment))
  careof_there g home (Some c) there =
      let found = host_of e s run at g c there in
      ap (λ (x : NodeSeen). has_home e.moment home x) (sym found.2) ∙ ap (λ (x : Option Address). is_some x) (careof_is g found.0.address found.0.kind found.1 home)

  anywhere_is : (home : Address) → list_any (has_home e.moment home) e.nodes ≡ any_node (λ (g : ℕ). is_some (careof_in e.moment past g home))
  anywhere_is home =
      sym (any_node_is (has_home e.moment home) (λ (g : ℕ). is_some (careof_in e.moment past g home)) e.nodes (λ g. sym (careof_there g home (slice_get e.nodes g) refl)) (omega (arith, few)))

  agent_there : (g : ℕ) (own present agent : Address) (o : Option NodeSeen) → slice_get e.nodes g ≡ o
      → option_map_or (has_home_there e.moment own present agent) o false ≡ (is_address (declared_in past g) agent && is_address (careof_in e.moment past g own) present)
  agent_there g own present agent None none =
      sym (ap (λ (x : Option Address). is_address (declared_in past g) agent && is_address x present) (registers_none s g (ap is_agent_host (no_host e s run at g none)) events own e.moment)
      ∙ and_right (is_address (declared_in past g) agent) false refl)
  agent_there g own present agent (Some c) there =
      let found = host_of e s run at g c there in
      ap (λ (x : NodeSeen). has_home_there e.moment own present agent x) (sym found.2)
      ∙ ap (λ (x : Option Address). (found.0.address.0 == agent.0) && is_address x present) (careof_is g found.0.address found.0.kind found.1 own)
      ∙ ap (λ (x : Option Address). is_address x agent && is_address (careof_in e.moment past g own) present) (sym (declared_of_run s events g found.0 found.1))

  with_agent_is : (own present : Address) (agent : Option Address) (holder : Option ℕ) → is_with_agent e own present agent holder ≡ told.is_with_agent e.moment past own present agent holder
  with_agent_is own present (Some agent) (Some g) = agent_there g own present agent (slice_get e.nodes g) refl
  with_agent_is own present (Some agent) None = refl
  with_agent_is own present None (Some g) = refl
  with_agent_is own present None None = refl

  -- a node that is there, of its kind
  module _ (n : ℕ) (host : Host) (there : slice_get s.hosts n ≡ Some host) where
    abbrev c : NodeSeen
    c = node_in s run n host

    same_present : (x present : Address) → (let o : Option Address = Some x in o) ≡ Some present → x.0 ≡ present.0
    same_present x present is = let same : x ≡ present = cc in ap (λ (a : Address). a.0) same

    agent_is : (kind : Kind) → slice_get s.hosts n ≡ Some (record { address = host.address; kind = kind }) → (present : Address) → present_in past n host.address ≡ Some present → (present.0 == host.address.0) ≡ false
        → agent_of (role_in s run n host.address kind) e.moment ≡ agent_in e.moment past n
    agent_is (OfCorrespondent room) is present found away =
        absurd (let home = same_present host.address present (sym (present_at_own s n (ap is_mobile_host is) events host.address) ∙ found) in
        let both : true ≡ false = sym (eq-eqb present.0 host.address.0 (sym home)) ∙ away in cc)
    agent_is (OfAgent preference life room serves) is present found away =
        absurd (let home = same_present host.address present (sym (present_at_own s n (ap is_mobile_host is) events host.address) ∙ found) in
        let both : true ≡ false = sym (eq-eqb present.0 host.address.0 (sym home)) ∙ away in cc)
    agent_is (OfMobile agent) is present found away = sym (registered_as_told s events n host.address agent is (is_node n host there) e.moment)

    placed_is : (present : Address) → present_in past n host.address ≡ Some present → is_placed e c present ≡ told.is_placed e.moment past n host.address present
    placed_is present found = by (present.0 == host.address.0) refl
      where
        by : (home : Bool) → (present.0 == host.address.0) ≡ home
            → (if home then not (list_any (has_home e.moment host.address) e.nodes) else is_with_agent e host.address present (agent_of c.role e.moment) (holder_of e.net.rows host.address.0))
            ≡ (if home then not (any_node (λ (g : ℕ). is_some (careof_in e.moment past g host.address))) else told.is_with_agent e.moment past host.address present (agent_in e.moment past n) (holder_in past host.address.0))
        by true is = ap not (anywhere_is host.address)
        by false is =
            with_agent_is host.address present (agent_of c.role e.moment) (holder_of e.net.rows host.address.0)
            ∙ ap (λ (a : Option Address). told.is_with_agent e.moment past host.address present a (holder_of e.net.rows host.address.0)) (agent_is host.kind there present found is)
            ∙ ap (λ (h : Option ℕ). told.is_with_agent e.moment past host.address present (agent_in e.moment past n) h) (holder_is host.address.0)

    module _ (m : ℕ) (peer : Host) (peer_there : slice_get s.hosts m ≡ Some peer) where
      abbrev d : NodeSeen
      d = node_in s run m peer

      there_is : (holds : Option ℕ) (o : Option Address) → present_in past n host.address ≡ o
          → is_settled_there e n c d holds o ≡ told.is_settled_at e.moment past n host.address peer.address holds o
      there_is holds None found = refl
      there_is holds (Some present) found =
          both _ _ _ _ (ap (λ (h : Option ℕ). is_held_by h n) (holder_is present.0))
          (both _ _ _ _ (placed_is present found)
          (ap (λ (b : Bool). is_held_right host.address present holds && is_bound_right b present holds) (bound_is n host.address host.kind there peer.address)))

      to_is : is_settled_to e n c d ≡ told.is_settled_to s.start past n m
      to_is =
          ap (λ (o : Option Address). is_settled_there e n c d (option_map (λ (a : Address). a.0) (held_by_role d.role e.moment host.address)) o) (present_is n host.address host.kind there)
          ∙ there_is (option_map (λ (a : Address). a.0) (held_by_role d.role e.moment host.address)) (present_in past n host.address) refl
          ∙ ap (λ (h : Option ℕ). told.is_settled_at e.moment past n host.address peer.address h (present_in past n host.address)) (held_is m peer.address peer.kind peer_there host.address)
          ∙ ap (λ (t : ℕ). told.is_settled_at t past n host.address peer.address (held_in s past m host.address.0) (present_in past n host.address)) at.now
          ∙ ap (λ (o : Option Address). told.is_settled_with (moment_in s.start past) s.start past n m o (Some peer.address)) (sym (declared_of_run s events n host there))
          ∙ ap (λ (o : Option Address). told.is_settled_with (moment_in s.start past) s.start past n m (declared_in past n) o) (sym (declared_of_run s events m peer peer_there))

  -- both ways
  settled_by : (a b : ℕ) (x y : Option NodeSeen) → slice_get e.nodes a ≡ x → slice_get e.nodes b ≡ y → a < length e.nodes → b < length e.nodes
      → are_settled_by e a b x y ≡ is_settled s.start past a b
  unfolding is_settled
  settled_by a b (Some x) (Some y) one two first second =
      let h = host_of e s run at a x one in
      let k = host_of e s run at b y two in
      ap (λ (c : NodeSeen). are_settled_by e a b (Some c) (Some y)) (sym h.2)
      ∙ ap (λ (d : NodeSeen). are_settled_by e a b (Some (node_in s run a h.0)) (Some d)) (sym k.2)
      ∙ ap (λ (t : Bool). not (a == b) && t)
      (both _ _ _ _ (to_is a h.0 h.1 b k.0 k.1) (to_is b k.0 k.1 a h.0 h.1))
  settled_by a b (Some x) None one two first second = absurd (missing e.nodes b two second)
  settled_by a b None y one two first second = absurd (missing e.nodes a one first)

  pub settled_is : (a b : ℕ) → a < length e.nodes → b < length e.nodes → are_settled e a b ≡ is_settled s.start e.past a b
  settled_is a b first second =
      settled_by a b (slice_get e.nodes a) (slice_get e.nodes b) refl refl first second ∙ ap (λ (l : List Entry). is_settled s.start l a b) (sym at.history)
