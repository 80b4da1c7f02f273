-- The agents that an agent knows of are those that its entries tell.
use Rattle.std.proofs.Common.{◌≡◌, ◌≢◌, ℕ, zero, suc, ◌^◌, ◌<◌, ◌≤◌, List, [], ◌∷◌, ◌++◌, map, take, Bool, true, false, refl, sym, ap, ◌∙◌, subst, arith}
use Rattle.std.specs.Prelude.{◌==◌, ◌&&◌, nat_le, nat_lt, if◌then◌else◌, Option, Some, None, option_map, slice_get}
use Rattle.std.proofs.lemmas.Bool.{eq-eqb, ne_eqb, eqb-true}
use Rattle.std.proofs.lemmas.Bool.Decides.{nat_tests}
use Rattle.mip_words.specs.Last.{or_else}
use Rattle.mip_words.specs.declared.address.Address.{Address}
use Rattle.mip_words.specs.declared.ids.LinkId.{LinkId}
use Rattle.mip_symbols.specs.declared.declaration.Declaration.{Declaration}
use Rattle.mip_symbols.specs.declared.declaration.Declaration.TheVariants as declare
use Rattle.mip_discovery.specs.Listed.{AgentsSeen}
use Rattle.mip_entries.specs.declared.entry.Entry.{Entry}
use Rattle.mip_entries.specs.declared.entry.Entry.TheVariants as entries
use Rattle.mip_entries.specs.Completed.{node_id}
use Rattle.mip_rules_agent.specs.Known.{Known}
use Rattle.mip_rules_agent.specs.Calls.{Call, Take, Tick, Plan, Hear}
use Rattle.mip_rules_agent.specs.Steps.{Step, Called, Sends, Registers, Claims, Releases, Denies, Drops, Rang, is_call}
use Rattle.mip_rules_agent.specs.Questions.{after}
use Rattle.mip_links.specs.Table.{link_of}
use Rattle.mip_schedule.specs.Contents.{Content}
use Rattle.mip_schedule.specs.declared.event.Event.{Event}
use Rattle.mip_history.specs.Setup.{Setup, Host, Kind, hosts_from, setup_of}
use Rattle.mip_history.specs.Setup.Kind.{Correspondent, Agent, Mobile}
use Rattle.mip_history.specs.Permitted.{run_of}
use Rattle.mip_history.specs.Knowing.{now_in, agent_known_in}
use Rattle.mip_history.specs.Advertising as advertising
use Rattle.mip_past.specs.declared.router.Router.{Router}
use Rattle.mip_past.specs.Hearing.{router_of, moment_from, nobody, hears, Hearing, heard_told, unheard, hearing_in, live_addresses, agents_in}
use Rattle.mip_past.specs.HearingLaws.{AreApart}
use Rattle.mip_past.proofs.Silent.{is_loud}
use Rattle.mip_past.proofs.Telling.{IsDeaf}
use Rattle.mip_past.proofs.AgentWalk.{is_hear, step_told, IsQuestion, told_run}

-- the first so many, and one more
pub next_some : {X Y : Type 0} (f : X → Y) (xs : List X) (n : ℕ) (y : Y) → option_map f (slice_get xs n) ≡ Some y → take (suc n) (map f xs) ≡ take n (map f xs) ++ y ∷ []
next_some f [] n y is = absurd cc
next_some {Y = Y} f (x ∷ xs) zero y is = let same : f x ≡ y = cc in ap (λ (z : Y). z ∷ []) same
next_some {Y = Y} f (x ∷ xs) (suc n) y is = ap (λ (l : List Y). f x ∷ l) (next_some f xs n y is)

pub next_none : {X Y : Type 0} (f : X → Y) (xs : List X) (n : ℕ) → option_map f (slice_get xs n) ≡ None → take (suc n) (map f xs) ≡ take n (map f xs)
next_none f [] zero is = refl
next_none f [] (suc n) is = refl
next_none f (x ∷ xs) zero is = absurd cc
next_none {Y = Y} f (x ∷ xs) (suc n) is = ap (λ (l : List Y). f x ∷ l) (next_none f xs n is)

-- a later moment below 2 ^ 62 follows
moment_is : (at u : ℕ) → at ≤ u → u < 2 ^ 62 → moment_from at u ≡ u
moment_is at u late small = by (nat_le at u) (nat_lt u (2 ^ 62)) refl refl
  where
    by : (a b : Bool) → nat_le at u ≡ a → nat_lt u (2 ^ 62) ≡ b → (if a && b then u else at) ≡ u
    by true true one two = refl
    by true false one two = absurd (grind (arith, nat_tests, two, small))
    by false b one two = absurd (grind (arith, nat_tests, one, late))

-- each agent that advertises itself is declared so
abbrev IsRouted : Setup → (Address → Option Router) → Type 0
IsRouted s routers = (link : LinkId) (other : ℕ) (r : advertising.Router) → advertising.router_at s link.0 other ≡ Some r → routers r.address ≡ Some (record { preference = r.preference; life = r.life })

module _ (m : ℕ) (routers : Address → Option Router) where
  heard_silent : (h : Hearing) (e : Entry) → is_loud e ≡ false → heard_told routers m h e ≡ h
  heard_silent h (entries.At moment) quiet = absurd cc
  heard_silent h (entries.Advertised node link router) quiet = absurd cc
  heard_silent h (entries.Restarted node) quiet = absurd cc
  heard_silent h _ quiet = refl

  heard_deaf : IsDeaf m Hearing (heard_told routers m)
  heard_deaf = record {
    silent = heard_silent;
    home = λ h n home careof sequence end other. refl;
    place = λ h n address other. refl;
    life = λ h n other. ap (λ (b : Bool). let x : Hearing = record { at = h.at; seen = if b then nobody else h.seen } in x) (ne_eqb m n other);
    advert = λ h n link router other. not_for_it h n link router other;
  }
    where
      not_for_it : (h : Hearing) (n : ℕ) (link : LinkId) (router : Option Address) → m ≢ n → heard_told routers m h (entries.Advertised (node_id n) link router) ≡ h
      not_for_it h n link None other = ap (λ (b : Bool). let x : Hearing = record { at = h.at; seen = if b then h.seen else h.seen } in x) (ne_eqb m n other)
      not_for_it h n link (Some a) other = ap (λ (b : Bool). let x : Hearing = record { at = h.at; seen = if b then hears h.at a (routers a) h.seen else h.seen } in x) (ne_eqb m n other)

  -- the moment and the agents are as known
  abbrev AreHeard : ℕ → Hearing → Known → Type 0
  AreHeard now h k = now < 2 ^ 62 → (h.at ≡ now) × (h.seen ≡ k.agents)

  heard_called : (now : ℕ) (h : Hearing) (k : Known) (c : Call) → is_hear c ≡ false → AreHeard now h k → AreHeard now h (after k (record { at = now; step = Called c }))
  unfolding after
  heard_called now h k (Hear agent preference life) quiet are = absurd cc
  heard_called now h k (Take number shield packet claim) quiet are = are
  heard_called now h k Tick quiet are = are
  heard_called now h k (Plan valid preferred) quiet are = are

  heard_stepped : (now : ℕ) (h : Hearing) (k : Known) (step : Step) → is_call step ≡ false → AreHeard now h k → AreHeard now (step_told (heard_told routers m) m h step) (after k (record { at = now; step = step }))
  unfolding after
  heard_stepped now h k (Called call) silent are = absurd cc
  heard_stepped now h k (Registers number home b) silent are = are
  heard_stepped now h k Rang silent are = are
  heard_stepped now h k (Sends shield packet) silent are = are
  heard_stepped now h k (Claims home) silent are = are
  heard_stepped now h k (Releases home) silent are = are
  heard_stepped now h k (Denies number status) silent are = are
  heard_stepped now h k (Drops number why) silent are = are

  module _ (s : Setup) (routed : IsRouted s routers) where
    heard_one : (now : ℕ) (h : Hearing) (k : Known) (link : LinkId) (other : ℕ) (r : advertising.Router) → advertising.router_at s link.0 other ≡ Some r → AreHeard now h k
        → AreHeard now (heard_told routers m h (entries.Advertised (node_id m) link (Some r.address))) (after k (record { at = now; step = Called (Hear r.address r.preference r.life) }))
    unfolding after
    heard_one now h k link other r at are = λ small.
        let p = are small in
        let router : Router = record { preference = r.preference; life = r.life } in (
          p.0,
          ap (λ (b : Bool). if b then hears h.at r.address (routers r.address) h.seen else h.seen) (eq-eqb m m refl)
              ∙ ap (λ (o : Option Router). hears h.at r.address o h.seen) (routed link other r at)
              ∙ ap (λ (t : ℕ). hears t r.address (Some router) h.seen) p.0
              ∙ ap (λ (seen : AgentsSeen). hears now r.address (Some router) seen) p.1,
        )

    heard_question : (serves : List Address) → IsQuestion s m serves Hearing (heard_told routers m) (unheard s.start) AreHeard
    heard_question serves = record {
      deaf = heard_deaf;
      timed = λ now u h k early are. λ small.
          let p = are (omega (arith, early, small)) in
          (ap (λ (t : ℕ). moment_from t u) p.0 ∙ moment_is now u early small, p.1);
      first = λ small. (moment_is 0 s.start (omega arith) small, refl);
      born = λ now h k are. λ small. let p = are small in (p.0, ap (λ (b : Bool). if b then nobody else h.seen) (eq-eqb m m refl));
      called = heard_called;
      heard = heard_one;
      stepped = heard_stepped;
    }

-- what declarations say of an agent, its node does
abbrev host_router : Address → Address → Kind → Option Router
host_router a own (Agent preference life room serves) = if own.0 == a.0 then Some (record { preference = preference; life = life }) else None
host_router a own _ = None

abbrev hosts_router : List Host → Address → Option Router
hosts_router [] a = None
hosts_router (host ∷ hosts) a = or_else (host_router a host.address host.kind) (hosts_router hosts a)

same_router : (all : List Declaration) (n : ℕ) (ds : List Declaration) (a : Address) → router_of ds a ≡ hosts_router (hosts_from all n ds) a
same_router all n [] a = refl
same_router all n (declare.Link name prefix ∷ ds) a = same_router all n ds a
same_router all n (declare.Outsider name ∷ ds) a = same_router all n ds a
same_router all n (declare.Serve agent mobile ∷ ds) a = same_router all n ds a
same_router all n (declare.Agent name link address preference life room ∷ ds) a =
    ap (λ (o : Option Router). or_else (if address.0 == a.0 then Some (record { preference = preference; life = life }) else None) o) (same_router all (suc n) ds a)
same_router all n (declare.Correspondent name link address room ∷ ds) a = same_router all (suc n) ds a
same_router all n (declare.Mobile name link address agent ∷ ds) a = same_router all (suc n) ds a

-- the first node with the address of an agent is that agent
other_router : (a own : Address) (kind : Kind) → (own.0 == a.0) ≡ false → host_router a own kind ≡ None
other_router a own (Correspondent room) other = refl
other_router a own (Agent preference life room serves) other = ap (λ (b : Bool). if b then Some (record { preference = preference; life = life }) else None) other
other_router a own (Mobile agent) other = refl

module _ (own : Address) (preference life room : ℕ) (serves : List Address) where
  abbrev host : Host
  host = record { address = own; kind = Agent preference life room serves }

  abbrev router : Router
  router = record { preference = preference; life = life }

  own_router : host_router own own (Agent preference life room serves) ≡ Some router
  own_router = ap (λ (b : Bool). if b then Some router else None) (eq-eqb own.0 own.0 refl)

  first_router : (hosts : List Host) (j : ℕ) → ((i : ℕ) (x : Host) → slice_get hosts i ≡ Some x → x.address.0 ≡ own.0 → x ≡ host) → slice_get hosts j ≡ Some host → hosts_router hosts own ≡ Some router
  first_router [] j alone at = absurd cc
  first_router (h ∷ hosts) j alone at = by (h.address.0 == own.0) refl j at (λ i at. first_router hosts i (λ k x is same. alone (suc k) x is same) at)
    where
      by : (same : Bool) → (h.address.0 == own.0) ≡ same → (j : ℕ) → slice_get (h ∷ hosts) j ≡ Some host → ((i : ℕ) → slice_get hosts i ≡ Some host → hosts_router hosts own ≡ Some router)
          → or_else (host_router own h.address h.kind) (hosts_router hosts own) ≡ Some router
      by true same j at more =
          let is : h ≡ host = alone zero h refl (eqb-true h.address.0 own.0 same) in
          ap (λ (x : Host). or_else (host_router own x.address x.kind) (hosts_router hosts own)) is ∙ ap (λ (o : Option Router). or_else o (hosts_router hosts own)) own_router
      by false same zero at more = absurd (let is : h ≡ host = cc in let both : false ≡ true = sym same ∙ eq-eqb h.address.0 own.0 (ap (λ (x : Host). let a : Address = x.address in a.0) is) in cc)
      by false same (suc i) at more = ap (λ (o : Option Router). or_else o (hosts_router hosts own)) (other_router own h.address h.kind same) ∙ more i at

routed_hosts : (s : Setup) → AreApart s.hosts → (link : LinkId) (g : ℕ) (r : advertising.Router) → advertising.router_at s link.0 g ≡ Some r
    → hosts_router s.hosts r.address ≡ Some (record { preference = r.preference; life = r.life })
routed_hosts s apart link g r = by (slice_get s.hosts g) refl
  where
    of_kind : (own : Address) (kind : Kind) → slice_get s.hosts g ≡ Some (record { address = own; kind = kind }) → advertising.router_by_kind s link.0 own kind ≡ Some r
        → hosts_router s.hosts r.address ≡ Some (record { preference = r.preference; life = r.life })
    of_kind own (Correspondent room) at is = absurd cc
    of_kind own (Mobile agent) at is = absurd cc
    of_kind own (Agent preference life room serves) at is = there (advertising.is_link (link_of s.links own.0) link.0) is
      where
        there : (b : Bool) → (if b then Some (let x : advertising.Router = record { address = own; preference = preference; life = life } in x) else None) ≡ Some r
            → hosts_router s.hosts r.address ≡ Some (record { preference = r.preference; life = r.life })
        there false is = absurd cc
        there true is =
            let same : (let x : advertising.Router = record { address = own; preference = preference; life = life } in x) ≡ r = cc in
            subst (λ (x : advertising.Router). hosts_router s.hosts x.address ≡ Some (record { preference = x.preference; life = x.life })) same
            (first_router own preference life room serves s.hosts g (λ i x at' e. apart i g x (record { address = own; kind = Agent preference life room serves }) at' at e) at)

    by : (o : Option Host) → slice_get s.hosts g ≡ o → advertising.router_by_host s link.0 o ≡ Some r → hosts_router s.hosts r.address ≡ Some (record { preference = r.preference; life = r.life })
    by None at is = absurd cc
    by (Some host) at is = of_kind host.address host.kind at is

-- behind these events it is asked for what it knows
pub agents_as_told : (c : Content) (events : List Event) → AreApart (setup_of c).hosts → now_in (setup_of c) (run_of (setup_of c) events) < 2 ^ 62
    → (n : ℕ) (own : Address) (preference life room : ℕ) (serves : List Address) → slice_get (setup_of c).hosts n ≡ Some (record { address = own; kind = Agent preference life room serves })
    → agents_in (router_of c.declarations) c.start.0 (run_of (setup_of c) events).past n
    ≡ take 32 (live_addresses (now_in (setup_of c) (run_of (setup_of c) events)) (agent_known_in (run_of (setup_of c) events) n serves).agents.agents)
agents_as_told c events apart small n own preference life room serves at =
    let s : Setup = setup_of c in
    let routers : Address → Option Router = router_of c.declarations in
    let routed : IsRouted s routers = λ link g r is. same_router c.declarations 0 c.declarations r.address ∙ routed_hosts s apart link g r is in
    let t = told_run s n own preference life room serves at Hearing (heard_told routers n) (unheard s.start) (AreHeard n routers) (heard_question n routers s routed serves) events in
    let p = t.joined small in
    ap (λ (now : ℕ). take 32 (live_addresses now (let h : Hearing = hearing_in routers s.start (run_of s events).past n in let seen : AgentsSeen = h.seen in seen.agents))) p.0
    ∙ ap (λ (seen : AgentsSeen). take 32 (live_addresses (now_in s (run_of s events)) seen.agents)) p.1
