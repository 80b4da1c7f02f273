-- Nodes act.
use Rattle.std.proofs.Common.{◌≡◌, ◌≢◌, ℕ, ◌<◌, List, [], ◌∷◌, ◌++◌, length, ◌⊎◌, inl, inr, refl, sym, ap, ◌∙◌, subst, arith, length-set}
use Rattle.std.proofs.lemmas.Bool.{cases_eq}
use Rattle.std.proofs.lemmas.List.{get_or-set_other}
use Rattle.std.proofs.lemmas.List.Sums.{fold-append}
use Rattle.std.proofs.lemmas.Option.{slice_get_within}
use Rattle.std.specs.Prelude.{Option, Some, None, option_map, slice_get, slice_set, true}
use Rattle.mip_words.specs.declared.address.Address.{Address}
use Rattle.mip_entries.specs.Stamped.{Stamped}
use Rattle.mip_entries.specs.declared.answer.Answer.{Answer}
use Rattle.mip_entries.specs.declared.answer.Answer.TheVariants.{Note}
use Rattle.mip_entries.specs.declared.entry.Entry.{Entry}
use Rattle.mip_entries.specs.declared.entry.Entry.TheVariants.{Idle}
use Rattle.mip_links.specs.Table.{Asked, link_of}
use Rattle.mip_outside.specs.Places.{Around}
use Rattle.mip_rules_correspondent.specs.Steps.{Step}
use Rattle.mip_rules_agent.specs.Steps as agents
use Rattle.mip_rules_mobile.specs.Steps as mobiles
use Rattle.mip_history.specs.Setup.{Setup, Host, Kind}
use Rattle.mip_history.specs.Setup.Kind.{Correspondent as OfCorrespondent, Agent as OfAgent, Mobile as OfMobile}
use Rattle.mip_history.specs.Runs.{Run, note, past_at, agent_past_at, mobile_past_at, with_past, with_agent_past, with_mobile_past}
use Rattle.mip_history.specs.Calls.{Call}
use Rattle.mip_history.specs.Questions.{life_in, spot_in}
use Rattle.mip_history.specs.Knowing.{other_than, around_in, stands_on}
use Rattle.mip_history.specs.Nodes.{acts, by_host, answered, answered_one}
use Rattle.mip_roles.specs.declared.role.Role.{Role}
use Rattle.mip_roles.specs.Nodes.{NodeSeen, with_role}
use Rattle.mip_roles.specs.Places.{around_of}
use Rattle.mip_engine.specs.Engines.{EngineSeen, with_node}
use Rattle.mip_engine.specs.Standing.{IsAt, role_in, node_in}
use Rattle.mip_engine.proofs.ItemLaws.{set_here, set_there, set_same, map_some, map_none}
use Rattle.mip_engine.proofs.QuietLaws.{mapped_same}

-- a run in which node n knows something else, and all else is as it was
pub record DiffersAt (n : ℕ) (run after : Run) : Type 0 where
  pub past : after.past ≡ run.past
  pub posts : after.posts ≡ run.posts
  pub flying : after.flying ≡ run.flying
  pub pasts : length after.pasts ≡ length run.pasts
  pub agent_pasts : length after.agent_pasts ≡ length run.agent_pasts
  pub mobile_pasts : length after.mobile_pasts ≡ length run.mobile_pasts
  pub past_of : (m : ℕ) → m ≢ n → past_at after m ≡ past_at run m
  pub agent_past_of : (m : ℕ) → m ≢ n → agent_past_at after m ≡ agent_past_at run m
  pub mobile_past_of : (m : ℕ) → m ≢ n → mobile_past_at after m ≡ mobile_past_at run m

pub differs_past : (n : ℕ) (past : List (Stamped Step)) (run : Run) → DiffersAt n run (with_past n past run)
differs_past n past run = record {
  past = refl;
  posts = refl;
  flying = refl;
  pasts = length-set run.pasts n past;
  agent_pasts = refl;
  mobile_pasts = refl;
  past_of = λ m other. get_or-set_other run.pasts n m past [] other;
  agent_past_of = λ m other. refl;
  mobile_past_of = λ m other. refl;
}

pub differs_agent_past : (n : ℕ) (past : List (Stamped agents.Step)) (run : Run) → DiffersAt n run (with_agent_past n past run)
differs_agent_past n past run = record {
  past = refl;
  posts = refl;
  flying = refl;
  pasts = refl;
  agent_pasts = length-set run.agent_pasts n past;
  mobile_pasts = refl;
  past_of = λ m other. refl;
  agent_past_of = λ m other. get_or-set_other run.agent_pasts n m past [] other;
  mobile_past_of = λ m other. refl;
}

pub differs_mobile_past : (n : ℕ) (past : List (Stamped mobiles.Step)) (run : Run) → DiffersAt n run (with_mobile_past n past run)
differs_mobile_past n past run = record {
  past = refl;
  posts = refl;
  flying = refl;
  pasts = refl;
  agent_pasts = refl;
  mobile_pasts = length-set run.mobile_pasts n past;
  past_of = λ m other. refl;
  agent_past_of = λ m other. refl;
  mobile_past_of = λ m other. get_or-set_other run.mobile_pasts n m past [] other;
}

pub differs_same : (n : ℕ) (run : Run) → DiffersAt n run run
differs_same n run = record {
  past = refl;
  posts = refl;
  flying = refl;
  pasts = refl;
  agent_pasts = refl;
  mobile_pasts = refl;
  past_of = λ m other. refl;
  agent_past_of = λ m other. refl;
  mobile_past_of = λ m other. refl;
}

-- another node is the same there
other_role : (s : Setup) (n m : ℕ) (run after : Run) → DiffersAt n run after → m ≢ n → (own : Address) (kind : Kind) → role_in s run m own kind ≡ role_in s after m own kind
other_role s n m run after d other own (OfCorrespondent room) = rw (d.past, d.past_of m other) refl
other_role s n m run after d other own (OfAgent preference life room serves) = rw (d.agent_past_of m other) refl
other_role s n m run after d other own (OfMobile agent) = rw (d.mobile_past_of m other) refl

other_node : (s : Setup) (n m : ℕ) (run after : Run) → DiffersAt n run after → m ≢ n → (host : Host) → node_in s run m host ≡ node_in s after m host
other_node s n m run after d other host =
    ap (λ (r : Role). let c : NodeSeen = record { host = host; life = life_in run.past m; spot = stands_on s run m host.address; role = r } in c)
    (other_role s n m run after d other host.address host.kind)
    ∙ ap (λ (past : List Entry). let c : NodeSeen = record { host = host; life = life_in past m; spot = spot_in (link_of s.links host.address.0) past m; role = role_in s after m host.address host.kind } in c)
    (sym d.past)

-- node n does what a call asks: with its answers the run goes on from a run for which the engine stands
pub record Acts (e : EngineSeen) (s : Setup) (n : ℕ) (c : NodeSeen) (from : ℕ) (after : Role) (answers : List Answer) (result : Run) : Type 0 where
  pub next : Run
  pub stands : IsAt (with_node n (with_role after c) e) s next
  pub does : answered s n from next answers ≡ result

-- what a node is made of, where there is one
module _ (e : EngineSeen) (s : Setup) (run : Run) (at : IsAt e s run) (n : ℕ) where
  pub host_of : (c : NodeSeen) → slice_get e.nodes n ≡ Some c → (host : Host) × (slice_get s.hosts n ≡ Some host) × (node_in s run n host ≡ c)
  host_of c there = map_some (node_in s run n) (slice_get s.hosts n) c (sym (at.nodes n) ∙ there)

  pub no_host : slice_get e.nodes n ≡ None → slice_get s.hosts n ≡ None
  no_host none = map_none (node_in s run n) (slice_get s.hosts n) (sym (at.nodes n) ∙ none)

  -- nothing is done where there is no node
  pub acts_none : (call : Call) → slice_get e.nodes n ≡ None → acts s n call run ≡ note Idle run
  acts_none call none = ap (by_host s n call run) (no_host none)

  -- a node that knows something else
  pub at_node : (c : NodeSeen) (host : Host) (after : Run) → slice_get s.hosts n ≡ Some host → DiffersAt n run after → c ≡ node_in s after n host → IsAt (with_node n c e) s after
  at_node c host after is_host d is_node =
      let inside = slice_get_within s.hosts n host is_host in
      record {
        seed = at.seed;
        asked = rw d.past at.asked;
        hears = rw d.past at.hears;
        posts = at.posts ∙ sym d.posts;
        flying = at.flying ∙ sym d.flying;
        spots = at.spots;
        firsts = at.firsts;
        nodes = λ m. by m inside (cases_eq m n);
        count = length-set e.nodes n c ∙ at.count;
        pasts = d.pasts ∙ at.pasts;
        agent_pasts = d.agent_pasts ∙ at.agent_pasts;
        mobile_pasts = d.mobile_pasts ∙ at.mobile_pasts;
        outsiders = at.outsiders;
        numbers = at.numbers;
        now = rw d.past at.now;
        history = at.history ∙ sym d.past;
        numbered = rw (d.posts, d.past) at.numbered;
      }
    where
      by : (m : ℕ) → n < length s.hosts → (m ≡ n) ⊎ (m ≢ n) → slice_get (slice_set e.nodes n c) m ≡ option_map (node_in s after m) (slice_get s.hosts m)
      by m inside (inl same) = subst (λ (i : ℕ). slice_get (slice_set e.nodes n c) i ≡ option_map (node_in s after i) (slice_get s.hosts i)) (sym same)
          (set_here e.nodes n c (omega (arith, inside, at.count))
          ∙ ap (λ (x : NodeSeen). Some x) is_node
          ∙ ap (λ (o : Option Host). option_map (node_in s after n) o) (sym is_host))
      by m inside (inr other) =
          set_there e.nodes n m c other ∙ at.nodes m
          ∙ mapped_same (node_in s run m) (node_in s after m) (other_node s n m run after d other) (slice_get s.hosts m)

  -- the same node
  pub at_same : (c : NodeSeen) → slice_get e.nodes n ≡ Some c → IsAt (with_node n c e) s run
  at_same c there = subst (λ (nodes : List NodeSeen). IsAt (record e { nodes = nodes }) s run) (sym (set_same e.nodes n c there)) at

  -- what is nothing to a node
  pub acts_idle : (c : NodeSeen) (from : ℕ) → slice_get e.nodes n ≡ Some c → Acts e s n c from c.role (Note Idle ∷ []) (note Idle run)
  unfolding answered
  acts_idle c from there = record { next = run; stands = at_same c there; does = refl }

  -- what it finds around it
  pub around_is : (home : Option ℕ) → around_of e.net n home ≡ around_in run n home
  around_is home = ap (λ (q : Asked). let a : Around = record { room = λ _. true; others = λ x. other_than n (q.holder x); home = home } in a) at.asked

-- one thing more that a node does
pub answered_more : (s : Setup) (n from : ℕ) (run : Run) (answers : List Answer) (answer : Answer)
    → answered_one s n from (answered s n from run answers) answer ≡ answered s n from run (answers ++ answer ∷ [])
unfolding answered
answered_more s n from run answers answer = sym (fold-append (λ (r : Run) (a : Answer). answered_one s n from r a) run answers (answer ∷ []))
