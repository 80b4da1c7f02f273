-- Entries that say something of one node: it restarts, or moves.
use Rattle.std.proofs.Common.{◌≡◌, ◌≢◌, true, ℕ, ◌<◌, List, [], ◌∷◌, ◌++◌, length, ◌⊎◌, inl, inr, refl, sym, ap, ◌∙◌, subst, arith, length-set}
use Rattle.std.proofs.lemmas.Bool.{cases_eq}
use Rattle.std.proofs.lemmas.Bool.Decides.{nat_tests}
use Rattle.std.proofs.lemmas.Option.{slice_get_within}
use Rattle.std.specs.Prelude.{Option, Some, None, unwrap_or, option_map, slice_get, slice_set}
use Rattle.mip_words.specs.declared.address.Address.{Address}
use Rattle.mip_words.specs.declared.ids.LinkId.{LinkId}
use Rattle.mip_entries.specs.declared.entry.Entry.{Entry}
use Rattle.mip_entries.specs.declared.entry.Entry.TheVariants.{Moved, Restarted}
use Rattle.mip_entries.specs.Completed.{node_id}
use Rattle.mip_history.specs.Setup.{Setup, Host, Kind}
use Rattle.mip_history.specs.Setup.Kind.{Correspondent as OfCorrespondent, Agent as OfAgent, Mobile as OfMobile}
use Rattle.mip_history.specs.Runs.{Run, note}
use Rattle.mip_history.specs.Questions.{moment_says, moment_in, listen_says, restarts, life_in, moved_says, spot_in}
use Rattle.mip_links.specs.Table.{link_of}
use Rattle.mip_roles.specs.Nodes.{NodeSeen, with_spot}
use Rattle.mip_engine.specs.Engines.{EngineSeen, with_entry, with_node, stood, stood_by}
use Rattle.mip_roles.specs.RolesLaws.{is_apart}
use Rattle.mip_engine.specs.Quiet.{IsNoClaim}
use Rattle.mip_engine.proofs.NumberLaws.{numbered_apart}
use Rattle.mip_engine.specs.Standing.{IsAt, role_in, node_in}
use Rattle.mip_engine.proofs.ItemLaws.{set_here, set_there}
use Rattle.mip_engine.proofs.QuietLaws.{life-push, spot-push, moment-push, asked-same, hears-same, history-same, mapped_same}
use Rattle.mip_engine.proofs.NodeLaws.{host_of, no_host}

-- an entry that says something of the life or the place of node n, and nothing else
pub record IsOf (n : ℕ) (x : Entry) : Type 0 where
  pub claim : IsNoClaim x
  pub moment : moment_says x ≡ None
  pub listening : (o l : ℕ) → listen_says o l x ≡ None
  pub apart : is_apart x ≡ true
  pub life : (m count : ℕ) → m ≢ n → restarts m count x ≡ count
  pub spot : (m : ℕ) → m ≢ n → moved_says m x ≡ None

lived_on : (n m count : ℕ) → m ≢ n → restarts m count (Restarted (node_id n)) ≡ count
lived_on n m count other = grind (arith, nat_tests, other)

pub of_restart : (n : ℕ) → IsOf n (Restarted (node_id n))
of_restart n = record {
  claim = record { holder = λ a. refl; declared = λ by. refl };
  moment = refl;
  listening = λ o l. refl;
  apart = refl;
  life = λ m count other. lived_on n m count other;
  spot = λ m other. refl;
}

stayed : (n m : ℕ) (link : Option LinkId) → m ≢ n → moved_says m (Moved (node_id n) link) ≡ None
stayed n m link other = grind (arith, nat_tests, other)

pub of_move : (n : ℕ) (link : Option LinkId) → IsOf n (Moved (node_id n) link)
of_move n link = record {
  claim = record { holder = λ a. refl; declared = λ by. refl };
  moment = refl;
  listening = λ o l. refl;
  apart = refl;
  life = λ m count other. refl;
  spot = λ m other. stayed n m link other;
}

module _ (e : EngineSeen) (s : Setup) (run : Run) (n : ℕ) (x : Entry) (of : IsOf n x) (at : IsAt e s run) where
  -- the other nodes are as they were
  spot_kept : (m : ℕ) → m ≢ n → (home : Option ℕ) → spot_in home (run.past ++ x ∷ []) m ≡ spot_in home run.past m
  spot_kept m other home = spot-push home run.past x m ∙ ap (λ (o : Option (Option ℕ)). unwrap_or o (spot_in home run.past m)) (of.spot m other)

  life_kept : (m : ℕ) → m ≢ n → life_in (run.past ++ x ∷ []) m ≡ life_in run.past m
  life_kept m other = life-push run.past x m ∙ of.life m (life_in run.past m) other

  role_kept : (m : ℕ) → m ≢ n → (own : Address) (kind : Kind) → role_in s (note x run) m own kind ≡ role_in s run m own kind
  role_kept m other own (OfCorrespondent room) = rw (life_kept m other) refl
  role_kept m other own (OfAgent preference life room serves) = refl
  role_kept m other own (OfMobile agent) = refl

  node_kept : (m : ℕ) → m ≢ n → (host : Host) → node_in s run m host ≡ node_in s (note x run) m host
  node_kept m other host = rw (life_kept m other, spot_kept m other (link_of s.links host.address.0), role_kept m other host.address host.kind) refl

  others_kept : (m : ℕ) → m ≢ n → slice_get e.nodes m ≡ option_map (node_in s (note x run) m) (slice_get s.hosts m)
  others_kept m other = at.nodes m ∙ mapped_same (node_in s run m) (node_in s (note x run) m) (node_kept m other) (slice_get s.hosts m)

  -- the engine has another node n
  pub at_entry : (nodes : List NodeSeen) → ((m : ℕ) → slice_get nodes m ≡ option_map (node_in s (note x run) m) (slice_get s.hosts m)) → length nodes ≡ length e.nodes
      → IsAt (with_entry x (record e { nodes = nodes })) s (note x run)
  at_entry nodes are long = record {
    seed = at.seed;
    asked = at.asked ∙ sym (asked-same s run.past x of.claim);
    hears = at.hears ∙ sym (hears-same run.past x of.listening);
    posts = at.posts;
    flying = at.flying;
    spots = at.spots;
    firsts = at.firsts;
    nodes = are;
    count = long ∙ at.count;
    pasts = at.pasts;
    agent_pasts = at.agent_pasts;
    mobile_pasts = at.mobile_pasts;
    outsiders = at.outsiders;
    numbers = at.numbers;
    now = at.now ∙ sym (moment-push s.start run.past x ∙ ap (λ (o : Option ℕ). unwrap_or o (moment_in s.start run.past)) of.moment);
    history = history-same e s run x at;
    numbered = numbered_apart run.posts run.past x of.apart at.numbered;
  }

  -- where there is no node n
  pub at_entry_nowhere : slice_get e.nodes n ≡ None → IsAt (with_entry x e) s (note x run)
  at_entry_nowhere none = at_entry e.nodes (λ m. by m (no_host e s run at n none) (cases_eq m n)) refl
    where
      by : (m : ℕ) → slice_get s.hosts n ≡ None → (m ≡ n) ⊎ (m ≢ n) → slice_get e.nodes m ≡ option_map (node_in s (note x run) m) (slice_get s.hosts m)
      by m nobody (inl same) = subst (λ (i : ℕ). slice_get e.nodes i ≡ option_map (node_in s (note x run) i) (slice_get s.hosts i)) (sym same)
          (none ∙ ap (λ (o : Option Host). option_map (node_in s (note x run) n) o) (sym nobody))
      by m nobody (inr other) = others_kept m other

  -- where there is one
  pub at_entry_here : (host : Host) (c : NodeSeen) → slice_get s.hosts n ≡ Some host → c ≡ node_in s (note x run) n host → IsAt (with_entry x (with_node n c e)) s (note x run)
  at_entry_here host c is_host is_node =
      at_entry (slice_set e.nodes n c) (λ m. by m (slice_get_within s.hosts n host is_host) (cases_eq m n)) (length-set e.nodes n c)
    where
      by : (m : ℕ) → n < length s.hosts → (m ≡ n) ⊎ (m ≢ n) → slice_get (slice_set e.nodes n c) m ≡ option_map (node_in s (note x run) m) (slice_get s.hosts m)
      by m inside (inl same) = subst (λ (i : ℕ). slice_get (slice_set e.nodes n c) i ≡ option_map (node_in s (note x run) i) (slice_get s.hosts i)) (sym same)
          (set_here e.nodes n c (omega (arith, inside, at.count))
          ∙ ap (λ (y : NodeSeen). Some y) is_node
          ∙ ap (λ (o : Option Host). option_map (node_in s (note x run) n) o) (sym is_host))
      by m inside (inr other) = set_there e.nodes n m c other ∙ others_kept m other

-- a node stands elsewhere from here on
pub at_moved : (e : EngineSeen) (s : Setup) (run : Run) (n : ℕ) (link : Option LinkId) → IsAt e s run
    → IsAt (with_entry (Moved (node_id n) link) (stood n (option_map (λ l. l.0) link) e)) s (note (Moved (node_id n) link) run)
at_moved e s run n link at = by (slice_get e.nodes n) refl
  where
    moved : (home : Option ℕ) → spot_in home (run.past ++ Moved (node_id n) link ∷ []) n ≡ option_map (λ l. l.0) link
    moved home = spot-push home run.past (Moved (node_id n) link) n ∙ grind (arith, nat_tests)

    role : (own : Address) (kind : Kind) → role_in s (note (Moved (node_id n) link) run) n own kind ≡ role_in s run n own kind
    role own (OfCorrespondent room) = rw (life-push run.past (Moved (node_id n) link) n) refl
    role own (OfAgent preference life room serves) = refl
    role own (OfMobile agent) = refl

    is_node : (host : Host) → with_spot (option_map (λ l. l.0) link) (node_in s run n host) ≡ node_in s (note (Moved (node_id n) link) run) n host
    is_node host = rw (life-push run.past (Moved (node_id n) link) n, moved (link_of s.links host.address.0), role host.address host.kind) refl

    by : (o : Option NodeSeen) → slice_get e.nodes n ≡ o → IsAt (with_entry (Moved (node_id n) link) (stood n (option_map (λ l. l.0) link) e)) s (note (Moved (node_id n) link) run)
    by None none =
        subst (λ (o : Option NodeSeen). IsAt (with_entry (Moved (node_id n) link) (stood_by n (option_map (λ l. l.0) link) e o)) s (note (Moved (node_id n) link) run)) (sym none)
        (at_entry_nowhere e s run n (Moved (node_id n) link) (of_move n link) at none)
    by (Some c) there =
        let found = host_of e s run at n c there in
        subst (λ (o : Option NodeSeen). IsAt (with_entry (Moved (node_id n) link) (stood_by n (option_map (λ l. l.0) link) e o)) s (note (Moved (node_id n) link) run)) (sym there)
        (at_entry_here e s run n (Moved (node_id n) link) (of_move n link) at found.0 (with_spot (option_map (λ l. l.0) link) c) found.1
        (ap (λ (y : NodeSeen). with_spot (option_map (λ l. l.0) link) y) (sym found.2) ∙ is_node found.0))
