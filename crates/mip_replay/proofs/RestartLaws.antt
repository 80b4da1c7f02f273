-- A node begins its next life.
use Rattle.std.proofs.Common.{◌≡◌, ℕ, suc, ◌<◌, List, [], ◌∷◌, ◌++◌, length, true, false, refl, sym, ap, ◌∙◌, subst, arith, drop}
use Rattle.std.proofs.lemmas.Bool.Decides.{nat_tests}
use Rattle.std.proofs.lemmas.List.{get_or-set_same, drop_more}
use Rattle.std.proofs.lemmas.Option.{slice_get_within}
use Rattle.std.specs.Prelude.{Option, Some, None, slice_get, slice_set, slice_index_or, get_or, ◌+◌}
use Rattle.mip_words.specs.declared.address.Address.{Address}
use Rattle.mip_entries.specs.declared.entry.Entry.TheVariants.{Restarted}
use Rattle.mip_entries.specs.Completed.{node_id}
use Rattle.mip_rules_agent.specs.declared.home_row.HomeRow.{HomeRow}
use Rattle.mip_history.specs.Setup.{Setup, Host, Kind}
use Rattle.mip_history.specs.Setup.Kind.{Correspondent as OfCorrespondent, Agent as OfAgent, Mobile as OfMobile}
use Rattle.mip_history.specs.Runs.{Run}
use Rattle.mip_history.specs.Questions.{life_in, spot_in, restarts}
use Rattle.mip_history.specs.Calls.{Restart}
use Rattle.mip_history.specs.Knowing.{now_in, secrets_in}
use Rattle.mip_history.specs.Nodes.{acts}
use Rattle.mip_history.specs.Homes.{gives_up}
use Rattle.mip_history.specs.Restarting.{homes_left, reborn_by_host, restarted}
use Rattle.mip_links.specs.Table.{link_of}
use Rattle.mip_nonce.specs.Secrets.{Life}
use Rattle.mip_engine.specs.Nodes as nodes
use Rattle.mip_engine.specs.Nodes.{NodeSeen}
use Rattle.mip_engine.specs.Roles.{is_roaming, homes_of}
use Rattle.mip_engine.proofs.RoleLaws.{known_first, agent_known_first}
use Rattle.mip_engine.specs.Engines.{EngineSeen, with_entry, with_node, reborn}
use Rattle.mip_replay.specs.Renewals.{emptied, renewed, begun_anew}
use Rattle.mip_engine.specs.Standing.{IsAt, role_in, node_in}
use Rattle.mip_engine.proofs.ItemLaws.{set_again}
use Rattle.mip_engine.proofs.QuietLaws.{life-push, spot-push}
use Rattle.mip_engine.proofs.EntryLaws.{of_restart, at_entry_here, at_entry_nowhere}
use Rattle.mip_engine.proofs.NodeLaws.{DiffersAt, host_of, no_host, at_node, differs_past, differs_agent_past, differs_same}

module _ (e : EngineSeen) (s : Setup) (run : Run) (at : IsAt e s run) (n : ℕ) where
  differs : (kind : Kind) → DiffersAt n run (emptied n run kind)
  differs (OfCorrespondent room) = differs_past n [] run
  differs (OfAgent preference life room serves) = differs_agent_past n [] run
  differs (OfMobile agent) = differs_same n run

  lived : life_in (run.past ++ Restarted (node_id n) ∷ []) n ≡ suc (life_in run.past n)
  lived = life-push run.past (Restarted (node_id n)) n ∙ once (life_in run.past n)
    where
      once : (life : ℕ) → restarts n life (Restarted (node_id n)) ≡ suc life
      once life = grind (arith, nat_tests)

  stays : (home : Option ℕ) → spot_in home (run.past ++ Restarted (node_id n) ∷ []) n ≡ spot_in home run.past n
  stays home = spot-push home run.past (Restarted (node_id n)) n

  reborn_kind : (own : Address) (kind : Kind) → slice_get s.hosts n ≡ Some (record { address = own; kind = kind })
      → nodes.reborn s.seed s.numbers n (node_in s run n (record { address = own; kind = kind })) ≡ node_in s (renewed n run kind) n (record { address = own; kind = kind })
  reborn_kind own (OfCorrespondent room) is_host =
      let inside = slice_get_within s.hosts n _ is_host in
      let empty : slice_index_or (slice_set run.pasts n []) n [] ≡ [] = get_or-set_same run.pasts n [] [] (omega (arith, inside, at.pasts)) in
      rw (lived, stays (link_of s.links own.0), empty, known_first room s.numbers) refl
  reborn_kind own (OfAgent preference life room serves) is_host =
      let inside = slice_get_within s.hosts n _ is_host in
      let empty : slice_index_or (slice_set run.agent_pasts n []) n [] ≡ [] = get_or-set_same run.agent_pasts n [] [] (omega (arith, inside, at.agent_pasts)) in
      rw (lived, stays (link_of s.links own.0), empty, agent_known_first serves) refl
  reborn_kind own (OfMobile agent) is_host = rw (lived, stays (link_of s.links own.0)) refl

  -- a node begins its next life
  pub at_renewed : (c : NodeSeen) → slice_get e.nodes n ≡ Some c → IsAt (with_entry (Restarted (node_id n)) (reborn n c e)) s (renewed n run c.host.kind)
  at_renewed c there =
      let found = host_of e s run at n c there in
      let host = found.0 in
      let after = emptied n run host.kind in
      let middle = node_in s after n host in
      let next = nodes.reborn e.seed e.numbers n c in
      let is_node : next ≡ node_in s (renewed n run host.kind) n host =
      ap (λ (seed : List ℕ). nodes.reborn seed e.numbers n c) at.seed ∙ ap (λ (numbers : ℕ). nodes.reborn s.seed numbers n c) at.numbers
      ∙ ap (λ (x : NodeSeen). nodes.reborn s.seed s.numbers n x) (sym found.2) ∙ reborn_kind host.address host.kind found.1 in
      let emptied_at : IsAt (with_node n middle e) s after = at_node e s run at n middle host after found.1 (differs host.kind) refl in
      let noted_at = at_entry_here (with_node n middle e) s after n (Restarted (node_id n)) (of_restart n) emptied_at host next found.1 is_node in
      let same_host : host ≡ c.host = ap (λ (x : NodeSeen). x.host) found.2 in
      subst (λ (h : Host). IsAt (with_entry (Restarted (node_id n)) (reborn n c e)) s (renewed n run h.kind)) same_host
      (subst (λ (l : List NodeSeen). IsAt (with_entry (Restarted (node_id n)) (record e { nodes = l })) s (renewed n run host.kind)) (set_again e.nodes n middle next) noted_at)

  -- one that is not there leaves all as it was
  pub at_restarted_nowhere : slice_get e.nodes n ≡ None → IsAt (with_entry (Restarted (node_id n)) e) s (restarted s run n)
  unfolding restarted
  at_restarted_nowhere none =
      subst (λ (r : Run). IsAt (with_entry (Restarted (node_id n)) e) s r) (sym (ap (reborn_by_host s n run) (no_host e s run at n none)))
      (at_entry_nowhere e s run n (Restarted (node_id n)) (of_restart n) at none)

  begun_kind : (own : Address) (kind : Kind) → begun_anew s n (homes_of (role_in s run n own kind) (now_in s run)) (renewed n run kind) kind ≡ reborn_by_host s n run (Some (record { address = own; kind = kind }))
  unfolding homes_left
  begun_kind own (OfCorrespondent room) = refl
  begun_kind own (OfAgent preference life room serves) = refl
  begun_kind own (OfMobile agent) = refl

  -- and what becomes of it is its restart
  pub restarts_so : (c : NodeSeen) → slice_get e.nodes n ≡ Some c → begun_anew s n (homes_of c.role e.moment) (renewed n run c.host.kind) c.host.kind ≡ restarted s run n
  unfolding restarted
  restarts_so c there =
      let found = host_of e s run at n c there in
      let host = found.0 in
      ap (λ (now : ℕ). begun_anew s n (homes_of c.role now) (renewed n run c.host.kind) c.host.kind) at.now
      ∙ ap (λ (x : NodeSeen). begun_anew s n (homes_of x.role (now_in s run)) (renewed n run x.host.kind) x.host.kind) (sym found.2)
      ∙ begun_kind host.address host.kind
      ∙ ap (reborn_by_host s n run) (sym found.1)

  -- a mobile registers anew
  pub anew_roaming : (c : NodeSeen) (homes : List HomeRow) (secrets : Life) → slice_get e.nodes n ≡ Some c → is_roaming c.role ≡ true → secrets ≡ record { seed = e.seed; node = n; life = c.life }
      → acts s n (Restart secrets) run ≡ begun_anew s n homes run c.host.kind
  anew_roaming c homes secrets there roams is =
      let found = host_of e s run at n c there in
      let host = found.0 in
      let same : secrets ≡ secrets_in s n (life_in run.past n) =
      is ∙ ap (λ (seed : List ℕ). let l : Life = record { seed = seed; node = n; life = c.life } in l) at.seed ∙ ap (λ (x : NodeSeen). secrets_in s n x.life) (sym found.2) in
      ap (λ (l : Life). acts s n (Restart l) run) same
      ∙ by host.address host.kind (ap (λ (x : NodeSeen). is_roaming x.role) found.2 ∙ roams)
      ∙ ap (λ (x : NodeSeen). begun_anew s n homes run x.host.kind) found.2
    where
      by : (own : Address) (kind : Kind) → is_roaming (role_in s run n own kind) ≡ true → acts s n (Restart (secrets_in s n (life_in run.past n))) run ≡ begun_anew s n homes run kind
      by own (OfCorrespondent room) is = absurd cc
      by own (OfAgent preference life room serves) is = absurd cc
      by own (OfMobile agent) is = refl

  -- another node gives up its homes
  pub anew_still : (c : NodeSeen) (homes : List HomeRow) → slice_get e.nodes n ≡ Some c → is_roaming c.role ≡ false → homes_left s n homes run ≡ begun_anew s n homes run c.host.kind
  anew_still c homes there still =
      let found = host_of e s run at n c there in
      let host = found.0 in
      by host.address host.kind (ap (λ (x : NodeSeen). is_roaming x.role) found.2 ∙ still)
      ∙ ap (λ (x : NodeSeen). begun_anew s n homes run x.host.kind) found.2
    where
      by : (own : Address) (kind : Kind) → is_roaming (role_in s run n own kind) ≡ false → homes_left s n homes run ≡ begun_anew s n homes run kind
      by own (OfCorrespondent room) is = refl
      by own (OfAgent preference life room serves) is = refl
      by own (OfMobile agent) is = absurd cc

-- one home more is given up
pub leaves_on : (e : EngineSeen) (s : Setup) (n : ℕ) (rows : List HomeRow) (i : ℕ) (d : HomeRow) (here run : Run) → i < length rows
    → IsAt e s (gives_up s n (let r : HomeRow = get_or rows i d in r.home) here) → homes_left s n (drop i rows) here ≡ homes_left s n rows run
    → (next : Run) × (IsAt e s next) × (homes_left s n (drop (i + 1) rows) next ≡ homes_left s n rows run)
unfolding homes_left
leaves_on e s n rows i d here run inside at so_far =
    (gives_up s n (let r : HomeRow = get_or rows i d in r.home) here, at, ap (λ (rs : List HomeRow). homes_left s n rs here) (sym (drop_more rows i d inside)) ∙ so_far)
