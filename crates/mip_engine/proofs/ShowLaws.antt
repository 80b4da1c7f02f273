-- The rows that a node keeps are shown.
use Rattle.std.proofs.Common.{◌≡◌, ℕ, zero, suc, ◌+◌, List, [], ◌∷◌, refl, sym, ap, ◌∙◌}
use Rattle.std.specs.Prelude.{Some, None, slice_get, take, map}
use Rattle.std.specs.List.{AllByRecursion}
use Rattle.mip_words.specs.declared.address.Address.{Address}
use Rattle.mip_bcache.specs.Seen.{rows_at as cache_rows}
use Rattle.mip_bcache.specs.declared.row.Row.{Row}
use Rattle.mip_entries.specs.declared.entry.Entry.{Entry}
use Rattle.mip_entries.specs.declared.entry.Entry.TheVariants.{Idle}
use Rattle.mip_rules_agent.specs.Questions.{rows_at}
use Rattle.mip_rules_agent.specs.declared.home_row.HomeRow.{HomeRow}
use Rattle.mip_history.specs.Setup.{Setup, Kind}
use Rattle.mip_history.specs.Setup.Kind.{Correspondent as OfCorrespondent, Agent as OfAgent, Mobile as OfMobile}
use Rattle.mip_history.specs.Runs.{Run, note, notes}
use Rattle.mip_history.specs.Knowing.{now_in}
use Rattle.mip_history.specs.Nodes.{row_entry, home_entry, rows_by_kind, rows_shown, shown}
use Rattle.mip_roles.specs.declared.role.Role.{Role}
use Rattle.mip_roles.specs.declared.role.Role.TheVariants.{Correspondent, Agent, Mobile}
use Rattle.mip_roles.specs.Nodes.{NodeSeen}
use Rattle.mip_roles.specs.Roles.{rows_of}
use Rattle.mip_engine.specs.Engines.{EngineSeen, with_entry, with_entries}
use Rattle.mip_engine.specs.Quiet.{IsQuiet}
use Rattle.mip_engine.specs.Standing.{IsAt, role_in}
use Rattle.mip_engine.proofs.QuietLaws.{take_one, quiet_by}
use Rattle.mip_engine.proofs.PostingLaws.{with_more, at_quiets}
use Rattle.mip_engine.proofs.NodeLaws.{host_of, no_host}

quiet_rows : (n : ℕ) (rows : List Row) → AllByRecursion IsQuiet (map (row_entry n) rows)
quiet_rows n [] = tt
quiet_rows n (r ∷ rows) = (quiet_by (row_entry n r) refl refl, quiet_rows n rows)

quiet_homes : (n : ℕ) (rows : List HomeRow) → AllByRecursion IsQuiet (map (home_entry n) rows)
quiet_homes n [] = tt
quiet_homes n (r ∷ rows) = (quiet_by (home_entry n r) refl refl, quiet_homes n rows)

quiet_shown : (n : ℕ) (role : Role) (now : ℕ) → AllByRecursion IsQuiet (rows_of n role now)
quiet_shown n (Correspondent c) now = quiet_rows n (cache_rows c.known.cache now)
quiet_shown n (Agent a) now = quiet_homes n (rows_at now a.known.homes)
quiet_shown n (Mobile k) now = quiet_rows n (cache_rows k.part.known.cache now)

module _ (e : EngineSeen) (s : Setup) (run : Run) (at : IsAt e s run) (n : ℕ) where
  pub at_shown : (role : Role) → IsAt (with_entries (rows_of n role e.moment) e) s (notes (rows_of n role e.moment) run)
  at_shown role = at_quiets (rows_of n role e.moment) e s run (quiet_shown n role e.moment) at

  pub shown_none : slice_get e.nodes n ≡ None → shown s n run ≡ note Idle run
  shown_none none = ap (rows_shown s n run) (no_host e s run at n none)

  rows_kind : (own : Address) (kind : Kind) → rows_by_kind s n own run kind ≡ rows_of n (role_in s run n own kind) (now_in s run)
  rows_kind own (OfCorrespondent room) = refl
  rows_kind own (OfAgent preference life room serves) = refl
  rows_kind own (OfMobile agent) = refl

  pub shown_some : (c : NodeSeen) → slice_get e.nodes n ≡ Some c → shown s n run ≡ notes (rows_of n c.role e.moment) run
  shown_some c there =
      let found = host_of e s run at n c there in
      ap (rows_shown s n run) found.1
      ∙ ap (λ (rows : List Entry). notes rows run) (rows_kind found.0.address found.0.kind
      ∙ ap (λ (x : NodeSeen). rows_of n x.role (now_in s run)) found.2 ∙ ap (rows_of n c.role) (sym at.now))

-- one row more
pub rows_more : (rows : List Entry) (i : ℕ) (row : Entry) (e : EngineSeen) → slice_get rows i ≡ Some row
    → with_entry row (with_entries (take i rows) e) ≡ with_entries (take (i + 1) rows) e
rows_more rows i row e there =
    with_more (take i rows) (row ∷ []) e ∙ ap (λ (xs : List Entry). with_entries xs e) (sym (take_one rows i row there))

-- where there is no item more, all were taken
pub all_taken : {X : Type 0} (xs : List X) (i : ℕ) → slice_get xs i ≡ None → take i xs ≡ xs
all_taken [] zero none = refl
all_taken [] (suc i) none = refl
all_taken (x ∷ xs) zero none = absurd cc
all_taken (x ∷ xs) (suc i) none = ap (λ l. x ∷ l) (all_taken xs i none)
