-- Rows as plain data, and as the definitions of return routability have them.
use Rattle.std.proofs.Common.{◌≡◌, ℕ, refl, ap, sym, ◌∙◌, List, [], ◌∷◌, ◌+◌, length, map, nat_lt}
use Rattle.std.specs.Prelude.{cond, not, ◌==◌, Option, Some, None, option_map, option_and_then, slice_get, slice_set}
use Rattle.std.specs.List.{position_or_len}
use Rattle.std.proofs.lemmas.List.{length-map, map-set}
use Rattle.std.proofs.lemmas.Option.{slice_get-map}
use Rattle.mip_words.specs.declared.address.Address.{Address}
use Rattle.mip_words.specs.declared.moment.Moment.{Moment}
use Rattle.mip_bulist.specs.declared.any.Any.{Any}
use Rattle.mip_bulist.specs.declared.any.Any.TheVariants as any
use Rattle.mip_bulist.specs.declared.row.Row as seen
use Rattle.mip_bulist.specs.declared.state.Idle as idle
use Rattle.mip_bulist.specs.declared.trial.Trial as seen_trial
use Rattle.mip_bulist.specs.Rows.{row_place, set_trial, rested_row, all_rested}
use Rattle.mip_rules_mobile.specs.Trials.{Change, changed, changed_at, with_change}
use Rattle.mip_afresh_mobile_state.specs.declared.row.Row.{Row}
use Rattle.mip_afresh_mobile_state.specs.declared.trial.Trial.{Trial}
use Rattle.mip_afresh_mobile_state.specs.Trials.{row_seen, any_seen, given_up}
use Rattle.mip_afresh_mobile_state.proofs.TrialLaws.{resting_seen}

abbrev pub place_in : Address → List Row → ℕ
place_in peer rows = position_or_len (λ r. r.peer.0 == peer.0) rows

place_seen : (peer : Address) (rows : List Row) → position_or_len (λ r. r.peer.0 == peer.0) (map row_seen rows) ≡ place_in peer rows
place_seen peer [] = refl
place_seen peer (r ∷ rows) = ap (λ n. cond (not (r.peer.0 == peer.0)) (1 + n) 0) (place_seen peer rows)

pub row_place-seen : (peer : Address) (rows : List Row) → row_place peer (map row_seen rows) ≡ (cond (nat_lt (place_in peer rows) (length rows)) (Some (place_in peer rows)) None)
row_place-seen peer rows =
    ap (λ n. cond (nat_lt n (length (map row_seen rows))) (Some n) None) (place_seen peer rows)
    ∙ ap (λ n. cond (nat_lt (place_in peer rows) n) (Some (place_in peer rows)) None) (length-map rows row_seen)

-- a trial that is changed
pub row-changed : (rows : List Row) (row : ℕ) (r : Row) (trial : Trial) (now : Moment) (change : Change) → slice_get rows row ≡ Some r → any_seen r.peer trial ≡ changed now change (any_seen r.peer r.trial)
    → map row_seen (slice_set rows row (record { peer = r.peer; trial = trial })) ≡ with_change row now change (map row_seen rows)
unfolding with_change
row-changed rows row r trial now change is makes =
    let here : slice_get (map row_seen rows) row ≡ Some (row_seen r) = slice_get-map row_seen rows row ∙ ap (option_map row_seen) is in
    map-set row_seen rows row (record { peer = r.peer; trial = trial })
    ∙ ap (λ (a : Any). slice_set (map row_seen rows) row (record { peer = r.peer; trial = Some a })) makes
    ∙ sym (
    ap (λ (o : Option seen.Row). changed_at (option_and_then (λ (x : seen.Row). x.trial) o) row now change (map row_seen rows)) here
    ∙ ap (λ (o : Option seen.Row). set_trial o row (Some (changed now change (any_seen r.peer r.trial))) (map row_seen rows)) here
    )

pub row-none : (rows : List Row) (row : ℕ) (now : Moment) (change : Change) → slice_get rows row ≡ None → map row_seen rows ≡ with_change row now change (map row_seen rows)
unfolding with_change
row-none rows row now change is =
    let here : slice_get (map row_seen rows) row ≡ None = slice_get-map row_seen rows row ∙ ap (option_map row_seen) is in
    sym (ap (λ (o : Option seen.Row). changed_at (option_and_then (λ (x : seen.Row). x.trial) o) row now change (map row_seen rows)) here)

-- every trial given up
pub rows-given_up : (rows : List Row) → map row_seen (map given_up rows) ≡ all_rested (map row_seen rows)
rows-given_up [] = refl
rows-given_up (r ∷ rows) = ap (λ (x : seen.Row). x ∷ map row_seen (map given_up rows)) (one r) ∙ ap (λ (xs : List seen.Row). rested_row (row_seen r) ∷ xs) (rows-given_up rows)
  where
    one : (r : Row) → row_seen (given_up r) ≡ rested_row (row_seen r)
    one r = ap (λ (t : seen_trial.Trial idle.Idle). let x : seen.Row = record { peer = r.peer; trial = Some (any.Idle t) } in x) (sym (resting_seen r.peer r.trial))
