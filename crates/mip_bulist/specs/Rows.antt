-- The rows of a mobile: one for each peer, in the order in which they were made, with the peer's trial
-- where that is in.
use Rattle.std.specs.Prelude.{◌≢◌, ℕ, Bool, false, ◌&&◌, ◌==◌, nat_lt, if◌then◌else◌, Option, Some, None, Result, Ok, Err, is_none, option_and_then, option_map, map, List, [], ◌∷◌, ◌++◌, length, position, slice_get, slice_set}
use Rattle.mip_words.specs.declared.address.Address.{Address}
use Rattle.mip_bulist.specs.declared.any.Any.{Any}
use Rattle.mip_bulist.specs.declared.any.Any.TheVariants as any
use Rattle.mip_bulist.specs.declared.row.Row.{Row}
use Rattle.mip_bulist.specs.declared.list_full.ListFull.{ListFull}
use Rattle.mip_bulist.specs.declared.state.Idle.{Idle}
use Rattle.mip_bulist.specs.declared.trial.Trial.{Trial}
use Rattle.mip_bulist.specs.Trials.{peer_of, fresh_trial, at_rest}

abbrev pub peer_of_any : Any → Address
peer_of_any (any.Idle t) = peer_of t
peer_of_any (any.Probing t) = peer_of t
peer_of_any (any.Proved t) = peer_of t
peer_of_any (any.Pending t) = peer_of t
peer_of_any (any.Bound t) = peer_of t

-- a row that is made new holds an idle trial
abbrev pub new_row : Address → Row
new_row peer = record { peer = peer; trial = Some (any.Idle (fresh_trial peer)) }

-- the place of a peer's row
abbrev pub row_place : Address → List Row → Option ℕ
row_place peer rows = position (λ r. r.peer.0 == peer.0) rows

abbrev pub given_at : Option ℕ → List Row → Result ℕ ListFull
given_at (Some at) rows = Ok at
given_at None rows = if nat_lt (length rows) 16 then Ok (length rows) else Err (record {})

abbrev pub rows_given : Option ℕ → Address → List Row → List Row
rows_given (Some at) peer rows = rows
rows_given None peer rows = if nat_lt (length rows) 16 then rows ++ new_row peer ∷ [] else rows

-- the peer's row, made where new; full where sixteen other peers have rows
abbrev pub given_row : Address → List Row → Result ℕ ListFull
given_row peer rows = given_at (row_place peer rows) rows

abbrev pub with_row : Address → List Row → List Row
with_row peer rows = rows_given (row_place peer rows) peer rows

-- the peer of a row that is made
abbrev pub peer_at : ℕ → List Row → Option Address
peer_at row rows = option_and_then (λ r. Some r.peer) (slice_get rows row)

-- the trial of a row, where it is made and its trial is in
abbrev pub lifted : ℕ → List Row → Option Any
lifted row rows = option_and_then (λ r. r.trial) (slice_get rows row)

abbrev pub set_trial : Option Row → ℕ → Option Any → List Row → List Row
set_trial None row trial rows = rows
set_trial (Some r) row trial rows = slice_set rows row (record { peer = r.peer; trial = trial })

-- the rows with this trial, or none, in a row that is made
abbrev pub with_trial : ℕ → Option Any → List Row → List Row
with_trial row trial rows = set_trial (slice_get rows row) row trial rows

abbrev pub takes_of : Option Row → Address → Bool
takes_of None peer = false
takes_of (Some r) peer = is_none r.trial && (r.peer.0 == peer.0)

-- the row is made, holds no trial and is of this peer
abbrev pub takes_at : ℕ → Address → List Row → Bool
takes_at row peer rows = takes_of (slice_get rows row) peer

-- a trial that is put back; the trial itself, where its row does not take it
abbrev pub laid : ℕ → Any → List Row → Result (Unit {0}) Any
laid row trial rows = if takes_at row (peer_of_any trial) rows then Ok tt else Err trial

abbrev pub rows_laid : ℕ → Any → List Row → List Row
rows_laid row trial rows = if takes_at row (peer_of_any trial) rows then with_trial row (Some trial) rows else rows

-- whatever was under way is given up
abbrev pub resting : Any → Trial Idle
resting (any.Idle t) = at_rest t
resting (any.Probing t) = at_rest t
resting (any.Proved t) = at_rest t
resting (any.Pending t) = at_rest t
resting (any.Bound t) = at_rest t

abbrev pub rested_row : Row → Row
rested_row r = record { peer = r.peer; trial = option_map (λ a. any.Idle (resting a)) r.trial }

-- every trial is given up
abbrev pub all_rested : List Row → List Row
all_rested rows = map rested_row rows

-- no row is of this peer
abbrev pub IsNew : ℕ → List Row → Type 0
IsNew peer [] = Unit {0}
IsNew peer (r ∷ rows) = (r.peer.0 ≢ peer) × IsNew peer rows

-- no two rows are of one peer
abbrev pub AreOfDifferentPeers : List Row → Type 0
AreOfDifferentPeers [] = Unit {0}
AreOfDifferentPeers (r ∷ rows) = IsNew r.peer.0 rows × AreOfDifferentPeers rows
