-- What the calls on rows leave.
use Rattle.std.proofs.Common.{◌≡◌, ℕ, zero, suc, Bool, true, false, refl, ap, ◌∙◌, sym, subst, ◌≢◌, ◌≤◌, ◌+◌, arith, List, [], ◌∷◌, ◌++◌, length, nat_lt}
use Rattle.std.specs.Prelude.{cond, not, ◌==◌, Option, Some, None, IfSome, IfOk, Ok, Err, slice_get}
use Rattle.std.specs.List.{position_or_len}
use Rattle.std.proofs.lemmas.Bool.Decides.{nat_tests}
use Rattle.mip_words.specs.declared.address.Address.{Address}
use Rattle.mip_bulist.specs.declared.any.Any.{Any}
use Rattle.mip_bulist.specs.declared.row.Row.{Row}
use Rattle.mip_bulist.specs.Rows.{peer_at, peer_of_any, row_place, rows_given, new_row, with_row, set_trial, with_trial, takes_at, laid, rows_laid, lifted, all_rested, IsNew, AreOfDifferentPeers}

pub with_step : (r : Row) (rs : List Row) (i : ℕ) (trial : Option Any) → with_trial (suc i) trial (r ∷ rs) ≡ r ∷ with_trial i trial rs
with_step r rs i trial =
    elim (slice_get rs i) as (λ o. set_trial o (suc i) trial (r ∷ rs) ≡ r ∷ set_trial o i trial rs) [ None ↦ refl | Some q ↦ refl ]

pub peer_kept : (rows : List Row) (row at : ℕ) (trial : Option Any) → peer_at row (with_trial at trial rows) ≡ peer_at row rows
peer_kept [] row at trial = refl
peer_kept (r ∷ rs) zero zero trial = refl
peer_kept (r ∷ rs) (suc k) zero trial = refl
peer_kept (r ∷ rs) zero (suc i) trial = ap (peer_at zero) (with_step r rs i trial)
peer_kept (r ∷ rs) (suc k) (suc i) trial = ap (peer_at (suc k)) (with_step r rs i trial) ∙ peer_kept rs k i trial

pub peer_laid : (rows : List Row) (row at : ℕ) (trial : Any) → peer_at row (rows_laid at trial rows) ≡ peer_at row rows
peer_laid rows row at trial =
    elim (takes_at at (peer_of_any trial) rows) as (λ b. peer_at row (cond b (with_trial at (Some trial) rows) rows) ≡ peer_at row rows) [ true ↦ peer_kept rows row at (Some trial) | false ↦ refl ]

is_its_own : (o : Option Address) → IfSome o (λ p. o ≡ Some p)
is_its_own None = tt
is_its_own (Some p) = refl

peer_before : (rows more : List Row) (row : ℕ) → IfSome (peer_at row rows) (λ p. peer_at row (rows ++ more) ≡ Some p)
peer_before [] more row = tt
peer_before (r ∷ rs) more zero = refl
peer_before (r ∷ rs) more (suc k) = peer_before rs more k

pub peer_stays : (rows : List Row) (row : ℕ) (other : Address) → IfSome (peer_at row rows) (λ p. peer_at row (with_row other rows) ≡ Some p)
peer_stays rows row other =
    elim (row_place other rows) as (λ o. IfSome (peer_at row rows) (λ p. peer_at row (rows_given o other rows) ≡ Some p)) [
      | Some at ↦ is_its_own (peer_at row rows)
      | None ↦ elim (nat_lt (length rows) 16) as (λ b. IfSome (peer_at row rows) (λ p. peer_at row (cond b (rows ++ new_row other ∷ []) rows) ≡ Some p)) [
        | true ↦ peer_before rows (new_row other ∷ []) row
        | false ↦ is_its_own (peer_at row rows)
      ]
    ]

put_back : (rows : List Row) (row : ℕ) (trial : Any) (peer : Address) → takes_at row peer rows ≡ true → lifted row (with_trial row (Some trial) rows) ≡ Some trial
put_back [] row trial peer e = absurd cc
put_back (r ∷ rs) zero trial peer e = refl
put_back (r ∷ rs) (suc k) trial peer e = ap (lifted (suc k)) (with_step r rs k (Some trial)) ∙ put_back rs k trial peer e

pub comes_out : (rows : List Row) (row : ℕ) (trial : Any) → IfOk (laid row trial rows) (λ _. lifted row (rows_laid row trial rows) ≡ Some trial)
comes_out rows row trial =
    let P : Bool → Type 0 = λ b. takes_at row (peer_of_any trial) rows ≡ b → IfOk (cond b (Ok tt) (Err trial)) (λ _. lifted row (cond b (with_trial row (Some trial) rows) rows) ≡ Some trial) in
    (elim (takes_at row (peer_of_any trial) rows) as P [ true ↦ λ e. put_back rows row trial (peer_of_any trial) e | false ↦ λ _. tt ]) refl

-- rows of different peers stay so
new_kept : (rows : List Row) (peer at : ℕ) (trial : Option Any) → IsNew peer rows → IsNew peer (with_trial at trial rows)
new_kept [] peer at trial n = tt
new_kept (r ∷ rs) peer zero trial n = n
new_kept (r ∷ rs) peer (suc i) trial n = subst (IsNew peer) (sym (with_step r rs i trial)) (n.0, new_kept rs peer i trial n.1)

pub peers_kept : (rows : List Row) (at : ℕ) (trial : Option Any) → AreOfDifferentPeers rows → AreOfDifferentPeers (with_trial at trial rows)
peers_kept [] at trial d = tt
peers_kept (r ∷ rs) zero trial d = d
peers_kept (r ∷ rs) (suc i) trial d = subst AreOfDifferentPeers (sym (with_step r rs i trial)) (new_kept rs r.peer.0 i trial d.0, peers_kept rs i trial d.1)

new_rested : (rows : List Row) (peer : ℕ) → IsNew peer rows → IsNew peer (all_rested rows)
new_rested [] peer n = tt
new_rested (r ∷ rs) peer n = (n.0, new_rested rs peer n.1)

pub peers_rested : (rows : List Row) → AreOfDifferentPeers rows → AreOfDifferentPeers (all_rested rows)
peers_rested [] d = tt
peers_rested (r ∷ rs) d = (new_rested rs r.peer.0 d.0, peers_rested rs d.1)

pub peers_laid : (rows : List Row) (at : ℕ) (trial : Any) → AreOfDifferentPeers rows → AreOfDifferentPeers (rows_laid at trial rows)
peers_laid rows at trial d =
    elim (takes_at at (peer_of_any trial) rows) as (λ b. AreOfDifferentPeers (cond b (with_trial at (Some trial) rows) rows)) [ true ↦ peers_kept rows at (Some trial) d | false ↦ d ]

new_before : (peer : ℕ) (other : Address) (rows : List Row) → other.0 ≢ peer → IsNew peer rows → IsNew peer (rows ++ new_row other ∷ [])
new_before peer other [] ne n = (ne, tt)
new_before peer other (r ∷ rs) ne n = (n.0, new_before peer other rs ne n.1)

peers_added : (other : Address) (rows : List Row) → IsNew other.0 rows → AreOfDifferentPeers rows → AreOfDifferentPeers (rows ++ new_row other ∷ [])
peers_added other [] n d = (tt, tt)
peers_added other (r ∷ rs) n d = (new_before r.peer.0 other rs (λ e. n.0 (sym e)) d.0, peers_added other rs n.1 d.1)

-- a peer whose row is nowhere is new
new_past : (other : Address) (rows : List Row) → length rows ≤ position_or_len (λ r. r.peer.0 == other.0) rows → IsNew other.0 rows
new_past other [] le = tt
new_past other (r ∷ rs) le =
    let n = position_or_len (λ r. r.peer.0 == other.0) rs in
    let P : Bool → Type 0 = λ b. (r.peer.0 == other.0) ≡ b → suc (length rs) ≤ cond (not b) (1 + n) 0 → IsNew other.0 (r ∷ rs) in
    (elim (r.peer.0 == other.0) as P [
      | true ↦ λ _ no. let never : ⊥ = omega arith in absurd never
      | false ↦ λ e more. let rest : length rs ≤ n = omega arith in (grind (arith, nat_tests), new_past other rs rest)
    ]) refl le

pub peers_with : (rows : List Row) (other : Address) → AreOfDifferentPeers rows → AreOfDifferentPeers (with_row other rows)
peers_with rows other d =
    let n = position_or_len (λ r. r.peer.0 == other.0) rows in
    let P : Bool → Type 0 = λ b. nat_lt n (length rows) ≡ b → AreOfDifferentPeers (rows_given (cond b (Some n) None) other rows) in
    (elim (nat_lt n (length rows)) as P [
      | true ↦ λ _. d
      | false ↦ λ e.
          let le : length rows ≤ n = grind (arith, nat_tests) in
          elim (nat_lt (length rows) 16) as (λ b. AreOfDifferentPeers (cond b (rows ++ new_row other ∷ []) rows)) [ true ↦ peers_added other rows (new_past other rows le) d | false ↦ d ]
    ]) refl
