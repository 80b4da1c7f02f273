-- What a mobile knows of its binding with a peer: rows and what is kept of their peers, side by side.
use Rattle.std.proofs.Common.{◌≡◌, ℕ, zero, suc, ◌+◌, ◌<◌, List, [], ◌∷◌, ◌++◌, Bool, true, false, length, refl, sym, ap, ◌∙◌, subst, arith, length-set}
use Rattle.std.specs.Prelude.{Option, Some, None, is_some, option_map, unwrap_or, not, cond, ◌==◌, nat_lt, if◌then◌else◌, map, replicate, slice_get}
use Rattle.std.specs.Option.{option_map_or}
use Rattle.std.specs.List.{position_or_len}
use Rattle.std.proofs.lemmas.List.{length-map}
use Rattle.std.proofs.lemmas.Bool.{eqb-true}
use Rattle.std.proofs.lemmas.Bool.Decides.{nat_tests}
use Rattle.mip_words.specs.declared.address.Address.{Address}
use Rattle.mip_words.specs.declared.moment.Moment.{Moment}
use Rattle.mip_bulist.specs.declared.any.Any.{Any}
use Rattle.mip_bulist.specs.declared.any.Any.TheVariants as any
use Rattle.mip_bulist.specs.declared.row.Row.{Row}
use Rattle.mip_bulist.specs.Rows.{peer_of_any, row_place, peer_at, lifted, new_row, rows_given, with_row, with_trial, all_rested, resting, IsNew, AreOfDifferentPeers}
use Rattle.mip_bulist.proofs.RowLaws.{with_step, peers_kept, peers_rested, peers_with}
use Rattle.mip_bulist.specs.declared.work.Work.TheVariants.{Resend}
use Rattle.mip_rules_mobile.specs.declared.peer.Peer.{Peer}
use Rattle.mip_rules_mobile.specs.Calls.{Call}
use Rattle.mip_rules_mobile.specs.Trials.{Change, Make, Rest, changed, changed_at, with_change}
use Rattle.mip_rules_mobile.specs.Steps.{Step, Meets, Tries, Updates, Detaches, Restarts, Forgets, Binds, Unbinds, Waits}
use Rattle.mip_rules_mobile.specs.Known.{Known}
use Rattle.mip_rules_mobile.specs.RowQuestions.{rows_after, peers_after, fresh_peer, fresh_peers, touched, forgotten, bound_until, unbound, waiting, set_peer, with_peer, lies_ahead, is_bound_row, if_bound, row_of, bound_row_of}
use Rattle.mip_rules_mobile.specs.Fitting.{IsTrialOf, Fits}
use Rattle.mip_rules_mobile.proofs.Peers.{changed-own}
use Rattle.mip_settled.proofs.MobileTransitions.{is_plain}

-- the end of a peer's binding: what is kept beside its row
abbrev pub look : Address → List Row → List Peer → Option Moment
look peer [] peers = None
look peer (r ∷ rs) [] = None
look peer (r ∷ rs) (p ∷ ps) = if r.peer.0 == peer.0 then p.bound else look peer rs ps

abbrev pub bound_of : Known → Address → Option Moment
bound_of k peer = look peer k.list.rows k.peers

-- the binding beside a row lasts
abbrev pub lasts_at : ℕ → List Peer → ℕ → Bool
lasts_at now peers row = option_map_or (λ (p : Peer). lies_ahead now p.bound) (slice_get peers row) false

abbrev lasts_where : ℕ → List Peer → Option ℕ → Bool
lasts_where now peers None = false
lasts_where now peers (Some row) = lasts_at now peers row

place_here : (b : Bool) (now : ℕ) (peers : List Peer) → b ≡ true → lasts_where now peers (cond b (Some 0) None) ≡ lasts_at now peers 0
place_here true now peers is = refl
place_here false now peers is = absurd cc

nothing_there : (now row : ℕ) → lasts_at now [] row ≡ false
nothing_there now zero = refl
nothing_there now (suc row) = refl

place_next : (now n : ℕ) (p : Peer) (ps : List Peer) (b c : Bool) → b ≡ c → lasts_where now (p ∷ ps) (cond b (Some (1 + n)) None) ≡ lasts_where now ps (cond c (Some n) None)
place_next now n p ps true true is = let next : 1 + n ≡ suc n = omega arith in ap (lasts_at now (p ∷ ps)) next
place_next now n p ps false false is = refl
place_next now n p ps true false is = absurd cc
place_next now n p ps false true is = absurd cc

none_next : (now n : ℕ) (b : Bool) → lasts_where now [] (cond b (Some n) None) ≡ false
none_next now n true = nothing_there now n
none_next now n false = refl

shift : (n m : ℕ) → nat_lt (1 + n) (suc m) ≡ nat_lt n m
shift n m = by (nat_lt (1 + n) (suc m)) (nat_lt n m) refl refl
  where
    by : (b c : Bool) → nat_lt (1 + n) (suc m) ≡ b → nat_lt n m ≡ c → b ≡ c
    by true true one two = refl
    by false false one two = refl
    by true false one two = absurd (let never : ⊥ = grind (arith, nat_tests) in never)
    by false true one two = absurd (let never : ⊥ = grind (arith, nat_tests) in never)

looked : (now : ℕ) (peer : Address) (rows : List Row) (peers : List Peer) → lasts_where now peers (row_place peer rows) ≡ lies_ahead now (look peer rows peers)
looked now peer [] peers = refl
looked now peer (r ∷ rs) [] = by (r.peer.0 == peer.0)
  where
    n : ℕ
    n = position_or_len (λ (x : Row). x.peer.0 == peer.0) rs

    by : (same : Bool) → lasts_where now [] (cond (nat_lt (cond (not same) (1 + n) 0) (suc (length rs))) (Some (cond (not same) (1 + n) 0)) None) ≡ false
    by true = none_next now 0 (nat_lt 0 (suc (length rs)))
    by false = none_next now (1 + n) (nat_lt (1 + n) (suc (length rs)))
looked now peer (r ∷ rs) (p ∷ ps) = by (looked now peer rs ps) (r.peer.0 == peer.0)
  where
    n : ℕ
    n = position_or_len (λ (x : Row). x.peer.0 == peer.0) rs

    by : lasts_where now ps (row_place peer rs) ≡ lies_ahead now (look peer rs ps) → (same : Bool)
        → lasts_where now (p ∷ ps) (cond (nat_lt (cond (not same) (1 + n) 0) (suc (length rs))) (Some (cond (not same) (1 + n) 0)) None) ≡ lies_ahead now (if same then p.bound else look peer rs ps)
    by rest true = place_here (nat_lt 0 (suc (length rs))) now (p ∷ ps) (grind (arith, nat_tests))
    by rest false = place_next now n p ps (nat_lt (1 + n) (suc (length rs))) (nat_lt n (length rs)) (shift n (length rs)) ∙ rest

-- a peer has a bound row exactly where what is kept beside its row lasts
pub bound_is_looked : (k : Known) (now : ℕ) (peer : Address) → is_some (bound_row_of k now peer) ≡ lies_ahead now (bound_of k peer)
bound_is_looked k now peer = by (row_of k peer) ∙ looked now peer k.list.rows k.peers
  where
    if_there : (row : ℕ) (bound : Bool) → is_some (if bound then Some row else None) ≡ bound
    if_there row true = refl
    if_there row false = refl

    by : (o : Option ℕ) → is_some (if_bound k now o) ≡ lasts_where now k.peers o
    by None = refl
    by (Some row) = if_there row (is_bound_row k now row)

-- what is kept of one peer changes
pub peer_step : (i : ℕ) (f : Peer → Peer) (p : Peer) (ps : List Peer) → with_peer (suc i) f (p ∷ ps) ≡ p ∷ with_peer i f ps
peer_step i f p ps = by (slice_get ps i)
  where
    by : (o : Option Peer) → set_peer o (suc i) f (p ∷ ps) ≡ p ∷ set_peer o i f ps
    by None = refl
    by (Some q) = refl

pub length_with : (i : ℕ) (f : Peer → Peer) (peers : List Peer) → length (with_peer i f peers) ≡ length peers
length_with i f peers = by (slice_get peers i)
  where
    by : (o : Option Peer) → length (set_peer o i f peers) ≡ length peers
    by None = refl
    by (Some p) = length-set peers i (f p)

-- and each binding stays
pub look_same : (peer : Address) (i : ℕ) (f : Peer → Peer) → ((p : Peer) → (f p).bound ≡ p.bound) → (rows : List Row) (peers : List Peer) → look peer rows (with_peer i f peers) ≡ look peer rows peers
look_same peer i f same [] peers = refl
look_same peer i f same (r ∷ rs) [] = refl
look_same peer zero f same (r ∷ rs) (p ∷ ps) = ap (λ (o : Option Moment). if r.peer.0 == peer.0 then o else look peer rs ps) (same p)
look_same peer (suc i) f same (r ∷ rs) (p ∷ ps) =
    ap (look peer (r ∷ rs)) (peer_step i f p ps) ∙ ap (λ (o : Option Moment). if r.peer.0 == peer.0 then p.bound else o) (look_same peer i f same rs ps)

-- the rows and what is kept of their peers: beyond the rows nobody is bound
abbrev pub FitTogether : List Row → List Peer → Type 0
FitTogether [] [] = Unit {0}
FitTogether [] (p ∷ ps) = (p.bound ≡ None) × FitTogether [] ps
FitTogether (r ∷ rs) [] = ⊥
FitTogether (r ∷ rs) (p ∷ ps) = FitTogether rs ps

-- a row of another peer is not the one
other_peer : (peer : Address) (rows : List Row) (at : ℕ) (own : Address) → IsNew peer.0 rows → peer_at at rows ≡ Some own → (own.0 == peer.0) ≡ false
other_peer peer [] at own new is = absurd cc
other_peer peer (r ∷ rs) zero own new is = by (own.0 == peer.0) refl
  where
    same : r.peer ≡ own
    same = cc

    by : (b : Bool) → (own.0 == peer.0) ≡ b → b ≡ false
    by true e = absurd (new.0 (ap (λ (a : Address). a.0) same ∙ eqb-true own.0 peer.0 e))
    by false e = refl
other_peer peer (r ∷ rs) (suc at) own new is = other_peer peer rs at own new.1 is

new_of : (r : Row) (peer : Address) (rows : List Row) → (r.peer.0 == peer.0) ≡ true → IsNew r.peer.0 rows → IsNew peer.0 rows
new_of r peer rows same new = subst (λ (a : ℕ). IsNew a rows) (eqb-true r.peer.0 peer.0 same) new

-- the binding beside one row changes
pub look_with : (peer : Address) (i : ℕ) (f : Peer → Peer) (v : Option Moment) → ((p : Peer) → (f p).bound ≡ v) → (rows : List Row) (peers : List Peer) (own : Address) → AreOfDifferentPeers rows → FitTogether rows peers
    → peer_at i rows ≡ Some own → look peer rows (with_peer i f peers) ≡ (if own.0 == peer.0 then v else look peer rows peers)
look_with peer i f v says [] peers own differ fit is = absurd cc
look_with peer i f v says (r ∷ rs) [] own differ fit is = absurd fit
look_with peer zero f v says (r ∷ rs) (p ∷ ps) own differ fit is =
    let same : r.peer ≡ own = cc in
    ap (λ (o : Option Moment). if r.peer.0 == peer.0 then o else look peer rs ps) (says p)
    ∙ either (r.peer.0 == peer.0) ∙ ap (λ (a : Address). if a.0 == peer.0 then v else if r.peer.0 == peer.0 then p.bound else look peer rs ps) same
  where
    either : (b : Bool) → (if b then v else look peer rs ps) ≡ (if b then v else if b then p.bound else look peer rs ps)
    either true = refl
    either false = refl
look_with peer (suc i) f v says (r ∷ rs) (p ∷ ps) own differ fit is =
    ap (look peer (r ∷ rs)) (peer_step i f p ps) ∙ by (r.peer.0 == peer.0) refl (look_with peer i f v says rs ps own differ.1 fit is)
  where
    by : (b : Bool) → (r.peer.0 == peer.0) ≡ b → look peer rs (with_peer i f ps) ≡ (if own.0 == peer.0 then v else look peer rs ps)
        → (if b then p.bound else look peer rs (with_peer i f ps)) ≡ (if own.0 == peer.0 then v else if b then p.bound else look peer rs ps)
    by true same rest = sym (ap (λ (c : Bool). if c then v else p.bound) (other_peer peer rs i own (new_of r peer rs same differ.0) is))
    by false other rest = rest

-- a row's trial changes
pub look_trial : (peer : Address) (i : ℕ) (trial : Option Any) (rows : List Row) (peers : List Peer) → look peer (with_trial i trial rows) peers ≡ look peer rows peers
look_trial peer i trial [] peers = refl
look_trial peer zero trial (r ∷ rs) [] = refl
look_trial peer zero trial (r ∷ rs) (p ∷ ps) = refl
look_trial peer (suc i) trial (r ∷ rs) [] = ap (λ (rows : List Row). look peer rows []) (with_step r rs i trial)
look_trial peer (suc i) trial (r ∷ rs) (p ∷ ps) =
    ap (λ (rows : List Row). look peer rows (p ∷ ps)) (with_step r rs i trial) ∙ ap (λ (o : Option Moment). if r.peer.0 == peer.0 then p.bound else o) (look_trial peer i trial rs ps)

pub look_change : (peer : Address) (i : ℕ) (now : Moment) (change : Change) (rows : List Row) (peers : List Peer) → look peer (with_change i now change rows) peers ≡ look peer rows peers
unfolding with_change
look_change peer i now change rows peers = by (lifted i rows)
  where
    by : (o : Option Any) → look peer (changed_at o i now change rows) peers ≡ look peer rows peers
    by None = refl
    by (Some any) = look_trial peer i (Some (changed now change any)) rows peers

-- a peer is met
look_added : (peer other : Address) (rows : List Row) (peers : List Peer) → FitTogether rows peers → look peer (rows ++ new_row other ∷ []) peers ≡ look peer rows peers
look_added peer other [] [] fit = refl
look_added peer other [] (p ∷ ps) fit = by (other.0 == peer.0)
  where
    by : (b : Bool) → (if b then p.bound else None) ≡ None
    by true = fit.0
    by false = refl
look_added peer other (r ∷ rs) [] fit = refl
look_added peer other (r ∷ rs) (p ∷ ps) fit = ap (λ (o : Option Moment). if r.peer.0 == peer.0 then p.bound else o) (look_added peer other rs ps fit)

pub look_met : (peer other : Address) (rows : List Row) (peers : List Peer) → FitTogether rows peers → look peer (with_row other rows) peers ≡ look peer rows peers
look_met peer other rows peers fit = by (row_place other rows) (nat_lt (length rows) 16)
  where
    room : (b : Bool) → look peer (if b then rows ++ new_row other ∷ [] else rows) peers ≡ look peer rows peers
    room true = look_added peer other rows peers fit
    room false = refl

    by : (o : Option ℕ) (b : Bool) → look peer (rows_given o other rows) peers ≡ look peer rows peers
    by (Some at) b = refl
    by None b = room (nat_lt (length rows) 16)

-- nobody is bound
pub look_none : (peer : Address) (rows : List Row) (peers : List Peer) → look peer rows (map unbound peers) ≡ None
look_none peer [] peers = refl
look_none peer (r ∷ rs) [] = refl
look_none peer (r ∷ rs) (p ∷ ps) = by (r.peer.0 == peer.0) (look_none peer rs ps)
  where
    by : (b : Bool) → look peer rs (map unbound ps) ≡ None → (if b then None else look peer rs (map unbound ps)) ≡ None
    by true rest = refl
    by false rest = rest

-- each trial is one of its row's peer
abbrev pub IsOwnTrial : Option Any → Address → Type 0
IsOwnTrial None peer = Unit {0}
IsOwnTrial (Some any) peer = peer_of_any any ≡ peer

abbrev pub AreOwn : List Row → Type 0
AreOwn [] = Unit {0}
AreOwn (r ∷ rs) = IsOwnTrial r.trial r.peer × AreOwn rs

-- the peer of a trial is that of its row
pub trial_of_peer : (rows : List Row) (i : ℕ) (peer : Address) → AreOwn rows → IsTrialOf (lifted i rows) peer → peer_at i rows ≡ Some peer
trial_of_peer [] i peer own is = absurd is
trial_of_peer (r ∷ rs) zero peer own is = by r.trial own.0 is
  where
    by : (o : Option Any) → IsOwnTrial o r.peer → IsTrialOf o peer → Some r.peer ≡ Some peer
    by None own is = absurd is
    by (Some any) own is = ap (λ (a : Address). Some a) (sym own ∙ is)
trial_of_peer (r ∷ rs) (suc i) peer own is = trial_of_peer rs i peer own.1 is

own_trial : (i : ℕ) (any later : Any) (rows : List Row) → lifted i rows ≡ Some any → peer_of_any later ≡ peer_of_any any → AreOwn rows → AreOwn (with_trial i (Some later) rows)
own_trial i any later [] is same own = tt
own_trial zero any later (r ∷ rs) is same own = (same ∙ subst (λ (o : Option Any). IsOwnTrial o r.peer) is own.0, own.1)
own_trial (suc i) any later (r ∷ rs) is same own = subst AreOwn (sym (with_step r rs i (Some later))) (own.0, own_trial i any later rs is same own.1)

own_added : (other : Address) (rows : List Row) → AreOwn rows → AreOwn (rows ++ new_row other ∷ [])
own_added other [] own = (refl, tt)
own_added other (r ∷ rs) own = (own.0, own_added other rs own.1)

own_rested : (rows : List Row) → AreOwn rows → AreOwn (all_rested rows)
unfolding changed
own_rested [] own = tt
own_rested (r ∷ rs) own = (by r.trial own.0, own_rested rs own.1)
  where
    by : (o : Option Any) → IsOwnTrial o r.peer → IsOwnTrial (option_map (λ (a : Any). any.Idle (resting a)) o) r.peer
    by None is = tt
    by (Some a) is = changed-own (record { 0 = 0 }) Rest a ∙ is

-- what fits together still does
fit_trial : (i : ℕ) (trial : Option Any) (rows : List Row) (peers : List Peer) → FitTogether rows peers → FitTogether (with_trial i trial rows) peers
fit_trial i trial [] peers fit = fit
fit_trial zero trial (r ∷ rs) [] fit = fit
fit_trial zero trial (r ∷ rs) (p ∷ ps) fit = fit
fit_trial (suc i) trial (r ∷ rs) [] fit = absurd fit
fit_trial (suc i) trial (r ∷ rs) (p ∷ ps) fit = subst (λ (rows : List Row). FitTogether rows (p ∷ ps)) (sym (with_step r rs i trial)) (fit_trial i trial rs ps fit)

fit_left : (rows : List Row) (peers : List Peer) → FitTogether rows peers → FitTogether (all_rested rows) (map unbound peers)
fit_left [] [] fit = tt
fit_left [] (p ∷ ps) fit = (refl, fit_left [] ps fit.1)
fit_left (r ∷ rs) [] fit = fit
fit_left (r ∷ rs) (p ∷ ps) fit = fit_left rs ps fit

fit_added : (other : Address) (rows : List Row) (peers : List Peer) → length rows < length peers → FitTogether rows peers → FitTogether (rows ++ new_row other ∷ []) peers
fit_added other [] [] less fit = absurd (let never : ⊥ = omega (arith, less) in never)
fit_added other [] (p ∷ ps) less fit = fit.1
fit_added other (r ∷ rs) [] less fit = fit
fit_added other (r ∷ rs) (p ∷ ps) less fit = fit_added other rs ps (omega (arith, less)) fit

fit_peer : (i : ℕ) (f : Peer → Peer) → ((p : Peer) → p.bound ≡ None → (f p).bound ≡ None) → (rows : List Row) (peers : List Peer) → FitTogether rows peers → FitTogether rows (with_peer i f peers)
fit_peer i f none [] [] fit = tt
fit_peer zero f none [] (p ∷ ps) fit = (none p fit.0, fit.1)
fit_peer (suc i) f none [] (p ∷ ps) fit = subst (FitTogether []) (sym (peer_step i f p ps)) (fit.0, fit_peer i f none [] ps fit.1)
fit_peer i f none (r ∷ rs) [] fit = absurd fit
fit_peer zero f none (r ∷ rs) (p ∷ ps) fit = fit
fit_peer (suc i) f none (r ∷ rs) (p ∷ ps) fit = subst (FitTogether (r ∷ rs)) (sym (peer_step i f p ps)) (fit_peer i f none rs ps fit)

fit_bound : (i : ℕ) (f : Peer → Peer) (rows : List Row) (peers : List Peer) (own : Address) → peer_at i rows ≡ Some own → FitTogether rows peers → FitTogether rows (with_peer i f peers)
fit_bound i f [] peers own is fit = absurd cc
fit_bound i f (r ∷ rs) [] own is fit = absurd fit
fit_bound zero f (r ∷ rs) (p ∷ ps) own is fit = fit
fit_bound (suc i) f (r ∷ rs) (p ∷ ps) own is fit = subst (FitTogether (r ∷ rs)) (sym (peer_step i f p ps)) (fit_bound i f rs ps own is fit)

fit_new : (n : ℕ) → FitTogether [] (replicate n fresh_peer)
fit_new zero = tt
fit_new (suc n) = (refl, fit_new n)

-- what rows and what is kept of their peers always are
pub record HasRows (rows : List Row) (peers : List Peer) : Type 0 where
  pub differ : AreOfDifferentPeers rows
  pub own : AreOwn rows
  pub fit : FitTogether rows peers
  pub whole : length peers ≡ 16

pub new_rows : HasRows [] fresh_peers
new_rows = record { differ = tt; own = tt; fit = fit_new 16; whole = refl }

changed_rows : (i : ℕ) (now : Moment) (change : Change) (rows : List Row) (peers : List Peer) → HasRows rows peers → HasRows (with_change i now change rows) peers
unfolding with_change
changed_rows i now change rows peers h = by (lifted i rows) refl
  where
    by : (o : Option Any) → lifted i rows ≡ o → HasRows (changed_at o i now change rows) peers
    by None is = h
    by (Some a) is = record {
      differ = peers_kept rows i (Some (changed now change a)) h.differ;
      own = own_trial i a (changed now change a) rows is (changed-own now change a) h.own;
      fit = fit_trial i (Some (changed now change a)) rows peers h.fit;
      whole = h.whole;
    }

met_rows : (other : Address) (rows : List Row) (peers : List Peer) → HasRows rows peers → HasRows (with_row other rows) peers
met_rows other rows peers h = record { differ = peers_with rows other h.differ; own = own_by (row_place other rows); fit = fit_by (row_place other rows); whole = h.whole }
  where
    own_room : (b : Bool) → AreOwn (if b then rows ++ new_row other ∷ [] else rows)
    own_room true = own_added other rows h.own
    own_room false = h.own

    own_by : (o : Option ℕ) → AreOwn (rows_given o other rows)
    own_by (Some at) = h.own
    own_by None = own_room (nat_lt (length rows) 16)

    fit_room : (b : Bool) → nat_lt (length rows) 16 ≡ b → FitTogether (if b then rows ++ new_row other ∷ [] else rows) peers
    fit_room true is = let whole = h.whole in fit_added other rows peers (grind (arith, nat_tests)) h.fit
    fit_room false is = h.fit

    fit_by : (o : Option ℕ) → FitTogether (rows_given o other rows) peers
    fit_by (Some at) = h.fit
    fit_by None = fit_room (nat_lt (length rows) 16) refl

same_rows : (i : ℕ) (f : Peer → Peer) → ((p : Peer) → p.bound ≡ None → (f p).bound ≡ None) → (rows : List Row) (peers : List Peer) → HasRows rows peers → HasRows rows (with_peer i f peers)
same_rows i f none rows peers h = record { differ = h.differ; own = h.own; fit = fit_peer i f none rows peers h.fit; whole = length_with i f peers ∙ h.whole }

-- each step that fits keeps this
pub rows_kept : (c : Call) (now : ℕ) (k : Known) (step : Step) → Fits c now k step → HasRows k.list.rows k.peers → HasRows (rows_after k.list.rows now step) (peers_after k.peers step)
rows_kept c now k (Meets peer) fits h = met_rows peer k.list.rows k.peers h
rows_kept c now k (Tries row change) fits h = changed_rows row (record { 0 = now }) change k.list.rows k.peers h
rows_kept c now k (Updates row update) fits h =
    same_rows row touched (λ p is. is) (with_change row (record { 0 = now }) Make k.list.rows) k.peers (changed_rows row (record { 0 = now }) Make k.list.rows k.peers h)
rows_kept c now k Detaches fits h = record {
  differ = peers_rested k.list.rows h.differ;
  own = own_rested k.list.rows h.own;
  fit = fit_left k.list.rows k.peers h.fit;
  whole = length-map k.peers unbound ∙ h.whole;
}
rows_kept c now k (Restarts secrets) fits h = new_rows
rows_kept c now k (Forgets row) fits h = same_rows row forgotten (λ p is. is) k.list.rows k.peers h
rows_kept c now k (Binds row peer end renew) fits h = record {
  differ = h.differ;
  own = h.own;
  fit = fit_bound row (bound_until end) k.list.rows k.peers peer (trial_of_peer k.list.rows row peer h.own fits) h.fit;
  whole = length_with row (bound_until end) k.peers ∙ h.whole;
}
rows_kept c now k (Unbinds row peer) fits h = same_rows row unbound (λ p is. refl) k.list.rows k.peers h
rows_kept c now k (Waits (Resend row) wait) fits h = same_rows row (waiting wait) (λ p is. is) k.list.rows k.peers h
rows_kept c now k _ fits h = h

-- what a step says of the binding with a peer
abbrev pub bound_said : Address → Step → Option (Option Moment)
bound_said peer (Binds row to end renew) = if to.0 == peer.0 then Some (Some end) else None
bound_said peer (Unbinds row to) = if to.0 == peer.0 then Some None else None
bound_said peer _ = None

if_said : (b : Bool) (v d : Option Moment) → (if b then v else d) ≡ unwrap_or (if b then Some v else None) d
if_said true v d = refl
if_said false v d = refl

-- a step that is neither a leave nor a restart leaves the binding that it says
pub bound_after : (peer : Address) (c : Call) (now : ℕ) (k : Known) (step : Step) → Fits c now k step → HasRows k.list.rows k.peers → is_plain step ≡ true
    → look peer (rows_after k.list.rows now step) (peers_after k.peers step) ≡ unwrap_or (bound_said peer step) (bound_of k peer)
bound_after peer c now k (Meets other) fits h plain = look_met peer other k.list.rows k.peers h.fit
bound_after peer c now k (Tries row change) fits h plain = look_change peer row (record { 0 = now }) change k.list.rows k.peers
bound_after peer c now k (Updates row update) fits h plain =
    look_same peer row touched (λ p. refl) (with_change row (record { 0 = now }) Make k.list.rows) k.peers ∙ look_change peer row (record { 0 = now }) Make k.list.rows k.peers
bound_after peer c now k Detaches fits h plain = absurd cc
bound_after peer c now k (Restarts secrets) fits h plain = absurd cc
bound_after peer c now k (Forgets row) fits h plain = look_same peer row forgotten (λ p. refl) k.list.rows k.peers
bound_after peer c now k (Binds row to end renew) fits h plain =
    look_with peer row (bound_until end) (Some end) (λ p. refl) k.list.rows k.peers to h.differ h.fit (trial_of_peer k.list.rows row to h.own fits)
    ∙ if_said (to.0 == peer.0) (Some end) (bound_of k peer)
bound_after peer c now k (Unbinds row to) fits h plain =
    look_with peer row unbound None (λ p. refl) k.list.rows k.peers to h.differ h.fit fits ∙ if_said (to.0 == peer.0) None (bound_of k peer)
bound_after peer c now k (Waits (Resend row) wait) fits h plain = look_same peer row (waiting wait) (λ p. refl) k.list.rows k.peers
bound_after peer c now k _ fits h plain = refl
