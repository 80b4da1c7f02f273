-- As a mobile leaves its link, its entries tell of the end of each binding that lasts.
use Rattle.std.proofs.Common.{◌≡◌, ◌≢◌, ℕ, zero, suc, ◌+◌, ◌<◌, ◌≤◌, List, [], ◌∷◌, Bool, true, false, length, inl, inr, refl, sym, ap, ◌∙◌, subst, arith}
use Rattle.std.specs.Prelude.{Option, Some, None, unwrap_or, ◌==◌, ◌&&◌, nat_lt, if◌then◌else◌}
use Rattle.std.proofs.lemmas.Bool.{cases_eq, eq-eqb, ne_eqb}
use Rattle.std.proofs.lemmas.Bool.Decides.{nat_tests}
use Rattle.mip_words.specs.declared.address.Address.{Address}
use Rattle.mip_words.specs.declared.moment.Moment.{Moment}
use Rattle.mip_nonce.specs.Secrets.{Life}
use Rattle.mip_outside.specs.declared.claim.Claim.{Claim}
use Rattle.mip_outside.specs.Places.{is_held}
use Rattle.mip_bulist.specs.declared.row.Row.{Row}
use Rattle.mip_bulist.specs.Rows.{peer_at, all_rested}
use Rattle.mip_entries.specs.declared.entry.Entry.{Entry}
use Rattle.mip_entries.specs.declared.entry.Entry.TheVariants as entries
use Rattle.mip_entries.specs.Completed.{named}
use Rattle.mip_entries.proofs.TransitionLaws.{noted-now, noted-known}
use Rattle.mip_rules_correspondent.specs.Wholes.{is_own}
use Rattle.mip_rules_mobile.specs.declared.peer.Peer.{Peer}
use Rattle.mip_rules_mobile.specs.declared.attachment.Attachment.{Attachment}
use Rattle.mip_rules_mobile.specs.declared.attachment.Attachment.TheVariants.{Detached, AtHome, Away}
use Rattle.mip_rules_mobile.specs.Calls as calls
use Rattle.mip_rules_mobile.specs.Calls.{Call}
use Rattle.mip_rules_mobile.specs.Steps.{Step, Called, Notes, Claims, Releases, FindsTaken, Arrives, Detaches, Restarts, Binds, Unbinds, answers_of}
use Rattle.mip_rules_mobile.specs.Known.{Known}
use Rattle.mip_rules_mobile.specs.HomeQuestions.{home_of}
use Rattle.mip_rules_mobile.specs.RowQuestions.{unbound, with_peer, lies_ahead, peer_of_row, is_bound_row}
use Rattle.mip_rules_mobile.specs.Questions.{after}
use Rattle.mip_rules_mobile.specs.Transitions.{Transition, begun, noted}
use Rattle.mip_rules_mobile.specs.TrialRules.{each_from, each_row}
use Rattle.mip_rules_mobile.specs.MovingRules.{releases, unbinds_with, unbinds, leaves}
use Rattle.mip_rules_mobile.specs.Doing.{does, transition_of}
use Rattle.mip_rules_mobile.specs.Fitting.{Fits}
use Rattle.mip_rules_mobile.proofs.Told.{home-kept}
use Rattle.mip_history.specs.Setup.{Setup}
use Rattle.mip_history.specs.Runs.{Run}
use Rattle.mip_history.specs.Nodes.{answered}
use Rattle.mip_history.proofs.Keeping.{is_busy}
use Rattle.mip_history.specs.Told.{binding_told}
use Rattle.mip_settled.proofs.Answered.{IsQuiet, IsMute, tells}
use Rattle.mip_settled.proofs.MobileTransitions.{is_plain, entry_of, says_of, IsRightNote, IsKnown, Tells, seen, then_noted, tells_noted, first}
use Rattle.mip_settled.proofs.Rows.{look, bound_of, lasts_at, FitTogether, HasRows, rows_kept, bound_said, bound_after, look_none, peer_step}

-- the binding with a peer, as a question that the entries of a mobile answer and nobody else's
pub binding_quiet : (n : ℕ) (peer : Address) → IsQuiet (binding_told n peer)
binding_quiet n peer = record { idle = idle; sent = λ number m shielded packet. refl }
  where
    idle : (e : Entry) → is_busy e ≡ false → binding_told n peer e ≡ None
    idle (entries.Bound node to end) is = absurd cc
    idle (entries.Unbound node to) is = absurd cc
    idle (entries.Restarted node) is = absurd cc
    idle _ is = refl

pub binding_mute : (m n : ℕ) (peer : Address) → m ≢ n → IsMute (binding_told m peer) n
binding_mute m n peer other link k (entries.Bound node to end) = ap (λ (b : Bool). if b && (to.0 == peer.0) then Some (Some end) else None) (ne_eqb m n other)
binding_mute m n peer other link k (entries.Unbound node to) = ap (λ (b : Bool). if b && (to.0 == peer.0) then Some None else None) (ne_eqb m n other)
binding_mute m n peer other link k (entries.Restarted node) = ap (λ (b : Bool). if b then Some None else None) (ne_eqb m n other)
binding_mute m n peer other link k _ = refl

-- its home address, and its rows as they always are
abbrev pub IsListed : Address → Known → Type 0
IsListed own k = (home_of k ≡ own) × HasRows k.list.rows k.peers

module _ (n : ℕ) (own peer : Address) (u : ℕ) where
  binding_note : (k : ℕ) (e : Entry) → is_own e ≡ true → binding_told n peer (named n 0 k e) ≡ None
  binding_note k (entries.Bound node to end) is = absurd cc
  binding_note k (entries.Unbound node to) is = absurd cc
  binding_note k (entries.Restarted node) is = absurd cc
  binding_note k _ is = refl

  binding_own : (k : ℕ) (step : Step) → is_plain step ≡ true → IsRightNote step → says_of (binding_told n peer) n k (entry_of step) ≡ bound_said peer step
  binding_own k (Notes entry) is right = binding_note k entry right
  binding_own k (Binds row to end renew) is right = ap (λ (b : Bool). if b && (to.0 == peer.0) then Some (Some end) else None) (eq-eqb n n refl)
  binding_own k (Unbinds row to) is right = ap (λ (b : Bool). if b && (to.0 == peer.0) then Some None else None) (eq-eqb n n refl)
  binding_own k _ is right = refl

  listed_after : (c : Call) (now : ℕ) (k : Known) (step : Step) → IsListed own k → Fits c now k step → IsListed own (after k (record { at = now; step = step }))
  unfolding after
  listed_after c now k step holds fits = (home-kept k (record { at = now; step = step }) ∙ holds.0, rows_kept c now k step fits holds.1)

  binding_row : (c : Call) (now : ℕ) (k : Known) (step : Step) → is_plain step ≡ true → IsListed own k → Fits c now k step → bound_of (after k (record { at = now; step = step })) peer ≡ unwrap_or (bound_said peer step) (bound_of k peer)
  unfolding after
  binding_row c now k step plain holds fits = bound_after peer c now k step fits holds.1 plain

  binding_claims : (now : ℕ) (k : Known) (address : Address) → bound_of (after k (record { at = now; step = Claims address })) peer ≡ bound_of k peer
  unfolding after
  binding_claims now k address = refl

  binding_arrives : (now : ℕ) (k : Known) (address : Address) → bound_of (after k (record { at = now; step = Arrives address })) peer ≡ bound_of k peer
  unfolding after
  binding_arrives now k address = refl

  pub binding_lost : (now : ℕ) (k : Known) (address : Address) (holder : ℕ) → bound_of (after k (record { at = now; step = FindsTaken address holder })) peer ≡ bound_of k peer
  unfolding after
  binding_lost now k address holder = refl

  binding_reborn : (now : ℕ) (k : Known) (secrets : Life) → bound_of (after k (record { at = now; step = Restarts secrets })) peer ≡ None
  unfolding after
  binding_reborn now k secrets = refl

  ended : (o : Option Moment) → unwrap_or (if n == n then Some None else None) o ≡ None
  ended o = ap (λ (b : Bool). unwrap_or (if b then Some None else None) o) (eq-eqb n n refl)

  pub binding_known : IsKnown n (IsListed own) (binding_told n peer) (bound_said peer) (λ (k : Known). bound_of k peer) (lies_ahead u)
  binding_known = record {
    quiet = binding_quiet n peer;
    own = binding_own;
    kept = listed_after;
    row = λ c now k step plain holds fits. ap (lies_ahead u) (binding_row c now k step plain holds fits);
    claims = λ now k address. ap (lies_ahead u) (binding_claims now k address);
    arrives = λ now k address holds. ap (lies_ahead u) (binding_arrives now k address);
    reborn = λ now k secrets. ap (lies_ahead u) (binding_reborn now k secrets ∙ sym (ended (bound_of k peer)));
  }

-- a binding that does not last now does not last later
later_over : (now u : ℕ) (o : Option Moment) → now ≤ u → lies_ahead now o ≡ false → lies_ahead u o ≡ false
later_over now u None late over = refl
later_over now u (Some end) late over = by (nat_lt u end.0) refl
  where
    by : (b : Bool) → nat_lt u end.0 ≡ b → b ≡ false
    by true is = absurd (let never : ⊥ = grind (arith, nat_tests) in never)
    by false is = refl

-- a row that is not made has no binding
bare_row : (now : ℕ) (rows : List Row) (peers : List Peer) (row : ℕ) → FitTogether rows peers → peer_at row rows ≡ None → lasts_at now peers row ≡ false
bare_row now [] [] zero fit none = refl
bare_row now [] [] (suc row) fit none = refl
bare_row now [] (p ∷ ps) zero fit none = ap (lies_ahead now) fit.0
bare_row now [] (p ∷ ps) (suc row) fit none = bare_row now [] ps row fit.1 refl
bare_row now (r ∷ rs) [] row fit none = absurd fit
bare_row now (r ∷ rs) (p ∷ ps) zero fit none = absurd cc
bare_row now (r ∷ rs) (p ∷ ps) (suc row) fit none = bare_row now rs ps row fit none

-- a row whose binding is given up has none, and the others are as they were
given_up : (now row : ℕ) (peers : List Peer) → lasts_at now (with_peer row unbound peers) row ≡ false
given_up now zero [] = refl
given_up now (suc row) [] = refl
given_up now zero (p ∷ ps) = refl
given_up now (suc row) (p ∷ ps) = ap (λ (l : List Peer). lasts_at now l (suc row)) (peer_step row unbound p ps) ∙ given_up now row ps

still_over : (now row j : ℕ) (peers : List Peer) → lasts_at now peers j ≡ false → lasts_at now (with_peer row unbound peers) j ≡ false
still_over now row j [] over = over
still_over now zero zero (p ∷ ps) over = refl
still_over now zero (suc j) (p ∷ ps) over = over
still_over now (suc row) zero (p ∷ ps) over = ap (λ (l : List Peer). lasts_at now l zero) (peer_step row unbound p ps) ∙ over
still_over now (suc row) (suc j) (p ∷ ps) over = ap (λ (l : List Peer). lasts_at now l (suc j)) (peer_step row unbound p ps) ∙ still_over now row j ps over

-- where none lasts, no peer's does
none_lasts : (now : ℕ) (peer : Address) (rows : List Row) (peers : List Peer) → ((j : ℕ) → j < length peers → lasts_at now peers j ≡ false) → lies_ahead now (look peer rows peers) ≡ false
none_lasts now peer [] peers over = refl
none_lasts now peer (r ∷ rs) [] over = refl
none_lasts now peer (r ∷ rs) (p ∷ ps) over = by (r.peer.0 == peer.0) (none_lasts now peer rs ps (λ j less. over (suc j) (omega (arith, less))))
  where
    by : (b : Bool) → lies_ahead now (look peer rs ps) ≡ false → lies_ahead now (if b then p.bound else look peer rs ps) ≡ false
    by true rest = over zero (omega arith)
    by false rest = rest

module _ (s : Setup) (n : ℕ) (own peer : Address) (u : ℕ) (d : Option Moment) (from : ℕ) (start : Run) where
  abbrev TellsBound : Attachment → Transition → Type 0
  TellsBound st t = Tells s n own (IsListed own) (λ k holds. holds.0) (binding_told n peer) (bound_said peer) (λ (k : Known). bound_of k peer) (lies_ahead u) (binding_known n own peer u) d from start st t

  one_more : (c : Call) (st : Attachment) (step : Step) (t : Transition) → is_plain step ≡ true → Fits c t.now t.known step → TellsBound st t → TellsBound st (noted step t)
  one_more = tells_noted s n own (IsListed own) (λ k holds. holds.0) (binding_told n peer) (bound_said peer) (λ (k : Known). bound_of k peer) (lies_ahead u) (binding_known n own peer u) d from start

  module _ (c : Call) (st : Attachment) (now : ℕ) where
    releasing : (at : Attachment) (claim : Claim) (t : Transition) → TellsBound st t → TellsBound st (releases at claim t)
    releasing Detached claim t p = p
    releasing AtHome claim t p = by (is_held claim)
      where
        by : (held : Bool) → TellsBound st (if held then noted (Releases (home_of t.known)) t else t)
        by true = one_more c st (Releases (home_of t.known)) t refl tt p
        by false = p
    releasing (Away careof) claim t p = one_more c st (Releases careof) t refl tt p

    releasing_now : (at : Attachment) (claim : Claim) (t : Transition) → t.now ≡ now → (releases at claim t).now ≡ now
    releasing_now Detached claim t is = is
    releasing_now AtHome claim t is = by (is_held claim)
      where
        by : (held : Bool) → (let v : Transition = (if held then noted (Releases (home_of t.known)) t else t) in v.now) ≡ now
        by true = noted-now after (Releases (home_of t.known)) t ∙ is
        by false = is
    releasing_now (Away careof) claim t is = noted-now after (Releases careof) t ∙ is

    -- the rows below this one have no binding any more
    record IsFreed (row : ℕ) (t : Transition) : Type 0 where
      pub told : TellsBound st t
      pub moment : t.now ≡ now
      pub freed : (j : ℕ) → j < row → lasts_at now t.known.peers j ≡ false

    extended : (row : ℕ) (peers : List Peer) → ((j : ℕ) → j < row → lasts_at now peers j ≡ false) → lasts_at now peers row ≡ false → (j : ℕ) → j < row + 1 → lasts_at now peers j ≡ false
    extended row peers freed last j less = elim (cases_eq j row) as (λ _. lasts_at now peers j ≡ false) [
      | inl same ↦ ap (lasts_at now peers) same ∙ last
      | inr other ↦ freed j (omega (arith, less, other))
    ]

    peers_unbound : (row : ℕ) (to : Address) (t : Transition) → (noted (Unbinds row to) t).known.peers ≡ with_peer row unbound t.known.peers
    unfolding after
    peers_unbound row to t = ap (λ (k : Known). k.peers) (noted-known after (Unbinds row to) t)

    frees_one : (row : ℕ) (t : Transition) → IsFreed row t → IsFreed (row + 1) (unbinds row t)
    frees_one row t f = by (is_bound_row t.known t.now row) (peer_of_row t.known row) refl refl
      where
        listed : IsListed own t.known
        listed = let p = f.told in p.holds

        by : (bound : Bool) (to : Option Address) → is_bound_row t.known t.now row ≡ bound → peer_of_row t.known row ≡ to → IsFreed (row + 1) (unbinds_with bound to row t)
        by bound None is of = record {
          told = f.told;
          moment = f.moment;
          freed = extended row t.known.peers f.freed (let h = listed.1 in bare_row now t.known.list.rows t.known.peers row h.fit of);
        }
        by false (Some to) is of = record {
          told = f.told;
          moment = f.moment;
          freed = extended row t.known.peers f.freed (ap (λ (at : ℕ). lasts_at at t.known.peers row) (sym f.moment) ∙ is);
        }
        by true (Some to) is of = record {
          told = one_more c st (Unbinds row to) t refl of f.told;
          moment = noted-now after (Unbinds row to) t ∙ f.moment;
          freed = subst (λ (peers : List Peer). (j : ℕ) → j < row + 1 → lasts_at now peers j ≡ false) (sym (peers_unbound row to t))
              (extended row (with_peer row unbound t.known.peers) (λ j less. still_over now row j t.known.peers (f.freed j less)) (given_up now row t.known.peers));
        }

    frees_all : (left row : ℕ) (t : Transition) → row + left ≡ 16 → IsFreed row t → IsFreed 16 (each_from unbinds left row t)
    frees_all zero row t sum f = let same : row ≡ 16 = omega (arith, sum) in subst (λ (i : ℕ). IsFreed i t) same f
    frees_all (suc left) row t sum f = frees_all left (row + 1) (unbinds row t) (omega (arith, sum)) (frees_one row t f)

  -- behind the leave no binding with the peer lasts, by the entries as by the mobile
  module _ (k : Known) (now : ℕ) (claim : Claim) (late : now ≤ u) (is : lies_ahead u (tells s (binding_told n peer) d start) ≡ lies_ahead u (bound_of k peer)) (holds : IsListed own k) where
    abbrev c : Call
    c = calls.Leave claim

    abbrev t : Transition
    t = noted (Called c) (begun now k)

    abbrev last : Transition
    last = each_row unbinds (releases t.known.standing claim t)

    begins : TellsBound k.standing t
    begins = first s n own (IsListed own) (λ k holds. holds.0) (binding_told n peer) (bound_said peer) (λ (k : Known). bound_of k peer) (lies_ahead u) (binding_known n own peer u) d from start c now k is holds

    freed : IsFreed c k.standing now 16 last
    freed =
        frees_all c k.standing now 16 0 (releases t.known.standing claim t) refl
        (record {
          told = releasing c k.standing now t.known.standing claim t begins;
          moment = releasing_now c k.standing now t.known.standing claim t (noted-now after (Called c) (begun now k));
          freed = λ j less. absurd (let never : ⊥ = omega (arith, less) in never);
        })

    over : lies_ahead u (bound_of last.known peer) ≡ false
    over =
        let f = freed in
        let told = f.told in
        let listed = told.holds in
        let h = listed.1 in
        later_over now u (bound_of last.known peer) late (none_lasts now peer last.known.list.rows last.known.peers (λ j less. f.freed j (let whole = h.whole in omega (arith, less, whole))))

    abbrev after_leave : Run
    after_leave = answered s n from start (answers_of (transition_of k now c).steps)

    pub leaving_tells : lies_ahead u (tells s (binding_told n peer) d after_leave) ≡ false
    unfolding does leaves answered
    leaving_tells =
        let f = freed in
        let told = f.told in
        ap (seen s n own (IsListed own) (λ k holds. holds.0) (binding_told n peer) (bound_said peer) (λ (k : Known). bound_of k peer) (lies_ahead u) (binding_known n own peer u) d)
        (then_noted s n own (IsListed own) (λ k holds. holds.0) (binding_told n peer) (bound_said peer) (λ (k : Known). bound_of k peer) (lies_ahead u) (binding_known n own peer u) d from start Detaches last)
        ∙ told.so ∙ over

-- and the mobile knows of none
pub left_bound : (peer : Address) (k : Known) (now : ℕ) (claim : Claim) → bound_of (transition_of k now (calls.Leave claim)).known peer ≡ None
unfolding does leaves after
left_bound peer k now claim =
    let t : Transition = noted (Called (calls.Leave claim)) (begun now k) in
    let last : Transition = each_row unbinds (releases t.known.standing claim t) in
    ap (λ (l : Known). bound_of l peer) (noted-known after Detaches last) ∙ look_none peer (all_rested last.known.list.rows) last.known.peers
