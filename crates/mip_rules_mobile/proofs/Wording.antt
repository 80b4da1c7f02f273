-- What is known of each row, and how long a registration's resending waits, is what the last step says that says anything of it.
use Rattle.std.proofs.Common.{◌≡◌, ◌≢◌, ℕ, ◌<◌, List, length, Bool, true, false, refl, sym, ap, ◌∙◌, subst, arith, length-set, get_or}
use Rattle.std.specs.Prelude.{Option, Some, None, option_map, unwrap_or, ◌==◌, if◌then◌else◌, map, slice_get, slice_set}
use Rattle.std.specs.Option.{option_map_or}
use Rattle.std.proofs.lemmas.Bool.{eqb-true, eqb-false}
use Rattle.std.proofs.lemmas.List.{length-map, get_or-set_same, get_or-set_other, get_or-replicate}
use Rattle.std.proofs.lemmas.Option.{slice_get-get_or, get_or_from_slice_get, slice_get-map}
use Rattle.mip_words.specs.declared.address.Address.{Address}
use Rattle.mip_words.specs.declared.moment.Moment.{Moment}
use Rattle.mip_nonce.specs.Secrets.{Life}
use Rattle.mip_entries.specs.Stamped.{Stamped}
use Rattle.mip_bulist.specs.declared.home_timer.HomeTimer.TheVariants as home_timers
use Rattle.mip_bulist.specs.declared.work.Work.TheVariants.{Resend, Home}
use Rattle.mip_rules_mobile.specs.declared.peer.Peer.{Peer}
use Rattle.mip_rules_mobile.specs.Steps.{Step, Detaches, Restarts, Updates, Forgets, Binds, Unbinds, Waits}
use Rattle.mip_rules_mobile.specs.Known.{Known}
use Rattle.mip_rules_mobile.specs.HomeQuestions.{wait_after}
use Rattle.mip_rules_mobile.specs.RowQuestions.{fresh_peer, fresh_peers, touched, forgotten, bound_until, unbound, waiting, set_peer, with_peer, peers_after, is_touched_row, wait_of_row}
use Rattle.mip_rules_mobile.specs.Questions.{after, fresh, known}
use Rattle.mip_rules_mobile.specs.Told.{last_told}
use Rattle.mip_rules_mobile.specs.Wording.{wait_said, of_row, touched_said, bound_said, resend_said, bound_at}
use Rattle.mip_rules_mobile.proofs.Told.{told, told_under}

wait-row : (k : Known) (step : Step) → wait_after k step ≡ unwrap_or (wait_said step) k.wait
wait-row k (Waits (Home home_timers.Resend) wait) = refl
wait-row k _ = refl

length-with : (at : ℕ) (f : Peer → Peer) (peers : List Peer) → length (with_peer at f peers) ≡ length peers
length-with at f peers = by (slice_get peers at)
  where
    by : (o : Option Peer) → length (set_peer o at f peers) ≡ length peers
    by None = refl
    by (Some p) = length-set peers at (f p)

pub length-after : (peers : List Peer) (step : Step) → length peers ≡ 16 → length (peers_after peers step) ≡ 16
length-after peers (Updates at update) whole = length-with at touched peers ∙ whole
length-after peers (Forgets at) whole = length-with at forgotten peers ∙ whole
length-after peers (Binds at peer end renew) whole = length-with at (bound_until end) peers ∙ whole
length-after peers (Unbinds at peer) whole = length-with at unbound peers ∙ whole
length-after peers Detaches whole = length-map peers unbound ∙ whole
length-after peers (Restarts secrets) whole = refl
length-after peers (Waits (Resend at) wait) whole = length-with at (waiting wait) peers ∙ whole
length-after peers _ whole = whole

-- of something that is kept for each row
module _ {X : Type 0} (part : Peer → X) (none : X) (row : ℕ) where
  abbrev pub of : List Peer → X
  of peers = option_map_or part (slice_get peers row) none

  abbrev peer_in : List Peer → Peer
  peer_in peers = get_or peers row fresh_peer

  of-is : (peers : List Peer) → row < length peers → of peers ≡ part (peer_in peers)
  of-is peers inside = ap (λ (o : Option Peer). option_map_or part o none) (slice_get-get_or peers row fresh_peer inside)

  of-with : (at : ℕ) (f : Peer → Peer) (peers : List Peer) → row < length peers → of (with_peer at f peers) ≡ (if at == row then part (f (peer_in peers)) else part (peer_in peers))
  of-with at f peers inside = by (slice_get peers at) refl (at == row) refl
    where
      by : (o : Option Peer) → slice_get peers at ≡ o → (b : Bool) → (at == row) ≡ b → of (set_peer o at f peers) ≡ (if b then part (f (peer_in peers)) else part (peer_in peers))
      by None is true e =
          let there : slice_get peers row ≡ Some (peer_in peers) = slice_get-get_or peers row fresh_peer inside in
          let here : slice_get peers row ≡ None = subst (λ (n : ℕ). slice_get peers n ≡ None) (eqb-true at row e) is in
          absurd cc
      by None is false e = of-is peers inside
      by (Some p) is true e =
          let same : at ≡ row = eqb-true at row e in
          let long : row < length (slice_set peers at (f p)) = let l = length-set peers at (f p) in omega (arith, l, inside) in
          let set : get_or (slice_set peers at (f p)) row fresh_peer ≡ f p =
          subst (λ (n : ℕ). get_or (slice_set peers at (f p)) n fresh_peer ≡ f p) same (get_or-set_same peers at (f p) fresh_peer (omega (arith, same, inside))) in
          let was : peer_in peers ≡ p = subst (λ (n : ℕ). get_or peers n fresh_peer ≡ p) same (get_or_from_slice_get peers at p fresh_peer is) in
          of-is (slice_set peers at (f p)) long ∙ ap part set ∙ ap (λ (q : Peer). part (f q)) (sym was)
      by (Some p) is false e =
          let long : row < length (slice_set peers at (f p)) = let l = length-set peers at (f p) in omega (arith, l, inside) in
          let apart : row ≢ at = λ same. eqb-false at row e (sym same) in
          of-is (slice_set peers at (f p)) long ∙ ap part (get_or-set_other peers at row (f p) fresh_peer apart)

  -- a step that says it of one row
  said : (at : ℕ) (f : Peer → Peer) (x : X) (peers : List Peer) → row < length peers → ((p : Peer) → part (f p) ≡ x) → of (with_peer at f peers) ≡ unwrap_or (of_row at row x) (of peers)
  said at f x peers inside says = of-with at f peers inside ∙ by (at == row)
    where
      by : (b : Bool) → (if b then part (f (peer_in peers)) else part (peer_in peers)) ≡ unwrap_or (if b then Some x else None) (of peers)
      by true = says (peer_in peers)
      by false = sym (of-is peers inside)

  -- one that says something else
  same : (at : ℕ) (f : Peer → Peer) (peers : List Peer) → row < length peers → ((p : Peer) → part (f p) ≡ part p) → of (with_peer at f peers) ≡ of peers
  same at f peers inside keeps = of-with at f peers inside ∙ by (at == row)
    where
      by : (b : Bool) → (if b then part (f (peer_in peers)) else part (peer_in peers)) ≡ of peers
      by true = keeps (peer_in peers) ∙ sym (of-is peers inside)
      by false = sym (of-is peers inside)

  -- one that says it of all rows
  each : (f : Peer → Peer) (peers : List Peer) → row < length peers → of (map f peers) ≡ part (f (peer_in peers))
  each f peers inside =
      ap (λ (o : Option Peer). option_map_or part o none) (slice_get-map f peers row ∙ ap (λ (o : Option Peer). option_map f o) (slice_get-get_or peers row fresh_peer inside))

  pub lost : row < 16 → of fresh_peers ≡ part fresh_peer
  lost inside = of-is fresh_peers inside ∙ ap part (get_or-replicate 16 row fresh_peer fresh_peer inside)

module _ (row : ℕ) (inside : row < 16) where
  touched-row : (peers : List Peer) (step : Step) → length peers ≡ 16
      → of (λ (p : Peer). p.touched) false row (peers_after peers step) ≡ unwrap_or (touched_said row step) (of (λ (p : Peer). p.touched) false row peers)
  touched-row peers (Updates at update) whole = said (λ (p : Peer). p.touched) false row at touched true peers (omega (arith, whole, inside)) (λ p. refl)
  touched-row peers (Forgets at) whole = said (λ (p : Peer). p.touched) false row at forgotten false peers (omega (arith, whole, inside)) (λ p. refl)
  touched-row peers (Binds at peer end renew) whole = same (λ (p : Peer). p.touched) false row at (bound_until end) peers (omega (arith, whole, inside)) (λ p. refl)
  touched-row peers (Unbinds at peer) whole = same (λ (p : Peer). p.touched) false row at unbound peers (omega (arith, whole, inside)) (λ p. refl)
  touched-row peers Detaches whole =
      let long : row < length peers = omega (arith, whole, inside) in each (λ (p : Peer). p.touched) false row unbound peers long ∙ sym (of-is (λ (p : Peer). p.touched) false row peers long)
  touched-row peers (Restarts secrets) whole = lost (λ (p : Peer). p.touched) false row inside
  touched-row peers (Waits (Resend at) wait) whole = same (λ (p : Peer). p.touched) false row at (waiting wait) peers (omega (arith, whole, inside)) (λ p. refl)
  touched-row peers _ whole = refl

  pub bound-row : (peers : List Peer) (step : Step) → length peers ≡ 16 → of (λ (p : Peer). p.bound) None row (peers_after peers step) ≡ unwrap_or (bound_said row step) (of (λ (p : Peer). p.bound) None row peers)
  bound-row peers (Updates at update) whole = same (λ (p : Peer). p.bound) None row at touched peers (omega (arith, whole, inside)) (λ p. refl)
  bound-row peers (Forgets at) whole = same (λ (p : Peer). p.bound) None row at forgotten peers (omega (arith, whole, inside)) (λ p. refl)
  bound-row peers (Binds at peer end renew) whole = said (λ (p : Peer). p.bound) None row at (bound_until end) (Some end) peers (omega (arith, whole, inside)) (λ p. refl)
  bound-row peers (Unbinds at peer) whole = said (λ (p : Peer). p.bound) None row at unbound None peers (omega (arith, whole, inside)) (λ p. refl)
  bound-row peers Detaches whole = each (λ (p : Peer). p.bound) None row unbound peers (omega (arith, whole, inside))
  bound-row peers (Restarts secrets) whole = lost (λ (p : Peer). p.bound) None row inside
  bound-row peers (Waits (Resend at) wait) whole = same (λ (p : Peer). p.bound) None row at (waiting wait) peers (omega (arith, whole, inside)) (λ p. refl)
  bound-row peers _ whole = refl

  resend-row : (peers : List Peer) (step : Step) → length peers ≡ 16 → of (λ (p : Peer). p.wait) 0 row (peers_after peers step) ≡ unwrap_or (resend_said row step) (of (λ (p : Peer). p.wait) 0 row peers)
  resend-row peers (Updates at update) whole = same (λ (p : Peer). p.wait) 0 row at touched peers (omega (arith, whole, inside)) (λ p. refl)
  resend-row peers (Forgets at) whole = same (λ (p : Peer). p.wait) 0 row at forgotten peers (omega (arith, whole, inside)) (λ p. refl)
  resend-row peers (Binds at peer end renew) whole = same (λ (p : Peer). p.wait) 0 row at (bound_until end) peers (omega (arith, whole, inside)) (λ p. refl)
  resend-row peers (Unbinds at peer) whole = same (λ (p : Peer). p.wait) 0 row at unbound peers (omega (arith, whole, inside)) (λ p. refl)
  resend-row peers Detaches whole =
      let long : row < length peers = omega (arith, whole, inside) in each (λ (p : Peer). p.wait) 0 row unbound peers long ∙ sym (of-is (λ (p : Peer). p.wait) 0 row peers long)
  resend-row peers (Restarts secrets) whole = lost (λ (p : Peer). p.wait) 0 row inside
  resend-row peers (Waits (Resend at) wait) whole = said (λ (p : Peer). p.wait) 0 row at (waiting wait) wait peers (omega (arith, whole, inside)) (λ p. refl)
  resend-row peers _ whole = refl

abbrev AreAll : Known → Type 0
AreAll k = length k.peers ≡ 16

all-kept : (k : Known) (s : Stamped Step) → AreAll k → AreAll (after k s)
unfolding after
all-kept k s whole = length-after k.peers s.step whole

module _ (home : Address) (declared : Option Address) (numbers : ℕ) (secrets : Life) (past : List (Stamped Step)) where
  pub wait-told : (known home declared numbers secrets past).wait ≡ last_told (λ s. wait_said s.step) 0 past
  unfolding known after
  wait-told = told (λ k. k.wait) (λ s. wait_said s.step) (λ k s. wait-row k s.step) (fresh home declared numbers secrets) past

  module _ (row : ℕ) (inside : row < 16) where
    pub touched-told : is_touched_row (known home declared numbers secrets past) row ≡ last_told (λ s. touched_said row s.step) false past
    unfolding known after
    touched-told =
        told_under AreAll all-kept (λ k. is_touched_row k row) (λ s. touched_said row s.step) (λ k s whole. touched-row row inside k.peers s.step whole) (fresh home declared numbers secrets) past refl
        ∙ ap (λ (b : Bool). last_told (λ (s : Stamped Step). touched_said row s.step) b past) (lost (λ (p : Peer). p.touched) false row inside)

    pub bound-told : bound_at (known home declared numbers secrets past) row ≡ last_told (λ s. bound_said row s.step) None past
    unfolding known after
    bound-told =
        told_under AreAll all-kept (λ k. bound_at k row) (λ s. bound_said row s.step) (λ k s whole. bound-row row inside k.peers s.step whole) (fresh home declared numbers secrets) past refl
        ∙ ap (λ (o : Option Moment). last_told (λ (s : Stamped Step). bound_said row s.step) o past) (lost (λ (p : Peer). p.bound) None row inside)

    pub resend-told : wait_of_row (known home declared numbers secrets past) row ≡ last_told (λ s. resend_said row s.step) 0 past
    unfolding known after
    resend-told =
        told_under AreAll all-kept (λ k. wait_of_row k row) (λ s. resend_said row s.step) (λ k s whole. resend-row row inside k.peers s.step whole) (fresh home declared numbers secrets) past refl
        ∙ ap (λ (n : ℕ). last_told (λ (s : Stamped Step). resend_said row s.step) n past) (lost (λ (p : Peer). p.wait) 0 row inside)
