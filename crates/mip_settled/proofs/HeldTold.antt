-- What a node holds for a home is what its entries leave, in its present life.
use Rattle.std.proofs.Common.{◌≡◌, ℕ, ◌+◌, List, [], ◌∷◌, ◌++◌, Bool, true, false, refl, sym, ap, subst, ◌∙◌, arith}
use Rattle.std.specs.Prelude.{Option, Some, None, fold, option_map, ◌==◌, ◌&&◌, if◌then◌else◌}
use Rattle.std.proofs.lemmas.Bool.{eqb-true}
use Rattle.std.proofs.lemmas.Bool.Decides.{nat_tests}
use Rattle.mip_words.specs.Constants.{max_nonce_lifetime}
use Rattle.mip_words.specs.declared.address.Address.{Address}
use Rattle.mip_words.specs.declared.moment.Moment.{Moment}
use Rattle.mip_words.specs.declared.ids.NodeId.{NodeId}
use Rattle.mip_words.specs.Last.{last_where}
use Rattle.mip_binding.specs.Acceptance.{Acceptance, Binding, binding_of}
use Rattle.mip_binding.specs.Rows.{others_by}
use Rattle.mip_binding.specs.Homes.{HomeKept, number_key, latest, kept_of, kept_with, home_after}
use Rattle.mip_binding.specs.Held.{is_standing, careof_where, held}
use Rattle.mip_binding.proofs.HomeLaws.{left_by, kept_with-left, home_after-push}
use Rattle.mip_entries.specs.declared.entry.Entry.{Entry}
use Rattle.mip_entries.specs.declared.entry.Entry.TheVariants as entries
use Rattle.mip_history.specs.Bound.{Lived, lived, accepted_by}
use Rattle.mip_settled.specs.Acceptances.{accepted_told, left_in, Remembered, ends_others, with_more, with_told, remembered_step, nothing_at, remembered}
use Rattle.mip_settled.proofs.LeftLaws.{left_same, left_more}

abbrev until_in : Option HomeKept → ℕ
until_in None = 0
until_in (Some k) = k.until

abbrev live_in : Option HomeKept → List Binding
live_in None = []
live_in (Some k) = k.live

none_told : (n home : ℕ) (node : NodeId) (number : ℕ) (h : Address) (binding : ℕ) (careof : Address) (sequence : ℕ) (end : Moment) (i : ℕ) (j : Option ℕ) → ((n == node.0) && (h.0 == home)) ≡ false
    → accepted_told n home (entries.Accepted node number h binding careof sequence end i j) ≡ None
none_told n home node number h binding careof sequence end i j none =
    ap (λ (b : Bool). if b then Some (record { home = home; number = binding; careof = careof.0; sequence = sequence; end = end.0 }) else None) none

and_false : (b : Bool) → (b && false) ≡ false
and_false true = refl
and_false false = refl

module _ (n home : ℕ) where
  -- what is remembered along the entries is what their acceptances leave
  record Agrees (l : Lived) (r : Remembered) : Type 0 where
    at : r.at ≡ l.at
    until : r.until ≡ until_in (home_after home l.accepted)
    live : left_in n home r.entries ≡ live_in (home_after home l.accepted)

  -- an entry that makes no binding of the home
  quiet_more : (l m : Lived) (r : Remembered) (e : Entry) → accepted_told n home e ≡ None → m.at ≡ l.at → home_after home m.accepted ≡ home_after home l.accepted → Agrees l r → Agrees m (with_more r r.entries e)
  quiet_more l m r e none at same a = record {
    at = a.at ∙ sym at;
    until = a.until ∙ sym (ap until_in same);
    live = left_same n home r.entries e none ∙ a.live ∙ sym (ap live_in same);
  }

  -- one that makes one
  module _ (l : Lived) (r : Remembered) (agrees : Agrees l r) (x : Acceptance) (at : x.at ≡ l.at) (of : x.home ≡ home) where
    abbrev o : Option HomeKept
    o = home_after home l.accepted

    after_is : home_after home (l.accepted ++ x ∷ []) ≡ Some (kept_of x (left_by (home_after home l.accepted) x ++ binding_of x ∷ []))
    after_is =
        home_after-push l.accepted x home
        ∙ ap (λ (b : Bool). if b then Some (kept_with (home_after home l.accepted) x) else home_after home l.accepted) (let e : (x.home == home) ≡ true = grind (arith, nat_tests) in e)
        ∙ ap (λ (k : HomeKept). Some k) (kept_with-left (home_after home l.accepted) x)

    -- what it leaves of the others
    left_is : (ends : Bool) → ends_others home r.at r.until (binding_of x) ≡ ends → (e : Entry) → accepted_told n home e ≡ Some (binding_of x)
        → left_in n home ((if ends then [] else r.entries) ++ e ∷ []) ≡ left_by (home_after home l.accepted) x ++ binding_of x ∷ []
    left_is true is e told = left_more n home [] e (binding_of x) told ∙ ap (λ (bs : List Binding). bs ++ binding_of x ∷ []) (sym (by (home_after home l.accepted) refl))
      where
        by : (k : Option HomeKept) → home_after home l.accepted ≡ k → left_by k x ≡ []
        by None here = refl
        by (Some k) here =
            let until = agrees.until ∙ ap until_in here in
            let moment = agrees.at in
            grind (arith, nat_tests)
    left_is false is e told =
        left_more n home r.entries e (binding_of x) told
        ∙ ap (λ (bs : List Binding). others_by number_key x.number bs ++ binding_of x ∷ []) agrees.live
        ∙ ap (λ (bs : List Binding). bs ++ binding_of x ∷ []) (by (home_after home l.accepted) refl)
      where
        by : (k : Option HomeKept) → home_after home l.accepted ≡ k → others_by number_key x.number (live_in k) ≡ left_by k x
        by None here = refl
        by (Some k) here =
            let until = agrees.until ∙ ap until_in here in
            let moment = agrees.at in
            grind (arith, nat_tests)

    told_more : (e : Entry) → accepted_told n home e ≡ Some (binding_of x) → Agrees (record { at = l.at; accepted = l.accepted ++ x ∷ [] }) (with_told n home r e (Some (binding_of x)))
    told_more e told =
        let left = left_is (ends_others home r.at r.until (binding_of x)) refl e told in
        record {
          at = agrees.at;
          until =
              ap (λ (m : ℕ). latest (m + max_nonce_lifetime) (left_in n home ((if ends_others home r.at r.until (binding_of x) then [] else r.entries) ++ e ∷ []))) (agrees.at ∙ sym at)
              ∙ ap (latest (x.at + max_nonce_lifetime)) left ∙ sym (ap until_in after_is);
          live = left ∙ sym (ap live_in after_is);
        }

  -- each entry
  accepted_step : (mine same : Bool) (l : Lived) (r : Remembered) (node : NodeId) (number : ℕ) (h : Address) (binding : ℕ) (careof : Address) (sequence : ℕ) (end : Moment) (i : ℕ) (j : Option ℕ) → (n == node.0) ≡ mine → (h.0 == home) ≡ same
      → Agrees l r
      → Agrees (if mine then record { at = l.at; accepted = l.accepted ++ record { at = l.at; home = h.0; number = binding; careof = careof.0; sequence = sequence; end = end.0 } ∷ [] } else l)
      (with_told n home r (entries.Accepted node number h binding careof sequence end i j) (if mine && same then Some (record { home = home; number = binding; careof = careof.0; sequence = sequence; end = end.0 }) else None))
  accepted_step true true l r node number h binding careof sequence end i j own same a =
      let x : Acceptance = record { at = l.at; home = h.0; number = binding; careof = careof.0; sequence = sequence; end = end.0 } in
      let e : Entry = entries.Accepted node number h binding careof sequence end i j in
      let one : h.0 ≡ home = eqb-true h.0 home same in
      let is : (let b : Binding = record { home = home; number = binding; careof = careof.0; sequence = sequence; end = end.0 } in b) ≡ binding_of x =
      ap (λ (g : ℕ). let b : Binding = record { home = g; number = binding; careof = careof.0; sequence = sequence; end = end.0 } in b) (sym one) in
      let told : accepted_told n home e ≡ Some (binding_of x) =
      ap (λ (b : Bool). if b && (h.0 == home) then Some (record { home = home; number = binding; careof = careof.0; sequence = sequence; end = end.0 }) else None) own
      ∙ ap (λ (b : Bool). if b then Some (record { home = home; number = binding; careof = careof.0; sequence = sequence; end = end.0 }) else None) same
      ∙ ap (λ (b : Binding). Some b) is in
      subst (λ (b : Binding). Agrees (record { at = l.at; accepted = l.accepted ++ x ∷ [] }) (with_told n home r e (Some b))) (sym is) (told_more l r a x refl one e told)
  accepted_step true false l r node number h binding careof sequence end i j own same a =
      let x : Acceptance = record { at = l.at; home = h.0; number = binding; careof = careof.0; sequence = sequence; end = end.0 } in
      quiet_more l (record { at = l.at; accepted = l.accepted ++ x ∷ [] }) r (entries.Accepted node number h binding careof sequence end i j)
      (none_told n home node number h binding careof sequence end i j (ap (λ (b : Bool). (n == node.0) && b) same ∙ and_false (n == node.0))) refl
      (home_after-push l.accepted x home ∙ ap (λ (b : Bool). if b then Some (kept_with (home_after home l.accepted) x) else home_after home l.accepted) same) a
  accepted_step false same l r node number h binding careof sequence end i j own is a =
      quiet_more l l r (entries.Accepted node number h binding careof sequence end i j)
      (none_told n home node number h binding careof sequence end i j (ap (λ (b : Bool). b && (h.0 == home)) own)) refl refl a

  restarted_step : (mine : Bool) (l : Lived) (r : Remembered) (node : NodeId) → Agrees l r
      → Agrees (record { at = l.at; accepted = if mine then [] else l.accepted }) (if mine then record { at = r.at; until = 0; entries = [] } else with_more r r.entries (entries.Restarted node))
  restarted_step true l r node a = record { at = a.at; until = refl; live = refl }
  restarted_step false l r node a = quiet_more l (record { at = l.at; accepted = l.accepted }) r (entries.Restarted node) refl refl refl a

  agrees_step : (l : Lived) (r : Remembered) (e : Entry) → Agrees l r → Agrees (lived n l e) (remembered_step n home r e)
  agrees_step l r (entries.At moment) a = record { at = refl; until = a.until; live = left_same n home r.entries (entries.At moment) refl ∙ a.live }
  agrees_step l r (entries.Restarted node) a = restarted_step (n == node.0) l r node a
  agrees_step l r (entries.Accepted node number h binding careof sequence end i j) a = accepted_step (n == node.0) (h.0 == home) l r node number h binding careof sequence end i j refl refl a
  agrees_step l r e a = quiet_more l l r e refl refl refl a

  agrees_along : (past : List Entry) (l : Lived) (r : Remembered) → Agrees l r → Agrees (fold (lived n) l past) (fold (remembered_step n home) r past)
  agrees_along [] l r a = a
  agrees_along (e ∷ past) l r a = agrees_along past (lived n l e) (remembered_step n home r e) (agrees_step l r e a)

  pub held_told : (start now : ℕ) (past : List Entry) → held (accepted_by start past n) home now
      ≡ option_map (λ b. b.careof) (last_where (is_standing home now) (left_in n home (remembered start n home past).entries))
  unfolding held accepted_by remembered
  held_told start now past =
      let l : Lived = fold (lived n) (record { at = start; accepted = [] }) past in
      let a = agrees_along past (record { at = start; accepted = [] }) (nothing_at start) (record { at = refl; until = refl; live = refl }) in
      by (home_after home l.accepted)
      ∙ ap (λ (bs : List Binding). option_map (λ (b : Binding). b.careof) (last_where (is_standing home now) bs)) (sym a.live)
    where
      by : (o : Option HomeKept) → careof_where (is_standing home now) o ≡ option_map (λ (b : Binding). b.careof) (last_where (is_standing home now) (live_in o))
      by None = refl
      by (Some k) = refl
