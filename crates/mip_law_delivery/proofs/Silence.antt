-- What entries say that are about none of a circle: nothing of its nodes and its addresses.
use Rattle.std.proofs.Common.{◌≡◌, ℕ, List, [], ◌∷◌, ◌++◌, Bool, true, false, refl, sym, ap, ◌∙◌}
use Rattle.std.specs.Prelude.{◌≢◌, fold, Option, Some, None, unwrap_or, ◌==◌, ◌&&◌, ◌||◌, if◌then◌else◌}
use Rattle.std.specs.List.{list_any}
use Rattle.std.proofs.lemmas.List.Sums.{fold-append}
use Rattle.std.proofs.lemmas.Bool.{or_parts, ne_eqb}
use Rattle.mip_words.specs.declared.address.Address.{Address}
use Rattle.mip_words.specs.Asked.{asked}
use Rattle.mip_entries.specs.declared.entry.Entry.{Entry}
use Rattle.mip_entries.specs.declared.entry.Entry.TheVariants as entries
use Rattle.mip_binding.specs.Acceptance.{Acceptance}
use Rattle.mip_history.specs.Bound.{accepted_by, is_restart_of}
use Rattle.mip_history.specs.BoundLaws.{is_accepted_for}
use Rattle.mip_history.specs.Questions.{holder_says, holder_in}
use Rattle.mip_history.specs.Registered.{registration_says, last_registration}
use Rattle.mip_history.specs.Told.{present_says, present_in, registration_told}
use Rattle.mip_history.proofs.LastOnes.{later_same}
use Rattle.mip_law_delivery.specs.Quiet.{Circle, has_node, has_address, is_loud}

-- entries that say nothing of a question leave its answer
asked_over : {S : Type 0} (says : Entry → Option S) (loud : Entry → Bool) → ((e : Entry) → loud e ≡ false → says e ≡ None)
    → (d : S) (es : List Entry) → list_any loud es ≡ false → fold (λ x e. unwrap_or (says e) x) d es ≡ d
asked_over says loud silent d [] quiet = refl
asked_over {S = S} says loud silent d (e ∷ es) quiet =
    let parts = or_parts (loud e) (list_any loud es) quiet in
    ap (λ (o : Option S). fold (λ (x : S) (y : Entry). unwrap_or (says y) x) (unwrap_or o d) es) (silent e parts.0)
    ∙ asked_over says loud silent d es parts.1

pub asked_silent : {S : Type 0} (says : Entry → Option S) (loud : Entry → Bool) → ((e : Entry) → loud e ≡ false → says e ≡ None)
    → (d : S) (past es : List Entry) → list_any loud es ≡ false → asked says d (past ++ es) ≡ asked says d past
asked_silent {S = S} says loud silent d past es quiet =
    fold-append (λ (x : S) (y : Entry). unwrap_or (says y) x) d past es ∙ asked_over says loud silent (asked says d past) es quiet

-- the parts of what is false
first_part : (a b : Bool) → (a || b) ≡ false → a ≡ false
first_part true b is = absurd cc
first_part false b is = refl

first_of_three : (a b c : Bool) → (a || b || c) ≡ false → a ≡ false
first_of_three true b c is = absurd cc
first_of_three false b c is = refl

second_part : (a b : Bool) → (a || b) ≡ false → b ≡ false
second_part true b is = absurd cc
second_part false b is = is

module _ (c : Circle) where
  other_node : (n m : ℕ) → has_node c n ≡ true → has_node c m ≡ false → (n == m) ≡ false
  other_node n m inside apart = ne_eqb n m (λ same. absurd (let both : true ≡ false = sym inside ∙ ap (λ (k : ℕ). has_node c k) same ∙ apart in cc))

  other_address : (a b : Address) → has_address c a ≡ true → has_address c b ≡ false → (a.0 == b.0) ≡ false
  other_address a b inside apart =
      ne_eqb a.0 b.0 (λ same. absurd (let both : true ≡ false = sym inside ∙ ap (λ (v : ℕ). list_any (λ (x : Address). x.0 == v) c.addresses) same ∙ apart in cc))

  if_other : {S : Type 0} (b : Bool) (o : Option S) → b ≡ false → (if b then o else None) ≡ None
  if_other true o is = absurd cc
  if_other false o is = refl

  if_both_other : {S : Type 0} (a b : Bool) (o : Option S) → a ≡ false → (if a && b then o else None) ≡ None
  if_both_other true b o is = absurd cc
  if_both_other false b o is = refl

  module _ (n : ℕ) (inside : has_node c n ≡ true) where
    present_silent : (e : Entry) → is_loud c e ≡ false → present_says n e ≡ None
    present_silent (entries.Careof node address) quiet = if_other (n == node.0) _ (other_node n node.0 inside (first_part _ _ quiet))
    present_silent (entries.Moved node link) quiet = if_other (n == node.0) _ (other_node n node.0 inside quiet)
    present_silent _ quiet = refl

    restart_silent : (e : Entry) → is_loud c e ≡ false → is_restart_of n e ≡ false
    restart_silent (entries.Restarted node) quiet = other_node n node.0 inside quiet
    restart_silent _ quiet = refl

    acceptance_silent : (home : ℕ) (e : Entry) → is_loud c e ≡ false → is_accepted_for n home e ≡ false
    acceptance_silent home (entries.Accepted node number h binding careof sequence end i j) quiet =
        ap (λ (b : Bool). b && (h.0 == home)) (other_node n node.0 inside (first_of_three _ _ _ quiet))
    acceptance_silent home _ quiet = refl

    registration_silent : (home : Address) (e : Entry) → is_loud c e ≡ false → registration_says n home e ≡ None
    registration_silent home (entries.Home node h careof sequence end) quiet =
        if_both_other (n == node.0) (h.0 == home.0) _ (other_node n node.0 inside (first_of_three _ _ _ quiet))
    registration_silent home (entries.Restarted node) quiet = if_other (n == node.0) _ (other_node n node.0 inside quiet)
    registration_silent home _ quiet = refl

    pub present_kept : (own : Address) (past es : List Entry) → list_any (is_loud c) es ≡ false → present_in (past ++ es) n own ≡ present_in past n own
    present_kept own past es quiet = asked_silent (present_says n) (is_loud c) present_silent (Some own) past es quiet

    any_silent : (p : Entry → Bool) → ((e : Entry) → is_loud c e ≡ false → p e ≡ false) → (es : List Entry) → list_any (is_loud c) es ≡ false → list_any p es ≡ false
    any_silent p each [] quiet = refl
    any_silent p each (e ∷ es) quiet =
        let parts = or_parts (is_loud c e) (list_any (is_loud c) es) quiet in
        ap (λ (b : Bool). b || list_any p es) (each e parts.0) ∙ any_silent p each es parts.1

    -- what holds of its acceptances goes on
    pub acceptances_kept : {X : Type 0} (question : List Acceptance → X) (home : ℕ) → ((xs : List Acceptance) (x : Acceptance) → x.home ≢ home → question (xs ++ x ∷ []) ≡ question xs)
        → (start : ℕ) (past es : List Entry) → list_any (is_loud c) es ≡ false → question (accepted_by start (past ++ es) n) ≡ question (accepted_by start past n)
    acceptances_kept question home other start past es quiet =
        later_same question n home other start past es (any_silent (is_restart_of n) restart_silent es quiet) (any_silent (is_accepted_for n home) (acceptance_silent home) es quiet)

    pub registration_kept : (home : Address) (past es : List Entry) → list_any (is_loud c) es ≡ false → last_registration (past ++ es) n home ≡ last_registration past n home
    registration_kept home past es quiet = asked_silent (registration_says n home) (is_loud c) (registration_silent home) None past es quiet

    -- a registration ends too where its mobile finds its address taken
    abbrev pub is_loud_or_taken : Entry → Bool
    is_loud_or_taken (entries.Taken who link address holder) = n == who
    is_loud_or_taken e = is_loud c e

    told_silent : (e : Entry) → is_loud_or_taken e ≡ false → registration_told n e ≡ None
    told_silent (entries.Taken who link address holder) quiet = if_other (n == who) _ quiet
    told_silent (entries.Registered node agent end) quiet = if_other (n == node.0) _ (other_node n node.0 inside (first_part _ _ quiet))
    told_silent (entries.Unregistered node agent) quiet = if_other (n == node.0) _ (other_node n node.0 inside (first_part _ _ quiet))
    told_silent (entries.Moved node link) quiet = if_other (n == node.0) _ (other_node n node.0 inside quiet)
    told_silent (entries.Careof node address) quiet = if_other (n == node.0) _ (other_node n node.0 inside (first_part _ _ quiet))
    told_silent (entries.Restarted node) quiet = if_other (n == node.0) _ (other_node n node.0 inside quiet)
    told_silent _ quiet = refl

    pub told_kept : (past es : List Entry) → list_any is_loud_or_taken es ≡ false → asked (registration_told n) None (past ++ es) ≡ asked (registration_told n) None past
    told_kept past es quiet = asked_silent (registration_told n) is_loud_or_taken told_silent None past es quiet

  module _ (a : Address) (inside : has_address c a ≡ true) where
    holder_silent : (e : Entry) → is_loud c e ≡ false → holder_says a.0 e ≡ None
    holder_silent (entries.Claimed who link address) quiet = if_other (a.0 == address.0) _ (other_address a address inside (second_part _ _ quiet))
    holder_silent (entries.Released who link address) quiet = if_other (a.0 == address.0) _ (other_address a address inside (second_part _ _ quiet))
    holder_silent _ quiet = refl

    pub holder_kept : (past es : List Entry) → list_any (is_loud c) es ≡ false → holder_in (past ++ es) a.0 ≡ holder_in past a.0
    holder_kept past es quiet = asked_silent (holder_says a.0) (is_loud c) holder_silent None past es quiet
