-- Where an acceptance that lives stands among the entries.
use Rattle.std.proofs.Common.{◌≡◌, ℕ, List, [], ◌∷◌, ◌++◌, Bool, true, false, ◌⊎◌, inl, inr, refl, sym, ap, ◌∙◌, subst}
use Rattle.std.specs.Prelude.{◌≢◌, fold, is_some, ◌==◌, ◌||◌, if◌then◌else◌, Option}
use Rattle.std.specs.List.{list_any}
use Rattle.std.proofs.lemmas.List.{append_assoc, append-nil}
use Rattle.std.proofs.lemmas.List.Sums.{fold-append}
use Rattle.std.proofs.lemmas.Bool.{eqb-true, eqb-false}
use Rattle.mip_words.specs.declared.address.Address.{Address}
use Rattle.mip_words.specs.declared.ids.NodeId.{NodeId}
use Rattle.mip_words.specs.declared.moment.Moment.{Moment}
use Rattle.mip_binding.specs.Acceptance.{Acceptance}
use Rattle.mip_words.specs.EachAfter.{EachAfter}
use Rattle.mip_binding.specs.Held.{floor}
use Rattle.mip_binding.specs.HeldLaws.{Lives}
use Rattle.mip_binding.proofs.LifeLaws.{IsOutlived}
use Rattle.mip_entries.specs.declared.entry.Entry.{Entry}
use Rattle.mip_entries.specs.declared.entry.Entry.TheVariants as entries
use Rattle.mip_history.specs.Setup.{Setup}
use Rattle.mip_history.specs.Questions.{moment_in}
use Rattle.mip_history.specs.Bound.{Lived, lived, accepted_by, floor_in, is_restart_of, Outlives}
use Rattle.mip_history.proofs.Transitions.{lived_at}

-- the acceptance that an entry made, at a moment
abbrev pub acceptance_at : ℕ → Address → ℕ → Address → ℕ → Moment → Acceptance
acceptance_at at home binding careof sequence end = record { at = at; home = home.0; number = binding; careof = careof.0; sequence = sequence; end = end.0 }

-- the last item of a list, where another one stands in it
record EndsWith (xs : List Acceptance) (x : Acceptance) (before : List Acceptance) (a : Acceptance) (after : List Acceptance) : Type 0 where
  more : List Acceptance
  after_is : after ≡ more ++ x ∷ []
  front_is : xs ≡ before ++ a ∷ more

not_empty : {X : Type 0} (before : List X) (a : X) (after : List X) → [] ≡ before ++ a ∷ after → ⊥
not_empty [] a after e = absurd cc
not_empty (b ∷ before) a after e = absurd cc

last_of : (xs : List Acceptance) (x : Acceptance) (before : List Acceptance) (a : Acceptance) (after : List Acceptance) → xs ++ x ∷ [] ≡ before ++ a ∷ after → (x ≡ a) ⊎ EndsWith xs x before a after
last_of [] x [] a after e = inl cc
last_of (y ∷ ys) x [] a after e = inr (record { more = ys; after_is = sym cc; front_is = let same : y ≡ a = cc in ap (λ (z : Acceptance). z ∷ ys) same })
last_of [] x (b ∷ before) a after e = let rest : [] ≡ before ++ a ∷ after = cc in absurd (not_empty before a after rest)
last_of (y ∷ ys) x (b ∷ before) a after e = by (last_of ys x before a after cc)
  where
    by : (x ≡ a) ⊎ EndsWith ys x before a after → (x ≡ a) ⊎ EndsWith (y ∷ ys) x (b ∷ before) a after
    by (inl same) = inl same
    by (inr w) = inr (record { more = w.more; after_is = w.after_is; front_is = let same : y ≡ b = cc in let front = w.front_is in cc })

-- what outlives a list outlives its front, and then its last item
outlived-last : (home number : ℕ) (front more : List Acceptance) (x : Acceptance) → Lives home number front (more ++ x ∷ []) → Lives home number front more × IsOutlived home number (front ++ more) x
outlived-last home number front [] x lives = (tt, subst (λ (l : List Acceptance). IsOutlived home number l x) (sym (append-nil front)) lives.0)
outlived-last home number front (y ∷ more) x lives =
    let rest = outlived-last home number (front ++ y ∷ []) more x lives.1 in
    ((lives.0, rest.0), subst (λ (l : List Acceptance). IsOutlived home number l x) (append_assoc front (y ∷ []) more) rest.1)

-- what a node has accepted of its present life behind a history, and when
abbrev pub life_of : Setup → ℕ → List Entry → Lived
life_of s n front = fold (lived n) (record { at = s.start; accepted = [] }) front

life-push : (s : Setup) (n : ℕ) (front : List Entry) (e : Entry) → life_of s n (front ++ e ∷ []) ≡ lived n (life_of s n front) e
life-push s n front e = fold-append (lived n) (record { at = s.start; accepted = [] }) front (e ∷ [])

life-at : (s : Setup) (n : ℕ) (front : List Entry) → (life_of s n front).at ≡ moment_in s.start front
life-at s n front = lived_at n (record { at = s.start; accepted = [] }) front

life-accepted : (s : Setup) (n : ℕ) (front : List Entry) → accepted_by s.start front n ≡ (life_of s n front).accepted
unfolding accepted_by
life-accepted s n front = refl

module _ (s : Setup) (n home : ℕ) (a : Acceptance) where
  -- it was accepted before these entries, which stand behind a front, and outlives them
  record WasBefore (front past : List Entry) : Type 0 where
    before : List Acceptance
    after : List Acceptance
    whole : (life_of s n front).accepted ≡ before ++ a ∷ after
    lives : Lives home a.number (before ++ a ∷ []) after
    this_life : list_any (is_restart_of n) past ≡ false
    outlives : EachAfter (Outlives s n home a.number) front past

  -- or its entry is one of these, and outlives those behind it
  pub record IsPlaced (front past : List Entry) : Type 0 where
    pub before : List Entry
    pub node : NodeId
    pub k : ℕ
    pub of : Address
    pub binding : ℕ
    pub careof : Address
    pub sequence : ℕ
    pub end : Moment
    pub i : ℕ
    pub j : Option ℕ
    pub after : List Entry
    pub whole : front ++ past ≡ before ++ entries.Accepted node k of binding careof sequence end i j ∷ after
    pub of_node : n ≡ node.0
    pub is : acceptance_at (moment_in s.start before) of binding careof sequence end ≡ a
    pub this_life : list_any (is_restart_of n) after ≡ false
    pub outlives : EachAfter (Outlives s n home a.number) (before ++ entries.Accepted node k of binding careof sequence end i j ∷ []) after

  further : (front : List Entry) (e : Entry) (past : List Entry) → IsPlaced (front ++ e ∷ []) past → IsPlaced front (e ∷ past)
  further front e past p = record {
    before = p.before;
    node = p.node;
    k = p.k;
    of = p.of;
    binding = p.binding;
    careof = p.careof;
    sequence = p.sequence;
    end = p.end;
    i = p.i;
    j = p.j;
    after = p.after;
    whole = sym (append_assoc front (e ∷ []) past) ∙ p.whole;
    of_node = p.of_node;
    is = p.is;
    this_life = p.this_life;
    outlives = p.outlives;
  }

  -- one entry more, behind which it lives
  module _ (front past : List Entry) (before after : List Acceptance) (lives : Lives home a.number (before ++ a ∷ []) after) (this_life : list_any (is_restart_of n) past ≡ false) where
    abbrev l : Lived
    l = life_of s n front

    Found : Entry → Type 0
    Found e = WasBefore front (e ∷ past) ⊎ IsPlaced front (e ∷ past)

    restarted_before : (same : Bool) (node : NodeId) → (n == node.0) ≡ same → EachAfter (Outlives s n home a.number) (front ++ entries.Restarted node ∷ []) past
        → (if same then [] else (life_of s n front).accepted) ≡ before ++ a ∷ after → WasBefore front (entries.Restarted node ∷ past)
    restarted_before true node is outlives whole = absurd (not_empty before a after whole)
    restarted_before false node is outlives whole = record {
      before = before;
      after = after;
      whole = whole;
      lives = lives;
      this_life = ap (λ (b : Bool). b || list_any (is_restart_of n) past) is ∙ this_life;
      outlives = (tt, outlives);
    }

    accepted_before : (same : Bool) (node : NodeId) (k : ℕ) (of : Address) (binding : ℕ) (careof : Address) (sequence : ℕ) (end : Moment) (i : ℕ) (j : Option ℕ) → (n == node.0) ≡ same
        → EachAfter (Outlives s n home a.number) (front ++ entries.Accepted node k of binding careof sequence end i j ∷ []) past
        → (let x : Lived = (if same then record { at = (life_of s n front).at; accepted = (life_of s n front).accepted ++ acceptance_at (life_of s n front).at of binding careof sequence end ∷ [] } else life_of s n front) in x.accepted) ≡ before ++ a ∷ after
        → WasBefore front (entries.Accepted node k of binding careof sequence end i j ∷ past) ⊎ IsPlaced front (entries.Accepted node k of binding careof sequence end i j ∷ past)
    accepted_before true node k of binding careof sequence end i j is outlives whole =
        by (last_of l.accepted x before a after whole)
      where
        x : Acceptance
        x = acceptance_at (life_of s n front).at of binding careof sequence end

        outlived : IsOutlived home a.number (life_of s n front).accepted (acceptance_at (life_of s n front).at of binding careof sequence end)
            → n ≡ node.0 → of.0 ≡ home → (careof.0 ≢ home) × (binding ≢ a.number) × (is_some (floor_in s front n home) ≡ true)
        outlived one mine same =
            let parts = one same in (
              λ at_home. eqb-false careof.0 of.0 parts.0 (at_home ∙ sym same),
              parts.1,
              ap (λ (xs : List Acceptance). is_some (floor xs home (moment_in s.start front))) (life-accepted s n front)
                  ∙ ap (λ (at : ℕ). is_some (floor (life_of s n front).accepted home at)) (sym (life-at s n front)) ∙ parts.2,
            )

        by : (acceptance_at (life_of s n front).at of binding careof sequence end ≡ a) ⊎ EndsWith (life_of s n front).accepted (acceptance_at (life_of s n front).at of binding careof sequence end) before a after
            → WasBefore front (entries.Accepted node k of binding careof sequence end i j ∷ past) ⊎ IsPlaced front (entries.Accepted node k of binding careof sequence end i j ∷ past)
        by (inl same) = inr (record {
          before = front;
          node = node;
          k = k;
          of = of;
          binding = binding;
          careof = careof;
          sequence = sequence;
          end = end;
          i = i;
          j = j;
          after = past;
          whole = refl;
          of_node = eqb-true n node.0 is;
          is = ap (λ (at : ℕ). acceptance_at at of binding careof sequence end) (sym (life-at s n front)) ∙ same;
          this_life = this_life;
          outlives = outlives;
        })
        by (inr ends) =
            let parts = outlived-last home a.number (before ++ a ∷ []) ends.more x (subst (Lives home a.number (before ++ a ∷ [])) ends.after_is lives) in
            let one = subst (λ (xs : List Acceptance). IsOutlived home a.number xs x) (append_assoc before (a ∷ []) ends.more ∙ sym ends.front_is) parts.1 in
            inl (record {
              before = before;
              after = ends.more;
              whole = ends.front_is;
              lives = parts.0;
              this_life = this_life;
              outlives = (outlived one, outlives);
            })
    accepted_before false node k of binding careof sequence end i j is outlives whole = inl (record {
      before = before;
      after = after;
      whole = whole;
      lives = lives;
      this_life = this_life;
      outlives = (λ mine. absurd (eqb-false n node.0 is mine), outlives);
    })

    entry_before : (e : Entry) → EachAfter (Outlives s n home a.number) (front ++ e ∷ []) past → (lived n (life_of s n front) e).accepted ≡ before ++ a ∷ after → WasBefore front (e ∷ past) ⊎ IsPlaced front (e ∷ past)
    entry_before (entries.Restarted node) outlives whole = inl (restarted_before (n == node.0) node refl outlives whole)
    entry_before (entries.Accepted node k of binding careof sequence end i j) outlives whole = accepted_before (n == node.0) node k of binding careof sequence end i j refl outlives whole
    entry_before _ outlives whole = inl (record { before = before; after = after; whole = whole; lives = lives; this_life = this_life; outlives = (tt, outlives) })

  placed_from : (front past : List Entry) (before after : List Acceptance) → (life_of s n (front ++ past)).accepted ≡ before ++ a ∷ after → Lives home a.number (before ++ a ∷ []) after
      → WasBefore front past ⊎ IsPlaced front past
  placed_from front [] before after whole lives = inl (record {
    before = before;
    after = after;
    whole = ap (λ (l : List Entry). let x : Lived = life_of s n l in x.accepted) (sym (append-nil front)) ∙ whole;
    lives = lives;
    this_life = refl;
    outlives = tt;
  })
  placed_from front (e ∷ past) before after whole lives =
      by (placed_from (front ++ e ∷ []) past before after (ap (λ (l : List Entry). let x : Lived = life_of s n l in x.accepted) (append_assoc front (e ∷ []) past) ∙ whole) lives)
    where
      by : WasBefore (front ++ e ∷ []) past ⊎ IsPlaced (front ++ e ∷ []) past → WasBefore front (e ∷ past) ⊎ IsPlaced front (e ∷ past)
      by (inl w) = entry_before front past w.before w.after w.lives w.this_life e w.outlives (ap (λ (x : Lived). x.accepted) (sym (life-push s n front e)) ∙ w.whole)
      by (inr p) = inr (further front e past p)

  -- what a node has accepted in its present life, and what lives of it, stands among its entries
  pub placed : (past : List Entry) (before after : List Acceptance) → accepted_by s.start past n ≡ before ++ a ∷ after → Lives home a.number (before ++ a ∷ []) after → IsPlaced [] past
  placed past before after whole lives = by (placed_from [] past before after (sym (life-accepted s n past) ∙ whole) lives)
    where
      by : WasBefore [] past ⊎ IsPlaced [] past → IsPlaced [] past
      by (inl w) = absurd (not_empty w.before a w.after w.whole)
      by (inr p) = p
