-- What a node holds was accepted, and stands.
use Rattle.std.proofs.Common.{◌≡◌, ℕ, ◌<◌, List, [], ◌∷◌, ◌++◌, sym, ap, ◌∙◌, subst}
use Rattle.std.specs.Prelude.{Some}
use Rattle.std.proofs.lemmas.List.{append_assoc, append-nil}
use Rattle.mip_words.specs.declared.ids.NodeId.{NodeId}
use Rattle.mip_words.specs.declared.moment.Moment.{Moment}
use Rattle.mip_words.specs.declared.address.Address.{Address}
use Rattle.mip_words.specs.EachAfter.{EachAfter}
use Rattle.mip_words.proofs.EachLaws.{each_at}
use Rattle.mip_binding.specs.Acceptance.{Acceptance, Binding}
use Rattle.mip_binding.specs.HeldLaws.{HeldFrom}
use Rattle.mip_binding.proofs.HeldLaws.{held_was_accepted, under_was_accepted}
use Rattle.mip_entries.specs.declared.entry.Entry.{Entry}
use Rattle.mip_entries.specs.declared.entry.Entry.TheVariants as entries
use Rattle.mip_entries.specs.Completed.{node_id}
use Rattle.mip_history.specs.Setup.{Setup}
use Rattle.mip_history.specs.Questions.{moment_in}
use Rattle.mip_history.specs.Bound.{accepted_by, held_in, held_under_in, accepted_entry, IsAccepted, HasAccepted, Outlives, IsBound, IsBoundUnder}
use Rattle.mip_history.proofs.Runs.{Meets}
use Rattle.mip_history.proofs.Places.{IsPlaced, placed}

-- the later items meet what they should, too
pub each_rest : {X : Type 0} (P : List X → X → Type 0) (front xs ys : List X) → EachAfter P front (xs ++ ys) → EachAfter P (front ++ xs) ys
each_rest {X = X} P front [] ys each = subst (λ (f : List X). EachAfter P f ys) (sym (append-nil front)) each
each_rest {X = X} P front (x ∷ xs) ys each = subst (λ (f : List X). EachAfter P f ys) (append_assoc front (x ∷ []) xs) (each_rest P (front ++ x ∷ []) xs ys each.1)

module _ (s : Setup) (past : List Entry) (each : EachAfter (Meets s) [] past) (n home careof : ℕ) where
  bound_at : (f : HeldFrom (accepted_by s.start past n) home (moment_in s.start past) careof) → IsPlaced s n home f.lives.acceptance [] past
      → (b : IsBound s past n home careof) × (b.binding ≡ f.binding.number)
  bound_at f p = (
    record {
      before = p.before;
      number = m.number;
      of = m.home;
      binding = m.binding;
      accepted = m.accepted;
      after = p.after;
      whole = p.whole ∙ ap (λ (e : Entry). p.before ++ e ∷ p.after) entry_is;
      of_home = ap (λ (h : Address). h.0) (sym home_is) ∙ ap (λ (a : Acceptance). a.home) p.is ∙ f.lives.of_home;
      of_careof = ap (λ (h : Address). h.0) (sym careof_is) ∙ ap (λ (a : Acceptance). a.careof) p.is ∙ ap (λ (b : Binding). b.careof) f.lives.is ∙ f.of_careof;
      away = f.away;
      in_time = subst (λ (end : ℕ). moment_in s.start past < end) (sym (ap (λ (a : Acceptance). a.end) p.is ∙ ap (λ (b : Binding). b.end) f.lives.is) ∙ ap (λ (end : Moment). end.0) end_is) f.in_time;
      this_life = p.this_life;
      lives = outlived;
      verdict_stands = subst (λ (k : ℕ). IsAccepted s p.before k m.number m.home m.binding m.accepted) node_is m.stands;
    },
    sym binding_is ∙ ap (λ (a : Acceptance). a.number) p.is ∙ ap (λ (b : Binding). b.number) f.lives.is,
  )
    where
      entry : Entry
      entry = entries.Accepted p.node p.k p.of p.binding p.careof p.sequence p.end p.i p.j

      split : EachAfter (Meets s) [] (p.before ++ entries.Accepted p.node p.k p.of p.binding p.careof p.sequence p.end p.i p.j ∷ p.after)
      split = subst (λ (l : List Entry). EachAfter (Meets s) [] l) p.whole each

      m : HasAccepted s p.before (entries.Accepted p.node p.k p.of p.binding p.careof p.sequence p.end p.i p.j)
      m = each_at (Meets s) [] p.before (entries.Accepted p.node p.k p.of p.binding p.careof p.sequence p.end p.i p.j) p.after split

      home_is : p.of ≡ m.home
      home_is = let e = m.is in cc

      careof_is : p.careof ≡ m.accepted.careof
      careof_is = let e = m.is in cc

      end_is : p.end ≡ m.accepted.end
      end_is = let e = m.is in cc

      binding_is : p.binding ≡ m.binding
      binding_is = let e = m.is in cc

      node_is : m.node ≡ n
      node_is = let e = m.is in let same : p.node ≡ node_id m.node = cc in sym (p.of_node ∙ ap (λ (x : NodeId). x.0) same)

      entry_is : entries.Accepted p.node p.k p.of p.binding p.careof p.sequence p.end p.i p.j ≡ accepted_entry n m.number m.home m.binding m.accepted
      entry_is = m.is ∙ ap (λ (k : ℕ). accepted_entry k m.number m.home m.binding m.accepted) node_is

      outlived : EachAfter (Outlives s n home m.binding) (p.before ++ accepted_entry n m.number m.home m.binding m.accepted ∷ []) p.after
      outlived =
          subst (λ (e : Entry). EachAfter (Outlives s n home m.binding) (p.before ++ e ∷ []) p.after) entry_is
          (subst (λ (number : ℕ). EachAfter (Outlives s n home number) (p.before ++ entry ∷ []) p.after) (sym (ap (λ (a : Acceptance). a.number) p.is) ∙ binding_is) p.outlives)

  bound_from : (f : HeldFrom (accepted_by s.start past n) home (moment_in s.start past) careof) → (b : IsBound s past n home careof) × (b.binding ≡ f.binding.number)
  bound_from f = bound_at f (placed s n home f.lives.acceptance past f.lives.before f.lives.after f.lives.whole f.lives.lives)

  pub held_is_bound : held_in s past n home ≡ Some careof → IsBound s past n home careof
  held_is_bound held = (bound_from (held_was_accepted (accepted_by s.start past n) home (moment_in s.start past) careof held)).0

  pub under_is_bound : (number : ℕ) → held_under_in s past n home number ≡ Some careof → IsBoundUnder s past n home number careof
  under_is_bound number held =
      let u = under_was_accepted (accepted_by s.start past n) home number (moment_in s.start past) careof held in
      let b = bound_from u.from in
      record { bound = b.0; under = b.1 ∙ u.of_number }
