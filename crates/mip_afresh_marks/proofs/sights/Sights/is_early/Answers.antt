use Rattle.std.specs.Prelude.{◌||◌}
use Rattle.std.proofs.Common.{◌≡◌, ◌<◌, ℕ, List, length, get_or, sym, ap, ◌∙◌, subst, arith}
use Rattle.mip_provenance.specs.Reached.{is_heard}
use Rattle.mip_afresh_marks.specs.declared.post.Post.{Post}
use Rattle.mip_afresh_marks.specs.declared.sight.Sight.{Sight}
use Rattle.mip_afresh_marks.specs.Sighting.{sight_seen, token_numbered, sights_in}
use Rattle.mip_afresh_marks.specs.Searches.{has_heard, HaveHeard, front_in}
use Rattle.mip_provenance.specs.Causes.{is_early}
use Rattle.mip_afresh_marks.proofs.Walks.{heard_more, take_on, early_found, early_passed}
use Rattle.mip_afresh_marks.proofs.sights.Sights.is_early.Goals as goal

pub returns-then-uses_early : goal.returns-then-uses_early
returns-then-uses_early c =
    let s = c.args.self.now in
    let token = token_numbered s.posts.items in
    let i = c.loop-sight.sight-index in
    let x = c.sight-item.result in
    let are : c.deref-sight-items.result.now ≡ s.seen.items = c.deref-sight-items.ensures.value in
    let inside : i < length s.seen.items = omega (arith, c.loop-sight-test.true, ap (λ (l : List Sight). length l) are) in
    let is : x ≡ get_or s.seen.items i x = c.sight-item.is ∙ ap (λ (l : List Sight). get_or l i x) are in
    early_found (sight_seen token) s.seen.items i x inside is c.args.token.0 (is_early (sights_in s) c.args.token.0) c.loop-sight.invariant.rest
    (sym c.if-uses_early.true ∙ c.uses_early.ensures token (front_in s i) c.loop-sight.invariant.heard)

pub loop-sight-preserved : goal.loop-sight-preserved
loop-sight-preserved c =
    let s = c.args.self.now in
    let token = token_numbered s.posts.items in
    let i = c.loop-sight.sight-index in
    let x = c.sight-item.result in
    let are : c.deref-sight-items.result.now ≡ s.seen.items = c.deref-sight-items.ensures.value in
    let inside : i < length s.seen.items = omega (arith, c.loop-sight-test.true, ap (λ (l : List Sight). length l) are) in
    let is : x ≡ get_or s.seen.items i x = c.sight-item.is ∙ ap (λ (l : List Sight). get_or l i x) are in
    record {
      heard = subst (HaveHeard c.note.new.self.heard c.args.token.0) (sym (take_on (sight_seen token) s.seen.items i x inside is))
          (heard_more c.loop-sight.hearers.heard c.note.new.self.heard c.args.token.0 (front_in s i) (sight_seen token x) c.loop-sight.invariant.heard
          (subst (λ (posts : List Post). (o : ℕ) → o < 256 → has_heard c.note.new.self.heard o ≡ (has_heard c.loop-sight.hearers.heard o || is_heard o c.args.token.0 (sight_seen (token_numbered posts) x))) c.deref.ensures.value c.note.ensures));
      rest = early_passed (sight_seen token) s.seen.items i x inside is c.args.token.0 (is_early (sights_in s) c.args.token.0) c.loop-sight.invariant.rest
          (sym c.if-uses_early.false ∙ c.uses_early.ensures token (front_in s i) c.loop-sight.invariant.heard);
    }
