use Rattle.std.proofs.Common.{◌≡◌, ◌<◌, List, take, length, get_or, sym, ap, ◌∙◌, subst, arith, length-take}
use Rattle.std.proofs.lemmas.List.{length-map}
use Rattle.mip_provenance.specs.Seen.{claim_of}
use Rattle.mip_afresh_marks.specs.declared.sight.Sight.{Sight}
use Rattle.mip_afresh_marks.specs.Sighting.{sight_seen, token_numbered, sights_in}
use Rattle.mip_afresh_marks.specs.Searches.{AreKnown, front_in, named_in}
use Rattle.mip_afresh_marks.proofs.Walks.{known_more, life_short, take_on, named_on}
use Rattle.mip_afresh_marks.proofs.sights.Sights.named.Goals as goal

pub note-requires : goal.note-requires
note-requires c = λ n below.
    let s = c.args.self.now in
    let i = c.loop-sight.sight-index in
    let are : c.deref-sight-items.result.now ≡ s.seen.items = c.deref-sight-items.ensures.value in
    let inside : i < length s.seen.items = omega (arith, c.loop-sight-test.true, ap (λ (l : List Sight). length l) are) in
    omega (arith, life_short c.loop-sight.lives (front_in s i) c.loop-sight.invariant.known n below, length-map (take i s.seen.items) (sight_seen (token_numbered s.posts.items)), length-take i s.seen.items, s.seen.small, inside)

pub loop-sight-preserved : goal.loop-sight-preserved
loop-sight-preserved c =
    let s = c.args.self.now in
    let token = token_numbered s.posts.items in
    let i = c.loop-sight.sight-index in
    let x = c.sight-item.result in
    let are : c.deref-sight-items.result.now ≡ s.seen.items = c.deref-sight-items.ensures.value in
    let inside : i < length s.seen.items = omega (arith, c.loop-sight-test.true, ap (λ (l : List Sight). length l) are) in
    let is : x ≡ get_or s.seen.items i x = c.sight-item.is ∙ ap (λ (l : List Sight). get_or l i x) are in
    let claim = claim_of c.args.claim.now in
    record {
      known = subst (AreKnown c.note.new.self) (sym (take_on (sight_seen token) s.seen.items i x inside is))
          (known_more c.loop-sight.lives c.note.new.self (front_in s i) (sight_seen token x) c.loop-sight.invariant.known (c.note.ensures token));
      named = named_on (sight_seen token) s.seen.items i x inside is claim c.loop-sight.named c.note_sight-named.result (named_in (sights_in s) claim) c.loop-sight.invariant.named
          (c.note_sight-named.ensures token (front_in s i) c.loop-sight.invariant.known);
    }
