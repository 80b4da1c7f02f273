use Rattle.std.proofs.Common.{◌≡◌, ◌+◌, ◌<◌, List, [], ◌∷◌, ◌++◌, length, take, sym, ap, subst, ◌∙◌, arith}
use Rattle.std.proofs.lemmas.Bool.{ltb-true}
use Rattle.std.proofs.lemmas.List.{take_more}
use Rattle.mip_words.specs.declared.moment.Moment.{Moment}
use Rattle.mip_entries.specs.declared.entry.Entry.{Entry}
use Rattle.mip_binding.specs.Held.{held}
use Rattle.mip_history.specs.Bound.{accepted_by}
use Rattle.mip_past.specs.declared.recall.Recall.{Recall}
use Rattle.mip_past.specs.Recalling.{next_recall, lived_by, Recalls}
use Rattle.mip_past.proofs.Recalling.{recalls_next}
use Rattle.mip_past.proofs.acceptances.recall.Goals as goal

pub loop-entry-preserved : goal.loop-entry-preserved
loop-entry-preserved c =
    let n = c.args.node.0 in
    let home = c.args.home.0 in
    let start = c.args.past.now.start.0 in
    let xs : List Entry = c.args.past.now.entries.now in
    let place = c.loop-entry.place in
    let e : Entry = c.in-Some.entry.now in
    let r : Recall = c.loop-entry.recall in
    let found = c.in-Some.ensures.lookup in
    let inside : place < length xs = ltb-true place (length xs) (sym found.0) in
    let more : take (place + 1) xs ≡ take place xs ++ e ∷ [] = take_more xs place e inside ∙ ap (λ (y : Entry). take place xs ++ y ∷ []) (sym found.1) in
    record {
      within = omega (arith, inside);
      recalls =
          subst (λ (past : List Entry). Recalls home c.args.number (lived_by start n past) c.next_recall-recall.result) (sym more)
          (subst (λ (x : Recall). Recalls home c.args.number (lived_by start n (take place xs ++ e ∷ [])) x)
          (sym (c.next_recall-recall.ensures
          ∙ ap (λ (at : Moment). next_recall n home c.args.number (held (accepted_by at.0 c.before-front.result.entries.now n) home r.at.0) e r) c.before-front.ensures.start
          ∙ ap (λ (front : List Entry). next_recall n home c.args.number (held (accepted_by start front n) home r.at.0) e r) c.before-front.ensures.entries))
          (recalls_next n home c.args.number start (take place xs) e r c.loop-entry.invariant.recalls));
    }
