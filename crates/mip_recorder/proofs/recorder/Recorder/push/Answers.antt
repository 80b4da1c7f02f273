use Rattle.std.proofs.Common.{◌≡◌, List, [], ◌∷◌, ◌++◌, ℕ, true, sym, ap, ◌∙◌, subst}
use Rattle.std.proofs.lemmas.List.{append_assoc}
use Rattle.mip_entries.specs.declared.entry.Entry.{Entry}
use Rattle.mip_recorder.specs.Packets.{comes_next, IsInOrder}
use Rattle.mip_recorder.specs.Given.{joined}
use Rattle.mip_recorder.specs.Watched.{IsWatched}
use Rattle.mip_recorder.proofs.Watching.{in_order_front, in_order_next}
use Rattle.mip_recorder.proofs.recorder.Recorder.push.Goals as goal

pub invariant_of-self-2 : goal.invariant_of-self-2
invariant_of-self-2 c = λ whole order.
    let pieces = joined c.self.inside.told.items in
    let fresh = c.self.inside.fresh in
    let past = pieces ++ fresh in
    let e = c.args.entry in
    let is : pieces ++ c.push.new.self ≡ past ++ e ∷ [] = ap (λ (l : List Entry). pieces ++ l) c.in_ok-push.ensures.ok ∙ sym (append_assoc pieces fresh (e ∷ [])) in
    let ordered = subst IsInOrder is order in
    let before = c.self.invariant whole (in_order_front [] past e ordered) in
    let next = subst (λ (n : ℕ). comes_next n e ≡ true) (sym before.count) (in_order_next past e ordered) in
    subst (λ (l : List Entry). IsWatched c.follow.new.watch l c.follow.new.tokens) (sym is) (c.in_ok-follow.ensures past before next)
