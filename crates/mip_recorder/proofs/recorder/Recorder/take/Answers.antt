use Rattle.std.proofs.Common.{◌≡◌, List, [], ◌++◌, sym, ap, ◌∙◌, subst}
use Rattle.std.proofs.lemmas.List.{append-nil}
use Rattle.mip_entries.specs.declared.entry.Entry.{Entry}
use Rattle.mip_recorder.specs.Packets.{IsInOrder}
use Rattle.mip_recorder.specs.Given.{ChronicleSeen, joined, all_told}
use Rattle.mip_recorder.specs.Watched.{IsWatched}
use Rattle.mip_recorder.proofs.Watching.{joined-push}
use Rattle.mip_recorder.proofs.recorder.Recorder.take.Goals as goal

pub invariant_of-self : goal.invariant_of-self
invariant_of-self c = λ whole order.
    let told = c.self.inside.told.items in
    let fresh = c.self.inside.fresh in
    let pieces : joined c.with-self-inside.result.items ≡ joined told ++ fresh = ap joined c.with-self-inside.ensures ∙ joined-push told fresh in
    let none : c.replace.new.dest ≡ [] = c.replace.ensures.after ∙ c.in_ok-next.ensures in
    let same : joined c.with-self-inside.result.items ++ c.replace.new.dest ≡ joined told ++ fresh =
    ap (λ (l : List Entry). joined c.with-self-inside.result.items ++ l) none ∙ append-nil (joined c.with-self-inside.result.items) ∙ pieces in
    subst (λ (l : List Entry). IsWatched c.self.inside.watch l c.self.inside.tokens) (sym same) (c.self.invariant whole (subst IsInOrder same order))

pub returns-clause-after : goal.returns-clause-after
returns-clause-after c =
    let told = c.self.inside.told.items in
    let fresh = c.self.inside.fresh in
    let pieces : joined c.with-self-inside.result.items ≡ joined told ++ fresh = ap joined c.with-self-inside.ensures ∙ joined-push told fresh in
    let none : c.replace.new.dest ≡ [] = c.replace.ensures.after ∙ c.in_ok-next.ensures in
    ap (λ (l : List Entry). let x : ChronicleSeen = record { told = l; fresh = c.replace.new.dest } in x) pieces
    ∙ ap (λ (l : List Entry). let x : ChronicleSeen = record { told = joined told ++ fresh; fresh = l } in x) none
    ∙ ap all_told c.self.view_is
