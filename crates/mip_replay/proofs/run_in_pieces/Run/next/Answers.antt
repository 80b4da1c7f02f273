use Rattle.std.proofs.Common.{◌≡◌, List, length, sym, ap, subst, arith}
use Rattle.mip_entries.specs.declared.entry.Entry.{Entry}
use Rattle.mip_replay.specs.Pieces.{RunSeen, IsRunOf}
use Rattle.mip_replay.proofs.RunLaws.{told_whole, given_away}
use Rattle.mip_replay.proofs.run_in_pieces.Run.next.Goals as goal

pub returns-then-waiting-eq0-clause-end : goal.returns-then-waiting-eq0-clause-end
returns-then-waiting-eq0-clause-end c = λ s is. λ _.
    let r = c.go_on.new.self in
    let none : c.waiting.result ≡ 0 = omega (arith, c.if-waiting-eq0.true) in
    let told : r.engine.told ≡ r.engine.past = subst (λ (x : RunSeen). x.engine.told ≡ x.engine.past) c.self.view_is (c.waiting.ensures.none none) in
    told_whole r s (c.in_ok-go_on.ensures.stands s is) told (c.in_ok-go_on.ensures.end (sym (ap (λ (l : List Entry). length l) told)))

pub returns-clause-stands : goal.returns-clause-stands
returns-clause-stands c = λ s is.
    let r : RunSeen = record { engine = c.self.inside.engine; coming = c.self.inside.coming; told = c.self.inside.engine.told } in
    given_away r s (subst (λ (x : RunSeen). IsRunOf x s) (sym c.self.view_is) (c.in_ok-go_on.ensures.stands s is)) c.take.new.self c.in_ok-piece.ensures.after
