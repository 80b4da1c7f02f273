use Rattle.std.proofs.Common.{◌≡◌, drop}
use Rattle.mip_words.specs.Asked.{asked}
use Rattle.mip_history.specs.Told.{present_says, present_in}
use Rattle.mip_settled.proofs.mobiles.present.Given as goal

abbrev pub invariant-loop-entry : goal.invariant-loop-entry
invariant-loop-entry l = asked (present_says l.node.0) l.present (drop l.entry-index l.history) ≡ present_in l.history l.node.0 l.fn.own
