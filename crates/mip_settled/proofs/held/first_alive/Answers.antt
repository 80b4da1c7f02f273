use Rattle.std.proofs.Common.{refl, sym, ap, ◌∙◌, length, arith}
use Rattle.std.specs.Prelude.{Some}
use Rattle.std.proofs.lemmas.Bool.{ltb-true}
use Rattle.std.proofs.lemmas.Option.{slice_get-get_or}
use Rattle.mip_entries.specs.declared.entry.Entry.{Entry}
use Rattle.mip_settled.specs.Acceptances.{remembered}
use Rattle.mip_settled.proofs.held.first_alive.Goals as goal

pub loop-entry-init : goal.loop-entry-init
unfolding remembered
loop-entry-init c = record { within = omega arith; from = omega arith; rest = refl }

pub recall_next-recall-requires-clause-here : goal.recall_next-recall-requires-clause-here
recall_next-recall-requires-clause-here c =
    let found = c.in-Some.ensures.lookup in
    slice_get-get_or c.args.history.now c.loop-entry.place c.in-Some.entry.now (ltb-true c.loop-entry.place (length c.args.history.now) (sym found.0)) ∙ ap (λ (e : Entry). Some e) (sym found.1)
