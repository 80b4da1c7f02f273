use Rattle.std.proofs.Common.{◌≡◌, List, sym, ap, ◌∙◌}
use Rattle.std.specs.Prelude.{slice_get, Some}
use Rattle.mip_entries.specs.declared.entry.Entry.{Entry}
use Rattle.mip_roles.specs.Roles.{rows_of}
use Rattle.mip_engine.specs.Engines.{EngineSeen, with_entry, with_entries}
use Rattle.mip_engine.proofs.ShowLaws.{rows_more, all_taken}
use Rattle.mip_engine.proofs.engine.Engine.show_rows.Goals as goal

pub loop-place-preserved : goal.loop-place-preserved
loop-place-preserved c = record {
  shown = λ node there.
      let e = c.args.self.now in
      let n = c.args.node.0 in
      let row = c.in-Some.row in
      let place = c.loop-place.place in
      let rows = rows_of n node.role e.moment in
      let before = c.loop-place.invariant.shown node there in
      let still : slice_get c.loop-place.self.nodes n ≡ Some node = ap (λ (x : EngineSeen). slice_get x.nodes n) before ∙ there in
      let is : slice_get rows place ≡ Some row = ap (λ (x : EngineSeen). slice_get (rows_of n node.role x.moment) place) (sym before) ∙ sym (c.in-Some.ensures node still) in
      c.in_ok-note-in-Some.ensures ∙ ap (λ (x : EngineSeen). with_entry row x) before ∙ rows_more rows place row e is;
  kept = ap (λ (x : EngineSeen). x.told) c.in_ok-note-in-Some.ensures ∙ c.loop-place.invariant.kept;
}

pub returns-in-None-clause-shown : goal.returns-in-None-clause-shown
returns-in-None-clause-shown c = λ node there.
    let e = c.args.self.now in
    let n = c.args.node.0 in
    let place = c.loop-place.place in
    let rows = rows_of n node.role e.moment in
    let before = c.loop-place.invariant.shown node there in
    let still : slice_get c.loop-place.self.nodes n ≡ Some node = ap (λ (x : EngineSeen). slice_get x.nodes n) before ∙ there in
    before ∙ ap (λ (xs : List Entry). with_entries xs e) (all_taken rows place (ap (λ (x : EngineSeen). slice_get (rows_of n node.role x.moment) place) (sym before) ∙ sym (c.in-None.ensures node still)))
