use Rattle.std.proofs.Common.{◌≡◌, ◌∙◌, ◌∷◌, sym, ap, subst, List, length, ℕ}
use Rattle.mip_entries.specs.Completed.{named}
use Rattle.mip_entries.specs.declared.entry.Entry.{Entry}
use Rattle.mip_links.specs.Table.{Post}
use Rattle.mip_provenance.specs.Entries.{update_accepted}
use Rattle.mip_history.specs.Nodes.{left_by, marks_of, marked}
use Rattle.mip_engine.specs.Engines.{with_entries}
use Rattle.mip_engine.specs.Quiet.{IsQuiet}
use Rattle.mip_engine.proofs.QuietLaws.{at_ok, at_ok_run}
use Rattle.mip_engine.proofs.NumberLaws.{numbered_of}
use Rattle.mip_engine.proofs.MarkLaws.{at_marked}
use Rattle.mip_engine.proofs.PostingLaws.{quiet_named, left_plain}
use Rattle.mip_engine.proofs.engine.Engine.note_named.Goals as goal

pub returns : goal.returns
returns c = record {
  stands = λ s run at.
      let e = c.args.self.now in
      let n = c.args.node.0 in
      let x = c.named.result in
      let next : c.next-next.result ≡ length run.posts = c.next-next.ensures ∙ ap (λ (ps : List Post). length ps) at.posts in
      let is : x ≡ named n 0 (length run.posts) c.args.entry = c.named.ensures ∙ ap (λ (k : ℕ). named n 0 k c.args.entry) next in
      let quiet = subst IsQuiet (sym is) (quiet_named n 0 (length run.posts) c.args.entry c.requires.plain c.requires.apart) in
      at_ok_run c.note_marked.result c.note_marked.new.self s (marked x run) (left_by s n run c.args.entry)
      (at_ok c.note_marked.result c.note_marked.new.self (with_entries (x ∷ marks_of e.past (update_accepted x)) e) s (marked x run) (c.note_marked.ensures.marked (numbered_of e s run at)) (at_marked e s run x quiet at))
      (ap (λ (y : Entry). marked y run) is ∙ sym (left_plain s n run c.args.entry c.requires.plain));
  kept = c.note_marked.ensures.kept;
}
