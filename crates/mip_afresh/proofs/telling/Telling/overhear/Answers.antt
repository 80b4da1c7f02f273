use Rattle.std.proofs.Common.{◌≡◌, List, Bool, false, sym, ap, ◌∙◌, subst}
use Rattle.std.specs.Prelude.{◌&&◌, OnOk, if◌then◌else◌}
use Rattle.std.specs.List.{filter}
use Rattle.mip_entries.specs.declared.entry.Entry.{Entry}
use Rattle.mip_history.specs.Runs.{Run, notes}
use Rattle.mip_history.specs.Questions.{hears_in}
use Rattle.mip_history.specs.Posting.{heards, is_other}
use Rattle.mip_afresh.specs.Told.{tells}
use Rattle.mip_afresh.specs.Tellings.{with_run}
use Rattle.mip_afresh.proofs.Told.{heards_told}
use Rattle.mip_afresh.proofs.telling.Telling.overhear.Goals as goal

pub returns : goal.returns
returns c =
    let t = c.args.self.now in
    let unshielded : c.is_some.result ≡ false = c.if-is_some.false in
    let heard : c.in_ok-heard.heard.items ≡ heards (λ o. is_other c.args.by o && hears_in t.run.past o c.args.link.0) c.args.number t.setup.outsiders =
    c.in_ok-heard.ensures
    ∙ heards_told c.args.by c.args.link.0 c.args.number c.outsiders-outsiders.result c.as_slice.result.now t.run.past (ap (filter tells) c.as_slice.ensures ∙ c.told.ensures.told)
    ∙ ap (heards (λ o. is_other c.args.by o && hears_in t.run.past o c.args.link.0) c.args.number) c.outsiders-outsiders.ensures in
    subst (λ (r : Run). OnOk c.note_all.result (c.note_all.new.self ≡ with_run r t))
    (ap (λ (es : List Entry). notes es t.run) heard
    ∙ sym (ap (λ (b : Bool). if b then t.run else notes (heards (λ o. is_other c.args.by o && hears_in t.run.past o c.args.link.0) c.args.number t.setup.outsiders) t.run) (sym c.is_some.ensures ∙ unshielded)))
    c.note_all.ensures
