use Rattle.std.proofs.Common.{◌≡◌, ◌∙◌, false, sym, ap, map, string_bytes}
use Rattle.std.specs.List.{list_any}
use Rattle.std.proofs.lemmas.Result.{IfOk-weaker}
use Rattle.clap.specs.Words.{app_of}
use Rattle.clap.proofs.WalkLemmas.{list_any-map}
use Rattle.mip_commands.specs.Forms.{is_flag}
use Rattle.mip_commands.proofs.FormLaws.{is_free, is_known, taken, not_memory}
use Rattle.mip_commands.proofs.FlagLaws.{no_command}
use Rattle.mip_commands.proofs.parsing.parse.Goals as goal

pub returns-then-has_flag-clause-command : goal.returns-then-has_flag-clause-command
returns-then-has_flag-clause-command c = sym (no_command (map string_bytes c.args.words.now) (sym (list_any-map is_flag string_bytes c.args.words.now) ∙ sym c.has_flag.ensures ∙ c.if-has_flag.true))

pub returns-in-Ok-clause-command : goal.returns-in-Ok-clause-command
returns-in-Ok-clause-command c =
    let plain : list_any is_flag (map string_bytes c.args.words.now) ≡ false =
    sym (list_any-map is_flag string_bytes c.args.words.now) ∙ sym c.has_flag.ensures ∙ c.if-has_flag.false in
    let passes = c.in-Ok.ensures.kinds (ap Rattle.clap.specs.Faults.is_simple_and_free c.in_ok-forms.ensures ∙ is_free) in
    let met = c.in-Ok.ensures.matches (ap Rattle.clap.specs.Simple.is_simple c.in_ok-forms.ensures ∙ is_known) in
    c.asked.ensures.command ∙ taken _ (map string_bytes c.args.words.now) c.in_ok-forms.ensures plain _ passes met.1

pub returns-in-Err-clause-command : goal.returns-in-Err-clause-command
returns-in-Err-clause-command c =
    let plain : list_any is_flag (map string_bytes c.args.words.now) ≡ false =
    sym (list_any-map is_flag string_bytes c.args.words.now) ∙ sym c.has_flag.ensures ∙ c.if-has_flag.false in
    let fails = c.in-Err.ensures.kinds (ap Rattle.clap.specs.Faults.is_simple_and_free c.in_ok-forms.ensures ∙ is_free) in
    IfOk-weaker c.refused.result _ _ (λ command h. h.1 ∙ sym (not_memory (app_of c.in_ok-forms.field-0) (map string_bytes c.args.words.now) c.in_ok-forms.ensures plain
    c.in-Err.error fails (λ memory. h.0 (c.kind.ensures ∙ memory)))) c.refused.ensures.none
