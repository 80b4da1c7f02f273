-- What was obeyed of an audit is right.
use Rattle.std.proofs.Common.{◌≡◌, ℕ, List, subst}
use Rattle.std.specs.Prelude.{Option, Some, None, IfSome}
use Rattle.mip_commands.specs.declared.command.Command.{Command}
use Rattle.mip_commands.specs.declared.command.Command.TheVariants.{Audit}
use Rattle.mip_replies.specs.Answers.{form_answer}
use Rattle.mip_replies.specs.Audits.{IsAudited}
use Rattle.mip_replies.specs.Told.{Told}
use Rattle.mip_replies.specs.declared.input_form.InputForm.TheVariants as forms
use Rattle.mip_top.specs.Answers.{answer_to}
use Rattle.mip_top.specs.Serving.{Outside}
use Rattle.mip_top.specs.Obeyed.{Obeys}

module _ (law : (bytes : List ℕ) (given : ℕ) (old new : Option (List ℕ)) → Told (form_answer forms.Audit bytes) given old new → IsAudited bytes given old new) where
  pub audited_of : (command : Option Command) (bytes : List ℕ) (given : ℕ) (old new : Outside) → Obeys command bytes given old new → command ≡ Some Audit → IsAudited bytes given old.held new.held
  audited_of command bytes given old new obeys is =
      law bytes given old.held new.held (subst (λ (c : Option Command). IfSome (answer_to c bytes) (λ answer. Told answer given old.held new.held)) is obeys.told)

  pub audited : (command : Option Command) (left : Option (List ℕ)) (given : ℕ) (old new : Outside) → IfSome left (λ bytes. Obeys command bytes given old new)
      → IfSome left (λ bytes. command ≡ Some Audit → IsAudited bytes given old.held new.held)
  audited command None given old new obeys = tt
  audited command (Some bytes) given old new obeys = audited_of command bytes given old new obeys
