use Rattle.std.proofs.Common.{rules, ◌∙◌, ap, ap₂}
use Rattle.std.proofs.lemmas.Result.{IfOk-weaker}
use Rattle.clap.specs.Words.{App, with_subcommand}
use Rattle.mip_commands.proofs.forms.forms.Goals as goal

pub returns : goal.returns
returns c =
    let make = c.in_ok-subcommand.ensures.shape (search rules) ∙ ap₂ with_subcommand c.in_ok-readers.ensures.app (ap (λ (a : App). a.top) c.in_ok-drafted.ensures.app) in
    let sum = c.in_ok-subcommand-2.ensures.shape (search rules) ∙ ap₂ with_subcommand make (ap (λ (a : App). a.top) c.in_ok-drafted-2.ensures.app) in
    let node = c.in_ok-subcommand-3.ensures.shape (search rules) ∙ ap₂ with_subcommand sum (ap (λ (a : App). a.top) c.in_ok-turned.ensures.app) in
    IfOk-weaker c.subcommand-4.result _ _ (λ r h. h.shape (search rules) ∙ ap₂ with_subcommand node (ap (λ (a : App). a.top) c.in_ok-turned-2.ensures.app)) c.subcommand-4.ensures
