-- A role that finds nobody else around it.
use Rattle.std.proofs.Common.{◌≡◌, ℕ, List, subst}
use Rattle.std.specs.Prelude.{Result, IfOk, OnOk}
use Rattle.mip_entries.specs.declared.answer.Answer.{Answer}
use Rattle.mip_outside.specs.Places.{Around, free}
use Rattle.mip_history.specs.Calls.{Call}
use Rattle.mip_roles.specs.declared.role.Role.{Role}
use Rattle.mip_roles.specs.Roles.{answers_to, after_call}
use Rattle.mip_node.specs.Roles.{answers_at, role_after}

pub answers_alone : {E : Type 0} (r : Result (List Answer) E) (around : Around) (role : Role) (now : ℕ) (call : Call) → around ≡ free
    → IfOk r (λ a. a ≡ answers_to around role now call) → IfOk r (λ a. a ≡ answers_at role now call)
unfolding answers_at
answers_alone r around role now call alone h = subst (λ (x : Around). IfOk r (λ a. a ≡ answers_to x role now call)) alone h

pub after_alone : {A E : Type 0} (r : Result A E) (around : Around) (role last : Role) (now : ℕ) (call : Call) → around ≡ free
    → OnOk r (last ≡ after_call around role now call) → OnOk r (last ≡ role_after role now call)
unfolding role_after
after_alone r around role last now call alone h = subst (λ (x : Around). OnOk r (last ≡ after_call x role now call)) alone h
