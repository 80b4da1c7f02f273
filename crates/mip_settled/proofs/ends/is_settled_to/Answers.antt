use Rattle.std.proofs.Common.{◌≡◌, ap, ◌∙◌}
use Rattle.std.specs.Prelude.{Option, Some}
use Rattle.mip_words.specs.declared.address.Address.{Address}
use Rattle.mip_history.specs.Questions.{declared_in}
use Rattle.mip_history.specs.Settled.{is_settled_with}
use Rattle.mip_settled.proofs.ends.is_settled_to.Goals as goal

pub returns-in-Some-declared : goal.returns-in-Some-declared
returns-in-Some-declared c =
    let past = c.args.history.now in
    let x = c.args.x.0 in
    let y = c.args.y.0 in
    let first : Some c.in-Some.own ≡ declared_in past x = cc (c.declared.ensures, c.in-Some.is) in
    let second : Some c.in-Some-declared.peer ≡ declared_in past y = cc (c.declared-in-Some.ensures, c.in-Some-declared.is) in
    let start = c.args.start.0 in
    c.is_settled_at.ensures ∙ ap (λ (o : Option Address). is_settled_with c.args.now.0 start past x y o (Some c.in-Some-declared.peer)) first
    ∙ ap (λ (o : Option Address). is_settled_with c.args.now.0 start past x y (declared_in past x) o) second
