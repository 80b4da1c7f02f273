use Rattle.std.proofs.Common.{◌≡◌, ◌++◌, List, ℕ, OnOk, subst, sym}
use Rattle.std.proofs.lemmas.Fmt.{decimal_digit}
use Rattle.mip_rows.proofs.field_writing.put_number.Goals as goal

-- one digit
pub returns-then-number-lt10 : goal.returns-then-number-lt10
returns-then-number-lt10 c =
    subst (λ (text : List ℕ). OnOk c.push.result (c.push.new.self ≡ c.args.out.now ++ text)) (sym (decimal_digit c.args.number c.if-number-lt10.true)) c.push.ensures.ok
