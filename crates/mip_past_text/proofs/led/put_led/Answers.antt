use Rattle.std.proofs.Common.{◌≡◌, ◌++◌, OnOk, ℕ, List, sym, ◌∙◌}
use Rattle.mip_past_led.specs.Leading.{mobile_at}
use Rattle.mip_past_text.proofs.LedLaws.{text_of_found}
use Rattle.mip_past_text.proofs.led.put_led.Goals as goal

pub returns-in-Some : goal.returns-in-Some
returns-in-Some c =
    text_of_found c.args.name.now (mobile_at c.args.led.now c.args.node.0) c.in-Some.mobile
    (λ (text : List ℕ). OnOk c.put_mobile.result (c.put_mobile.new.out ≡ c.args.out.now ++ text)) (sym c.in-Some.is ∙ c.in_ok-mobile.ensures) c.put_mobile.ensures
