use Rattle.std.proofs.Common.{◌≡◌, ℕ, ◌+◌, ◌≤◌, suc, false, sym, subst, ap, ◌∙◌, arith}
use Rattle.mip_history.specs.Knowing.{now_in}
use Rattle.mip_history.specs.Permitted.{run_of}
use Rattle.mip_history.specs.Waiting.{Waiting, works_until}
use Rattle.mip_engine.proofs.GoesLaws.{gone, goes_after}
use Rattle.mip_replay.proofs.WaitLaws.{waited_is}
use Rattle.mip_replay.proofs.waiting.wait.Goals as goal

pub come_to-requires : goal.come_to-requires
come_to-requires c =
    let of = c.requires.of_run in
    let s = of.setup in
    let events = of.events in
    let run = run_of s events in
    let target = c.moment.result.0 + c.from.result in
    let rounds = c.from-2.result + 1 in
    let w : Waiting = works_until s target rounds (record { run = run; told = false }) in
    let starts : now_in s run ≤ target = omega (arith, c.moment.ensures.is, of.stands.now) in
    let within = c.work_stays_within_its_wait.ensures s events target rounds starts in
    let at = c.in_ok-told.ensures.after.stands s run of.stands in
    subst (λ (m : ℕ). m ≤ target) (sym at.now) within

pub returns : goal.returns
returns c =
    let ms = c.args.ms in
    let target = c.moment.result.0 + c.from.result in
    let rounds = c.from-2.result + 1 in
    goes_after (gone c.in_ok-told.ensures.after) c.come_to.ensures (λ s run at.
    let target_is : target ≡ now_in s run + ms = ap (λ (now : ℕ). now + c.from.result) (c.moment.ensures.is ∙ at.now) ∙ ap (λ (d : ℕ). now_in s run + d) c.from.ensures in
    let rounds_is : rounds ≡ suc ms = omega (arith, c.from-2.ensures) in
    waited_is s run ms target rounds c.in_ok-told.told target_is rounds_is (c.in_ok-told.ensures.told s run at))
