use Rattle.std.proofs.Common.{◌≡◌, true, false, sym, ◌∙◌, arith}
use Rattle.mip_history.specs.Waiting.{Waiting, works_until}
use Rattle.mip_replay.proofs.WaitLaws.{round_more, round_none, round_last}
use Rattle.mip_replay.proofs.waiting.work_until.Goals as goal

pub loop-round-preserved : goal.loop-round-preserved
loop-round-preserved c = record {
  stands = λ s run at.
      let l = c.loop-round in
      let end : Waiting = works_until s c.args.target.moment.0 c.args.rounds (record { run = run; told = false }) in
      let more : c.in_ok-more.more ≡ true = c.if-not-more.false in
      round_more l.engine c.work_next.new.engine s c.args.target.moment.0 c.args.rounds l._round l.told end (omega (arith, c.loop-round-test.true)) (l.invariant.stands s run at)
      (λ r here. sym more ∙ c.in_ok-more.ensures.more s r here) (λ r here. c.in_ok-more.ensures.after.stands s r here);
  kept = c.in_ok-more.ensures.after.kept ∙ c.loop-round.invariant.kept;
}

pub returns-then-not-more-clause-told : goal.returns-then-not-more-clause-told
returns-then-not-more-clause-told c = λ s run at.
    let l = c.loop-round in
    let end : Waiting = works_until s c.args.target.moment.0 c.args.rounds (record { run = run; told = false }) in
    let more : c.in_ok-more.more ≡ false = c.if-not-more.true in
    let done = round_none l.engine c.work_next.new.engine s c.args.target.moment.0 c.args.rounds l._round l.told end (omega (arith, c.loop-round-test.true)) (l.invariant.stands s run at)
    (λ r here. sym more ∙ c.in_ok-more.ensures.more s r here) (λ r here. c.in_ok-more.ensures.after.stands s r here) in
    done.0

pub returns-then-not-more-clause-after : goal.returns-then-not-more-clause-after
returns-then-not-more-clause-after c = record {
  stands = λ s run at.
      let l = c.loop-round in
      let end : Waiting = works_until s c.args.target.moment.0 c.args.rounds (record { run = run; told = false }) in
      let more : c.in_ok-more.more ≡ false = c.if-not-more.true in
      let done = round_none l.engine c.work_next.new.engine s c.args.target.moment.0 c.args.rounds l._round l.told end (omega (arith, c.loop-round-test.true)) (l.invariant.stands s run at)
      (λ r here. sym more ∙ c.in_ok-more.ensures.more s r here) (λ r here. c.in_ok-more.ensures.after.stands s r here) in
      done.1;
  kept = c.in_ok-more.ensures.after.kept ∙ c.loop-round.invariant.kept;
}

pub returns-clause-told : goal.returns-clause-told
returns-clause-told c = λ s run at.
    let l = c.loop-round in
    let end : Waiting = works_until s c.args.target.moment.0 c.args.rounds (record { run = run; told = false }) in
    let done = round_last l.engine l.engine s c.args.target.moment.0 c.args.rounds l._round l.told end (omega (arith, c.loop-round-test.false)) (l.invariant.stands s run at) in
    done.0

pub returns-clause-after : goal.returns-clause-after
returns-clause-after c = record {
  stands = λ s run at.
      let l = c.loop-round in
      let end : Waiting = works_until s c.args.target.moment.0 c.args.rounds (record { run = run; told = false }) in
      let done = round_last l.engine l.engine s c.args.target.moment.0 c.args.rounds l._round l.told end (omega (arith, c.loop-round-test.false)) (l.invariant.stands s run at) in
      done.1;
  kept = c.loop-round.invariant.kept;
}
