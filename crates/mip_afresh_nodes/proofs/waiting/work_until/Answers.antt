use Rattle.std.proofs.Common.{◌≡◌, ℕ, zero, suc, ◌+◌, ◌-◌, ◌<◌, false, true, refl, sym, ap, ◌∙◌, subst, arith}
use Rattle.std.specs.Prelude.{Option, Some, None, length, option_map}
use Rattle.mip_words.specs.declared.moment.Moment.{Moment}
use Rattle.mip_history.specs.Setup.{Setup}
use Rattle.mip_history.specs.Runs.{Run}
use Rattle.mip_history.specs.Waiting.{Waiting, due_of, earliest, works, works_until}
use Rattle.mip_afresh.specs.Tellings.{TellingSeen, with_run}
use Rattle.mip_afresh_nodes.specs.Waits.{due_by, waiting, HasCome}
use Rattle.mip_afresh_nodes.proofs.WaitLaws.{wait_rests, wait_goes, wait_ends, worked, has_come}
use Rattle.mip_afresh_nodes.proofs.waiting.work_until.Goals as goal

pub loop-round-init : goal.loop-round-init
loop-round-init c =
    let fn = c.args.telling.now in
    let all : c.args.rounds - 0 ≡ c.args.rounds = omega arith in
    record { setup = refl; rest = ap (λ (n : ℕ). works_until fn.setup c.args.target.0 n (waiting fn false)) all }

pub returns-in-None : goal.returns-in-None
returns-in-None c =
    let fn = c.args.telling.now in
    let t = c.loop-round.telling in
    has_come fn t c.loop-round.told _ c.loop-round.invariant.setup
    (sym (wait_rests fn.setup c.args.target.0 (c.args.rounds - c.loop-round._round) (waiting t c.loop-round.told)
    (subst (λ (s : Setup). due_by (earliest (due_of s t.run) (length s.hosts)) c.args.target.0 ≡ None) c.loop-round.invariant.setup
    (ap (λ (o : Option ℕ). due_by o c.args.target.0) (sym c.in_ok-due.ensures) ∙ sym c.due_by.ensures ∙ ap (λ (o : Option Moment). option_map (λ m. m.0) o) c.in-None.is)))
    ∙ c.loop-round.invariant.rest)

pub loop-round-preserved : goal.loop-round-preserved
loop-round-preserved c =
    let fn = c.args.telling.now in
    let t = c.loop-round.telling in
    let left : c.args.rounds - c.loop-round._round ≡ suc (c.args.rounds - (c.loop-round._round + 1)) = (let test = c.loop-round-test.true in omega (arith, test)) in
    let next = c.work.new.telling in
    let did = c.in_ok-work-in-Some.ensures in
    record {
      setup = ap (λ (x : TellingSeen). x.setup) did ∙ c.loop-round.invariant.setup;
      rest =
          sym (ap (works_until fn.setup c.args.target.0 (c.args.rounds - (c.loop-round._round + 1)))
          (ap (λ (s : Setup). works s c.in-Some.due.0 (waiting t c.loop-round.told)) (sym c.loop-round.invariant.setup) ∙ worked t.setup c.in-Some.due.0 (waiting t c.loop-round.told) next.run (ap (λ (x : TellingSeen). x.run) did)))
          ∙ sym (wait_goes fn.setup c.args.target.0 (c.args.rounds - (c.loop-round._round + 1)) c.in-Some.due.0 (waiting t c.loop-round.told)
          (subst (λ (s : Setup). due_by (earliest (due_of s t.run) (length s.hosts)) c.args.target.0 ≡ Some c.in-Some.due.0) c.loop-round.invariant.setup
          (ap (λ (o : Option ℕ). due_by o c.args.target.0) (sym c.in_ok-due.ensures) ∙ sym c.due_by.ensures ∙ ap (λ (o : Option Moment). option_map (λ m. m.0) o) c.in-Some.is)))
          ∙ ap (λ (n : ℕ). works_until fn.setup c.args.target.0 n (waiting t c.loop-round.told)) (sym left)
          ∙ c.loop-round.invariant.rest;
    }

pub returns : goal.returns
returns c =
    let fn = c.args.telling.now in
    let t = c.loop-round.telling in
    let none : c.args.rounds - c.loop-round._round ≡ zero = (let test = c.loop-round-test.false in omega (arith, test)) in
    has_come fn t c.loop-round.told _ c.loop-round.invariant.setup
    (sym (ap (λ (n : ℕ). works_until fn.setup c.args.target.0 n (waiting t c.loop-round.told)) none ∙ wait_ends fn.setup c.args.target.0 (waiting t c.loop-round.told)) ∙ c.loop-round.invariant.rest)
