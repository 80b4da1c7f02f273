use Rattle.std.proofs.Common.{◌≡◌, ◌++◌, subst, ap, rules}
use Rattle.std.specs.Prelude.{OnOk, option_map}
use Rattle.mip_rules_mobile.specs.Doing.{transition_of}
use Rattle.mip_mobile_calls.specs.Seen.{ContextSeen, Shows}
use Rattle.mip_transmission.specs.Putting.{PutsAll, PutsFront, puts_of, sends_of}
use Rattle.mip_mobile.specs.Handling.{Handles, BreaksOff}
use Rattle.mip_transmission.proofs.PutLaws.{on-err}
use Rattle.mip_mobile.proofs.Handled.{if-both, handled, on-errs, breaks-off, breaks-none, is-left}
use Rattle.mip_mobile.proofs.machine.Machine.finish_call.Goals as goal

pub returns-clause-finishes : goal.returns-clause-finishes
returns-clause-finishes g c =
    let context : ContextSeen = c.args.self.now.context in
    let gives = g.W.Wire.gives in
    let out = g.W.Wire.out c.args.self.now.wire in
    let told = g.W.Wire.out c.send_all.new.wire in
    let puts = g.W.Wire.answered c.args.self.now.wire in
    let puts_after = g.W.Wire.answered c.send_all.new.wire in
    let asked = c.in_ok-asked.asked in
    record {
      handles = λ k now call shown.
          let shows : Shows context (transition_of k now call) = subst (λ r. OnOk r (Shows context (transition_of k now call))) c.in_ok-done.was shown in
          if-both (λ answers. PutsAll gives asked answers × (told ≡ option_map (λ items. items ++ sends_of answers) out)) (λ answers. puts_after ≡ puts ++ puts_of asked answers)
          (λ answers. Handles gives k now call out puts answers c.take_answers.new.self.known told puts_after) c.send_all.result
          (λ answers took answered.
          handled gives k now call context asked c.take_answers.new.self.known out told puts puts_after answers shows c.in_ok-asked.ensures.answers
          (ap (λ (d : ContextSeen). d.known) c.in_ok-asked.ensures.context) took.0 took.1 answered)
          (if-both (λ answers. PutsAll gives asked answers) (λ answers. told ≡ option_map (λ items. items ++ sends_of answers) out)
          (λ answers. PutsAll gives asked answers × (told ≡ option_map (λ items. items ++ sends_of answers) out)) c.send_all.result (λ answers took sent. (took, sent))
          c.send_all.ensures.puts c.send_all.ensures.out)
          c.send_all.ensures.answered;
      front = λ k now call shown.
          let shows : Shows context (transition_of k now call) = subst (λ r. OnOk r (Shows context (transition_of k now call))) c.in_ok-done.was shown in
          on-errs {P = PutsFront gives asked out told puts puts_after} {Q = BreaksOff gives k now call out puts told puts_after} c.send_all.result
          (λ front. breaks-off gives k now call context asked out told puts puts_after shows c.in_ok-asked.ensures.answers front) c.send_all.ensures.front;
      left = λ k now call shown remembers.
          is-left k now call context c.take_answers.new.self (subst (λ r. OnOk r (Shows context (transition_of k now call))) c.in_ok-done.was shown) c.in_ok-asked.ensures.context;
      failed = c.send_all.ensures.failed;
      wire = (c.send_all.ensures.no_fewer, c.send_all.ensures.same);
    }

pub returns-in_err-done-clause-finishes : goal.returns-in_err-done-clause-finishes
returns-in_err-done-clause-finishes g c = record {
  handles = search rules;
  front = λ k now call shown. on-err c.from_residual.result (breaks-none g.W.Wire.gives k now call (g.W.Wire.out c.args.self.now.wire) (g.W.Wire.answered c.args.self.now.wire));
  left = search rules;
  failed = search rules;
  wire = search rules;
}

pub returns-in_err-asked-clause-finishes : goal.returns-in_err-asked-clause-finishes
returns-in_err-asked-clause-finishes g c = record {
  handles = search rules;
  front = λ k now call shown.
      on-err c.from_residual-in_err-asked.result (breaks-none g.W.Wire.gives k now call (g.W.Wire.out c.args.self.now.wire) (g.W.Wire.answered c.args.self.now.wire));
  left = search rules;
  failed = search rules;
  wire = search rules;
}
