use Rattle.std.proofs.Common.{rules, ◌≡◌, refl, arith}
use Rattle.std.specs.Prelude.{Some, None, false}
use Rattle.mip_commands.specs.declared.command.Command.TheVariants.{Replay, Decode, Claims, Audit, Make, Sum, Node, Hub}
use Rattle.mip_replies.specs.Answers.{form_answer}
use Rattle.mip_replies.specs.declared.input_form.InputForm.TheVariants as forms
use Rattle.mip_replies.specs.declared.told_run.ToldRun.TheVariants as runs
use Rattle.mip_top.specs.Answers.{takes_nothing}
use Rattle.mip_top.proofs.Endings.{ends_told, ends_answered, ends_served}
use Rattle.mip_top.proofs.ObeyedLaws.{idle, untaken, answered, at_end}
use Rattle.mip_top.proofs.top.obey.Goals as goal

pub returns-in-None-clause-obeyed : goal.returns-in-None-clause-obeyed
returns-in-None-clause-obeyed g c =
    let is : c.args.command ≡ None = search rules in
    rw is (untaken None _ _ _ _ _ refl refl (record { told = c.tell.ensures.told; served = tt }))

pub returns-in-Some-Replay-clause-obeyed : goal.returns-in-Some-Replay-clause-obeyed
returns-in-Some-Replay-clause-obeyed g c =
    let is : c.args.command ≡ Some Replay = search rules in
    rw is (answered (Some Replay) (form_answer (forms.Schedule runs.Trace)) _ _ _ _ _ (λ bytes. refl) (λ bytes. tt) (idle _ _) c.answer_input.ensures.answered)

pub returns-in-Some-Decode-clause-obeyed : goal.returns-in-Some-Decode-clause-obeyed
returns-in-Some-Decode-clause-obeyed g c =
    let is : c.args.command ≡ Some Decode = search rules in
    rw is (answered (Some Decode) (form_answer forms.Packet) _ _ _ _ _ (λ bytes. refl) (λ bytes. tt) (idle _ _) c.answer_input-in-Some-Decode.ensures.answered)

pub returns-in-Some-Claims-clause-obeyed : goal.returns-in-Some-Claims-clause-obeyed
returns-in-Some-Claims-clause-obeyed g c =
    let ask = c.in-Some-Claims.ask in
    let is : c.args.command ≡ Some (Claims ask) = search rules in
    rw is
    (answered (Some (Claims ask)) (form_answer (forms.Schedule (runs.Claims ask))) _ _ _ _ _ (λ bytes. refl) (λ bytes. tt) (idle _ _)
    c.answer_input-in-Some-Claims.ensures.answered)

pub returns-in-Some-Audit-clause-obeyed : goal.returns-in-Some-Audit-clause-obeyed
returns-in-Some-Audit-clause-obeyed g c =
    let is : c.args.command ≡ Some Audit = search rules in
    rw is (answered (Some Audit) (form_answer forms.Audit) _ _ _ _ _ (λ bytes. refl) (λ bytes. tt) (idle _ _) c.answer_input-in-Some-Audit.ensures.answered)

pub returns-in-Some-Make-clause-obeyed : goal.returns-in-Some-Make-clause-obeyed
returns-in-Some-Make-clause-obeyed g c =
    let is : c.args.command ≡ Some (Make c.in-Some-Make.draft) = search rules in
    rw is (untaken (Some (Make c.in-Some-Make.draft)) _ _ _ _ _ refl refl (record { told = c.tell_made.ensures.told; served = tt }))

pub returns-in-Some-Sum-clause-obeyed : goal.returns-in-Some-Sum-clause-obeyed
returns-in-Some-Sum-clause-obeyed g c =
    let is : c.args.command ≡ Some (Sum c.in-Some-Sum.draft) = search rules in
    rw is (untaken (Some (Sum c.in-Some-Sum.draft)) _ _ _ _ _ refl refl (record { told = c.tell_made-in-Some-Sum.ensures.told; served = tt }))

pub returns-in-Some-Node-clause-obeyed : goal.returns-in-Some-Node-clause-obeyed
returns-in-Some-Node-clause-obeyed g c =
    let is : c.args.command ≡ Some (Node c.in-Some-Node.turns) = search rules in
    rw is c.run_node.ensures.obeyed

pub returns-in-Some-Hub-clause-obeyed : goal.returns-in-Some-Hub-clause-obeyed
returns-in-Some-Hub-clause-obeyed g c =
    let is : c.args.command ≡ Some (Hub c.in-Some-Hub.turns) = search rules in
    rw is c.run_hub.ensures.obeyed

pub returns-in-None-clause-ends : goal.returns-in-None-clause-ends
returns-in-None-clause-ends g c =
    let is : c.args.command ≡ None = search rules in
    rw is (ends_told None _ _ 1 _ _ refl (omega arith) c.tell.ensures.status c.tell.ensures.cause c.tell.ensures.no_fewer)

pub returns-in-Some-Replay-clause-ends : goal.returns-in-Some-Replay-clause-ends
returns-in-Some-Replay-clause-ends g c =
    let is : c.args.command ≡ Some Replay = search rules in
    let o = returns-in-Some-Replay-clause-obeyed g c in
    let takes : takes_nothing c.args.command ≡ false = rw is refl in
    rw is
    (ends_answered (Some Replay) _ _ _ _ _ _ _ refl c.answer_input.ensures.statuses (at_end c.args.command o.0 _ _ _ _ _ o.1 takes) c.answer_input.ensures.read_fault c.answer_input.ensures.read_fault_text
    c.answer_input.ensures.write_fault c.answer_input.ensures.source_faults c.answer_input.ensures.sink_faults)

pub returns-in-Some-Decode-clause-ends : goal.returns-in-Some-Decode-clause-ends
returns-in-Some-Decode-clause-ends g c =
    let is : c.args.command ≡ Some Decode = search rules in
    let o = returns-in-Some-Decode-clause-obeyed g c in
    let takes : takes_nothing c.args.command ≡ false = rw is refl in
    rw is
    (ends_answered (Some Decode) _ _ _ _ _ _ _ refl c.answer_input-in-Some-Decode.ensures.statuses (at_end c.args.command o.0 _ _ _ _ _ o.1 takes) c.answer_input-in-Some-Decode.ensures.read_fault c.answer_input-in-Some-Decode.ensures.read_fault_text
    c.answer_input-in-Some-Decode.ensures.write_fault c.answer_input-in-Some-Decode.ensures.source_faults c.answer_input-in-Some-Decode.ensures.sink_faults)

pub returns-in-Some-Claims-clause-ends : goal.returns-in-Some-Claims-clause-ends
returns-in-Some-Claims-clause-ends g c =
    let ask = c.in-Some-Claims.ask in
    let is : c.args.command ≡ Some (Claims ask) = search rules in
    let o = returns-in-Some-Claims-clause-obeyed g c in
    let takes : takes_nothing c.args.command ≡ false = rw is refl in
    rw is
    (ends_answered (Some (Claims ask)) _ _ _ _ _ _ _ refl c.answer_input-in-Some-Claims.ensures.statuses (at_end c.args.command o.0 _ _ _ _ _ o.1 takes) c.answer_input-in-Some-Claims.ensures.read_fault c.answer_input-in-Some-Claims.ensures.read_fault_text
    c.answer_input-in-Some-Claims.ensures.write_fault c.answer_input-in-Some-Claims.ensures.source_faults c.answer_input-in-Some-Claims.ensures.sink_faults)

pub returns-in-Some-Audit-clause-ends : goal.returns-in-Some-Audit-clause-ends
returns-in-Some-Audit-clause-ends g c =
    let is : c.args.command ≡ Some Audit = search rules in
    let o = returns-in-Some-Audit-clause-obeyed g c in
    let takes : takes_nothing c.args.command ≡ false = rw is refl in
    rw is
    (ends_answered (Some Audit) _ _ _ _ _ _ _ refl c.answer_input-in-Some-Audit.ensures.statuses (at_end c.args.command o.0 _ _ _ _ _ o.1 takes) c.answer_input-in-Some-Audit.ensures.read_fault c.answer_input-in-Some-Audit.ensures.read_fault_text
    c.answer_input-in-Some-Audit.ensures.write_fault c.answer_input-in-Some-Audit.ensures.source_faults c.answer_input-in-Some-Audit.ensures.sink_faults)

pub returns-in-Some-Make-clause-ends : goal.returns-in-Some-Make-clause-ends
returns-in-Some-Make-clause-ends g c =
    let is : c.args.command ≡ Some (Make c.in-Some-Make.draft) = search rules in
    rw is (ends_told (Some (Make c.in-Some-Make.draft)) _ _ 0 _ _ refl (omega arith) c.tell_made.ensures.statuses c.tell_made.ensures.write_fault c.tell_made.ensures.sink_faults)

pub returns-in-Some-Sum-clause-ends : goal.returns-in-Some-Sum-clause-ends
returns-in-Some-Sum-clause-ends g c =
    let is : c.args.command ≡ Some (Sum c.in-Some-Sum.draft) = search rules in
    rw is (ends_told (Some (Sum c.in-Some-Sum.draft)) _ _ 0 _ _ refl (omega arith) c.tell_made-in-Some-Sum.ensures.statuses c.tell_made-in-Some-Sum.ensures.write_fault c.tell_made-in-Some-Sum.ensures.sink_faults)

pub returns-in-Some-Node-clause-ends : goal.returns-in-Some-Node-clause-ends
returns-in-Some-Node-clause-ends g c =
    let is : c.args.command ≡ Some (Node c.in-Some-Node.turns) = search rules in
    let o = c.run_node.ensures.obeyed in
    rw is
    (ends_served (Some (Node c.in-Some-Node.turns)) _ _ _ _ _ _ _ _ _ _ refl refl c.run_node.ensures.statuses (at_end _ o.0 _ _ _ _ _ o.1 refl) c.run_node.ensures.read_fault
    c.run_node.ensures.read_fault_text c.run_node.ensures.write_fault c.run_node.ensures.link_fault c.run_node.ensures.no_fewer)

pub returns-in-Some-Hub-clause-ends : goal.returns-in-Some-Hub-clause-ends
returns-in-Some-Hub-clause-ends g c =
    let is : c.args.command ≡ Some (Hub c.in-Some-Hub.turns) = search rules in
    let o = c.run_hub.ensures.obeyed in
    rw is
    (ends_served (Some (Hub c.in-Some-Hub.turns)) _ _ _ _ _ _ _ _ _ _ refl refl c.run_hub.ensures.statuses (at_end _ o.0 _ _ _ _ _ o.1 refl) c.run_hub.ensures.read_fault
    c.run_hub.ensures.read_fault_text c.run_hub.ensures.write_fault c.run_hub.ensures.link_fault c.run_hub.ensures.no_fewer)
