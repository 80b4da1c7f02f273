-- What the program is to write, and the status that it ends with, for its words and its input.
use Rattle.std.specs.Prelude.{ℕ, List, ◌∷◌, ◌++◌, [], length, Bool, true, false, None, Some, Result, Ok, Err, nat_lt, codes, if◌then◌else◌}
use Rattle.std.specs.declared.option.Option.{Option}
use Rattle.mip_commands.specs.Commands.{command_of}
use Rattle.mip_commands.specs.declared.command.Command.{Command}
use Rattle.mip_commands.specs.declared.command.Command.TheVariants.{Replay, Decode, Claims, Audit, Make, Sum, Node, Hub}
use Rattle.mip_schedule.specs.Faults.{Wrong}
use Rattle.mip_config.specs.Reading as nodes
use Rattle.mip_hub.specs.Reading as hubs
use Rattle.mip_replies.specs.Answers.{Answer, form_answer, made_answer, long_answer, bad_answer}
use Rattle.mip_replies.specs.declared.input_form.InputForm.TheVariants as forms
use Rattle.mip_replies.specs.declared.told_run.ToldRun.TheVariants as runs
use Rattle.mip_replies.specs.declared.product.Product.TheVariants as products

-- the words are no form
abbrev pub usage_answer : Answer
usage_answer = record { status = 1; text = codes "usage: mip COMMAND" ++ 10 ∷ [] }

-- a configuration, unless it is refused
abbrev pub if_right : {X : Type 0} → Result X Wrong → Option X
if_right (Ok content) = Some content
if_right (Err wrong) = None

abbrev pub if_wrong : {X : Type 0} → Result X Wrong → Option Answer
if_wrong (Ok content) = None
if_wrong (Err wrong) = Some (bad_answer wrong.line wrong.why)

-- the configuration of these bytes, which are read so
abbrev pub configured : {X : Type 0} → (List ℕ → Result X Wrong) → List ℕ → Option X
configured reading bytes = if nat_lt 16777216 (length bytes) then None else if_right (reading bytes)

-- what is answered in place of a run where they are none
abbrev pub refusal : {X : Type 0} → (List ℕ → Result X Wrong) → List ℕ → Option Answer
refusal reading bytes = if nat_lt 16777216 (length bytes) then Some long_answer else if_wrong (reading bytes)

-- the answer to a command and the bytes of the input; none where a node or a hub is run by them
abbrev pub command_answer : Command → List ℕ → Option Answer
command_answer Replay bytes = Some (form_answer (forms.Schedule runs.Trace) bytes)
command_answer Decode bytes = Some (form_answer forms.Packet bytes)
command_answer (Claims ask) bytes = Some (form_answer (forms.Schedule (runs.Claims ask)) bytes)
command_answer Audit bytes = Some (form_answer forms.Audit bytes)
command_answer (Make draft) bytes = Some (made_answer products.Schedule draft)
command_answer (Sum draft) bytes = Some (made_answer products.Summary draft)
command_answer (Node turns) bytes = refusal nodes.reading bytes
command_answer (Hub turns) bytes = refusal hubs.reading bytes

abbrev pub answer_to : Option Command → List ℕ → Option Answer
answer_to None bytes = Some usage_answer
answer_to (Some command) bytes = command_answer command bytes

-- the answer to the words of the command line and the bytes of the input
abbrev pub answer_of : List (List ℕ) → List ℕ → Option Answer
answer_of words bytes = answer_to (command_of words) bytes

-- the words ask for what takes nothing from the input
abbrev pub takes_nothing : Option Command → Bool
takes_nothing None = true
takes_nothing (Some (Make draft)) = true
takes_nothing (Some (Sum draft)) = true
takes_nothing (Some _) = false

-- the words ask for the run of a node or of a hub
abbrev pub serves : Option Command → Bool
serves (Some (Node turns)) = true
serves (Some (Hub turns)) = true
serves _ = false
