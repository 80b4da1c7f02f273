use Rattle.std.proofs.Common.{◌≡◌, map, string_bytes, ◌∙◌}
use Rattle.mip_top.specs.Answers.{answer_of}
use Rattle.mip_top.proofs.EndingLaws.{output_of}
use Rattle.mip_top.proofs.in_memory.mip_in_memory.Goals as goal

pub returns : goal.returns
returns c =
    let text : c.in_ok-text.text ≡ c.tell_in_memory.new.sink = c.in_ok-text.ensures ∙ c.bytes.ensures in
    output_of (answer_of (map string_bytes c.args.words.now) c.args.input.now) c.in_ok-status.status.0 c.in_ok-text.text c.in_ok-status.ensures.sure
    (rw text (rw c.in_ok-sink.ensures at c.in_ok-status.ensures.told))
