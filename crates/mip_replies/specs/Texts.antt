-- A text that is to be written, as it is kept.
use Rattle.std.specs.Prelude.{ℕ, List}
use Rattle.mip_schedule.specs.Schedules.{content}
use Rattle.mip_replies.specs.Answers.{text_told}
use Rattle.mip_replies.specs.declared.text.Text.{Text}
use Rattle.mip_replies.specs.declared.text.Text.TheVariants.{Whole, Run}

-- a text that stands in memory, or what is told of a schedule's run
abbrev pub text_of : Text → List ℕ
text_of (Whole bytes) = bytes
text_of (Run told schedule) = text_told told (content schedule)
