-- What every schedule keeps: its spelling is read as what it holds, part by part.
use Rattle.std.specs.Prelude.{[], Bool, true, false, Result, Ok, Err}
use Rattle.mip_schedule.specs.Contents.{Content}
use Rattle.mip_schedule.specs.Faults.{Wrong}
use Rattle.mip_schedule.specs.Reading.{reading}
use Rattle.mip_schedule.specs.Spelling.{spelling}

abbrev pub is_read : Result Content Wrong → Bool
is_read (Ok content) = true
is_read (Err wrong) = false

-- what was read
abbrev pub held : Result Content Wrong → Content
held (Ok content) = content
held (Err wrong) = record { version = 0; seed = []; start = record { 0 = 0 }; declarations = []; events = [] }

-- what the spelling is read as
abbrev pub again : Content → Content
again content = held (reading (spelling content))

-- the spelling is a schedule's
abbrev pub is_accepted : Content → Bool
is_accepted content = is_read (reading (spelling content))
