-- A schedule in memory, seen as what it holds.
use Rattle.mip_schedule.specs.Contents.{Content}
use Rattle.mip_schedule.specs.declared.parts.Parts.{Parts}
use Rattle.mip_schedule.specs.declared.schedule.Schedule.{Schedule}

abbrev pub content : Schedule → Content
content s = record { version = s.version; seed = s.seed; start = s.start; declarations = s.declarations; events = s.events }

abbrev pub parts_content : Parts → Content
parts_content p = record { version = p.version; seed = p.seed; start = p.start; declarations = p.declarations; events = p.events }
