-- What is answered to a question of what was known, and to words that are no form.
use Rattle.std.specs.Prelude.{ℕ, List, [], ◌∷◌, ◌++◌, length, take, Option, Some, None, Result, Ok, Err, ◌==◌, nat_lt, if◌then◌else◌, codes}
use Rattle.mip_words.specs.declared.ids.NodeId.{NodeId}
use Rattle.mip_symbols.specs.Kinds as kinds
use Rattle.mip_symbols.specs.Names.{name_bytes}
use Rattle.mip_symbols.specs.declared.name.Name.{Name}
use Rattle.mip_symbols.specs.declared.places.Sort.TheVariants as sorts
use Rattle.mip_symbols.specs.declared.reason.Reason.{Reason}
use Rattle.mip_schedule.specs.Contents.{Content}
use Rattle.mip_schedule.specs.Faults.{Wrong}
use Rattle.mip_schedule.specs.Reading.{reading}
use Rattle.mip_audit.specs.Cutting.{cut_text}
use Rattle.mip_replies.specs.Permitted.{permitted}
use Rattle.mip_replies.specs.Answers.{Answer, bad_answer, long_answer, audit_answer}
use Rattle.mip_past.specs.declared.past.Past.{Past}
use Rattle.mip_past_led.specs.Leading.{LedSeen, led_to}
use Rattle.mip_past_text.specs.Text.{Front, known_text}
use Rattle.mip_past_top.specs.declared.ask.Ask.{Ask}

abbrev pub usage_answer : Answer
usage_answer = record { status = 1; text = codes "usage: mip-past LINE [NODE]" ++ 10 ∷ [] }

-- what lies before a place of the history of a schedule, and the run that is led along
abbrev pub front_by : Content → Past → LedSeen → Front
front_by c p led = record { version = c.version; start = p.start.0; events = c.events; past = p.entries.now; led = led }

-- the history of a schedule before the place
abbrev pub front_at : Content → ℕ → Front
front_at c line = record { version = c.version; start = c.start.0; events = c.events; past = take line (permitted c); led = led_to c line }

abbrev pub known_answer : ℕ → Content → Option NodeId → Answer
known_answer line c node = record { status = 0; text = known_text c.declarations (front_at c line) node }

-- a name that no node has is told as that of a line 0
abbrev pub named_answer : ℕ → Content → Result NodeId Reason → Answer
named_answer line c (Ok node) = known_answer line c (Some node)
named_answer line c (Err why) = bad_answer 0 why

abbrev pub asked_answer : ℕ → Content → Option Name → Answer
asked_answer line c None = known_answer line c None
asked_answer line c (Some name) = named_answer line c (kinds.node sorts.Node c.declarations (name_bytes name))

abbrev pub read_answer : Ask → Result Content Wrong → Answer
read_answer ask (Ok c) = asked_answer ask.line c ask.node
read_answer ask (Err wrong) = bad_answer wrong.line wrong.why

-- an audit comes first; where it says no, that is the answer
abbrev pub behind_audit : Ask → Answer → Option (List ℕ × List ℕ) → Answer
behind_audit ask audit None = audit
behind_audit ask audit (Some p) = if audit.status == 0 then read_answer ask (reading p.0) else audit

abbrev pub past_answer : Ask → List ℕ → Answer
past_answer ask bytes = if nat_lt 16777216 (length bytes) then long_answer else behind_audit ask (audit_answer bytes) (cut_text bytes)
