-- What is to be written in reply to an input, and the status that comes with it.
use Rattle.std.specs.Prelude.{ℕ, List, [], ◌∷◌, ◌++◌, ◌||◌, length, Bool, None, Some, Result, Ok, Err, nat_lt, codes, decimal, if◌then◌else◌}
use Rattle.std.specs.declared.option.Option.{Option}
use Rattle.mip_words.specs.declared.address.Address.{Address}
use Rattle.mip_commands.specs.declared.draft.Draft.{Draft}
use Rattle.mip_replies.specs.declared.input_form.InputForm.{InputForm}
use Rattle.mip_replies.specs.declared.input_form.InputForm.TheVariants as forms
use Rattle.mip_replies.specs.declared.told_run.ToldRun.{ToldRun}
use Rattle.mip_replies.specs.declared.told_run.ToldRun.TheVariants.{Trace, Claims}
use Rattle.mip_replies.specs.declared.product.Product.{Product}
use Rattle.mip_replies.specs.declared.product.Product.TheVariants as products
use Rattle.mip_ipv6.specs.declared.not_packet.NotPacket.{NotPacket}
use Rattle.mip_explain.specs.Words.{refusal_word}
use Rattle.mip_explain.specs.Listing.{listing_of}
use Rattle.mip_lines.specs.Cutting.{parts}
use Rattle.mip_lines.specs.Lines.{line_text}
use Rattle.mip_schedule.specs.Contents.{Content}
use Rattle.mip_schedule.specs.Faults.{Wrong}
use Rattle.mip_schedule.specs.Reading.{reading}
use Rattle.mip_schedule.specs.Spelling.{spelling}
use Rattle.mip_symbols.specs.declared.reason.Reason.{Reason}
use Rattle.mip_symbols.specs.declared.reason.Reason.TheVariants as reasons
use Rattle.mip_replay.specs.Permitted.{permitted}
use Rattle.mip_trace.specs.Lines.{trace_text}
use Rattle.mip_proxynd.specs.Text.{claims_text}
use Rattle.mip_audit.specs.Cutting.{cut_text}
use Rattle.mip_audit.specs.Differences.{difference}
use Rattle.mip_make.specs.Made.{made}
use Rattle.mip_make.specs.Summaries.{summary_text}
use Rattle.mip_replies.specs.Lengths.{event_lines, line_ends}
use Rattle.mip_replies.specs.Words.{reason_word}

pub record Answer : Type 0 where
  pub status : ℕ
  pub text : List ℕ

-- the input has more than 16,777,216 bytes, or a schedule more than 20,000 lines of events
abbrev pub long_answer : Answer
long_answer = record { status = 6; text = codes "long" ++ 10 ∷ [] }

-- the first bad line, and why
unfoldable pub bad_text : ℕ → Reason → List ℕ
bad_text line why = line_text (codes "bad" ∷ decimal line ∷ reason_word why ∷ [])

abbrev pub bad_answer : ℕ → Reason → Answer
bad_answer line why = record { status = 2; text = bad_text line why }

-- the trace of a schedule: the text of its permitted history
abbrev pub trace_of : Content → List ℕ
trace_of c = trace_text (Some c.declarations) (permitted c)

-- what the claims of that history are on a link, and who holds an address that is asked for
abbrev pub claims_of : Option Address → Content → List ℕ
claims_of ask c = claims_text c.declarations (permitted c) ask

abbrev pub text_told : ToldRun → Content → List ℕ
text_told Trace c = trace_of c
text_told (Claims ask) c = claims_of ask c

abbrev pub told_answer : ToldRun → Result Content Wrong → Answer
told_answer told (Ok c) = record { status = 0; text = text_told told c }
told_answer told (Err wrong) = bad_answer wrong.line wrong.why

abbrev pub schedule_answer : ToldRun → List ℕ → Answer
schedule_answer told bytes = if nat_lt 20000 (event_lines bytes) then long_answer else told_answer told (reading bytes)

-- the listing of the packet, or why the bytes are none
abbrev pub listing_answer : Result (List ℕ) NotPacket → Answer
listing_answer (Ok text) = record { status = 0; text = text }
listing_answer (Err refusal) = record { status = 8; text = codes "drop " ++ (refusal_word refusal ++ 10 ∷ []) }

-- the first line that differs
unfoldable pub no_text : ℕ → List ℕ
no_text line = line_text (codes "no" ∷ decimal line ∷ [])

-- a trace differs from the permitted one in no line, or in this one first
abbrev pub verdict_answer : Option ℕ → Answer
verdict_answer None = record { status = 0; text = codes "yes" ++ 10 ∷ [] }
verdict_answer (Some line) = record { status = 9; text = no_text line }

-- a trace is compared with that of the schedule
abbrev pub compared_answer : List ℕ → Result Content Wrong → Answer
compared_answer trace (Ok c) = verdict_answer (difference trace (trace_of c))
compared_answer trace (Err wrong) = bad_answer wrong.line wrong.why

-- no line is `trace`: a schedule that is right lacks it behind its last line
abbrev pub uncut_answer : List ℕ → Result Content Wrong → Answer
uncut_answer text (Ok c) = bad_answer (length (parts 10 text)) reasons.Form
uncut_answer text (Err wrong) = bad_answer wrong.line wrong.why

-- an audit has at most 2,000 lines of events and 20,000 of the trace
abbrev pub is_long_audit : List ℕ → List ℕ → Bool
is_long_audit schedule trace = nat_lt 2000 (event_lines schedule) || nat_lt 20000 (line_ends trace)

-- for the schedule and the trace of these bytes, if they have a line `trace`
abbrev pub cut_answer : List ℕ → Option (List ℕ × List ℕ) → Answer
cut_answer bytes (Some p) = if is_long_audit p.0 p.1 then long_answer else compared_answer p.1 (reading p.0)
cut_answer bytes None = if is_long_audit bytes [] then long_answer else uncut_answer bytes (reading bytes)

unfoldable pub audit_answer : List ℕ → Answer
audit_answer bytes = cut_answer bytes (cut_text bytes)

-- for a form that reads the input, and its bytes
unfoldable pub input_answer : InputForm → List ℕ → Answer
input_answer (forms.Schedule told) bytes = schedule_answer told bytes
input_answer forms.Packet bytes = listing_answer (listing_of bytes)
input_answer forms.Audit bytes = audit_answer bytes

abbrev pub form_answer : InputForm → List ℕ → Answer
form_answer form bytes = if nat_lt 16777216 (length bytes) then long_answer else input_answer form bytes

-- the schedule of a seed and a count, or the summary of its permitted history
abbrev pub product_text : Product → Content → List ℕ
product_text products.Schedule c = spelling c
product_text products.Summary c = summary_text (length c.events) (permitted c)

unfoldable pub made_answer : Product → Draft → Answer
made_answer product draft = record { status = 0; text = product_text product (made draft.seed draft.count) }
