-- What an audit says of the trace that it is given.
use Rattle.std.specs.Prelude.{◌≡◌, ℕ, ◌<◌, ◌≤◌, ◌⊎◌, List, [], ◌∷◌, ◌++◌, length, Some, None, Ok, Err, codes}
use Rattle.std.specs.declared.option.Option.{Option}
use Rattle.std.specs.Io.KnownBytes.{append_known}
use Rattle.mip_schedule.specs.Contents.{Content}
use Rattle.mip_schedule.specs.Faults.{Wrong}
use Rattle.mip_schedule.specs.Reading.{reading}
use Rattle.mip_replay.specs.Setup.{setup_of}
use Rattle.mip_replay.specs.Permitted.{permitted}
use Rattle.mip_replay.specs.Marked.{EachIsMarked}
use Rattle.mip_audit.specs.Cutting.{cut_text}
use Rattle.mip_audit.specs.Differences.{DifferFirstAt}
use Rattle.mip_replies.specs.Answers.{trace_of, no_text}
use Rattle.mip_replies.specs.Lengths.{event_lines, line_ends}
use Rattle.mip_replies.specs.Told.{IsConclusive}

-- the bytes are a schedule, a line `trace` and a trace
pub record IsSubmitted (bytes : List ℕ) (c : Content) (trace : List ℕ) : Type 0 where
  pub text : List ℕ
  pub cut : cut_text bytes ≡ Some (text, trace)
  pub read : reading text ≡ Ok c

-- and they are within the bounds of an audit
pub record IsSubmittedWithin (bytes : List ℕ) (c : Content) (trace : List ℕ) : Type 0 where
  pub submitted : IsSubmitted bytes c trace
  pub bytes_fit : length bytes ≤ 16777216
  pub events_fit : event_lines submitted.text ≤ 2000
  pub lines_fit : line_ends trace ≤ 20000

-- the trace is the text of the permitted history of its schedule, and in that each acceptance has its mark
pub record IsGenuine (bytes : List ℕ) : Type 0 where
  pub schedule : Content
  pub trace : List ℕ
  pub submitted : IsSubmitted bytes schedule trace
  pub same : trace ≡ trace_of schedule
  pub marked : EachIsMarked (setup_of schedule) (permitted schedule)

-- the trace differs from that text in this line first
pub record IsApartAt (bytes : List ℕ) (line : ℕ) : Type 0 where
  pub schedule : Content
  pub trace : List ℕ
  pub submitted : IsSubmitted bytes schedule trace
  pub first : DifferFirstAt line trace (trace_of schedule)

-- they are past a bound of an audit: of the bytes, of the lines of events of the schedule, which is all where no line is `trace`, or
-- of the lines of the trace
pub data IsPastBounds (bytes : List ℕ) : Type 0 where
  InBytes : 16777216 < length bytes → IsPastBounds bytes
  InEvents : (text trace : List ℕ) → cut_text bytes ≡ Some (text, trace) → 2000 < event_lines text → IsPastBounds bytes
  InLines : (text trace : List ℕ) → cut_text bytes ≡ Some (text, trace) → 20000 < line_ends trace → IsPastBounds bytes
  InEventsAlone : cut_text bytes ≡ None → 2000 < event_lines bytes → IsPastBounds bytes

-- no trace can be judged in them: no line is `trace`, or what stands before it is no schedule
pub data IsNothingToJudge (bytes : List ℕ) : Type 0 where
  NoTrace : cut_text bytes ≡ None → IsNothingToJudge bytes
  NoSchedule : (text trace : List ℕ) (wrong : Wrong) → cut_text bytes ≡ Some (text, trace) → reading text ≡ Err wrong → IsNothingToJudge bytes

-- what the status of an audit says, and what the sink held before and holds now
pub record IsAudited (bytes : List ℕ) (given : ℕ) (old new : Option (List ℕ)) : Type 0 where
  pub yes : given ≡ 0 → IsGenuine bytes × (new ≡ append_known old (codes "yes" ++ 10 ∷ []))
  pub no : given ≡ 9 → (line : ℕ) × IsApartAt bytes line × (new ≡ append_known old (no_text line))
  -- no trace of a permitted history within the bounds is refused, unless a call failed or memory ran out
  pub permitted : (c : Content) (trace : List ℕ) → IsSubmittedWithin bytes c trace → trace ≡ trace_of c → IsConclusive given → given ≡ 0
  -- past a bound it is refused as `long`, and nothing else is
  pub long : IsPastBounds bytes → IsConclusive given → (given ≡ 6) × (new ≡ append_known old (codes "long" ++ 10 ∷ []))
  pub only_long : given ≡ 6 → IsPastBounds bytes
  -- it is bad only where there is nothing to judge
  pub bad : given ≡ 2 → IsNothingToJudge bytes
  -- there is no other status, unless a call failed or memory ran out
  pub statuses : IsConclusive given → (given ≡ 0) ⊎ ((given ≡ 9) ⊎ ((given ≡ 2) ⊎ (given ≡ 6)))
