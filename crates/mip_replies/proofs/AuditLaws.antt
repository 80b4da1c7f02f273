-- What an audit's answer says of the trace that it is given.
use Rattle.std.proofs.Common.{◌≡◌, ◌≢◌, ℕ, ◌⊎◌, inl, inr, Bool, true, false, cond, refl, ap, ◌∙◌, subst, sym, arith, List, [], ◌∷◌, ◌++◌, length, codes}
use Rattle.std.specs.Prelude.{Option, Some, None, Result, Ok, Err, nat_lt, ◌||◌}
use Rattle.std.proofs.lemmas.Bool.{le-ltb, lt-ltb, ltb-true}
use Rattle.std.specs.Io.KnownBytes.{append_known}
use Rattle.mip_lines.specs.Cutting.{parts}
use Rattle.mip_schedule.specs.Contents.{Content}
use Rattle.mip_schedule.specs.Faults.{Wrong}
use Rattle.mip_schedule.specs.Reading.{reading}
use Rattle.mip_replay.specs.Setup.{setup_of}
use Rattle.mip_replay.specs.Permitted.{permitted}
use Rattle.mip_replay.specs.Marked.{EachIsMarked}
use Rattle.mip_audit.specs.Cutting.{cut_text}
use Rattle.mip_audit.specs.Differences.{difference}
use Rattle.mip_audit.specs.DifferencesLaws.{IsJudgedSo}
use Rattle.mip_replies.specs.Answers.{Answer, audit_answer, compared_answer, cut_answer, form_answer, input_answer, is_long_audit, long_answer, no_text, trace_of, uncut_answer, verdict_answer}
use Rattle.mip_replies.specs.Audits.{IsSubmitted, IsSubmittedWithin, IsGenuine, IsApartAt, IsPastBounds, InBytes, InEvents, InLines, InEventsAlone, IsNothingToJudge, NoTrace, NoSchedule, IsAudited}
use Rattle.mip_replies.specs.Lengths.{event_lines, line_ends}
use Rattle.mip_replies.specs.Told.{Told, Says, IsConclusive}
use Rattle.mip_replies.specs.declared.input_form.InputForm.TheVariants as forms

-- a yes, a no, or no verdict
abbrev Verdict : List ℕ → Answer → Type 0
Verdict bytes a =
    ((a ≡ verdict_answer None) × IsGenuine bytes)
    ⊎ (((line : ℕ) × (a ≡ verdict_answer (Some line)) × IsApartAt bytes line) ⊎ (((a.status ≡ 2) × IsNothingToJudge bytes) ⊎ ((a.status ≡ 6) × IsPastBounds bytes)))

-- a bound is passed where the test of it says so
either_past : (X : Type 0) (a b : Bool) → (a || b) ≡ true → (a ≡ true → X) → (b ≡ true → X) → X
either_past X true b test first second = first refl
either_past X false b test first second = second test

no_lines : line_ends [] ≡ 0
unfolding parts
no_lines = refl

module _ (marked : (text : List ℕ) (c : Content) → reading text ≡ Ok c → EachIsMarked (setup_of c) (permitted c))
    (judged : (given other : List ℕ) → IsJudgedSo (difference given other) given other) (bytes : List ℕ) where
  by_difference : (c : Content) (trace : List ℕ) → IsSubmitted bytes c trace → (o : Option ℕ) → difference trace (trace_of c) ≡ o → Verdict bytes (verdict_answer o)
  by_difference c trace s None is = inl (
    refl,
    record {
      schedule = c;
      trace = trace;
      submitted = s;
      same = subst (λ (o : Option ℕ). IsJudgedSo o trace (trace_of c)) is (judged trace (trace_of c));
      marked = marked s.text c s.read;
    },
  )
  by_difference c trace s (Some line) is = inr (inl (
    line,
    refl,
    record {
      schedule = c;
      trace = trace;
      submitted = s;
      first = subst (λ (o : Option ℕ). IsJudgedSo o trace (trace_of c)) is (judged trace (trace_of c));
    },
  ))

  by_reading : (text trace : List ℕ) → cut_text bytes ≡ Some (text, trace) → (r : Result Content Wrong) → reading text ≡ r → Verdict bytes (compared_answer trace r)
  by_reading text trace cut (Ok c) is = by_difference c trace (record { text = text; cut = cut; read = is }) (difference trace (trace_of c)) refl
  by_reading text trace cut (Err wrong) is = inr (inr (inl (refl, NoSchedule text trace wrong cut is)))

  uncut : cut_text bytes ≡ None → (r : Result Content Wrong) → Verdict bytes (uncut_answer bytes r)
  uncut cut (Ok c) = inr (inr (inl (refl, NoTrace cut)))
  uncut cut (Err wrong) = inr (inr (inl (refl, NoTrace cut)))

  if_long : (b : Bool) (a : Answer) → (b ≡ true → IsPastBounds bytes) → Verdict bytes a → Verdict bytes (cond b long_answer a)
  if_long true a past is = inr (inr (inr (refl, past refl)))
  if_long false a past is = is

  past_alone : cut_text bytes ≡ None → is_long_audit bytes [] ≡ true → IsPastBounds bytes
  past_alone cut test =
      either_past (IsPastBounds bytes) (nat_lt 2000 (event_lines bytes)) (nat_lt 20000 (line_ends [])) test (λ more. InEventsAlone cut (ltb-true 2000 (event_lines bytes) more))
      (λ more. absurd (let less = ltb-true 20000 (line_ends []) more in omega (arith, less, no_lines)))

  past_both : (text trace : List ℕ) → cut_text bytes ≡ Some (text, trace) → is_long_audit text trace ≡ true → IsPastBounds bytes
  past_both text trace cut test =
      either_past (IsPastBounds bytes) (nat_lt 2000 (event_lines text)) (nat_lt 20000 (line_ends trace)) test (λ more. InEvents text trace cut (ltb-true 2000 (event_lines text) more))
      (λ more. InLines text trace cut (ltb-true 20000 (line_ends trace) more))

  by_cut : (o : Option (List ℕ × List ℕ)) → cut_text bytes ≡ o → Verdict bytes (cut_answer bytes o)
  by_cut None is = if_long (is_long_audit bytes []) (uncut_answer bytes (reading bytes)) (past_alone is) (uncut is (reading bytes))
  by_cut (Some p) is = if_long (is_long_audit p.0 p.1) (compared_answer p.1 (reading p.0)) (past_both p.0 p.1 is) (by_reading p.0 p.1 is (reading p.0) refl)

  verdict : Verdict bytes (form_answer forms.Audit bytes)
  unfolding input_answer audit_answer
  verdict = if_long (nat_lt 16777216 (length bytes)) (cut_answer bytes (cut_text bytes)) (λ more. InBytes (ltb-true 16777216 (length bytes) more)) (by_cut (cut_text bytes) refl)

-- what was given and written says this
module _ (bytes : List ℕ) (given : ℕ) (old new : Option (List ℕ)) (a : Answer) (says : Says a given old new) where
  yes_of : Verdict bytes a → given ≡ 0 → IsGenuine bytes × (new ≡ append_known old (codes "yes" ++ 10 ∷ []))
  yes_of (inl k) zero = (k.1, says.1 ∙ ap (λ (x : Answer). append_known old x.text) k.0)
  yes_of (inr (inl k)) zero = absurd (omega (arith, zero, says.0, ap (λ (x : Answer). x.status) k.1))
  yes_of (inr (inr (inl k))) zero = absurd (omega (arith, zero, says.0, k.0))
  yes_of (inr (inr (inr k))) zero = absurd (omega (arith, zero, says.0, k.0))

  no_of : Verdict bytes a → given ≡ 9 → (line : ℕ) × IsApartAt bytes line × (new ≡ append_known old (no_text line))
  no_of (inl k) nine = absurd (omega (arith, nine, says.0, ap (λ (x : Answer). x.status) k.0))
  no_of (inr (inl k)) nine = (k.0, k.2, says.1 ∙ ap (λ (x : Answer). append_known old x.text) k.1)
  no_of (inr (inr (inl k))) nine = absurd (omega (arith, nine, says.0, k.0))
  no_of (inr (inr (inr k))) nine = absurd (omega (arith, nine, says.0, k.0))

  long_of : Verdict bytes a → given ≡ 6 → IsPastBounds bytes
  long_of (inl k) six = absurd (omega (arith, six, says.0, ap (λ (x : Answer). x.status) k.0))
  long_of (inr (inl k)) six = absurd (omega (arith, six, says.0, ap (λ (x : Answer). x.status) k.1))
  long_of (inr (inr (inl k))) six = absurd (omega (arith, six, says.0, k.0))
  long_of (inr (inr (inr k))) six = k.1

  bad_of : Verdict bytes a → given ≡ 2 → IsNothingToJudge bytes
  bad_of (inl k) two = absurd (omega (arith, two, says.0, ap (λ (x : Answer). x.status) k.0))
  bad_of (inr (inl k)) two = absurd (omega (arith, two, says.0, ap (λ (x : Answer). x.status) k.1))
  bad_of (inr (inr (inl k))) two = k.1
  bad_of (inr (inr (inr k))) two = absurd (omega (arith, two, says.0, k.0))

  status_of : Verdict bytes a → (given ≡ 0) ⊎ ((given ≡ 9) ⊎ ((given ≡ 2) ⊎ (given ≡ 6)))
  status_of (inl k) = inl (says.0 ∙ ap (λ (x : Answer). x.status) k.0)
  status_of (inr (inl k)) = inr (inl (says.0 ∙ ap (λ (x : Answer). x.status) k.1))
  status_of (inr (inr (inl k))) = inr (inr (inl (says.0 ∙ k.0)))
  status_of (inr (inr (inr k))) = inr (inr (inr (says.0 ∙ k.0)))

-- past a bound the answer is `long`
still_long : (b : Bool) (a : Answer) → a ≡ long_answer → cond b long_answer a ≡ long_answer
still_long true a is = refl
still_long false a is = is

both_long : (bytes : List ℕ) (o : Option (List ℕ × List ℕ)) → cut_text bytes ≡ o → cut_answer bytes o ≡ long_answer → form_answer forms.Audit bytes ≡ long_answer
unfolding input_answer audit_answer
both_long bytes o cut is = still_long (nat_lt 16777216 (length bytes)) (cut_answer bytes (cut_text bytes)) (ap (cut_answer bytes) cut ∙ is)

first_so : (a b : Bool) → a ≡ true → (a || b) ≡ true
first_so true b is = refl
first_so false b is = absurd cc

second_so : (a b : Bool) → b ≡ true → (a || b) ≡ true
second_so true b is = refl
second_so false b is = is

past_is_long : (bytes : List ℕ) → IsPastBounds bytes → form_answer forms.Audit bytes ≡ long_answer
past_is_long bytes (InBytes less) = ap (λ (b : Bool). cond b long_answer (input_answer forms.Audit bytes)) (lt-ltb 16777216 (length bytes) less)
past_is_long bytes (InEvents text trace cut less) =
    both_long bytes (Some (text, trace)) cut
    (ap (λ (b : Bool). cond b long_answer (compared_answer trace (reading text))) (first_so (nat_lt 2000 (event_lines text)) (nat_lt 20000 (line_ends trace)) (lt-ltb 2000 (event_lines text) less)))
past_is_long bytes (InLines text trace cut less) =
    both_long bytes (Some (text, trace)) cut
    (ap (λ (b : Bool). cond b long_answer (compared_answer trace (reading text))) (second_so (nat_lt 2000 (event_lines text)) (nat_lt 20000 (line_ends trace)) (lt-ltb 20000 (line_ends trace) less)))
past_is_long bytes (InEventsAlone cut less) =
    both_long bytes None cut
    (ap (λ (b : Bool). cond b long_answer (uncut_answer bytes (reading bytes))) (first_so (nat_lt 2000 (event_lines bytes)) (nat_lt 20000 (line_ends [])) (lt-ltb 2000 (event_lines bytes) less)))

-- a permitted trace within the bounds is answered with yes
accepted : ((text : List ℕ) → difference text text ≡ None) → (bytes : List ℕ) (c : Content) (trace : List ℕ) → IsSubmittedWithin bytes c trace → trace ≡ trace_of c
    → (form_answer forms.Audit bytes).status ≡ 0
unfolding input_answer audit_answer
accepted itself bytes c trace w same =
    rw (
      le-ltb 16777216 (length bytes) w.bytes_fit,
      w.submitted.cut,
      le-ltb 2000 (event_lines w.submitted.text) w.events_fit,
      le-ltb 20000 (line_ends trace) w.lines_fit,
      w.submitted.read,
    ) (ap (λ (t : List ℕ). (verdict_answer (difference t (trace_of c))).status) same ∙ ap (λ (o : Option ℕ). (verdict_answer o).status) (itself (trace_of c)))

conclusive_at : (n : ℕ) → n ≢ 3 → n ≢ 4 → n ≢ 5 → n ≢ 7 → IsConclusive n
conclusive_at n three four five seven = record { no_read_fault = three; no_write_fault = four; no_want_of_memory = five; no_link_fault = seven }

conclusive_by : (n m : ℕ) → n ≡ m → IsConclusive m → IsConclusive n
conclusive_by n m same is = subst IsConclusive (sym same) is

pub audited : ((text : List ℕ) (c : Content) → reading text ≡ Ok c → EachIsMarked (setup_of c) (permitted c))
    → ((given other : List ℕ) → IsJudgedSo (difference given other) given other) → ((text : List ℕ) → difference text text ≡ None)
    → (bytes : List ℕ) (given : ℕ) (old new : Option (List ℕ)) → Told (form_answer forms.Audit bytes) given old new → IsAudited bytes given old new
audited marked judged itself bytes given old new told = record {
  yes = λ zero. yes_of bytes given old new _ (told.conclusive (conclusive_by given 0 zero (conclusive_at 0 (omega arith) (omega arith) (omega arith) (omega arith)))) (verdict marked judged bytes) zero;
  no = λ nine. no_of bytes given old new _ (told.conclusive (conclusive_by given 9 nine (conclusive_at 9 (omega arith) (omega arith) (omega arith) (omega arith)))) (verdict marked judged bytes) nine;
  permitted = λ c trace within same sure. (told.conclusive sure).0 ∙ accepted itself bytes c trace within same;
  long = λ past sure. (
    (told.conclusive sure).0 ∙ ap (λ (x : Answer). x.status) (past_is_long bytes past),
    (told.conclusive sure).1 ∙ ap (λ (x : Answer). append_known old x.text) (past_is_long bytes past),
  );
  only_long = λ six. long_of bytes given old new _ (told.conclusive (conclusive_by given 6 six (conclusive_at 6 (omega arith) (omega arith) (omega arith) (omega arith)))) (verdict marked judged bytes) six;
  bad = λ two. bad_of bytes given old new _ (told.conclusive (conclusive_by given 2 two (conclusive_at 2 (omega arith) (omega arith) (omega arith) (omega arith)))) (verdict marked judged bytes) two;
  statuses = λ sure. status_of bytes given old new _ (told.conclusive sure) (verdict marked judged bytes);
}
