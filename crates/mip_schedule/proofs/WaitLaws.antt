-- The waits of a text that is read add up to 36,000 s at most.
use Rattle.std.proofs.Common.{◌≡◌, ℕ, suc, ◌+◌, ◌≤◌, List, [], ◌∷◌, ◌++◌, Bool, true, false, arith, subst, refl}
use Rattle.std.specs.Prelude.{Option, Some, None, Ok, nat_le, nat_lt, if◌then◌else◌}
use Rattle.std.proofs.lemmas.Bool.{leb-false}
use Rattle.std.proofs.lemmas.List.Sums.{sum_by-append}
use Rattle.mip_words.specs.Steps.{◌>>=◌}
use Rattle.mip_words.proofs.StepLaws.{bind_ok, ok_is}
use Rattle.mip_lines.specs.Cutting.{rows_of}
use Rattle.mip_schedule.specs.Contents.{Content}
use Rattle.mip_schedule.specs.EventTimes.{wait_of, waited, carried, misfit, untimely, event_line}
use Rattle.mip_schedule.specs.Reading.{at_line, head_of, declarations_of, events_of, reading}
use Rattle.mip_schedule.specs.Versions.{is_numbered}
use Rattle.mip_symbols.specs.declared.declaration.Declaration.{Declaration}
use Rattle.mip_schedule.specs.declared.event.Event.{Event}
use Rattle.mip_schedule.specs.declared.event.Event.TheVariants as events
use Rattle.mip_symbols.specs.declared.reason.Reason.{Reason}
use Rattle.mip_symbols.specs.declared.reason.Reason.TheVariants as reasons
use Rattle.mip_schedule.proofs.TextLaws.{at_line_ok}
use Rattle.mip_schedule.proofs.LawfulLaws.{timed_fits, last_stands}

passed : (b : Bool) (why : Reason) (o : Option Reason) → (if b then Some why else o) ≡ None → (b ≡ false) × (o ≡ None)
passed true why o e = absurd cc
passed false why o e = (refl, e)

-- an event that fits waits no longer than is left
wait_fits : (ds : List Declaration) (waits carries : ℕ) (e : Event) → misfit ds waits carries e ≡ None → waits ≤ 36000000 → waits + wait_of e ≤ 36000000
unfolding misfit
wait_fits ds waits carries (events.Wait ms) fits few =
    let late = leb-false (suc 36000000) (waits + ms) (passed (nat_lt 36000000 (waits + ms)) reasons.Time None fits).0 in
    omega arith
wait_fits ds waits carries _ fits few = omega arith

wait_timely : (ds : List Declaration) (count waits carries : ℕ) (e : Event) → untimely ds count waits carries e ≡ None → waits ≤ 36000000 → waits + wait_of e ≤ 36000000
unfolding untimely
wait_timely ds count waits carries e timely = wait_fits ds waits carries e (passed (nat_le 20000 count) reasons.Limit (misfit ds waits carries e) timely).1

waited_more : (es : List Event) (e : Event) → waited es + wait_of e ≤ 36000000 → waited (es ++ e ∷ []) ≤ 36000000
unfolding waited
waited_more es e few = omega (arith, sum_by-append wait_of es (e ∷ []))

waits_stand : (numbered : Bool) (ds : List Declaration) (rows : List (List (List ℕ))) (es : List Event) (n : ℕ) (out : List Event)
    → events_of numbered ds es n rows ≡ Ok out → waited es ≤ 36000000 → waited out ≤ 36000000
unfolding events_of
waits_stand numbered ds [] es n out e few = absurd cc
waits_stand numbered ds (row ∷ []) es n out e few = subst (λ (l : List Event). waited l ≤ 36000000) (last_stands n es row out e) few
waits_stand numbered ds (row ∷ next ∷ rows) es n out e few =
    let p = bind_ok (at_line n (event_line numbered ds es row)) (λ x. events_of numbered ds (es ++ x ∷ []) (n + 1) (next ∷ rows)) out e in
    let fits = timed_fits numbered ds _ (waited es) (carried es) row p.0 (at_line_ok n (event_line numbered ds es row) p.0 p.1) in
    waits_stand numbered ds (next ∷ rows) (es ++ p.0 ∷ []) (n + 1) out p.2 (waited_more es p.0 (wait_timely ds _ (waited es) (carried es) p.0 fits.1 few))

none_waited : waited [] ≤ 36000000
unfolding waited
none_waited = omega arith

pub waits_read : (text : List ℕ) (s : Content) → reading text ≡ Ok s → waited s.events ≤ 36000000
unfolding reading
waits_read text s e =
    let h = bind_ok (head_of (rows_of text)) (λ head. declarations_of [] 4 head.rows >>= (λ declared. events_of (is_numbered head.version) declared.declarations [] declared.line declared.rows >>= (λ events. Ok (record { version = head.version; seed = head.seed; start = head.start; declarations = declared.declarations; events = events })))) s e in
    let d = bind_ok (declarations_of [] 4 h.0.rows) (λ declared. events_of (is_numbered h.0.version) declared.declarations [] declared.line declared.rows >>= (λ events. Ok (record { version = h.0.version; seed = h.0.seed; start = h.0.start; declarations = declared.declarations; events = events }))) s h.2 in
    let es = bind_ok (events_of (is_numbered h.0.version) d.0.declarations [] d.0.line d.0.rows) (λ events. Ok (record { version = h.0.version; seed = h.0.seed; start = h.0.start; declarations = d.0.declarations; events = events })) s d.2 in
    subst (λ (c : Content). waited c.events ≤ 36000000) (ok_is _ s es.2) (waits_stand (is_numbered h.0.version) d.0.declarations d.0.rows [] d.0.line es.0 es.1 none_waited)
