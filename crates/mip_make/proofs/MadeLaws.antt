-- The text of each generated schedule is read as the schedule.
use Rattle.std.proofs.Common.{◌≡◌, ℕ, zero, suc, ◌+◌, ◌*◌, ◌^◌, ◌<◌, ◌≤◌, List, [], ◌∷◌, ◌++◌, length, true, refl, sym, ap, ◌∙◌, subst, append_assoc, length-append, arith}
use Rattle.std.specs.Prelude.{None, Result, Ok, map, codes, decimal, false}
use Rattle.std.specs.List.{list_all}
use Rattle.std.proofs.lemmas.Bool.{and_from, cond-false, lt-leb}
use Rattle.std.proofs.lemmas.List.{append-nil}
use Rattle.std.proofs.lemmas.List.Folds.{list_all-append}
use Rattle.std.proofs.lemmas.List.FromFn.{length-map-range_with_len}
use Rattle.mip_words.specs.Hex.{hex_of}
use Rattle.mip_words.specs.Numbers.{IsBytes}
use Rattle.mip_words.specs.Steps.{◌>>=◌}
use Rattle.mip_words.specs.declared.moment.Moment.{Moment}
use Rattle.mip_lines.specs.Cutting.{rows_of}
use Rattle.mip_lines.specs.LinesLaws.{is_row}
use Rattle.mip_lines.proofs.LineLaws.{decimal_plain, hex_plain, text-again}
use Rattle.mip_schedule.specs.EventTimes.{waited, carried, untimely, timed_line, event_line}
use Rattle.mip_schedule.specs.DeclarationTimes.{judged}
use Rattle.mip_schedule.specs.Faults.{Wrong}
use Rattle.mip_schedule.specs.Lawful.{IsLawful}
use Rattle.mip_schedule.specs.Reading.{at_line, Head, head_of, Declared, declarations_of, events_of, reading}
use Rattle.mip_schedule.specs.Spelling.{declaration_rows, event_text, head_rows, run_row, schedule_rows, spelling}
use Rattle.mip_schedule.specs.Versions.{is_numbered}
use Rattle.mip_symbols.specs.declared.declaration.Declaration.{Declaration}
use Rattle.mip_schedule.specs.declared.event.Event.{Event}
use Rattle.mip_symbols.specs.declared.reason.Reason.{Reason}
use Rattle.mip_schedule.proofs.LawfulLaws.{read_so}
use Rattle.mip_schedule.proofs.Walking.{waited_more, carried_more, none_waited, none_carried}
use Rattle.mip_make.specs.Draws.{draw_of}
use Rattle.mip_make.specs.Made.{event_at, events_from, made}
use Rattle.mip_make.specs.Network.{network}
use Rattle.mip_make.proofs.DrawnReads.{fine_drawn}
use Rattle.mip_make.proofs.EventReads.{IsFine}
use Rattle.mip_make.proofs.HeadReads.{head_read, declared_read, declared_plain}

abbrev start : Moment
start = record { 0 = 0 }

abbrev end_row : List (List ℕ)
end_row = [] ∷ []

-- the line of an event that is fine is read behind events that leave room for it
line_read : (ds : List Declaration) (count waits carries : ℕ) (e : Event) → IsFine ds e → count < 20000 → waits + 1800 ≤ 36000000 → carries + 8 ≤ 200000
    → timed_line false ds count waits carries (event_text false ds e) ≡ Ok e
unfolding timed_line untimely
line_read ds count waits carries e fine few w c =
    let timely : untimely ds count waits carries e ≡ None = cond-false _ _ _ (lt-leb 20000 count few) ∙ fine.fits waits carries w c in
    ap (λ (r : Result Event Reason). r >>= (λ x. judged x (untimely ds count waits carries x))) fine.reads ∙ ap (judged e) timely

-- a row stands before the end
some_row : (rows : List (List (List ℕ))) → (next : List (List ℕ)) × (more : List (List (List ℕ))) × (rows ++ end_row ∷ [] ≡ next ∷ more)
some_row [] = (end_row, [], refl)
some_row (row ∷ rows) = (row, rows ++ end_row ∷ [], refl)

read_one : (ds : List Declaration) (before : List Event) (n : ℕ) (e : Event) (rest : List (List (List ℕ))) (next : List (List ℕ)) (more : List (List (List ℕ))) → rest ≡ next ∷ more
    → event_line false ds before (event_text false ds e) ≡ Ok e → events_of false ds before n (event_text false ds e ∷ rest) ≡ events_of false ds (before ++ e ∷ []) (n + 1) rest
unfolding events_of
read_one ds before n e rest next more is line =
    subst (λ (r : List (List (List ℕ))). events_of false ds before n (event_text false ds e ∷ r) ≡ events_of false ds (before ++ e ∷ []) (n + 1) r) (sym is)
    (ap (λ (r : Result Event Reason). at_line n r >>= (λ x. events_of false ds (before ++ x ∷ []) (n + 1) (next ∷ more))) line)

end_read : (ds : List Declaration) (before : List Event) (n : ℕ) → events_of false ds before n (end_row ∷ []) ≡ Ok before
unfolding events_of
end_read ds before n = refl

-- the events before take so much of the sums at most
record IsRoomy (before : List Event) (i : ℕ) : Type 0 where
  count : length before ≡ i
  waits : waited before ≤ 1800 * i
  carries : carried before ≤ 8 * i

roomy_more : (before : List Event) (i : ℕ) (e : Event) → IsFine network e → IsRoomy before i → IsRoomy (before ++ e ∷ []) (i + 1)
roomy_more before i e fine is = record {
  count = omega (arith, length-append before (e ∷ []), is.count);
  waits = omega (arith, waited_more before e, is.waits, fine.wait);
  carries = omega (arith, carried_more before e, is.carries, fine.carry);
}

none_roomy : IsRoomy [] 0
none_roomy = record { count = refl; waits = omega (arith, none_waited); carries = omega (arith, none_carried) }

events_read : (seed : List ℕ) (k i : ℕ) (before : List Event) (n : ℕ) → i + k ≤ 20000 → IsRoomy before i
    → events_of false network before n (map (event_text false network) (events_from seed i k) ++ end_row ∷ []) ≡ Ok (before ++ events_from seed i k)
events_read seed zero i before n few roomy = end_read network before n ∙ ap (λ (es : List Event). Ok es) (sym (append-nil before))
events_read seed (suc k) i before n few roomy =
    let e : Event = event_at seed i in
    let fine : IsFine network e = fine_drawn i (draw_of seed i) (omega arith) in
    let rest : List (List (List ℕ)) = map (event_text false network) (events_from seed (i + 1) k) in
    let row = some_row rest in
    let line : event_line false network before (event_text false network e) ≡ Ok e =
    line_read network (length before) (waited before) (carried before) e fine (omega (arith, roomy.count)) (omega (arith, roomy.waits)) (omega (arith, roomy.carries)) in
    read_one network before n e (rest ++ end_row ∷ []) row.0 row.1 row.2 line
    ∙ events_read seed k (i + 1) (before ++ e ∷ []) (n + 1) (omega arith) (roomy_more before i e fine roomy)
    ∙ ap (λ (es : List Event). Ok es) (append_assoc before (e ∷ []) (events_from seed (i + 1) k))

events_plain : (seed : List ℕ) (k i : ℕ) → i + k ≤ 20000 → list_all is_row (map (event_text false network) (events_from seed i k)) ≡ true
events_plain seed zero i few = refl
events_plain seed (suc k) i few = and_from _ _ (fine_drawn i (draw_of seed i) (omega arith)).plain (events_plain seed k (i + 1) (omega arith))

head_plain : (seed : List ℕ) → list_all is_row (head_rows 1 seed start) ≡ true
head_plain seed =
    let versioned : is_row (codes "mip" ∷ decimal 1 ∷ []) ≡ true = and_from _ _ refl (and_from _ _ (decimal_plain 1 (omega arith)) refl) in
    let seeded : is_row (codes "seed" ∷ hex_of seed ∷ []) ≡ true = and_from _ _ refl (and_from _ _ (hex_plain seed) refl) in
    let started : is_row (codes "start" ∷ decimal 0 ∷ []) ≡ true = and_from _ _ refl (and_from _ _ (decimal_plain 0 (omega arith)) refl) in
    and_from _ _ versioned (and_from _ _ seeded (and_from _ _ started refl))

all_plain : (seed : List ℕ) (count : ℕ) → count ≤ 20000 → list_all is_row (schedule_rows (made seed count)) ≡ true
all_plain seed count few =
    let events : List (List (List ℕ)) = map (event_text false network) (events_from seed 0 count) in
    let declared : list_all is_row (declaration_rows [] network ++ run_row ∷ events) ≡ true =
    list_all-append is_row (declaration_rows [] network) (run_row ∷ events) ∙ and_from _ _ declared_plain (and_from _ _ refl (events_plain seed count 0 (omega arith))) in
    list_all-append is_row (head_rows 1 seed start) (declaration_rows [] network ++ run_row ∷ events) ∙ and_from _ _ (head_plain seed) declared

-- the rows of the text, in the parts in which they are read
rows_are : (seed : List ℕ) (count : ℕ) → count ≤ 20000
    → rows_of (spelling (made seed count)) ≡ head_rows 1 seed start ++ (declaration_rows [] network ++ run_row ∷ (map (event_text false network) (events_from seed 0 count) ++ end_row ∷ []))
unfolding spelling
rows_are seed count few =
    let head : List (List (List ℕ)) = head_rows 1 seed start in
    let declared : List (List (List ℕ)) = declaration_rows [] network in
    let events : List (List (List ℕ)) = map (event_text false network) (events_from seed 0 count) in
    text-again (schedule_rows (made seed count)) (all_plain seed count few)
    ∙ append_assoc head (declared ++ run_row ∷ events) (end_row ∷ [])
    ∙ ap (λ (rows : List (List (List ℕ))). head ++ rows) (append_assoc declared (run_row ∷ events) (end_row ∷ []))

-- the declarations begin with a row
first_declared : (rest : List (List (List ℕ))) → (row : List (List ℕ)) × (rows : List (List (List ℕ))) × (declaration_rows [] network ++ rest ≡ row ∷ rows)
unfolding network
first_declared rest = (_, _, refl)

whole_read : (seed : List ℕ) (count : ℕ) (rows : List (List (List ℕ))) → length seed ≡ 32 → IsBytes seed → count ≤ 20000
    → rows ≡ head_rows 1 seed start ++ (declaration_rows [] network ++ run_row ∷ (map (event_text false network) (events_from seed 0 count) ++ end_row ∷ []))
    → (head_of rows >>= (λ head. declarations_of [] 4 head.rows >>= (λ declared. events_of (is_numbered head.version) declared.declarations [] declared.line declared.rows >>= (λ events. Ok (record { version = head.version; seed = head.seed; start = head.start; declarations = declared.declarations; events = events }))))) ≡ Ok (made seed count)
whole_read seed count rows size are few is =
    let events : List (List (List ℕ)) = map (event_text false network) (events_from seed 0 count) ++ end_row ∷ [] in
    let declared : List (List (List ℕ)) = declaration_rows [] network ++ run_row ∷ events in
    let first = first_declared (run_row ∷ events) in
    let row = some_row (map (event_text false network) (events_from seed 0 count)) in
    let h : head_of (head_rows 1 seed start ++ declared) ≡ Ok (record { version = 1; seed = seed; start = start; rows = declared }) =
    subst (λ (r : List (List (List ℕ))). head_of (head_rows 1 seed start ++ r) ≡ Ok (record { version = 1; seed = seed; start = start; rows = r })) (sym first.2) (head_read seed first.0 first.1 size are) in
    let d : declarations_of [] 4 declared ≡ Ok (record { declarations = network; line = 15; rows = events }) =
    subst (λ (r : List (List (List ℕ))). declarations_of [] 4 (declaration_rows [] network ++ run_row ∷ r) ≡ Ok (record { declarations = network; line = 15; rows = r })) (sym row.2) (declared_read row.0 row.1) in
    let es : events_of false network [] 15 events ≡ Ok (events_from seed 0 count) = events_read seed count 0 [] 15 (omega arith) none_roomy in
    ap (λ (r : List (List (List ℕ))). head_of r >>= (λ head. declarations_of [] 4 head.rows >>= (λ declared. events_of (is_numbered head.version) declared.declarations [] declared.line declared.rows >>= (λ events. Ok (record { version = head.version; seed = head.seed; start = head.start; declarations = declared.declarations; events = events }))))) is
    ∙ ap (λ (r : Result Head Wrong). r >>= (λ head. declarations_of [] 4 head.rows >>= (λ declared. events_of (is_numbered head.version) declared.declarations [] declared.line declared.rows >>= (λ events. Ok (record { version = head.version; seed = head.seed; start = head.start; declarations = declared.declarations; events = events }))))) h
    ∙ ap (λ (r : Result Declared Wrong). r >>= (λ declared. events_of false declared.declarations [] declared.line declared.rows >>= (λ events. Ok (record { version = 1; seed = seed; start = start; declarations = declared.declarations; events = events })))) d
    ∙ ap (λ (r : Result (List Event) Wrong). r >>= (λ events. Ok (record { version = 1; seed = seed; start = start; declarations = network; events = events }))) es

pub made_read : (seed : List ℕ) (count : ℕ) → length seed ≡ 32 → IsBytes seed → count ≤ 20000 → reading (spelling (made seed count)) ≡ Ok (made seed count)
unfolding reading
made_read seed count size are few = whole_read seed count (rows_of (spelling (made seed count))) size are few (rows_are seed count few)

pub made_lines : (seed : List ℕ) (count : ℕ) → count ≤ 20000 → length network + length (events_from seed 0 count) + 5 < 2 ^ 32
unfolding network
made_lines seed count few = omega (arith, length-map-range_with_len (event_at seed) 0 count)

pub made_lawful : (seed : List ℕ) (count : ℕ) → length seed ≡ 32 → IsBytes seed → count ≤ 20000 → IsLawful (made seed count)
made_lawful seed count size are few =
    let so = read_so (spelling (made seed count)) (made seed count) (made_read seed count size are few) in
    record { version = so.version; start = so.start; declarations = so.declarations; events = so.events; lines = made_lines seed count few }
