-- A run of a hub, turn by turn.
use Rattle.std.proofs.Common.{◌≡◌, ℕ, zero, suc, ◌+◌, ◌<◌, ◌≤◌, List, [], ◌∷◌, ◌++◌, length, take, drop, true, false, refl, sym, ap, ◌∙◌, subst, arith, length-append, append-nil}
use Rattle.std.specs.Prelude.{Option, Some, None, Result, Ok, Err, option_map, slice_get, replicate, ◌==◌, OnOk}
use Rattle.std.specs.Result.{is_err}
use Rattle.std.specs.List.{flat_map}
use Rattle.std.specs.Io.KnownBytes.{append_known}
use Rattle.std.proofs.Math.Seq.{take-append-add, drop-drop}
use Rattle.std.proofs.lemmas.Bool.{cond_both}
use Rattle.std.proofs.lemmas.List.{take-append-le}
use Rattle.std.proofs.lemmas.Grind.{flat_map-append}
use Rattle.std.proofs.lemmas.List.Sums.{fold-append}
use Rattle.mip_frames.specs.declared.served.Served.{Served}
use Rattle.mip_frames.specs.declared.served.Served.TheVariants.{Done, LinkFault, WriteFault, Memory}
use Rattle.mip_outside.proofs.Known.{append_more, append_none}
use Rattle.mip_outside.specs.LinkCalls.{called, failure_of}
use Rattle.mip_outside.specs.declared.asked.Asked.TheVariants.{Listen}
use Rattle.mip_outside.specs.declared.link_call.LinkCall.{LinkCall}
use Rattle.mip_outside.specs.declared.put_fault.PutFault.TheVariants as put_faults
use Rattle.mip_hub.specs.Calls.{Call, Listens, Sends, Receives, Gives, given_by, LinkState, link_state, sent_on, made_on, asked_on, held_on, text_at, Stops}
use Rattle.mip_hub.specs.Reading.{Content}
use Rattle.mip_hub.specs.Served.{next_in, IsSeen, came, Saw, Outside, outside, IsFaultAt, after_part, IsCut, after_all, Ran}
use Rattle.mip_hub.specs.Passing.{Passed, Dropped, Gone, Lost, To, passed, passed_calls}
use Rattle.mip_hub.specs.Turns.{Seen, Run, fresh, begun, turn_of, line_calls, calls_in, lines_calls, lines_done, copies_of, seen_calls, started, turned, run_of, told_calls, turn_calls, turn_done}
use Rattle.mip_hub.specs.declared.hub.Hub.{Hub}
use Rattle.mip_hub.specs.declared.hub_line.HubLine.{HubLine}
use Rattle.mip_hub.specs.declared.hub_line.HubLine.TheVariants.{Claim, Release, Advertise, Copies}
use Rattle.mip_hub.proofs.CallLaws.{nothing_made, nothing_asked, made_twice, refused_first, listened, get_behind, cut_off, cut_within, ended_off, lost_off}

nothing_held : (known : Option (List ℕ)) → known ≡ held_on [] known
unfolding held_on
nothing_held known = append_none known known refl

held_more : (xs ys : List Call) (known : Option (List ℕ)) → held_on ys (held_on xs known) ≡ held_on (xs ++ ys) known
unfolding held_on
held_more xs ys known =
    append_more known (append_known known (flat_map given_by xs)) _ (flat_map given_by xs) (flat_map given_by ys) refl refl
    ∙ ap (append_known known) (sym (flat_map-append given_by xs ys))

both : {s t : LinkState} {h k : Option (List ℕ)} → s ≡ t → h ≡ k → outside s h ≡ outside t k
both e f = cc

all_more : (xs ys : List Call) (o : Outside) → after_all ys (after_all xs o) ≡ after_all (xs ++ ys) o
all_more xs ys o = both (made_twice xs ys o.link) (held_more xs ys o.held)

part_more : (xs ys : List Call) (count part : ℕ) (last : List LinkCall) (o : Outside)
    → after_part ys count part last (after_all xs o) ≡ after_part (xs ++ ys) (length xs + count) part last o
part_more xs ys count part last o =
    let front : xs ++ take count ys ≡ take (length xs + count) (xs ++ ys) = sym (take-append-add xs ys count) in
    let call : slice_get ys count ≡ slice_get (xs ++ ys) (length xs + count) = sym (get_behind xs ys count (length xs + count) refl) in
    both (ap (asked_on last) (made_twice xs (take count ys) o.link ∙ ap (λ (c : List Call). made_on c o.link) front))
    (ap (λ (h : Option (List ℕ)). append_known h (take part (text_at (slice_get ys count)))) (held_more xs (take count ys) o.held ∙ ap (λ (c : List Call). held_on c o.held) front)
    ∙ ap (λ (c : Option Call). append_known (held_on (take (length xs + count) (xs ++ ys)) o.held) (take part (text_at c))) call)

-- calls behind those that were made are cut
cut_more : (end : Served) (xs ys : List Call) (before mid after : Outside) → mid ≡ after_all xs before → IsCut end ys mid after → IsCut end (xs ++ ys) before after
cut_more end xs ys before mid after made cut = record {
  count = length xs + cut.count;
  part = cut.part;
  last = cut.last;
  fault = subst (λ (c : Option Call). IsFaultAt end c cut.part cut.last) (sym (get_behind xs ys cut.count (length xs + cut.count) refl)) cut.fault;
  left = cut.left ∙ ap (after_part ys cut.count cut.part cut.last) made ∙ part_more xs ys cut.count cut.part cut.last before;
}

-- calls that give no text
abbrev IsQuiet : List Call → Type 0
IsQuiet calls = flat_map given_by calls ≡ []

both_empty : (xs ys : List ℕ) → xs ≡ [] → ys ≡ [] → xs ++ ys ≡ []
both_empty xs ys e f = rw (e, f) refl

left_empty : (xs ys : List ℕ) → xs ++ ys ≡ [] → xs ≡ []
left_empty [] ys e = refl
left_empty (x ∷ xs) ys e = absurd cc

right_empty : (xs ys : List ℕ) → xs ++ ys ≡ [] → ys ≡ []
right_empty [] ys e = e
right_empty (x ∷ xs) ys e = absurd cc

quiet_both : (xs ys : List Call) → IsQuiet xs → IsQuiet ys → IsQuiet (xs ++ ys)
quiet_both xs ys e f = flat_map-append given_by xs ys ∙ both_empty _ _ e f

quiet_take : (n : ℕ) (calls : List Call) → IsQuiet calls → IsQuiet (take n calls)
quiet_take zero calls e = refl
quiet_take (suc n) [] e = refl
quiet_take (suc n) (call ∷ calls) e =
    both_empty (given_by call) (flat_map given_by (take n calls)) (left_empty (given_by call) (flat_map given_by calls) e)
    (quiet_take n calls (right_empty (given_by call) (flat_map given_by calls) e))

quiet_line : (line : HubLine) → IsQuiet (line_calls line)
unfolding line_calls
quiet_line (Claim turn address port) = refl
quiet_line (Release turn address) = refl
quiet_line (Advertise turn prefix agent port) = refl
quiet_line (Copies turn count) = refl

quiet_in : (turn : ℕ) (line : HubLine) → IsQuiet (calls_in turn line)
quiet_in turn line = cond_both (turn_of line == turn) _ _ IsQuiet (λ _. quiet_line line) (λ _. refl)

quiet_lines : (turn : ℕ) (lines : List HubLine) → IsQuiet (lines_calls lines turn)
quiet_lines turn [] = refl
quiet_lines turn (line ∷ lines) = quiet_both (calls_in turn line) (lines_calls lines turn) (quiet_in turn line) (quiet_lines turn lines)

quiet_copies : (port : ℕ) (datagram : List ℕ) (count : ℕ) → IsQuiet (replicate count (Sends port datagram))
quiet_copies port datagram zero = refl
quiet_copies port datagram (suc n) = quiet_copies port datagram n

quiet_passed : (datagram : List ℕ) (p : Passed) → IsQuiet (passed_calls datagram p)
unfolding passed_calls
quiet_passed datagram (Dropped word) = refl
quiet_passed datagram Gone = refl
quiet_passed datagram Lost = refl
quiet_passed datagram (To port count) = quiet_copies port datagram count

quiet_seen : (copies : ℕ) (seen : Seen) (hub : Hub) → IsQuiet (seen_calls copies seen hub)
quiet_seen copies None hub = refl
quiet_seen copies (Some datagram) hub = quiet_passed datagram (passed hub.ports copies datagram)

pub quiet_turn : (lines : List HubLine) (turn : ℕ) (seen : Seen) (hub : Hub) → flat_map given_by (turn_calls lines turn seen hub) ≡ []
unfolding turn_calls
quiet_turn lines turn seen hub =
    quiet_both (lines_calls lines turn) (Receives ∷ seen_calls (copies_of lines turn) seen (lines_done lines turn (begun hub)))
    (quiet_lines turn lines) (quiet_seen (copies_of lines turn) seen (lines_done lines turn (begun hub)))

quiet_held : (calls : List Call) (held : Option (List ℕ)) → IsQuiet calls → held ≡ held_on calls held
unfolding held_on
quiet_held calls held e = append_none held held refl ∙ ap (append_known held) (sym e)

-- a text asks nothing of the link
given_made : (text : List ℕ) (link : LinkState) → link ≡ made_on (Gives text ∷ []) link
unfolding made_on sent_on
given_made text link = nothing_made link

given_held : (text : List ℕ) (known : Option (List ℕ)) → append_known known text ≡ held_on (Gives text ∷ []) known
unfolding held_on
given_held text known = ap (append_known known) (sym (append-nil text))

-- all calls of the link were made, and the text was given
pub told_all : (calls : List Call) (text : List ℕ) (link link1 : LinkState) (held held1 : Option (List ℕ)) → flat_map given_by calls ≡ []
    → link1 ≡ made_on calls link → held1 ≡ append_known held text → outside link1 held1 ≡ after_all (calls ++ Gives text ∷ []) (outside link held)
told_all calls text link link1 held held1 quiet made told =
    both (made ∙ given_made text (made_on calls link)) (told ∙ ap (λ (h : Option (List ℕ)). append_known h text) (quiet_held calls held quiet) ∙ given_held text (held_on calls held))
    ∙ all_more calls (Gives text ∷ []) (outside link held)

-- all calls of the link were made, and some of the text was taken
pub told_part : (end : Served) (calls : List Call) (text : List ℕ) (part : ℕ) (link link1 : LinkState) (held held1 : Option (List ℕ)) → flat_map given_by calls ≡ []
    → link1 ≡ made_on calls link → IsFaultAt end (Some (Gives text)) part [] → held1 ≡ append_known held (take part text)
    → IsCut end (calls ++ Gives text ∷ []) (outside link held) (outside link1 held1)
told_part end calls text part link link1 held held1 quiet made fault told =
    cut_more end calls (Gives text ∷ []) (outside link held) (outside link1 held) (outside link1 held1) (both made (quiet_held calls held quiet))
    (record {
      count = 0;
      part = part;
      last = [];
      fault = fault;
      left = both (nothing_made link1 ∙ nothing_asked (made_on [] link1)) (told ∙ ap (λ (h : Option (List ℕ)). append_known h (take part text)) (nothing_held held));
    })

-- a call of the link was not made
left_off : (calls : List Call) (text : List ℕ) (count : ℕ) (last : List LinkCall) (link link1 : LinkState) (held held1 : Option (List ℕ)) → flat_map given_by calls ≡ []
    → count ≤ length calls → link1 ≡ asked_on last (made_on (take count calls) link) → held1 ≡ held
    → outside link1 held1 ≡ after_part (calls ++ Gives text ∷ []) count 0 last (outside link held)
left_off calls text count last link link1 held held1 quiet within made same =
    let front : take count calls ≡ take count (calls ++ Gives text ∷ []) = sym (take-append-le count calls (Gives text ∷ []) within) in
    both (made ∙ ap (λ (c : List Call). asked_on last (made_on c link)) front)
    (same ∙ quiet_held (take count calls) held (quiet_take count calls quiet) ∙ ap (λ (c : List Call). held_on c held) front ∙ append_none _ _ refl)

pub link_cut : (calls : List Call) (text : List ℕ) (link link1 : LinkState) (held held1 : Option (List ℕ)) → flat_map given_by calls ≡ []
    → Stops put_faults.Failed calls link link1 → held1 ≡ held → IsCut LinkFault (calls ++ Gives text ∷ []) (outside link held) (outside link1 held1)
link_cut calls text link link1 held held1 quiet goes same = record {
  count = goes.count;
  part = 0;
  last = goes.last;
  fault = (cut_off put_faults.Failed calls (Gives text ∷ []) goes.count goes.cut, (refl, ended_off put_faults.Failed calls (Gives text ∷ []) goes.count goes.last goes.cut goes.ended));
  left = left_off calls text goes.count goes.last link link1 held held1 quiet (cut_within put_faults.Failed calls goes.count goes.cut) goes.left same;
}

pub memory_cut : (calls : List Call) (text : List ℕ) (link link1 : LinkState) (held held1 : Option (List ℕ)) → flat_map given_by calls ≡ []
    → Stops put_faults.Memory calls link link1 → held1 ≡ held → IsCut Memory (calls ++ Gives text ∷ []) (outside link held) (outside link1 held1)
memory_cut calls text link link1 held held1 quiet goes same = record {
  count = goes.count;
  part = 0;
  last = goes.last;
  fault = lost_off calls (Gives text ∷ []) goes.count goes.last goes.ended;
  left = left_off calls text goes.count goes.last link link1 held held1 quiet goes.cut goes.left same;
}

-- so many turns were done
pub record Reached (content : Content) (k : ℕ) (hub : Hub) (coming left : Option (List (Option (List ℕ)))) (before after : Outside) : Type 0 where
  pub seen : List Seen
  pub many : length seen ≡ k
  pub saw : Saw coming seen
  pub next : (run_of content seen).turn ≡ k + 1
  pub same : hub ≡ (run_of content seen).hub
  pub made : after ≡ after_all (run_of content seen).calls before
  pub gone : left ≡ option_map (drop k) coming

run_more : (content : Content) (seen : List Seen) (one : Seen) → run_of content (seen ++ one ∷ []) ≡ turned content.lines (run_of content seen) one
unfolding run_of
run_more content seen one = fold-append (turned content.lines) (started content.port) seen (one ∷ [])

one_on : (n : ℕ) → 1 + n ≡ suc n
one_on n = omega arith

came_more : (n : ℕ) (items : List (Option (List ℕ))) → came (suc n) items ≡ came n items ++ next_in (drop n items) ∷ []
unfolding came
came_more zero items = refl
came_more (suc n) items =
    ap (λ (l : List Seen). next_in items ∷ l) (came_more n (drop 1 items) ∙ ap (λ (l : List (Option (List ℕ))). came n (drop 1 items) ++ next_in l ∷ []) (drop-drop n 1 items ∙ ap (λ (m : ℕ). drop m items) (one_on n)))

saw_more : (coming left : Option (List (Option (List ℕ)))) (k : ℕ) (seen : List Seen) (one : Seen) → length seen ≡ k → Saw coming seen → left ≡ option_map (drop k) coming
    → IsSeen left one → Saw coming (seen ++ one ∷ [])
saw_more None left k seen one many saw is next = tt
saw_more (Some items) left k seen one many saw is next =
    let now : one ≡ next_in (drop k items) = subst (λ (l : Option (List (Option (List ℕ)))). IsSeen l one) is next in
    let grown : suc k ≡ length (seen ++ one ∷ []) = omega (arith, length-append seen (one ∷ []), many) in
    ap (λ (l : List Seen). l ++ one ∷ []) (saw ∙ ap (λ (n : ℕ). came n items) many) ∙ ap (λ (s : Seen). came k items ++ s ∷ []) now
    ∙ sym (came_more k items) ∙ ap (λ (n : ℕ). came n items) grown

left_more : (coming left left1 : Option (List (Option (List ℕ)))) (k : ℕ) → left ≡ option_map (drop k) coming → left1 ≡ option_map (drop 1) left → left1 ≡ option_map (drop (k + 1)) coming
left_more None left left1 k is next = next ∙ ap (option_map (drop 1)) is
left_more (Some items) left left1 k is next =
    next ∙ ap (option_map (drop 1)) is ∙ ap (λ (l : List (Option (List ℕ))). Some l) (drop-drop 1 k items)

none_saw : (coming : Option (List (Option (List ℕ)))) → Saw coming []
unfolding came
none_saw None = tt
none_saw (Some items) = refl

-- the port was listened on
heard : {U E : Type 0} (port : ℕ) (r : Result U E) (sent sent1 : Option (List (ℕ × List ℕ))) (calls calls1 : List LinkCall) → sent1 ≡ sent → is_err r ≡ false
    → calls1 ≡ calls ++ called Listen (failure_of r) ∷ [] → link_state sent1 calls1 ≡ made_on (Listens port ∷ []) (link_state sent calls)
heard port (Ok u) sent sent1 calls calls1 same well listens = listened port sent sent1 calls calls1 same listens
heard port (Err x) sent sent1 calls calls1 same well listens = absurd cc

no_text : (port : ℕ) (held : Option (List ℕ)) → held ≡ held_on (Listens port ∷ []) held
unfolding held_on
no_text port held = nothing_held held

-- no turn yet, the port is listened on
pub begins : {U E : Type 0} (content : Content) (hub : Hub) (r : Result U E) (coming left : Option (List (Option (List ℕ)))) (sent sent1 : Option (List (ℕ × List ℕ)))
    (calls calls1 : List LinkCall) (held held1 : Option (List ℕ))
    → hub ≡ fresh → left ≡ coming → sent1 ≡ sent → is_err r ≡ false → calls1 ≡ calls ++ called Listen (failure_of r) ∷ [] → held1 ≡ held
    → Reached content 0 hub coming left (outside (link_state sent calls) held) (outside (link_state sent1 calls1) held1)
unfolding run_of
begins content hub r coming left sent sent1 calls calls1 held held1 new same sends well listens holds = record {
  seen = [];
  many = refl;
  saw = none_saw coming;
  next = refl;
  same = new;
  made = both (heard content.port r sent sent1 calls calls1 sends well listens) (holds ∙ no_text content.port held);
  gone = same ∙ all coming;
}
  where
    all : (coming : Option (List (Option (List ℕ)))) → coming ≡ option_map (drop 0) coming
    all None = refl
    all (Some items) = refl

-- one turn more
pub goes_round : (content : Content) (k : ℕ) (hub hub1 : Hub) (coming left left1 : Option (List (Option (List ℕ)))) (before after after1 : Outside) (one : Seen)
    → Reached content k hub coming left before after → IsSeen left one → after1 ≡ after_all (told_calls content.lines (k + 1) one hub) after
    → hub1 ≡ turn_done content.lines (k + 1) one hub → left1 ≡ option_map (drop 1) left
    → Reached content (k + 1) hub1 coming left1 before after1
goes_round content k hub hub1 coming left left1 before after after1 one r is tells does passes =
    let run = run_of content r.seen in
    let grown = run_more content r.seen one in
    record {
      seen = r.seen ++ one ∷ [];
      many = omega (arith, length-append r.seen (one ∷ []), r.many);
      saw = saw_more coming left k r.seen one r.many r.saw r.gone is;
      next = ap (λ (x : Run). x.turn) grown ∙ ap (λ (n : ℕ). n + 1) r.next;
      same = does ∙ ap (turn_done content.lines (k + 1) one) r.same ∙ ap (λ (n : ℕ). turn_done content.lines n one run.hub) (sym r.next) ∙ sym (ap (λ (x : Run). x.hub) grown);
      made = tells ∙ ap (λ (h : Hub). after_all (told_calls content.lines (k + 1) one h) after) r.same
          ∙ ap (λ (n : ℕ). after_all (told_calls content.lines n one run.hub) after) (sym r.next)
          ∙ ap (after_all (told_calls content.lines run.turn one run.hub)) r.made
          ∙ all_more run.calls (told_calls content.lines run.turn one run.hub) before
          ∙ ap (λ (x : Run). after_all x.calls before) (sym grown);
      gone = left_more coming left left1 k r.gone passes;
    }

ran_cut : (content : Content) (turns : ℕ) (seen : List Seen) (end : Served) (before after : Outside) → length seen ≤ turns → IsCut end (run_of content seen).calls before after
    → Ran content turns seen end before after
ran_cut content turns seen Done before after within cut = absurd cut.fault
ran_cut content turns seen LinkFault before after within cut = (within, cut)
ran_cut content turns seen WriteFault before after within cut = (within, cut)
ran_cut content turns seen Memory before after within cut = (within, cut)

-- a turn was cut
pub breaks_off : (content : Content) (turns k : ℕ) (hub : Hub) (coming left : Option (List (Option (List ℕ)))) (before after after1 : Outside) (one : Seen) (end : Served)
    → k < turns → Reached content k hub coming left before after → IsSeen left one → IsCut end (told_calls content.lines (k + 1) one hub) after after1
    → (seen : List Seen) × Saw coming seen × Ran content turns seen end before after1
breaks_off content turns k hub coming left before after after1 one end below r is cut =
    let run = run_of content r.seen in
    let grown = run_more content r.seen one in
    let now : IsCut end (told_calls content.lines run.turn one run.hub) after after1 =
    subst (λ (n : ℕ). IsCut end (told_calls content.lines n one run.hub) after after1) (sym r.next)
    (subst (λ (h : Hub). IsCut end (told_calls content.lines (k + 1) one h) after after1) r.same cut) in (
      r.seen ++ one ∷ [],
      saw_more coming left k r.seen one r.many r.saw r.gone is,
      ran_cut content turns (r.seen ++ one ∷ []) end before after1 (omega (arith, length-append r.seen (one ∷ []), r.many, below))
          (subst (λ (x : Run). IsCut end x.calls before after1) (sym grown) (cut_more end run.calls (told_calls content.lines run.turn one run.hub) before after after1 r.made now)),
    )

-- all turns were done
pub is_done : (content : Content) (turns : ℕ) (hub : Hub) (coming left : Option (List (Option (List ℕ)))) (before after : Outside)
    → Reached content turns hub coming left before after → (seen : List Seen) × Saw coming seen × Ran content turns seen Done before after
is_done content turns hub coming left before after r = (r.seen, r.saw, (r.many, r.made))

-- the port could not be listened on
pub not_begun : {U E : Type 0} (content : Content) (turns : ℕ) (r : Result U E) (coming : Option (List (Option (List ℕ)))) (sent sent1 : Option (List (ℕ × List ℕ)))
    (calls calls1 : List LinkCall) (held held1 : Option (List ℕ)) → sent1 ≡ sent → is_err r ≡ true → calls1 ≡ calls ++ called Listen (failure_of r) ∷ [] → held1 ≡ held
    → (seen : List Seen) × Saw coming seen × Ran content turns seen LinkFault (outside (link_state sent calls) held) (outside (link_state sent1 calls1) held1)
unfolding run_of
not_begun content turns (Ok u) coming sent sent1 calls calls1 held held1 sends bad listens holds = absurd cc
not_begun content turns (Err x) coming sent sent1 calls calls1 held held1 sends bad listens holds = (
  [],
  none_saw coming,
  (
    omega arith,
    record {
      count = 0;
      part = 0;
      last = called Listen (Some put_faults.Failed) ∷ [];
      fault = (refl, (refl, refl));
      left = both (refused_first sent sent1 calls calls1 _ sends listens) (holds ∙ nothing_held held ∙ append_none _ _ refl);
    },
  ),
)

-- what holds where a call was granted
pub granted : {U E P : Type 0} (r : Result U E) → is_err r ≡ false → OnOk r P → P
granted (Ok u) e p = p
granted (Err x) e p = absurd cc
