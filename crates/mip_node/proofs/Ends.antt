-- How a run ended, from the turns that were done.
use Rattle.std.proofs.Common.{◌≡◌, ℕ, ◌+◌, ◌<◌, ◌≤◌, List, [], ◌∷◌, ◌++◌, take, length, refl, sym, subst, ◌∙◌, ap, inl, inr, arith}
use Rattle.std.specs.Prelude.{fold, None, Option, ◌⊎◌, Result, Ok, Err, OnOk}
use Rattle.std.specs.Io.KnownBytes.{append_known}
use Rattle.std.proofs.Math.Seq.{take-append-add}
use Rattle.std.proofs.lemmas.List.{take_all, length_push}
use Rattle.mip_trace.specs.Lines.{trace_text}
use Rattle.mip_outside.proofs.Known.{append_more}
use Rattle.mip_config.specs.Configs.{Content}
use Rattle.mip_node.specs.Nodes.{Datagrams, Serving, serving}
use Rattle.mip_node.specs.Seen.{Ahead, Coming, IsSeen, ahead_after}
use Rattle.mip_node.specs.Turns.{Seen, World, first_node, first_world, turned, turned_once, run}
use Rattle.mip_node.specs.Runs.{Start, Stand, Outside, HasRun, Ran, start, outside, WroteFront, node_text, node_sent}
use Rattle.mip_node.specs.Faults.{WrotePart, DidNothing, BrokeAfter, WroteAfter, LinkFailed, StoppedAfter}
use Rattle.mip_node.proofs.Apart.{text_apart}
use Rattle.mip_node.proofs.RunLaws.{begins, run_more, text_of_once, sees_more, serving_is}

turns-on : (c : Content) (seen : List Seen) (w : World) → (fold (turned_once c) w seen).turns ≡ w.turns + length seen
unfolding turned_once
turns-on c [] w = omega arith
turns-on c (x ∷ seen) w = let e : (fold (turned_once c) (turned_once c w x) seen).turns ≡ (w.turns + 1) + length seen = turns-on c seen (turned_once c w x) in omega arith

-- each turn found something
turns-many : (c : Content) (seen : List Seen) (sent : Datagrams) → (run c seen sent).turns ≡ length seen
unfolding run
turns-many c seen sent = let e = turns-on c seen (first_world c sent) in omega arith

many : (first : Start) (turns : ℕ) (at : Stand) → (ran : HasRun first turns at) → length ran.seen ≡ turns
many first turns at ran = sym (turns-many first.content ran.seen first.sent) ∙ ran.number

-- the text written by then
written : (first : Start) (turns : ℕ) (at : Stand) (ran : HasRun first turns at) → at.held ≡ append_known first.held (node_text first.content ran.seen)
written first turns at ran = ran.held ∙ ap (append_known first.held) (text_apart first.content ran.seen first.sent)

pub ran_whole : (first : Start) (turns : ℕ) (at : Stand) → HasRun first turns at → Ran first turns (outside at.ahead at.coming at.sent at.held)
unfolding node_sent
ran_whole first turns at ran = record {
  seen = ran.seen;
  sees = ran.sees;
  many = many first turns at ran;
  ahead = ran.ahead;
  coming = ran.coming;
  sent = ran.sent;
  held = written first turns at ran;
}

whole-front : (first : Start) (done turns : ℕ) (at : Stand) (held : Option (List ℕ)) → HasRun first done at → done ≤ turns → held ≡ at.held → WroteFront first turns held
whole-front first done turns at held ran most is =
    let text : List ℕ = node_text first.content ran.seen in
    let count : length ran.seen ≡ done = many first done at ran in
    record {
      seen = ran.seen;
      sees = ran.sees;
      most = omega arith;
      count = length text;
      held = is ∙ written first done at ran ∙ ap (append_known first.held) (sym (take_all (length text) text (omega arith)));
    }

text-more : (c : Content) (seen : List Seen) (x : Seen) (sent : Datagrams)
    → node_text c (seen ++ x ∷ []) ≡ node_text c seen ++ trace_text None (turned c ((run c seen sent).turns + 1) x (run c seen sent).serving).node.entries
text-more c seen x sent =
    sym (text_apart c (seen ++ x ∷ []) sent) ∙ ap (λ (w : World). w.text) (run_more c seen x sent) ∙ text_of_once c (run c seen sent) x
    ∙ ap (λ (l : List ℕ). l ++ trace_text None (turned c ((run c seen sent).turns + 1) x (run c seen sent).serving).node.entries) (text_apart c seen sent)

part-front : (first : Start) (done turns : ℕ) (at : Stand) (last : Outside) → HasRun first done at → done < turns → WrotePart first.content (done + 1) at last
    → WroteFront first turns last.held
part-front first done turns at last ran fewer part =
    let c : Content = first.content in
    let w : World = run c ran.seen first.sent in
    let x : Seen = part.seen in
    let text : List ℕ = node_text c ran.seen in
    let line : List ℕ = trace_text None (turned c (w.turns + 1) x w.serving).node.entries in
    let s : Serving = serving at.node at.sent in
    let same : turned c (done + 1) x s ≡ turned c (w.turns + 1) x w.serving =
    ap (turned c (done + 1) x) (serving_is first done at ran) ∙ ap (λ (n : ℕ). turned c (n + 1) x w.serving) (sym ran.number) in
    let here : last.held ≡ append_known at.held (take part.count line) =
    part.held ∙ ap (λ (t : Serving). append_known at.held (take part.count (trace_text None t.node.entries))) same in
    let count : length ran.seen ≡ done = many first done at ran in
    record {
      seen = ran.seen ++ x ∷ [];
      sees = sees_more ran.seen x first.ahead first.coming ran.sees
          (subst (λ (l : Coming). IsSeen (ahead_after ran.seen first.ahead) l x) ran.coming (subst (λ (a : Ahead). IsSeen a at.coming x) ran.ahead part.is));
      most = let e = length_push ran.seen x in omega arith;
      count = length text + part.count;
      held = append_more first.held at.held last.held text (take part.count line) (written first done at ran) here
          ∙ ap (append_known first.held) (sym (take-append-add text line part.count))
          ∙ ap (λ (l : List ℕ). append_known first.held (take (length text + part.count) l)) (sym (text-more c ran.seen x first.sent));
    }

pub front_of_run : (first : Start) (turns : ℕ) (at : Stand) → HasRun first turns at → WroteFront first turns at.held
front_of_run first turns at ran = whole-front first turns turns at at.held ran (omega arith) refl

pub front_of_broken : (first : Start) (turns : ℕ) (last : Outside) → BrokeAfter first turns last → WroteFront first turns last.held
front_of_broken first turns last b = let fewer : b.done < turns = b.fewer in whole-front first b.done turns b.at last.held b.ran (omega arith) b.part.held

pub front_of_part : (first : Start) (turns : ℕ) (last : Outside) → WroteAfter first turns last → WroteFront first turns last.held
front_of_part first turns last w = part-front first w.done turns w.at last w.ran w.fewer w.part

front-of-none : (first : Start) (turns : ℕ) (last : Outside) → DidNothing first last → WroteFront first turns last.held
front-of-none first turns last none =
    whole-front first 0 turns (record { ahead = first.ahead; coming = first.coming; node = first_node first.content; sent = first.sent; held = first.held }) last.held (begins first) (omega arith)
    none.unwritten

pub front_of_link : (first : Start) (turns : ℕ) (last : Outside) → LinkFailed first turns last → WroteFront first turns last.held
front_of_link first turns last (inl none) = front-of-none first turns last none
front_of_link first turns last (inr broken) = front_of_broken first turns last broken

pub front_of_stopped : (first : Start) (turns : ℕ) (last : Outside) → StoppedAfter first turns last → WroteFront first turns last.held
front_of_stopped first turns last (inl none) = front-of-none first turns last none
front_of_stopped first turns last (inr (inl broken)) = front_of_broken first turns last broken
front_of_stopped first turns last (inr (inr part)) = front_of_part first turns last part

pub front_of_ran : (first : Start) (turns : ℕ) (last : Outside) → Ran first turns last → WroteFront first turns last.held
front_of_ran first turns last ran =
    let text : List ℕ = node_text first.content ran.seen in
    let many : length ran.seen ≡ turns = ran.many in
    record {
      seen = ran.seen;
      sees = ran.sees;
      most = omega arith;
      count = length text;
      held = ran.held ∙ ap (append_known first.held) (sym (take_all (length text) text (omega arith)));
    }

-- what holds of a run that begins when the node listens holds of the whole run
pub start_on : (P : Start → Type 0) (c d : Content) (ahead : Ahead) (coming coming_then : Coming) (sent sent_then : Datagrams) (held : Option (List ℕ)) → d ≡ c → coming_then ≡ coming → sent_then ≡ sent
    → P (start d ahead coming_then sent_then held) → P (start c ahead coming sent held)
start_on P c d ahead coming coming_then sent sent_then held same still unsent is =
    let one : P (start c ahead coming_then sent_then held) = subst (λ (x : Content). P (start x ahead coming_then sent_then held)) same is in
    let two : P (start c ahead coming sent_then held) = subst (λ (l : Coming). P (start c ahead l sent_then held)) still one in
    subst (λ (d : Datagrams). P (start c ahead coming d held)) unsent two

-- the turns that follow when the node listens
pub ran_on : {A E : Type 0} (r : Result A E) (c d : Content) (ahead : Ahead) (coming coming_then : Coming) (sent sent_then : Datagrams) (held : Option (List ℕ)) (turns : ℕ) (at : Stand)
    → d ≡ c → coming_then ≡ coming → sent_then ≡ sent → OnOk r (HasRun (start d ahead coming_then sent_then held) turns at)
    → OnOk r (Ran (start c ahead coming sent held) turns (outside at.ahead at.coming at.sent at.held))
ran_on (Err e) c d ahead coming coming_then sent sent_then held turns at same still unsent ran = tt
ran_on (Ok x) c d ahead coming coming_then sent sent_then held turns at same still unsent ran =
    ran_whole (start c ahead coming sent held) turns at (start_on (λ (s : Start). HasRun s turns at) c d ahead coming coming_then sent sent_then held same still unsent ran)
