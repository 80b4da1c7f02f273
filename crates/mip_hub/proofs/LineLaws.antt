-- One line more of a turn.
use Rattle.std.proofs.Common.{◌≡◌, ℕ, suc, ◌+◌, ◌<◌, List, [], ◌∷◌, ◌++◌, length, take, drop, get_or, sym, ap, ◌∙◌, arith, append-nil}
use Rattle.std.specs.List.{flat_map, fold}
use Rattle.std.proofs.Math.Seq.{drop-cons, take-suc}
use Rattle.std.proofs.lemmas.List.{take-append-drop}
use Rattle.std.proofs.lemmas.List.Sums.{fold_more}
use Rattle.std.proofs.lemmas.Grind.{flat_map-append}
use Rattle.mip_outside.specs.declared.put_fault.PutFault.{PutFault}
use Rattle.mip_hub.specs.Calls.{Call, LinkState, made_on, Stops}
use Rattle.mip_hub.specs.Turns.{step_in, calls_in, lines_calls}
use Rattle.mip_hub.specs.declared.hub.Hub.{Hub}
use Rattle.mip_hub.specs.declared.hub_line.HubLine.{HubLine}
use Rattle.mip_hub.proofs.CallLaws.{stops_in, made_more}

more : {X A : Type 0} (f : X → List A) (xs : List X) (i : ℕ) (d : X) → i < length xs → flat_map f (take (i + 1) xs) ≡ flat_map f (take i xs) ++ f (get_or xs i d)
more {A = A} f xs i d below =
    let one : i + 1 ≡ suc i = omega arith in
    ap (λ (n : ℕ). flat_map f (take n xs)) one ∙ ap (flat_map f) (take-suc xs i d below)
    ∙ flat_map-append f (take i xs) (get_or xs i d ∷ []) ∙ ap (λ (l : List A). flat_map f (take i xs) ++ l) (append-nil (f (get_or xs i d)))

split : {X A : Type 0} (f : X → List A) (xs : List X) (i : ℕ) (d : X) → i < length xs → flat_map f xs ≡ flat_map f (take i xs) ++ (f (get_or xs i d) ++ flat_map f (drop (suc i) xs))
split {X} {A} f xs i d below =
    ap (flat_map f) (sym (take-append-drop i xs)) ∙ flat_map-append f (take i xs) (drop i xs)
    ∙ ap (λ (l : List X). flat_map f (take i xs) ++ flat_map f l) (drop-cons xs i d below)

pub line_stops : (turn : ℕ) (lines : List HubLine) (i : ℕ) (d : HubLine) (fault : PutFault) (before mid after : LinkState) → i < length lines
    → mid ≡ made_on (flat_map (calls_in turn) (take i lines)) before → Stops fault (calls_in turn (get_or lines i d)) mid after → Stops fault (lines_calls lines turn) before after
line_stops turn lines i d fault before mid after below made stops =
    stops_in (flat_map (calls_in turn) (take i lines)) (calls_in turn (get_or lines i d)) (flat_map (calls_in turn) (drop (suc i) lines)) (lines_calls lines turn) fault before mid after
    (split (calls_in turn) lines i d below) made stops

pub line_sent : (turn : ℕ) (lines : List HubLine) (i : ℕ) (d : HubLine) (before mid after : LinkState) → i < length lines
    → mid ≡ made_on (flat_map (calls_in turn) (take i lines)) before → after ≡ made_on (calls_in turn (get_or lines i d)) mid → after ≡ made_on (flat_map (calls_in turn) (take (i + 1) lines)) before
line_sent turn lines i d before mid after below made next =
    made_more (flat_map (calls_in turn) (take i lines)) (calls_in turn (get_or lines i d)) before mid after made next
    ∙ ap (λ (calls : List Call). made_on calls before) (sym (more (calls_in turn) lines i d below))

pub line_hub : (turn : ℕ) (lines : List HubLine) (i : ℕ) (d : HubLine) (before mid after : Hub) → i < length lines
    → mid ≡ fold (step_in turn) before (take i lines) → after ≡ step_in turn mid (get_or lines i d) → after ≡ fold (step_in turn) before (take (i + 1) lines)
line_hub turn lines i d before mid after below made next =
    next ∙ ap (λ (h : Hub). step_in turn h (get_or lines i d)) made ∙ sym (fold_more (step_in turn) before lines i d below)
