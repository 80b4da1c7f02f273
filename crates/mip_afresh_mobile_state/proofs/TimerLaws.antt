-- Timers as plain data, and as the definitions have them.
use Rattle.std.proofs.Common.{◌≡◌, ℕ, Bool, true, false, refl, ap, sym, ◌∙◌, List, [], ◌∷◌, ◌++◌, ◌+◌, length, map, take, drop, nat_lt}
use Rattle.std.specs.Prelude.{cond, not, Some, None, unwrap_or, filter, insert}
use Rattle.std.specs.List.{position_or_len}
use Rattle.std.proofs.lemmas.List.{length-map, map-append, take-map, drop-map}
use Rattle.mip_words.specs.declared.moment.Moment.{Moment}
use Rattle.mip_bulist.specs.declared.timer.Timer as seen
use Rattle.mip_bulist.specs.declared.work.Work.{Work}
use Rattle.mip_bulist.specs.Timers.{is_of, without_timer, place_of}
use Rattle.mip_afresh_mobile_state.specs.declared.timer.Timer.{Timer}
use Rattle.mip_afresh_mobile_state.specs.Trials.{timer_seen}

abbrev pub is_other : Work → Timer → Bool
is_other work t = not (is_of work (timer_seen t))

pub others-seen : (work : Work) (ts : List Timer) → map timer_seen (filter (is_other work) ts) ≡ without_timer work (map timer_seen ts)
others-seen work [] = refl
others-seen work (t ∷ ts) = by (is_other work t) (others-seen work ts)
  where
    by : (b : Bool) → map timer_seen (filter (is_other work) ts) ≡ without_timer work (map timer_seen ts)
        → map timer_seen (cond b (t ∷ filter (is_other work) ts) (filter (is_other work) ts)) ≡ cond b (timer_seen t ∷ without_timer work (map timer_seen ts)) (without_timer work (map timer_seen ts))
    by true more = ap (λ (xs : List seen.Timer). timer_seen t ∷ xs) more
    by false more = more

abbrev later_in : Moment → List Timer → ℕ
later_in due ts = position_or_len (λ t. nat_lt due.0 t.due.0) ts

later-seen : (due : Moment) (ts : List Timer) → position_or_len (λ (t : seen.Timer). nat_lt due.0 t.due.0) (map timer_seen ts) ≡ later_in due ts
later-seen due [] = refl
later-seen due (t ∷ ts) = ap (λ n. cond (not (nat_lt due.0 t.due.0)) (1 + n) 0) (later-seen due ts)

pub place-seen : (due : Moment) (ts : List Timer) → place_of due (map timer_seen ts) ≡ unwrap_or (cond (nat_lt (later_in due ts) (length ts)) (Some (later_in due ts)) None) (length ts)
place-seen due ts =
    ap (λ n. unwrap_or (cond (nat_lt n (length (map timer_seen ts))) (Some n) None) (length (map timer_seen ts))) (later-seen due ts)
    ∙ ap (λ n. unwrap_or (cond (nat_lt (later_in due ts) n) (Some (later_in due ts)) None) n) (length-map ts timer_seen)

pub insert-seen : (t : Timer) (n : ℕ) (ts : List Timer) → map timer_seen (insert ts n t) ≡ insert (map timer_seen ts) n (timer_seen t)
insert-seen t n ts =
    map-append timer_seen (take n ts) (t ∷ drop n ts)
    ∙ ap (λ (xs : List seen.Timer). xs ++ timer_seen t ∷ map timer_seen (drop n ts)) (sym (take-map timer_seen n ts))
    ∙ ap (λ (xs : List seen.Timer). take n (map timer_seen ts) ++ timer_seen t ∷ xs) (sym (drop-map timer_seen n ts))
