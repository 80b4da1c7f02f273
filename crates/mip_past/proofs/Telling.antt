-- What a node's answers make of a question that is a fold over the entries of a run: only what it leaves of itself counts.
use Rattle.std.proofs.Common.{◌≡◌, ◌≢◌, ℕ, List, [], ◌∷◌, ◌++◌, Bool, true, false, length, refl, ap, ◌∙◌}
use Rattle.std.specs.Prelude.{fold, Option, None, is_some, unwrap_or, ◌||◌}
use Rattle.std.proofs.lemmas.List.Sums.{fold-append}
use Rattle.mip_words.specs.declared.address.Address.{Address}
use Rattle.mip_words.specs.declared.moment.Moment.{Moment}
use Rattle.mip_words.specs.declared.ids.LinkId.{LinkId}
use Rattle.mip_entries.specs.declared.answer.Answer.{Answer}
use Rattle.mip_entries.specs.declared.answer.Answer.TheVariants.{Send, Note}
use Rattle.mip_entries.specs.declared.entry.Entry.{Entry}
use Rattle.mip_entries.specs.declared.entry.Entry.TheVariants as entries
use Rattle.mip_entries.specs.Completed.{node_id, named}
use Rattle.mip_entries.specs.Stamped.{Stamped}
use Rattle.mip_provenance.specs.declared.accepted_update.AcceptedUpdate.{AcceptedUpdate}
use Rattle.mip_provenance.specs.declared.mark.Mark.{Mark}
use Rattle.mip_provenance.specs.declared.mark.Mark.TheVariants.{Origin, Forged}
use Rattle.mip_provenance.specs.Entries.{mark_entry}
use Rattle.mip_provenance.specs.Marks.{mark_in}
use Rattle.mip_rules_agent.specs.Steps as agents
use Rattle.mip_links.specs.Table.{Post}
use Rattle.mip_history.specs.Setup.{Setup}
use Rattle.mip_history.specs.Runs.{Run, note}
use Rattle.mip_history.specs.Questions.{moment_says}
use Rattle.mip_history.specs.Knowing.{now_in}
use Rattle.mip_history.specs.Nodes.{left_by, answered_one, answered}
use Rattle.mip_past.proofs.Silent.{is_loud, no_moment, s-notes, s-claims, s-gives_up, s-posted}

mark_quiet : (m : Mark) → is_loud (mark_entry m) ≡ false
mark_quiet (Origin hot cot update) = refl
mark_quiet (Forged cause) = refl

-- what an entry of node n tells
abbrev pub entry_told : {S : Type 0} → (S → Entry → S) → (n : ℕ) → S → Entry → S
entry_told f n x (entries.Home node home careof sequence end) = f x (entries.Home (node_id n) home careof sequence end)
entry_told f n x (entries.Careof node address) = f x (entries.Careof (node_id n) address)
entry_told f n x _ = x

abbrev pub answer_told : {S : Type 0} → (S → Entry → S) → (n : ℕ) → S → Answer → S
answer_told f n x (Send shield packet) = x
answer_told f n x (Note e) = entry_told f n x e

-- what entries of other nodes are to node m
pub record IsDeaf (m : ℕ) (S : Type 0) (f : S → Entry → S) : Type 0 where
  pub silent : (x : S) (e : Entry) → is_loud e ≡ false → f x e ≡ x
  pub home : (x : S) (n : ℕ) (home careof : Address) (sequence : ℕ) (end : Moment) → m ≢ n → f x (entries.Home (node_id n) home careof sequence end) ≡ x
  pub place : (x : S) (n : ℕ) (address : Address) → m ≢ n → f x (entries.Careof (node_id n) address) ≡ x
  pub life : (x : S) (n : ℕ) → m ≢ n → f x (entries.Restarted (node_id n)) ≡ x
  pub advert : (x : S) (n : ℕ) (link : LinkId) (router : Option Address) → m ≢ n → f x (entries.Advertised (node_id n) link router) ≡ x

module _ (s : Setup) (S : Type 0) (f : S → Entry → S) (d : S) where
  abbrev pub told : Run → S
  told run = fold f d run.past

  pub now_push : (run : Run) (e : Entry) → now_in s (note e run) ≡ unwrap_or (moment_says e) (now_in s run)
  now_push run e = fold-append (λ (at : ℕ) (x : Entry). unwrap_or (moment_says x) at) s.start run.past (e ∷ [])

  pub told_push : (run : Run) (e : Entry) → told (note e run) ≡ f (told run) e
  told_push run e = fold-append f d run.past (e ∷ [])

  -- what is seen of a run: its moment, what is told, and the pasts of its agents
  pub record Seen (now : ℕ) (x : S) (pasts : List (List (Stamped agents.Step))) (run : Run) : Type 0 where
    pub at : now_in s run ≡ now
    pub told_is : told run ≡ x
    pub pasts_are : run.agent_pasts ≡ pasts

  pub seen_here : (run : Run) → Seen (now_in s run) (told run) run.agent_pasts run
  seen_here run = record { at = refl; told_is = refl; pasts_are = refl }

  pub seen_entry : (now : ℕ) (x y : S) (pasts : List (List (Stamped agents.Step))) (e : Entry) (run : Run) → moment_says e ≡ None → f x e ≡ y → Seen now x pasts run → Seen now y pasts (note e run)
  seen_entry now x y pasts e run quiet is seen = record {
    at = now_push run e ∙ ap (λ (o : Option ℕ). unwrap_or o (now_in s run)) quiet ∙ seen.at;
    told_is = told_push run e ∙ ap (λ (z : S). f z e) seen.told_is ∙ is;
    pasts_are = seen.pasts_are;
  }

  module _ (silent : (x : S) (e : Entry) → is_loud e ≡ false → f x e ≡ x) (now : ℕ) (pasts : List (List (Stamped agents.Step))) where
    pub seen_quiet : (x : S) (run : Run) (e : Entry) → is_loud e ≡ false → Seen now x pasts run → Seen now x pasts (note e run)
    seen_quiet x run e quiet seen = seen_entry now x x pasts e run (no_moment e quiet) (silent x e quiet) seen

    pub seen_put : (x : S) (run : Run) (post : Post) → Seen now x pasts run → Seen now x pasts (record run { posts = run.posts ++ post ∷ []; flying = run.flying ++ true ∷ [] })
    seen_put x run post seen = record { at = seen.at; told_is = seen.told_is; pasts_are = seen.pasts_are }

    seen_left : (x : S) (n : ℕ) (e : Entry) (run : Run) → Seen now x pasts run → Seen now (entry_told f n x e) pasts (left_by s n run e)
    seen_left x n (entries.Claimed who link address) run seen = s-claims s (Seen now x pasts) (seen_quiet x) n address run seen
    seen_left x n (entries.Taken who link address holder) run seen = s-claims s (Seen now x pasts) (seen_quiet x) n address run seen
    seen_left x n (entries.Released who link address) run seen = s-gives_up s (Seen now x pasts) (seen_quiet x) n address run seen
    seen_left x n (entries.Restarted node) run seen = seen
    seen_left x n (entries.Home node home careof sequence end) run seen =
        seen_entry now x (f x (entries.Home (node_id n) home careof sequence end)) pasts (entries.Home (node_id n) home careof sequence end) run refl refl seen
    seen_left x n (entries.Careof node address) run seen =
        seen_entry now x (f x (entries.Careof (node_id n) address)) pasts (entries.Careof (node_id n) address) run refl refl seen
    seen_left x n (entries.Accepted node number home binding careof sequence end i j) run seen =
        let update : AcceptedUpdate = record { node = node_id n; number = number; home = home; careof = careof; home_index = i; careof_index = j } in
        s-notes s (Seen now x pasts) (seen_quiet x) (entries.Accepted (node_id n) number home binding careof sequence end i j ∷ mark_entry (mark_in run.past update) ∷ []) run
        (ap (λ (b : Bool). b || false) (mark_quiet (mark_in run.past update))) seen
    seen_left x n e run seen = seen_quiet x run (named n 0 (length run.posts) e) refl seen

    seen_answer : (x : S) (n from : ℕ) (answer : Answer) (run : Run) → Seen now x pasts run → Seen now (answer_told f n x answer) pasts (answered_one s n from run answer)
    seen_answer x n from (Send shield packet) run seen =
        s-posted s (Seen now x pasts) (seen_quiet x) (seen_put x) (record { from = from; shield = shield; packet = packet }) None (entries.Sent (length run.posts) (node_id n) (is_some shield) packet) run refl seen
    seen_answer x n from (Note e) run seen = seen_left x n e run seen

    pub seen_answers : (x : S) (n from : ℕ) (answers : List Answer) (run : Run) → Seen now x pasts run → Seen now (fold (answer_told f n) x answers) pasts (answered s n from run answers)
    unfolding answered
    seen_answers x n from [] run seen = seen
    seen_answers x n from (answer ∷ answers) run seen =
        seen_answers (answer_told f n x answer) n from answers (answered_one s n from run answer) (seen_answer x n from answer run seen)

-- another node tells nothing of this one
module _ (m : ℕ) (S : Type 0) (f : S → Entry → S) (deaf : IsDeaf m S f) (n : ℕ) (other : m ≢ n) where
  other_entry : (x : S) (e : Entry) → entry_told f n x e ≡ x
  other_entry x (entries.Home node home careof sequence end) = deaf.home x n home careof sequence end other
  other_entry x (entries.Careof node address) = deaf.place x n address other
  other_entry x _ = refl

  other_answer : (x : S) (answer : Answer) → answer_told f n x answer ≡ x
  other_answer x (Send shield packet) = refl
  other_answer x (Note e) = other_entry x e

  pub other_answers : (x : S) (answers : List Answer) → fold (answer_told f n) x answers ≡ x
  other_answers x [] = refl
  other_answers x (answer ∷ answers) = ap (λ (y : S). fold (answer_told f n) y answers) (other_answer x answer) ∙ other_answers x answers
