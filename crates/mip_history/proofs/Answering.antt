-- What a node does is quiet, unless it accepts an update.
use Rattle.std.proofs.Common.{◌≡◌, ◌≢◌, ℕ, List, [], ◌∷◌, Bool, true, false, refl, sym, ap, ◌∙◌}
use Rattle.std.specs.Prelude.{None, is_some, length, ◌||◌}
use Rattle.std.specs.List.{list_any, AllByRecursion}
use Rattle.std.proofs.lemmas.List.Folds.{list_any-append}
use Rattle.std.proofs.lemmas.Bool.{or_parts}
use Rattle.mip_entries.specs.declared.answer.Answer.{Answer}
use Rattle.mip_entries.specs.declared.answer.Answer.TheVariants.{Send, Note}
use Rattle.mip_entries.specs.declared.entry.Entry.{Entry}
use Rattle.mip_entries.specs.declared.entry.Entry.TheVariants as entries
use Rattle.mip_entries.specs.Completed.{node_id, named}
use Rattle.mip_entries.specs.Wholes.{IsWhole}
use Rattle.mip_provenance.specs.declared.mark.Mark.{Mark}
use Rattle.mip_provenance.specs.declared.mark.Mark.TheVariants.{Origin, Forged}
use Rattle.mip_provenance.specs.Entries.{mark_entry}
use Rattle.mip_rules_correspondent.specs.Steps.{Step, Accepts, answer_of, answers_of}
use Rattle.mip_rules_correspondent.specs.StepsLaws.{is_acceptance}
use Rattle.mip_rules_agent.specs.Wholes as agents
use Rattle.mip_rules_mobile.specs.Steps as mobiles
use Rattle.mip_rules_mobile.specs.PartLaws.{tells_of_acceptance, concerns_part}
use Rattle.mip_history.specs.Setup.{Setup}
use Rattle.mip_history.specs.SetupLaws.{is_correspondent_at}
use Rattle.mip_history.specs.Runs.{Run}
use Rattle.mip_history.specs.Nodes.{left_by, answered_one, answered}
use Rattle.mip_history.specs.Bound.{is_accepted}
use Rattle.mip_history.proofs.Quiet.{is_told}
use Rattle.mip_history.proofs.Runs.{IsQuiet, quiet_same, quiet_then, quiet_one, quiet_posted, quiet_claims, quiet_gives_up}

-- a mark says nothing of all this
pub mark_quiet : (m : Mark) → is_told (mark_entry m) ≡ false
mark_quiet (Origin hot cot update) = refl
mark_quiet (Forged cause) = refl

-- the nodes that are correspondents are others than those that are not
pub clash : {Q : Type 0} → true ≡ false → Q
clash e = absurd cc

pub differs : (s : Setup) (n m : ℕ) → is_correspondent_at s n ≡ true → is_correspondent_at s m ≡ false → n ≢ m
differs s n m mine other same = clash (sym mine ∙ ap (λ (k : ℕ). is_correspondent_at s k) same ∙ other)

-- an entry that a node leaves
quiet_left : (s : Setup) (n : ℕ) (run : Run) (entry : Entry) → is_accepted entry ≡ false → IsQuiet s run (left_by s n run entry)
quiet_left s n run (entries.Claimed who link address) none = quiet_claims s n address run
quiet_left s n run (entries.Taken who link address holder) none = quiet_claims s n address run
quiet_left s n run (entries.Released who link address) none = quiet_gives_up s n address run
quiet_left s n run (entries.Restarted node) none = quiet_same s run
quiet_left s n run (entries.Accepted node number home binding careof sequence end i j) none = absurd cc
quiet_left s n run entry none = quiet_one s run (named n 0 (length run.posts) entry) refl

-- an answer by which an update is accepted
abbrev pub is_accepting : Answer → Bool
is_accepting (Send shield packet) = false
is_accepting (Note entry) = is_accepted entry

quiet_answer : (s : Setup) (n from : ℕ) (run : Run) (answer : Answer) → is_accepting answer ≡ false → IsQuiet s run (answered_one s n from run answer)
quiet_answer s n from run (Send shield packet) none =
    quiet_posted s (record { from = from; shield = shield; packet = packet }) None (entries.Sent (length run.posts) (node_id n) (is_some shield) packet) run refl
quiet_answer s n from run (Note entry) none = quiet_left s n run entry none

pub quiet_answers : (s : Setup) (n from : ℕ) (run : Run) (answers : List Answer) → list_any is_accepting answers ≡ false
    → IsQuiet s run (answered s n from run answers)
unfolding answered
quiet_answers s n from run [] none = quiet_same s run
quiet_answers s n from run (answer ∷ answers) none =
    let parts = or_parts (is_accepting answer) (list_any is_accepting answers) none in
    let next = answered_one s n from run answer in
    quiet_then s run next (answered s n from next answers) (quiet_answer s n from run answer parts.0) (quiet_answers s n from next answers parts.1)

-- what a correspondent does, where it accepts nothing
none_accepting : (step : Step) → is_acceptance step ≡ false → list_any is_accepting (answer_of step) ≡ false
none_accepting (Accepts number home binding accepted) none = absurd cc
none_accepting _ none = refl

all_silent : (steps : List Step) → list_any is_acceptance steps ≡ false → list_any is_accepting (answers_of steps) ≡ false
all_silent [] none = refl
all_silent (step ∷ steps) none =
    let parts = or_parts (is_acceptance step) (list_any is_acceptance steps) none in
    list_any-append is_accepting (answer_of step) (answers_of steps)
    ∙ ap (λ (c : Bool). c || list_any is_accepting (answers_of steps)) (none_accepting step parts.0)
    ∙ all_silent steps parts.1

pub quiet_steps : (s : Setup) (n from : ℕ) (run : Run) (steps : List Step) → list_any is_acceptance steps ≡ false → IsQuiet s run (answered s n from run (answers_of steps))
quiet_steps s n from run steps none = quiet_answers s n from run (answers_of steps) (all_silent steps none)

-- an agent accepts no update of a correspondent
whole_silent : (answers : List Answer) → AllByRecursion (IsWhole agents.is_own) answers → list_any is_accepting answers ≡ false
whole_silent [] all = refl
whole_silent (Send shield packet ∷ answers) all = whole_silent answers all.1
whole_silent (Note (entries.Accepted node number home binding careof sequence end i j) ∷ answers) all = absurd (let own = all.0 in cc)
whole_silent (Note entry ∷ answers) all = whole_silent answers all.1

pub quiet_whole : (s : Setup) (n from : ℕ) (run : Run) (answers : List Answer) → AllByRecursion (IsWhole agents.is_own) answers → IsQuiet s run (answered s n from run answers)
quiet_whole s n from run answers all = quiet_answers s n from run answers (whole_silent answers all)

-- what a mobile does, where its correspondent part accepts nothing
note_silent : (entry : Entry) → tells_of_acceptance entry ≡ false → is_accepted entry ≡ false
note_silent (entries.Accepted node number home binding careof sequence end i j) none = absurd cc
note_silent _ none = refl

mobile_silent : (step : mobiles.Step) → concerns_part step ≡ false → list_any is_accepting (mobiles.answer_of step) ≡ false
mobile_silent (mobiles.Notes entry) none = ap (λ (b : Bool). b || false) (note_silent entry none)
mobile_silent _ none = refl

pub mobile_silence : (steps : List mobiles.Step) → list_any concerns_part steps ≡ false → list_any is_accepting (mobiles.answers_of steps) ≡ false
mobile_silence [] none = refl
mobile_silence (step ∷ steps) none =
    let parts = or_parts (concerns_part step) (list_any concerns_part steps) none in
    list_any-append is_accepting (mobiles.answer_of step) (mobiles.answers_of steps)
    ∙ ap (λ (c : Bool). c || list_any is_accepting (mobiles.answers_of steps)) (mobile_silent step parts.0)
    ∙ mobile_silence steps parts.1
