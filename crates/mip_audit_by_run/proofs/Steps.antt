-- What one step more of a run that is computed afresh adds to its history.
use Rattle.std.proofs.Common.{◌≡◌, ℕ, ◌+◌, ◌≤◌, List, ◌++◌, Bool, true, length, drop, sym, ap, ◌∙◌, arith}
use Rattle.std.specs.Prelude.{if◌then◌else◌}
use Rattle.std.proofs.Math.Seq.{drop-append_seam}
use Rattle.std.proofs.lemmas.List.{length-append}
use Rattle.mip_entries.specs.declared.entry.Entry.{Entry}
use Rattle.mip_schedule.specs.Contents.{Content}
use Rattle.mip_afresh_run.specs.Runs.{RunSeen, IsRunOf}
use Rattle.mip_afresh_run.proofs.RunLaws.{told_more}

-- the entries from a place on are those that came behind it
pub items : (old new given more : List Entry) (met : ℕ) → given ≡ new → new ≡ old ++ more → met ≡ length old → (met ≤ length given) × (new ≡ old ++ drop met given)
items old new given more met same is at = (
  omega (arith, at, ap (λ (l : List Entry). length l) (same ∙ is), length-append old more),
  is ∙ ap (λ (l : List Entry). old ++ l) (sym (drop-append_seam old more)) ∙ ap (λ (l : List Entry). old ++ drop (length old) l) (sym (same ∙ is))
      ∙ ap (λ (n : ℕ). old ++ drop n given) (sym at),
)

-- behind a step
pub step_items : (before after : RunSeen) (c : Content) (given : List Entry) (met : ℕ) (more : Bool) → IsRunOf before c → IsRunOf after c → after.next ≡ (if more then before.next + 1 else before.next)
    → more ≡ true → given ≡ after.telling.run.past → met ≡ length before.telling.run.past
    → (met ≤ length given) × (after.telling.run.past ≡ before.telling.run.past ++ drop met given)
step_items before after c given met more was is next true_is same at =
    let counted : after.next ≡ before.next + 1 = next ∙ ap (λ (b : Bool). if b then before.next + 1 else before.next) true_is in
    let told = told_more before after c was is (omega (arith, counted)) in
    items before.telling.run.past after.telling.run.past given told.0 met same told.1 at
