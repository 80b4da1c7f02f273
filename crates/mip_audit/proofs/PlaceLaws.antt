-- Entries are the same where their numbers are.
use Rattle.std.proofs.Common.{◌≡◌, ℕ, List, Bool, true, false, sym, ap, ◌∙◌}
use Rattle.std.specs.Str.{bytes_eq}
use Rattle.std.proofs.lemmas.Slice.Eq.{bytes_eq-Decides}
use Rattle.mip_entries.specs.declared.entry.Entry.{Entry}
use Rattle.mip_audit.specs.EntryNumbers.{entry_numbers}
use Rattle.mip_audit.specs.Places.{Tells}
use Rattle.mip_audit.proofs.EntryNumberLaws.{same_entry}

pub told_same : (a b : Entry) (one other : List ℕ) (same : Bool) → one ≡ entry_numbers a → other ≡ entry_numbers b → same ≡ bytes_eq one other → Tells same a b
told_same a b one other same of_a of_b is = record {
  yes = λ e. same_entry a b (sym of_a ∙ (bytes_eq-Decides one other).0 (sym is ∙ e) ∙ of_b);
  no = λ e same_is. absurd (let bad : true ≡ false = sym ((bytes_eq-Decides one other).1 (of_a ∙ ap entry_numbers same_is ∙ sym of_b)) ∙ sym is ∙ e in cc);
}
