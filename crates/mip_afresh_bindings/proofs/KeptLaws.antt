-- What is kept by acceptances is what a correspondent keeps, of any past and in any run.
use Rattle.std.proofs.Common.{◌≡◌, ℕ, ◌≤◌, List, refl, sym, ap, subst}
use Rattle.std.specs.Prelude.{Option, Some, None, slice_get}
use Rattle.std.specs.List.{AllByRecursion}
use Rattle.mip_words.specs.declared.address.Address.{Address}
use Rattle.mip_binding.specs.Acceptance.{Acceptance}
use Rattle.mip_entries.specs.Stamped.{Stamped}
use Rattle.mip_entries.specs.Pasts.{RisesFrom}
use Rattle.mip_rules_correspondent.specs.Steps.{Step}
use Rattle.mip_rules_correspondent.specs.Pasts.{accepted_in}
use Rattle.mip_rules_correspondent.specs.Questions.{known}
use Rattle.mip_rules_correspondent.proofs.Acceptances.{holds-answers, floor-answers, full-answers}
use Rattle.mip_rules_correspondent.proofs.Pasts.{known-numbers}
use Rattle.mip_history.specs.Setup.{Setup}
use Rattle.mip_history.specs.Setup.Kind.{Correspondent}
use Rattle.mip_history.specs.SetupLaws.{is_correspondent_host}
use Rattle.mip_history.specs.Runs.{Run, past_at}
use Rattle.mip_history.specs.Knowing.{now_in, known_in}
use Rattle.mip_history.specs.Bound.{accepted_by}
use Rattle.mip_history.proofs.Runs.{IsRun}
use Rattle.mip_afresh_rules.specs.declared.subject.Subject.{Subject}
use Rattle.mip_afresh_rules.specs.Keeping.{IsKept, home_of_packet, holds_home}
use Rattle.mip_afresh_bindings.specs.Keeping.{holds_among, kept_among}

pub kept_known : (room numbers : ℕ) (past : List (Stamped Step)) (now : ℕ) (subject : Subject) → RisesFrom 0 past → AllByRecursion (λ s. s.at ≤ now) past
    → IsKept (kept_among room numbers (accepted_in past) now subject) (known room numbers past).cache now subject.source subject.home
kept_known room numbers past now subject rises early = record {
  bound = bound subject.home;
  last = sym (floor-answers room numbers past rises now (home_of_packet subject.source subject.home) early);
  room = sym (full-answers room numbers past rises now (home_of_packet subject.source subject.home) early);
  count = sym (known-numbers room numbers past);
}
  where
    bound : (home : Option Address) → holds_among (accepted_in past) now subject.source home ≡ holds_home (known room numbers past).cache now subject.source home
    bound None = refl
    bound (Some home) = sym (holds-answers room numbers past rises now home early subject.source)

-- in any run, also between two entries of an event
pub run_kept : (s : Setup) (run : Run) (n : ℕ) (own : Address) (room : ℕ) (subject : Subject) → IsRun s run
    → slice_get s.hosts n ≡ Some (record { address = own; kind = Correspondent room })
    → IsKept (kept_among room s.numbers (accepted_by s.start run.past n) (now_in s run) subject) (known_in s run n room).cache (now_in s run) subject.source subject.home
run_kept s run n own room subject is host =
    let p = is.pasts n (ap is_correspondent_host host) in
    subst (λ (xs : List Acceptance). IsKept (kept_among room s.numbers xs (now_in s run) subject) (known_in s run n room).cache (now_in s run) subject.source subject.home)
    p.accepted (kept_known room s.numbers (past_at run n) (now_in s run) subject p.rises p.early)
