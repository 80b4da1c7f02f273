-- A cache that stands for a past has its floor and its fullness.
use Rattle.std.proofs.Common.{◌≡◌, ℕ, ◌≤◌, List, ap, ◌∙◌, Bool}
use Rattle.std.specs.Prelude.{Option}
use Rattle.mip_words.specs.declared.address.Address.{Address}
use Rattle.mip_nonce.specs.Secrets.{Life}
use Rattle.mip_binding.specs.Acceptance.{Acceptance}
use Rattle.mip_binding.specs.Held.{floor}
use Rattle.mip_bcache.specs.Seen.{CacheSeen, StandsFor, has_no_room}
use Rattle.mip_bcache.proofs.Pasts.{floor_answers, room_answers}
use Rattle.mip_reception.specs.declared.registration.Registration.{Registration}
use Rattle.mip_reception.specs.Registrations.{home_of}
use Rattle.mip_rules_correspondent.specs.Verdicts.{Bench, verdict}
use Rattle.mip_verdict.specs.Benches.{bench_at, bench_after}

pub bench_same : (own : Address) (secrets : Life) (now : ℕ) (cache : CacheSeen) (past : List Acceptance) (r : Registration) → StandsFor cache past → cache.last ≤ now → bench_at own secrets now cache r ≡ bench_after own secrets now cache.limit cache.numbers past r
bench_same own secrets now cache past r stands later =
    let with_floor : Option ℕ → Bench = λ o. record { own = own; secrets = secrets; now = now; floor = o; full = has_no_room cache (home_of r).0 now; numbers = cache.numbers } in
    let with_full : Bool → Bench = λ b. record { own = own; secrets = secrets; now = now; floor = floor past (home_of r).0 now; full = b; numbers = cache.numbers } in
    ap with_floor (floor_answers cache past stands now later (home_of r).0)
    ∙ ap with_full (room_answers cache past stands now later (home_of r).0)

-- and so the verdicts are the same
pub verdict_same : (own : Address) (secrets : Life) (now : ℕ) (cache : CacheSeen) (past : List Acceptance) (r : Registration) (message : List ℕ) → StandsFor cache past → cache.last ≤ now → verdict (bench_at own secrets now cache r) r message ≡ verdict (bench_after own secrets now cache.limit cache.numbers past r) r message
verdict_same own secrets now cache past r message stands later = ap (λ (b : Bench). verdict b r message) (bench_same own secrets now cache past r stands later)
