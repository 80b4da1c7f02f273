-- What a judge keeps of the home of an update: by the rows of its binding cache, and by its past.
use Rattle.std.specs.Prelude.{ℕ, List}
use Rattle.mip_words.specs.declared.address.Address.{Address}
use Rattle.mip_nonce.specs.Secrets.{Life}
use Rattle.mip_binding.specs.Acceptance.{Acceptance}
use Rattle.mip_binding.specs.Held.{floor, is_full}
use Rattle.mip_bcache.specs.Seen.{CacheSeen, floor_at, has_no_room}
use Rattle.mip_reception.specs.declared.registration.Registration.{Registration}
use Rattle.mip_reception.specs.Registrations.{home_of}
use Rattle.mip_rules_correspondent.specs.Verdicts.{Bench}
use Rattle.mip_verdict.specs.declared.judge_context.JudgeContext.{JudgeContext}

-- over the rows of a cache
abbrev pub bench_at : Address → Life → ℕ → CacheSeen → Registration → Bench
bench_at own secrets now cache r = record {
  own = own;
  secrets = secrets;
  now = now;
  floor = floor_at cache (home_of r).0 now;
  full = has_no_room cache (home_of r).0 now;
  numbers = cache.numbers;
}

-- over what a judge has
abbrev pub bench_of : JudgeContext → Registration → Bench
bench_of judge r = bench_at judge.own judge.secrets.now judge.moment.0 judge.cache.now r

-- after these acceptances, oldest first, with room for so many homes and for so many bindings of each
abbrev pub bench_after : Address → Life → (now room numbers : ℕ) → List Acceptance → Registration → Bench
bench_after own secrets now room numbers past r = record {
  own = own;
  secrets = secrets;
  now = now;
  floor = floor past (home_of r).0 now;
  full = is_full room past (home_of r).0 now;
  numbers = numbers;
}
