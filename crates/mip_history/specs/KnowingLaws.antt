-- Laws and invariants of Knowing: only proofs stand on them.
use Rattle.std.specs.Prelude.{ℕ}
use Rattle.mip_words.specs.declared.address.Address.{Address}
use Rattle.mip_rules_mobile.specs.PartLaws.{PartLife, part_life}
use Rattle.mip_history.specs.Setup.{Setup}
use Rattle.mip_history.specs.Runs.{Run, mobile_past_at}
use Rattle.mip_history.specs.Knowing.{secrets_in}

-- the correspondent part of mobile n, since it last restarted
abbrev pub part_in : Setup → Run → ℕ → (home : Address) → PartLife
part_in s run n home = part_life home s.numbers (secrets_in s n 0) (mobile_past_at run n)
