-- The key that a verdict names.
use Rattle.std.specs.Prelude.{Option, Some, None}
use Rattle.mip_tokens.specs.declared.kbm.Kbm.{Kbm}
use Rattle.mip_rules_correspondent.specs.declared.verdict.Verdict.{Verdict}
use Rattle.mip_rules_correspondent.specs.declared.verdict.Verdict.TheVariants.{Refuse, Deny, Accept}

-- the key under which a verdict is answered
abbrev pub key_in : Verdict → Option Kbm
key_in (Refuse why) = None
key_in (Deny status last kbm) = kbm
key_in (Accept home number accepted granted kbm) = Some kbm
