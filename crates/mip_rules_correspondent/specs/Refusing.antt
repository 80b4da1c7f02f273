-- What a correspondent refuses: a packet that it drops, an update that it denies.
use Rattle.std.specs.Prelude.{Bool, true, false}
use Rattle.mip_rules_correspondent.specs.Steps.{Step, Denies, Drops}

abbrev pub is_refusal : Step → Bool
is_refusal (Denies number status) = true
is_refusal (Drops number why) = true
is_refusal _ = false
