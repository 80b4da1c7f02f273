-- Laws and invariants of Refusing: only proofs stand on them.
use Rattle.std.specs.Prelude.{List, Option, Some, None}
use Rattle.std.specs.List.{filter_map}
use Rattle.mip_words.specs.declared.address.Address.{Address}
use Rattle.mip_rules_agent.specs.Steps.{Step, Releases}

-- the addresses that are given up, in order
abbrev pub release_of : Step → Option Address
release_of (Releases home) = Some home
release_of _ = None

abbrev pub released : List Step → List Address
released steps = filter_map release_of steps
