-- Laws and invariants of Spelling: only proofs stand on them.
use Rattle.std.specs.Prelude.{◌^◌, ◌<◌, IfSome}
use Rattle.mip_icmp.specs.declared.prefix_info.PrefixInfo.{PrefixInfo}
use Rattle.mip_icmp.specs.declared.agent_info.AgentInfo.{AgentInfo}
use Rattle.mip_icmp.specs.declared.options.IcmpSet.{IcmpSet}
use Rattle.mip_icmp.specs.Said.{Said, Parameter, Advertisement, DiscoverAsk, DiscoverReply, PrefixAsk, PrefixReply}

-- numbers that have a place in a message
pub record FitsPrefix (p : PrefixInfo) : Type 0 where
  pub valid : p.valid < 2 ^ 32
  pub preferred : p.preferred < 2 ^ 32
  pub address : p.address.0 < 2 ^ 128

pub record FitsAgent (a : AgentInfo) : Type 0 where
  pub preference : a.preference < 2 ^ 16
  pub life : a.life < 2 ^ 16

pub record FitsSet (set : IcmpSet) : Type 0 where
  pub prefix : IfSome set.prefix FitsPrefix
  pub interval : IfSome set.interval (λ n. n < 2 ^ 32)
  pub agent : IfSome set.agent FitsAgent

abbrev pub Fits : Said → Type 0
Fits (Parameter pointer quoted) = pointer < 2 ^ 32
Fits (Advertisement hop agent life options) = (life < 2 ^ 16) × FitsSet options
Fits (DiscoverAsk identifier) = identifier < 2 ^ 16
Fits (DiscoverReply identifier agents) = identifier < 2 ^ 16
Fits (PrefixAsk identifier) = identifier < 2 ^ 16
Fits (PrefixReply identifier options) = (identifier < 2 ^ 16) × FitsSet options
