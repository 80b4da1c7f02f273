-- What an ICMPv6 message says.
use Rattle.std.specs.Prelude.{◌≡◌, ℕ, List, drop, Bool, ⊤}
use Rattle.mip_icmp.specs.Options.{set_of}
use Rattle.mip_icmp.specs.declared.options.IcmpSet.{IcmpSet}
use Rattle.mip_icmp.specs.declared.message.Icmp.{Icmp}
use Rattle.mip_icmp.specs.declared.message.Icmp.TheVariants as read
use Rattle.mip_icmp.specs.declared.plain.PlainIcmp.{PlainIcmp}
use Rattle.mip_icmp.specs.declared.plain.PlainIcmp.TheVariants as plain

pub data Said : Type 0 where
  Parameter : (pointer : ℕ) (quoted : List ℕ) → Said
  Advertisement : (hop : ℕ) (agent : Bool) (life : ℕ) (options : IcmpSet) → Said
  DiscoverAsk : (identifier : ℕ) → Said
  DiscoverReply : (identifier : ℕ) (agents : List ℕ) → Said
  PrefixAsk : (identifier : ℕ) → Said
  PrefixReply : (identifier : ℕ) (options : IcmpSet) → Said

-- a message that was read
abbrev pub said : Icmp → Said
said (read.Parameter pointer quoted) = Parameter pointer quoted.now
said (read.Advertisement hop agent life options) = Advertisement hop agent life (set_of options)
said (read.DiscoverAsk identifier) = DiscoverAsk identifier
said (read.DiscoverReply identifier agents) = DiscoverReply identifier agents.now
said (read.PrefixAsk identifier) = PrefixAsk identifier
said (read.PrefixReply identifier options) = PrefixReply identifier (set_of options)

-- a message that is to be written
abbrev pub said_plain : PlainIcmp → Said
said_plain (plain.Parameter pointer quoted) = Parameter pointer quoted
said_plain (plain.Advertisement hop agent life options) = Advertisement hop agent life options
said_plain (plain.DiscoverAsk identifier) = DiscoverAsk identifier
said_plain (plain.DiscoverReply identifier agents) = DiscoverReply identifier agents
said_plain (plain.PrefixAsk identifier) = PrefixAsk identifier
said_plain (plain.PrefixReply identifier options) = PrefixReply identifier options

-- the bytes of the options are those behind the fixed part
abbrev pub HasSpan : List ℕ → Icmp → Type 0
HasSpan body (read.Advertisement hop agent life options) = options.span.now ≡ drop 16 body
HasSpan body (read.PrefixReply identifier options) = options.span.now ≡ drop 8 body
HasSpan body _ = ⊤
