-- Why a packet, an update or a sending came to nothing, as numbers.
use Rattle.std.specs.Prelude.{ℕ}
use Rattle.mip_words.specs.declared.why.Why.{Why}
use Rattle.mip_words.specs.declared.why.Why.TheVariants as whys

abbrev pub why_number : Why → ℕ
why_number whys.NoLink = 0
why_number whys.Hop = 1
why_number whys.NoHolder = 2
why_number whys.Shield = 3
why_number whys.Detached = 4
why_number whys.Unregistered = 5
why_number whys.NoRoute = 6
why_number whys.Size = 7
why_number whys.Short = 8
why_number whys.Version = 9
why_number whys.Length = 10
why_number whys.Header = 11
why_number whys.Route = 12
why_number whys.Option = 13
why_number whys.Checksum = 14
why_number whys.Kind = 15
why_number whys.Proto = 16
why_number whys.HeaderLen = 17
why_number whys.MobilityOption = 18
why_number whys.Address = 19
why_number whys.Probe = 20
why_number whys.HomeOption = 21
why_number whys.Unroutable = 22
why_number whys.Options = 23
why_number whys.Authenticator = 24
why_number whys.Role = 25
why_number whys.Icmp = 26
why_number whys.NoNext = 27
why_number whys.Unshielded = 28
why_number whys.Entry = 29
why_number whys.Nested = 30
why_number whys.Cookie = 31
why_number whys.Ack = 32
why_number whys.Error = 33
why_number whys.Refresh = 34
why_number whys.Frame = 35
