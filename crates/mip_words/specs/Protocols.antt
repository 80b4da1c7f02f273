-- Next-header numbers, of the registry of assigned Internet protocol numbers
use Rattle.std.specs.Prelude.{ℕ}

-- an IPv6 packet in a tunnel. RFC 2473
abbrev pub ipv6 : ℕ
ipv6 = 41

-- ICMPv6. RFC 4443
abbrev pub icmpv6 : ℕ
icmpv6 = 58

-- no next header. RFC 8200 section 4.7
abbrev pub no_next_header : ℕ
no_next_header = 59

-- the Mobility Header. RFC 6275 section 6.1.1
abbrev pub mobility_header : ℕ
mobility_header = 135
