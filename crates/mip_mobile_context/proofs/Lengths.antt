-- How long messages are.
use Rattle.std.proofs.Common.{◌≡◌, ℕ, ◌+◌, ◌≤◌, List, [], ◌++◌, length, sym, subst, arith, length-append}
use Rattle.std.specs.Prelude.{Option, Some, None}
use Rattle.mip_words.specs.Numbers.{number_bytes}
use Rattle.mip_words.specs.declared.address.Address.{Address}
use Rattle.mip_words.proofs.Fields.{length-number_bytes}
use Rattle.mip_ipv6.specs.declared.head.Head.{Head}
use Rattle.mip_ipv6.specs.Sum.{checksum_of}
use Rattle.mip_ipv6.specs.Spelling.{behind_bytes, routing_bytes, options_bytes, second_number}
use Rattle.mip_ipv6.proofs.Canonical.{length_routing, length_options, length_behind}
use Rattle.mip_ipv6.proofs.Sums.{length-with_number_at}
use Rattle.mip_mobhdr.specs.OptionValues.{Values, nothing}
use Rattle.mip_mobhdr.specs.OptionSpelling.{item_bytes}
use Rattle.mip_mobhdr.specs.OptionSpelling.Item.{Authorization}
use Rattle.mip_mobhdr.specs.OptionWriting.{gap, padding, aligned, with_advice, with_nonces, with_number, with_alternate, with_authorization, closed, canonical}
use Rattle.mip_mobhdr.proofs.PaddingLaws.{length_padding}
use Rattle.mip_mobhdr.specs.Said.{Said}
use Rattle.mip_mobhdr.specs.Spelling.{field_bytes, options_said, rest_bytes, unsummed, message_bytes}
use Rattle.mip_icmp.specs.Said as icmp
use Rattle.mip_icmp.specs.Spelling.{icmp_bytes, unsummed as icmp_unsummed}
use Rattle.mip_packets.specs.Authenticated.{with_authenticator}

-- the extension headers take 48 bytes at most
routing-small : (route : Option Address) (next : ℕ) → length (routing_bytes route next) ≤ 24
routing-small None next = omega (arith, length_routing None next)
routing-small (Some address) next = omega (arith, length_routing (Some address) next)

options-small : (home : Option Address) (next : ℕ) → length (options_bytes home next) ≤ 24
options-small None next = omega (arith, length_options None next)
options-small (Some address) next = omega (arith, length_options (Some address) next)

pub behind-short : (head : Head) (body : List ℕ) → length body ≤ 2048 → length (behind_bytes (record { head = head; body = body })) ≤ 2096
behind-short head body short =
    omega (
      arith,
      length_behind (record { head = head; body = body }),
      routing-small head.route (second_number head.home head.proto),
      options-small head.home head.proto,
    )

-- a gap
gap-small : (r place : ℕ) → gap 8 r place ≤ 7
unfolding gap
gap-small r place = omega arith

closed-short : (start : ℕ) (area : List ℕ) → length (closed start area) ≤ length area + 7
unfolding closed
closed-short start area =
    let n : ℕ = gap 8 0 (start + length area) in
    omega (arith, length-append area (padding n), length_padding n, gap-small 0 (start + length area))

-- no option
nothing-short : (start : ℕ) → length (canonical start nothing) ≤ 7
unfolding canonical with_authorization with_alternate with_number with_nonces with_advice
nothing-short start = omega (arith, closed-short start [])

-- an authenticator alone
authenticator-short : (start : ℕ) (bytes : List ℕ) → length bytes ≤ 12 → length (canonical start (with_authenticator bytes nothing)) ≤ 28
unfolding canonical with_authorization with_alternate with_number with_nonces with_advice aligned
authenticator-short start bytes short =
    let n : ℕ = gap 8 2 (start + 0) in
    let area : List ℕ = padding n ++ item_bytes (Authorization bytes) in
    omega (arith, short, closed-short start area, length-append (padding n) (item_bytes (Authorization bytes)), length_padding n, gap-small 2 (start + 0))

-- a message is as long as its fields and its options
message-size : (source destination : Address) (m : Said) → length (message_bytes source destination m) ≡ 6 + length (rest_bytes m)
unfolding message_bytes unsummed
message-size source destination m =
    omega (arith, length-with_number_at 4 (checksum_of source destination 135 (unsummed m) 4) (unsummed m) (omega arith))

rest-size : (m : Said) → length (rest_bytes m) ≡ length (field_bytes m) + length (canonical (6 + length (field_bytes m)) (options_said m))
unfolding rest_bytes
rest-size m = length-append (field_bytes m) (canonical (6 + length (field_bytes m)) (options_said m))

pub plain-short : (source destination : Address) (m : Said) → options_said m ≡ nothing → length (field_bytes m) ≤ 18 → length (message_bytes source destination m) ≤ 2048
plain-short source destination m none fields =
    let options : length (canonical (6 + length (field_bytes m)) (options_said m)) ≤ 7 = subst (λ (o : Values). length (canonical (6 + length (field_bytes m)) o) ≤ 7) (sym none) (nothing-short (6 + length (field_bytes m))) in
    omega (arith, message-size source destination m, rest-size m, options, fields)

pub authorized-short : (source destination : Address) (m : Said) (bytes : List ℕ) → options_said m ≡ with_authenticator bytes nothing → length bytes ≤ 12 → length (field_bytes m) ≤ 18
    → length (message_bytes source destination m) ≤ 2048
authorized-short source destination m bytes some short fields =
    let options : length (canonical (6 + length (field_bytes m)) (options_said m)) ≤ 28 = subst (λ (o : Values). length (canonical (6 + length (field_bytes m)) o) ≤ 28) (sym some) (authenticator-short (6 + length (field_bytes m)) bytes short) in
    omega (arith, message-size source destination m, rest-size m, options, fields)

-- a Parameter Problem is as long as what it quotes
quote-size : (pointer : ℕ) (quoted : List ℕ) → length (icmp_unsummed (icmp.Parameter pointer quoted)) ≡ 8 + length quoted
unfolding icmp_unsummed
quote-size pointer quoted = omega (arith, length-append (number_bytes 4 pointer) quoted, length-number_bytes 4 pointer)

pub problem-short : (source destination : Address) (pointer : ℕ) (quoted : List ℕ) → length quoted ≤ 1232 → length (icmp_bytes source destination (icmp.Parameter pointer quoted)) ≤ 2048
unfolding icmp_bytes
problem-short source destination pointer quoted short =
    let m : icmp.Said = icmp.Parameter pointer quoted in
    omega (
      arith,
      short,
      quote-size pointer quoted,
      length-with_number_at 2 (checksum_of source destination 58 (icmp_unsummed m) 2) (icmp_unsummed m) (omega (arith, quote-size pointer quoted)),
    )
