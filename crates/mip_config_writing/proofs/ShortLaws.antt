-- The text of a configuration in the grammar is short.
use Rattle.std.proofs.Common.{◌≡◌, ℕ, ◌*◌, ◌<◌, ◌≤◌, ◌^◌, List, [], ◌∷◌, ◌++◌, length, Bool, true, refl, arith, length-append}
use Rattle.std.specs.Prelude.{Option, Some, None, codes, decimal, ◌&&◌, map, nat_le, nat_lt, not}
use Rattle.std.specs.List.{list_all}
use Rattle.std.proofs.lemmas.Bool.{and_parts, leb-true, le-leb}
use Rattle.std.proofs.lemmas.Fmt.{length-decimal-le}
use Rattle.std.proofs.lemmas.List.{length-map}
use Rattle.mip_words.proofs.Fields.{length-number_bytes}
use Rattle.mip_words.proofs.HexLaws.{length-hex_of}
use Rattle.mip_words.specs.Addresses.{address_bytes}
use Rattle.mip_words.specs.Hex.{hex_of}
use Rattle.mip_words.specs.Numbers.{number_bytes}
use Rattle.mip_words.specs.declared.address.Address.{Address}
use Rattle.mip_lines.specs.HexFields.{address_hex, hex_text}
use Rattle.mip_lines.specs.Lines.{spaced, line_text, lines_text}
use Rattle.mip_symbols.specs.Spelled.{or_word}
use Rattle.mip_frames.specs.declared.route.Route.{Route}
use Rattle.mip_schedule.specs.EventTimes.{is_reserved}
use Rattle.mip_config.specs.Configs.{Content}
use Rattle.mip_config.specs.declared.payload.Payload.{Payload}
use Rattle.mip_config.specs.declared.role.Role.{Role}
use Rattle.mip_config.specs.declared.role.Role.TheVariants.{Agent, Correspondent, Mobile}
use Rattle.mip_config_writing.specs.Grammar.{is_within, are_bytes, is_port, is_fallback, is_route, is_address, is_role, is_payload, InGrammar}
use Rattle.mip_config_writing.specs.Spelling.{head_rows, route_text, default_rows, role_text, serve_text, payload_text, config_rows, spelling}
use Rattle.mip_config_writing.proofs.FieldReadings.{within}
use Rattle.mip_config_writing.proofs.PlainLaws.{each_row, both_rows}

-- a field of 1,024 bytes at most, and a line of five such fields at most
abbrev is_short : List ℕ → Bool
is_short field = nat_le (length field) 1024

abbrev is_short_row : List (List ℕ) → Bool
is_short_row row = nat_le (length row) 5 && list_all is_short row

fields_short : (fields : List (List ℕ)) → list_all is_short fields ≡ true → length (spaced fields) ≤ 1025 * length fields
fields_short [] are = omega arith
fields_short (f ∷ fields) are =
    let p = and_parts (is_short f) (list_all is_short fields) are in
    omega (arith, leb-true (length f) 1024 p.0, fields_short fields p.1, length-append f (spaced fields))

line_short : (row : List (List ℕ)) → is_short_row row ≡ true → length (line_text row) ≤ 5126
unfolding line_text
line_short [] is = omega arith
line_short (f ∷ fields) is =
    let p = and_parts (nat_le (length (f ∷ fields)) 5) (list_all is_short (f ∷ fields)) is in
    let q = and_parts (is_short f) (list_all is_short fields) p.1 in
    omega (arith, leb-true (length (f ∷ fields)) 5 p.0, leb-true (length f) 1024 q.0, fields_short fields q.1, length-append f (spaced fields ++ 10 ∷ []), length-append (spaced fields) (10 ∷ []))

lines_short : (rows : List (List (List ℕ))) → list_all is_short_row rows ≡ true → length (lines_text rows) ≤ 5126 * length rows
lines_short [] are = omega arith
lines_short (row ∷ rows) are =
    let p = and_parts (is_short_row row) (list_all is_short_row rows) are in
    omega (arith, line_short row p.0, lines_short rows p.1, length-append (line_text row) (lines_text rows))

number_short : (low high n : ℕ) → is_within low high n ≡ true → high < 10 ^ 9 → is_short (decimal n) ≡ true
number_short low high n is small =
    let p = within low high n is in
    let few : length (decimal n) ≤ 9 = length-decimal-le 9 n (omega arith) (omega arith) (omega arith) in
    le-leb (length (decimal n)) 1024 (omega arith)

hex_short : (bytes : List ℕ) → length bytes ≤ 512 → is_short (hex_of bytes) ≡ true
hex_short bytes few = le-leb (length (hex_of bytes)) 1024 (omega (arith, length-hex_of bytes, few))

hex_text_short : (bytes : List ℕ) → length bytes ≤ 512 → is_short (hex_text bytes) ≡ true
unfolding hex_text
hex_text_short [] few = refl
hex_text_short (b ∷ bytes) few = hex_short (b ∷ bytes) few

address_short : (a : Address) → is_short (address_hex a) ≡ true
address_short a = hex_short (address_bytes a) (omega (arith, length-number_bytes 16 a.0))

some_address_short : (o : Option Address) → is_short (or_word (codes "find") address_hex o) ≡ true
some_address_short None = refl
some_address_short (Some a) = address_short a

route_short : (r : Route) → is_route r ≡ true → is_short_row (route_text r) ≡ true
route_short r is =
    let p = and_parts (nat_lt r.prefix.0 (2 ^ 64)) (is_port r.port) is in
    rw (hex_short (number_bytes 8 r.prefix.0) (omega (arith, length-number_bytes 8 r.prefix.0)), number_short 1 65535 r.port p.1 (omega arith)) refl

default_short : (o : Option ℕ) → is_fallback o ≡ true → (list_all is_short_row (default_rows o) ≡ true) × (length (default_rows o) ≤ 1)
default_short None is = (refl, omega arith)
default_short (Some port) is = (rw (number_short 1 65535 port is (omega arith)) refl, omega arith)

role_short : (role : Role) → is_role role ≡ true → is_short_row (role_text role) ≡ true
role_short (Agent a p l r) is =
    let x = and_parts (is_address a) (is_within 0 65535 p && (is_within 0 65535 l && is_within 1 64 r)) is in
    let y = and_parts (is_within 0 65535 p) (is_within 0 65535 l && is_within 1 64 r) x.1 in
    let z = and_parts (is_within 0 65535 l) (is_within 1 64 r) y.1 in
    rw (address_short a, number_short 0 65535 p y.0 (omega arith), number_short 0 65535 l z.0 (omega arith), number_short 1 64 r z.1 (omega arith)) refl
role_short (Correspondent a r) is =
    let x = and_parts (is_address a) (is_within 1 64 r) is in
    rw (address_short a, number_short 1 64 r x.1 (omega arith)) refl
role_short (Mobile a g) is = rw (address_short a, some_address_short g) refl

serve_short : (a : Address) → is_address a ≡ true → is_short_row (serve_text a) ≡ true
serve_short a is = rw (address_short a) refl

payload_short : (p : Payload) → is_payload p ≡ true → is_short_row (payload_text p) ≡ true
payload_short p is =
    let a = and_parts (is_within 1 1000000 p.turn) _ is in
    let b = and_parts (is_address p.to) _ a.1 in
    let c = and_parts (is_within 0 255 p.proto) _ b.1 in
    let d = and_parts (not (is_reserved p.proto)) _ c.1 in
    let e = and_parts (nat_le (length p.payload) 512) (are_bytes p.payload) d.1 in
    rw (number_short 1 1000000 p.turn a.0 (omega arith), address_short p.to, number_short 0 255 p.proto c.0 (omega arith), hex_text_short p.payload (leb-true (length p.payload) 512 e.0)) refl

head_short : (c : Content) → InGrammar c → list_all is_short_row (head_rows c.seed c.node c.port) ≡ true
head_short c is =
    rw (hex_short c.seed (omega (arith, is.seed_size)), number_short 0 31 c.node.0 is.node (omega arith), number_short 1 65535 c.port is.port (omega arith)) refl

rows_short : (c : Content) → InGrammar c → list_all is_short_row (config_rows c) ≡ true
rows_short c is =
    let homes : List (List (List ℕ)) = map serve_text c.serves in
    let payloads : List (List (List ℕ)) = map payload_text c.payloads in
    let behind_default : List (List (List ℕ)) = role_text c.role ∷ (homes ++ payloads) in
    let behind_routes : List (List (List ℕ)) = default_rows c.fallback ++ behind_default in
    both_rows is_short_row (head_rows c.seed c.node c.port) (map route_text c.routes ++ behind_routes) (head_short c is)
    (both_rows is_short_row (map route_text c.routes) behind_routes (each_row is_short_row route_text is_route route_short c.routes is.routes)
    (both_rows is_short_row (default_rows c.fallback) behind_default (default_short c.fallback is.fallback).0
    (both_rows is_short_row (role_text c.role ∷ []) (homes ++ payloads) (rw (role_short c.role is.role) refl)
    (both_rows is_short_row homes payloads (each_row is_short_row serve_text is_address serve_short c.serves is.homes) (each_row is_short_row payload_text is_payload payload_short c.payloads is.payloads)))))

few_rows : (c : Content) → InGrammar c → length (config_rows c) ≤ 1078
few_rows c is =
    let homes : List (List (List ℕ)) = map serve_text c.serves in
    let payloads : List (List (List ℕ)) = map payload_text c.payloads in
    let behind_default : List (List (List ℕ)) = role_text c.role ∷ (homes ++ payloads) in
    omega (
      arith,
      length-append (map route_text c.routes) (default_rows c.fallback ++ behind_default),
      length-append (default_rows c.fallback) behind_default,
      length-append homes payloads,
      length-map c.routes route_text,
      length-map c.serves serve_text,
      length-map c.payloads payload_text,
      is.few_routes,
      is.few_homes,
      is.few_payloads,
      (default_short c.fallback is.fallback).1,
    )

-- so it has fewer than 2 ^ 23 bytes
pub spelling_short : (c : Content) → InGrammar c → length (spelling c) < 2 ^ 23
unfolding spelling
spelling_short c is = omega (arith, lines_short (config_rows c) (rows_short c is), few_rows c is)
