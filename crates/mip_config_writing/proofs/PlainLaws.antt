-- The fields of a configuration's lines have no space and no line end.
use Rattle.std.proofs.Common.{◌≡◌, ℕ, ◌<◌, ◌^◌, List, [], ◌∷◌, ◌++◌, Bool, true, refl, ◌∙◌, arith}
use Rattle.std.specs.Prelude.{Option, Some, None, codes, decimal, ◌&&◌, map, nat_lt}
use Rattle.std.specs.List.{list_all}
use Rattle.std.proofs.lemmas.Bool.{and_parts, and_from}
use Rattle.std.proofs.lemmas.List.Folds.{list_all-append}
use Rattle.mip_words.specs.Addresses.{address_bytes}
use Rattle.mip_words.specs.Numbers.{number_bytes}
use Rattle.mip_words.specs.declared.address.Address.{Address}
use Rattle.mip_lines.specs.HexFields.{address_hex}
use Rattle.mip_lines.specs.LinesLaws.{is_plain, is_row}
use Rattle.mip_lines.proofs.LineLaws.{decimal_plain, hex_plain, hex_text_plain}
use Rattle.mip_symbols.specs.Spelled.{or_word}
use Rattle.mip_frames.specs.declared.route.Route.{Route}
use Rattle.mip_config.specs.Configs.{Content}
use Rattle.mip_config.specs.declared.payload.Payload.{Payload}
use Rattle.mip_config.specs.declared.role.Role.{Role}
use Rattle.mip_config.specs.declared.role.Role.TheVariants.{Agent, Correspondent, Mobile}
use Rattle.mip_config_writing.specs.Grammar.{is_within, is_port, is_fallback, is_route, is_address, is_role, is_payload, InGrammar}
use Rattle.mip_config_writing.specs.Spelling.{head_rows, route_text, default_rows, role_text, serve_text, payload_text, config_rows}
use Rattle.mip_config_writing.proofs.FieldReadings.{within}

number_plain : (low high n : ℕ) → is_within low high n ≡ true → high < 2 ^ 64 → is_plain (decimal n) ≡ true
number_plain low high n is small = let p = within low high n is in decimal_plain n (omega arith)

address_plain : (a : Address) → is_plain (address_hex a) ≡ true
address_plain a = hex_plain (address_bytes a)

some_address_plain : (o : Option Address) → is_plain (or_word (codes "find") address_hex o) ≡ true
some_address_plain None = refl
some_address_plain (Some a) = address_plain a

route_plain : (r : Route) → is_route r ≡ true → is_row (route_text r) ≡ true
route_plain r is =
    let p = and_parts (nat_lt r.prefix.0 (2 ^ 64)) (is_port r.port) is in
    rw (hex_plain (number_bytes 8 r.prefix.0), number_plain 1 65535 r.port p.1 (omega arith)) refl

default_plain : (o : Option ℕ) → is_fallback o ≡ true → list_all is_row (default_rows o) ≡ true
default_plain None is = refl
default_plain (Some port) is = rw (number_plain 1 65535 port is (omega arith)) refl

role_plain : (role : Role) → is_role role ≡ true → is_row (role_text role) ≡ true
role_plain (Agent a p l r) is =
    let x = and_parts (is_address a) (is_within 0 65535 p && (is_within 0 65535 l && is_within 1 64 r)) is in
    let y = and_parts (is_within 0 65535 p) (is_within 0 65535 l && is_within 1 64 r) x.1 in
    let z = and_parts (is_within 0 65535 l) (is_within 1 64 r) y.1 in
    rw (address_plain a, number_plain 0 65535 p y.0 (omega arith), number_plain 0 65535 l z.0 (omega arith), number_plain 1 64 r z.1 (omega arith)) refl
role_plain (Correspondent a r) is =
    let x = and_parts (is_address a) (is_within 1 64 r) is in
    rw (address_plain a, number_plain 1 64 r x.1 (omega arith)) refl
role_plain (Mobile a g) is = rw (address_plain a, some_address_plain g) refl

serve_plain : (a : Address) → is_address a ≡ true → is_row (serve_text a) ≡ true
serve_plain a is = rw (address_plain a) refl

payload_plain : (p : Payload) → is_payload p ≡ true → is_row (payload_text p) ≡ true
payload_plain p is =
    let a = and_parts (is_within 1 1000000 p.turn) _ is in
    let b = and_parts (is_address p.to) _ a.1 in
    let c = and_parts (is_within 0 255 p.proto) _ b.1 in
    rw (number_plain 1 1000000 p.turn a.0 (omega arith), address_plain p.to, number_plain 0 255 p.proto c.0 (omega arith), hex_text_plain p.payload) refl

-- what holds of the line of each holds of their lines
pub each_row : {X : Type 0} (q : List (List ℕ) → Bool) (text : X → List (List ℕ)) (p : X → Bool) → ((x : X) → p x ≡ true → q (text x) ≡ true) → (xs : List X) → list_all p xs ≡ true → list_all q (map text xs) ≡ true
each_row q text p holds [] are = refl
each_row q text p holds (x ∷ xs) are =
    let s = and_parts (p x) (list_all p xs) are in
    and_from _ _ (holds x s.0) (each_row q text p holds xs s.1)

pub both_rows : (q : List (List ℕ) → Bool) (a b : List (List (List ℕ))) → list_all q a ≡ true → list_all q b ≡ true → list_all q (a ++ b) ≡ true
both_rows q a b one two = list_all-append q a b ∙ and_from _ _ one two

head_plain : (c : Content) → InGrammar c → list_all is_row (head_rows c.seed c.node c.port) ≡ true
head_plain c is = rw (hex_plain c.seed, number_plain 0 31 c.node.0 is.node (omega arith), number_plain 1 65535 c.port is.port (omega arith)) refl

-- the rows of a configuration are cut out of its text again
pub rows_plain : (c : Content) → InGrammar c → list_all is_row (config_rows c) ≡ true
rows_plain c is =
    let homes : List (List (List ℕ)) = map serve_text c.serves in
    let payloads : List (List (List ℕ)) = map payload_text c.payloads in
    let behind_default : List (List (List ℕ)) = role_text c.role ∷ (homes ++ payloads) in
    let behind_routes : List (List (List ℕ)) = default_rows c.fallback ++ behind_default in
    both_rows is_row (head_rows c.seed c.node c.port) (map route_text c.routes ++ behind_routes) (head_plain c is)
    (both_rows is_row (map route_text c.routes) behind_routes (each_row is_row route_text is_route route_plain c.routes is.routes)
    (both_rows is_row (default_rows c.fallback) behind_default (default_plain c.fallback is.fallback)
    (and_from (is_row (role_text c.role)) (list_all is_row (homes ++ payloads)) (role_plain c.role is.role)
    (both_rows is_row homes payloads (each_row is_row serve_text is_address serve_plain c.serves is.homes) (each_row is_row payload_text is_payload payload_plain c.payloads is.payloads)))))
