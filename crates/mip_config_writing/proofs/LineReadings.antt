-- A line of a configuration that is spelled so comes onto what those before it made.
use Rattle.std.proofs.Common.{◌≡◌, ℕ, ◌<◌, ◌≤◌, ◌^◌, List, [], ◌∷◌, ◌++◌, length, true, false, refl, arith}
use Rattle.std.specs.Prelude.{Option, Some, Ok, codes, decimal, not, ◌&&◌, nat_le, nat_lt}
use Rattle.std.specs.List.{list_any}
use Rattle.std.proofs.lemmas.Bool.{and_parts, leb-true, lt-leb, not-true}
use Rattle.mip_words.specs.declared.address.Address.{Address}
use Rattle.mip_words.specs.declared.prefix.Prefix.{Prefix}
use Rattle.mip_lines.proofs.RowReadings.{row1-again, row2-again, row4-again}
use Rattle.mip_lines.specs.HexFields.{address_hex, number_hex, hex_text}
use Rattle.mip_symbols.specs.Kinds as kinds
use Rattle.mip_symbols.specs.Spelled.{or_word}
use Rattle.mip_symbols.specs.declared.reason.Reason.TheVariants as reasons
use Rattle.mip_frames.specs.declared.route.Route.{Route}
use Rattle.mip_schedule.specs.EventTimes.{is_reserved}
use Rattle.mip_config.specs.Facts.{address_of}
use Rattle.mip_config.specs.Rows.{some_agent, route_row, default_row, agent_row, correspondent_row, mobile_row, role_row, serve_row, payload_row}
use Rattle.mip_config.specs.Drafts.{is_open, is_agent, is_host, is_undecided, route_onto, default_onto, is_anycast, role_onto, is_same, serve_onto, payload_onto, line_onto}
use Rattle.mip_config.specs.declared.config_draft.ConfigDraft.{ConfigDraft}
use Rattle.mip_config.specs.declared.payload.Payload.{Payload}
use Rattle.mip_config.specs.declared.role.Role.{Role}
use Rattle.mip_config.specs.declared.role.Role.TheVariants.{Agent, Correspondent, Mobile}
use Rattle.mip_config_writing.specs.Grammar.{is_within, are_bytes, is_port, is_route, is_address, is_some_address, is_role, is_payload}
use Rattle.mip_config_writing.specs.Spelling.{route_text, default_text, role_text, serve_text, payload_text}
use Rattle.mip_config_writing.proofs.FieldReadings.{number_reads, address_reads, prefix_reads, bytes_read, agent_reads}

abbrev made_route : Prefix → ℕ → Route
made_route prefix port = record { prefix = prefix; port = port }

abbrev made_payload : ℕ → Address → ℕ → List ℕ → Payload
made_payload turn to proto payload = record { turn = turn; to = to; proto = proto; payload = payload }

route_reads : (r : Route) → is_route r ≡ true → route_row (number_hex 8 r.prefix.0 ∷ decimal r.port ∷ []) ≡ Ok r
unfolding route_row
route_reads r is =
    let p = and_parts (nat_lt r.prefix.0 (2 ^ 64)) (is_port r.port) is in
    row2-again reasons.Form kinds.prefix (kinds.number 1 65535) made_route (number_hex 8 r.prefix.0) r.prefix (decimal r.port) r.port (prefix_reads r.prefix p.0) (number_reads 1 65535 r.port p.1 (omega arith))

default_reads : (port : ℕ) → is_port port ≡ true → default_row (decimal port ∷ []) ≡ Ok port
unfolding default_row
default_reads port is = row1-again reasons.Form (kinds.number 1 65535) (λ n. n) (decimal port) port (number_reads 1 65535 port is (omega arith))

agent_role_reads : (a : Address) (p l r : ℕ) → is_role (Agent a p l r) ≡ true → agent_row (address_hex a ∷ decimal p ∷ decimal l ∷ decimal r ∷ []) ≡ Ok (Agent a p l r)
unfolding agent_row
agent_role_reads a p l r is =
    let x = and_parts (is_address a) (is_within 0 65535 p && (is_within 0 65535 l && is_within 1 64 r)) is in
    let y = and_parts (is_within 0 65535 p) (is_within 0 65535 l && is_within 1 64 r) x.1 in
    let z = and_parts (is_within 0 65535 l) (is_within 1 64 r) y.1 in
    row4-again reasons.Form kinds.address (kinds.number 0 65535) (kinds.number 0 65535) (kinds.number 1 64) (λ a p l r. Agent a p l r)
    (address_hex a) a (decimal p) p (decimal l) l (decimal r) r
    (address_reads a x.0) (number_reads 0 65535 p y.0 (omega arith)) (number_reads 0 65535 l z.0 (omega arith)) (number_reads 1 64 r z.1 (omega arith))

correspondent_reads : (a : Address) (r : ℕ) → is_role (Correspondent a r) ≡ true → correspondent_row (address_hex a ∷ decimal r ∷ []) ≡ Ok (Correspondent a r)
unfolding correspondent_row
correspondent_reads a r is =
    let x = and_parts (is_address a) (is_within 1 64 r) is in
    row2-again reasons.Form kinds.address (kinds.number 1 64) (λ a r. Correspondent a r) (address_hex a) a (decimal r) r (address_reads a x.0) (number_reads 1 64 r x.1 (omega arith))

mobile_reads : (a : Address) (g : Option Address) → is_role (Mobile a g) ≡ true → mobile_row (address_hex a ∷ or_word (codes "find") address_hex g ∷ []) ≡ Ok (Mobile a g)
unfolding mobile_row
mobile_reads a g is =
    let x = and_parts (is_address a) (is_some_address g) is in
    row2-again reasons.Form kinds.address some_agent (λ a g. Mobile a g) (address_hex a) a (or_word (codes "find") address_hex g) g (address_reads a x.0) (agent_reads g x.1)

serve_reads : (a : Address) → is_address a ≡ true → serve_row (address_hex a ∷ []) ≡ Ok a
unfolding serve_row
serve_reads a is = row1-again reasons.Form kinds.address (λ a. a) (address_hex a) a (address_reads a is)

-- what is asked of a payload, apart
record IsPayload (p : Payload) : Type 0 where
  turn : is_within 1 1000000 p.turn ≡ true
  to : is_address p.to ≡ true
  proto : is_within 0 255 p.proto ≡ true
  free : is_reserved p.proto ≡ false
  short : length p.payload ≤ 512
  bytes : are_bytes p.payload ≡ true

payload_parts : (p : Payload) → is_payload p ≡ true → IsPayload p
payload_parts p is =
    let a = and_parts (is_within 1 1000000 p.turn) _ is in
    let b = and_parts (is_address p.to) _ a.1 in
    let c = and_parts (is_within 0 255 p.proto) _ b.1 in
    let d = and_parts (not (is_reserved p.proto)) _ c.1 in
    let e = and_parts (nat_le (length p.payload) 512) (are_bytes p.payload) d.1 in
    record { turn = a.0; to = b.0; proto = c.0; free = not-true _ d.0; short = leb-true (length p.payload) 512 e.0; bytes = e.1 }

payload_reads : (p : Payload) → IsPayload p → payload_row (decimal p.turn ∷ address_hex p.to ∷ decimal p.proto ∷ hex_text p.payload ∷ []) ≡ Ok p
unfolding payload_row
payload_reads p is =
    row4-again reasons.Form (kinds.number 1 1000000) kinds.address (kinds.number 0 255) (kinds.bytes 512) made_payload
    (decimal p.turn) p.turn (address_hex p.to) p.to (decimal p.proto) p.proto (hex_text p.payload) p.payload
    (number_reads 1 1000000 p.turn is.turn (omega arith)) (address_reads p.to is.to) (number_reads 0 255 p.proto is.proto (omega arith)) (bytes_read 512 p.payload is.short is.bytes)

-- lines onto a draft
pub route_comes : (d : ConfigDraft) (r : Route) → is_open d.fallback d.role ≡ true → is_route r ≡ true → length d.routes < 64 → line_onto d (route_text r) ≡ Ok (record d { routes = d.routes ++ r ∷ [] })
unfolding line_onto route_onto
route_comes d r free is few = rw (free, route_reads r is, lt-leb 64 (length d.routes) few) refl

pub default_comes : (d : ConfigDraft) (port : ℕ) → is_open d.fallback d.role ≡ true → is_port port ≡ true → line_onto d (default_text port) ≡ Ok (record d { fallback = Some port })
unfolding line_onto default_onto
default_comes d port free is = rw (free, default_reads port is) refl

pub role_comes : (d : ConfigDraft) (role : Role) → is_undecided d.role ≡ true → is_role role ≡ true → is_anycast (address_of role) ≡ false → line_onto d (role_text role) ≡ Ok (record d { role = Some role })
unfolding line_onto role_onto role_row
role_comes d (Agent a p l r) free is own = rw (free, agent_role_reads a p l r is, own) refl
role_comes d (Correspondent a r) free is own = rw (free, correspondent_reads a r is, own) refl
role_comes d (Mobile a g) free is own = rw (free, mobile_reads a g is, own) refl

pub serve_comes : (d : ConfigDraft) (home : Address) → is_agent d.role ≡ true → is_address home ≡ true → length d.serves < 8 → list_any (is_same home) d.serves ≡ false
    → line_onto d (serve_text home) ≡ Ok (record d { serves = d.serves ++ home ∷ [] })
unfolding line_onto serve_onto
serve_comes d home agent is few new = rw (agent, serve_reads home is, lt-leb 8 (length d.serves) few, new) refl

pub payload_comes : (d : ConfigDraft) (p : Payload) → is_host d.role ≡ true → is_payload p ≡ true → length d.payloads < 1000 → line_onto d (payload_text p) ≡ Ok (record d { payloads = d.payloads ++ p ∷ [] })
unfolding line_onto payload_onto
payload_comes d p host is few =
    let parts = payload_parts p is in
    rw (host, payload_reads p parts, lt-leb 1000 (length d.payloads) few, parts.free) refl
