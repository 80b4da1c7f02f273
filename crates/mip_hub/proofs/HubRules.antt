-- What the lines of a turn do, and how often its datagram goes on.
use Rattle.std.proofs.Common.{◌≡◌, ℕ, List, [], ◌∷◌, ◌++◌, true, false, cond, refl, sym, ap, ◌∙◌, append-nil, inl, inr}
use Rattle.std.specs.Prelude.{Bool, not, ◌==◌, ◌≢◌, ◌⊎◌, Some, None, option_map, replicate}
use Rattle.std.specs.List.{filter, find}
use Rattle.std.proofs.lemmas.Bool.{cond-true, cond-false, eq-eqb}
use Rattle.std.proofs.lemmas.Bool.Decides.{eqb_tells}
use Rattle.std.proofs.lemmas.Grind.{flat_map-append}
use Rattle.std.proofs.lemmas.List.Sums.{fold-append}
use Rattle.mip_words.specs.declared.address.Address.{Address}
use Rattle.mip_words.specs.declared.prefix.Prefix.{Prefix}
use Rattle.mip_frames.specs.Framing.{frame_bytes}
use Rattle.mip_hub.specs.Adverts.{advert_packet}
use Rattle.mip_hub.specs.Calls.{Call, Receives, sent_by}
use Rattle.mip_hub.specs.PassingLaws.{HasPort}
use Rattle.mip_hub.specs.Ports.{is_of, port_at, without, with_port}
use Rattle.mip_hub.specs.Reading.{is_copies}
use Rattle.mip_hub.specs.Turns.{step_in, calls_in, line_done, line_calls, lines_done, lines_calls, count_of, copies_of, seen_calls, begun, turn_calls}
use Rattle.mip_hub.specs.TurnsLaws.{SaysNoCopies, datagrams_of}
use Rattle.mip_hub.specs.declared.hub.Hub.{Hub}
use Rattle.mip_hub.specs.declared.hub_line.HubLine.{HubLine}
use Rattle.mip_hub.specs.declared.hub_line.HubLine.TheVariants.{Claim, Release, Advertise, Copies}
use Rattle.mip_hub.specs.declared.port_row.PortRow.{PortRow}
use Rattle.mip_hub.proofs.PassingLaws.{passes}

differs : (a b : ℕ) → a ≢ b → (a == b) ≡ false
differs a b apart = by (eqb_tells a b)
  where
    by : (((a == b) ≡ true) × (a ≡ b)) ⊎ (((a == b) ≡ false) × (a ≢ b)) → (a == b) ≡ false
    by (inl same) = absurd (apart same.1)
    by (inr other) = other.0

no_line : (turn : ℕ) (lines : List HubLine) → SaysNoCopies turn lines → find (is_copies turn) lines ≡ None
no_line turn [] none = refl
no_line turn (Claim at address port ∷ lines) none = no_line turn lines none
no_line turn (Release at address ∷ lines) none = no_line turn lines none
no_line turn (Advertise at prefix agent port ∷ lines) none = no_line turn lines none
no_line turn (Copies at count ∷ lines) none =
    cond-false (at == turn) (Some (Copies at count)) (find (is_copies turn) lines) (differs at turn none.0) ∙ no_line turn lines none.1

once : (turn : ℕ) (lines : List HubLine) → SaysNoCopies turn lines → copies_of lines turn ≡ 1
unfolding copies_of
once turn lines none = ap count_of (no_line turn lines none)

pub goes_once : (lines : List HubLine) (turn : ℕ) (hub : Hub) (datagram : List ℕ) (port : ℕ) → SaysNoCopies turn lines → HasPort (lines_done lines turn (begun hub)).ports datagram port
    → datagrams_of (turn_calls lines turn (Some datagram) hub) ≡ datagrams_of (lines_calls lines turn) ++ (port, datagram) ∷ []
unfolding turn_calls
goes_once lines turn hub datagram port none has =
    let after : Hub = lines_done lines turn (begun hub) in
    flat_map-append sent_by (lines_calls lines turn) (Receives ∷ seen_calls (copies_of lines turn) (Some datagram) after)
    ∙ ap (λ (l : List (ℕ × List ℕ)). datagrams_of (lines_calls lines turn) ++ l)
    (passes after.ports (copies_of lines turn) datagram port has ∙ ap (λ (n : ℕ). replicate n (port, datagram)) (once turn lines none))

-- ---- addresses and ports

row_gone : (address : Address) (row : PortRow) (rest tail : List PortRow) (its : Bool) → is_of address row ≡ its → find (is_of address) (rest ++ tail) ≡ find (is_of address) tail
    → find (is_of address) (cond (not its) (row ∷ rest) rest ++ tail) ≡ find (is_of address) tail
row_gone address row rest tail true test same = same
row_gone address row rest tail false test same = cond-false (is_of address row) (Some row) (find (is_of address) (rest ++ tail)) test ∙ same

find_gone : (address : Address) (rows tail : List PortRow) → find (is_of address) (without address rows ++ tail) ≡ find (is_of address) tail
unfolding without
find_gone address [] tail = refl
find_gone address (row ∷ rows) tail =
    row_gone address row (filter (λ r. not (is_of address r)) rows) tail (is_of address row) refl (find_gone address rows tail)

port_put : (address : Address) (port : ℕ) (rows : List PortRow) → port_at (with_port address port rows) address ≡ Some port
unfolding port_at with_port
port_put address port rows =
    let row : PortRow = record { address = address; port = port } in
    ap (option_map (λ (r : PortRow). r.port))
    (find_gone address rows (row ∷ []) ∙ cond-true (is_of address row) (Some row) None (eq-eqb address.0 address.0 refl))

port_gone : (address : Address) (rows : List PortRow) → port_at (without address rows) address ≡ None
unfolding port_at
port_gone address rows =
    ap (option_map (λ (r : PortRow). r.port)) (ap (find (is_of address)) (sym (append-nil (without address rows))) ∙ find_gone address rows [])

-- the last line of a turn is done last
last_done : (lines : List HubLine) (turn : ℕ) (line : HubLine) (hub : Hub) → lines_done (lines ++ line ∷ []) turn hub ≡ step_in turn (lines_done lines turn hub) line
last_done lines turn line hub = fold-append (step_in turn) hub lines (line ∷ [])

pub claimed : (lines : List HubLine) (turn : ℕ) (address : Address) (port : ℕ) (hub : Hub)
    → port_at (lines_done (lines ++ Claim turn address port ∷ []) turn hub).ports address ≡ Some port
unfolding line_done
claimed lines turn address port hub =
    let line : HubLine = Claim turn address port in
    let before : Hub = lines_done lines turn hub in
    ap (λ (h : Hub). port_at h.ports address) (last_done lines turn line hub ∙ cond-true (turn == turn) (line_done before line) before (eq-eqb turn turn refl))
    ∙ port_put address port before.ports

pub released : (lines : List HubLine) (turn : ℕ) (address : Address) (hub : Hub)
    → port_at (lines_done (lines ++ Release turn address ∷ []) turn hub).ports address ≡ None
unfolding line_done
released lines turn address hub =
    let line : HubLine = Release turn address in
    let before : Hub = lines_done lines turn hub in
    ap (λ (h : Hub). port_at h.ports address) (last_done lines turn line hub ∙ cond-true (turn == turn) (line_done before line) before (eq-eqb turn turn refl))
    ∙ port_gone address before.ports

-- ---- advertisements

one_sent : (turn : ℕ) (prefix : Prefix) (agent : Bool) (port : ℕ)
    → datagrams_of (calls_in turn (Advertise turn prefix agent port)) ≡ (port, frame_bytes None (advert_packet prefix agent)) ∷ []
unfolding line_calls frame_bytes
one_sent turn prefix agent port =
    let line : HubLine = Advertise turn prefix agent port in
    ap datagrams_of (cond-true (turn == turn) (line_calls line) [] (eq-eqb turn turn refl))

pub advertised : (first rest : List HubLine) (turn : ℕ) (prefix : Prefix) (agent : Bool) (port : ℕ)
    → datagrams_of (lines_calls (first ++ Advertise turn prefix agent port ∷ rest) turn)
    ≡ datagrams_of (lines_calls first turn) ++ (port, frame_bytes None (advert_packet prefix agent)) ∷ datagrams_of (lines_calls rest turn)
advertised first rest turn prefix agent port =
    let line : HubLine = Advertise turn prefix agent port in
    let own : List Call = calls_in turn line in
    ap datagrams_of (flat_map-append (calls_in turn) first (line ∷ rest))
    ∙ flat_map-append sent_by (lines_calls first turn) (own ++ lines_calls rest turn)
    ∙ ap (λ (l : List (ℕ × List ℕ)). datagrams_of (lines_calls first turn) ++ l)
    (flat_map-append sent_by own (lines_calls rest turn) ∙ ap (λ (l : List (ℕ × List ℕ)). l ++ datagrams_of (lines_calls rest turn)) (one_sent turn prefix agent port))
