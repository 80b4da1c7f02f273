-- The lines of a listing, each a word and what it says.
use Rattle.std.specs.Prelude.{ℕ, List, [], ◌∷◌, ◌++◌, Bool, not, ◌||◌, Option, Some, None, if◌then◌else◌, codes, decimal}
use Rattle.mip_words.specs.Hex.{hex_of}
use Rattle.mip_words.specs.declared.address.Address.{Address}
use Rattle.mip_lines.specs.Lines.{line_text}
use Rattle.mip_lines.specs.HexFields.{number_hex, address_hex, hex_text}
use Rattle.mip_mobhdr.specs.declared.indices.Indices.{Indices}

-- a line of two fields
abbrev pub pair_line : List ℕ → List ℕ → List ℕ
pair_line word field = line_text (word ∷ field ∷ [])

-- an address, or `-`
abbrev pub address_field : Option Address → List ℕ
address_field None = codes "-"
address_field (Some address) = address_hex address

-- ---- the headers

abbrev pub source_line : Address → List ℕ
source_line address = pair_line (codes "source") (address_hex address)

abbrev pub destination_line : Address → List ℕ
destination_line address = pair_line (codes "destination") (address_hex address)

abbrev pub hop_line : ℕ → List ℕ
hop_line n = pair_line (codes "hop") (decimal n)

abbrev pub class_line : ℕ → List ℕ
class_line n = pair_line (codes "class") (decimal n)

abbrev pub flow_line : ℕ → List ℕ
flow_line n = pair_line (codes "flow") (decimal n)

abbrev pub route_line : Option Address → List ℕ
route_line address = pair_line (codes "route") (address_field address)

-- the Home Address option
abbrev pub home_option_line : Option Address → List ℕ
home_option_line address = pair_line (codes "home") (address_field address)

abbrev pub proto_line : ℕ → List ℕ
proto_line n = pair_line (codes "proto") (decimal n)

-- ---- the body

abbrev pub message_line : List ℕ → List ℕ
message_line word = pair_line (codes "message") word

abbrev pub fault_line : List ℕ → List ℕ
fault_line word = pair_line (codes "fault") word

abbrev pub icmp_line : ℕ → List ℕ
icmp_line type = pair_line (codes "icmp") (decimal type)

-- the bytes of any other body, `-` for none
abbrev pub body_line : List ℕ → List ℕ
body_line bytes = pair_line (codes "body") (hex_text bytes)

-- ---- fields of mobility messages

abbrev pub index_line : ℕ → List ℕ
index_line n = pair_line (codes "index") (decimal n)

abbrev pub cookie_line : ℕ → List ℕ
cookie_line n = pair_line (codes "cookie") (number_hex 8 n)

abbrev pub token_line : List ℕ → List ℕ
token_line bytes = pair_line (codes "token") (hex_of bytes)

abbrev pub sequence_line : ℕ → List ℕ
sequence_line n = pair_line (codes "sequence") (decimal n)

-- a letter where its flag is set
abbrev pub letter : Bool → List ℕ → List ℕ
letter flag text = if flag then text else []

-- the letters of the flags that are set, or `-` where none is
abbrev pub flags_field : Bool → Bool → Bool → Bool → List ℕ
flags_field ack home local key =
    letter ack (codes "A") ++ (letter home (codes "H") ++ (letter local (codes "L") ++ (letter key (codes "K") ++ letter (not (ack || home || local || key)) (codes "-"))))

abbrev pub flags_line : Bool → Bool → Bool → Bool → List ℕ
flags_line ack home local key = pair_line (codes "flags") (flags_field ack home local key)

-- in units of 4 s
abbrev pub lifetime_line : ℕ → List ℕ
lifetime_line n = pair_line (codes "lifetime") (decimal n)

abbrev pub status_line : ℕ → List ℕ
status_line n = pair_line (codes "status") (decimal n)

-- the home address of a Binding Error
abbrev pub home_line : Address → List ℕ
home_line address = pair_line (codes "home") (address_hex address)

-- ---- mobility options, each where it is present

abbrev pub advice_line : Option ℕ → List ℕ
advice_line None = []
advice_line (Some n) = pair_line (codes "advice") (decimal n)

abbrev pub indices_line : Indices → List ℕ
indices_line i = line_text (codes "nonces" ∷ decimal i.home ∷ decimal i.careof ∷ [])

abbrev pub nonces_line : Option Indices → List ℕ
nonces_line None = []
nonces_line (Some i) = indices_line i

abbrev pub binding_number_line : Option ℕ → List ℕ
binding_number_line None = []
binding_number_line (Some n) = pair_line (codes "number") (decimal n)

abbrev pub alternate_line : Option Address → List ℕ
alternate_line None = []
alternate_line (Some address) = pair_line (codes "alternate") (address_hex address)

abbrev pub authorization_line : Option (List ℕ) → List ℕ
authorization_line None = []
authorization_line (Some bytes) = pair_line (codes "authorization") (hex_of bytes)
