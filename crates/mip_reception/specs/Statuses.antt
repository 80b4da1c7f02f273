-- The statuses of an acknowledgement. RFC 6275 section 6.1.8
use Rattle.std.specs.Prelude.{ℕ, Bool, nat_lt}

-- Binding Update accepted
abbrev pub accepted : ℕ
accepted = 0

-- insufficient resources
abbrev pub insufficient_resources : ℕ
insufficient_resources = 130

-- home registration not supported
abbrev pub home_registration_not_supported : ℕ
home_registration_not_supported = 131

-- not home subnet
abbrev pub not_home_subnet : ℕ
not_home_subnet = 132

-- not home agent for this mobile node
abbrev pub not_home_agent : ℕ
not_home_agent = 133

-- Duplicate Address Detection failed
abbrev pub dad_failed : ℕ
dad_failed = 134

-- sequence number out of window
abbrev pub sequence_out_of_window : ℕ
sequence_out_of_window = 135

-- expired home nonce index, expired care-of nonce index, both
abbrev pub expired_home_nonce : ℕ
expired_home_nonce = 136

abbrev pub expired_careof_nonce : ℕ
expired_careof_nonce = 137

abbrev pub expired_nonces : ℕ
expired_nonces = 138

-- invalid care-of address; when it is answered is this project's own
abbrev pub invalid_careof_address : ℕ
invalid_careof_address = 174

-- those below 128 accept
abbrev pub accepts_it : ℕ → Bool
accepts_it status = nat_lt status 128
