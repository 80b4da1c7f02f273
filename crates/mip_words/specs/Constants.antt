-- The protocol constants. RFC 6275 section 12. Times are in milliseconds, lifetimes in units of 4 s
use Rattle.std.specs.Prelude.{ℕ}

-- for how long a nonce is the newest one, and how many are valid at once. RFC 6275 section 5.2.2
abbrev pub nonce_period : ℕ
nonce_period = 30000

abbrev pub valid_nonces : ℕ
valid_nonces = 8

-- a token serves for less than this after it came
abbrev pub max_token_lifetime : ℕ
max_token_lifetime = 210000

-- no nonce is valid for longer
abbrev pub max_nonce_lifetime : ℕ
max_nonce_lifetime = 240000

-- the longest lifetime that a correspondent grants: 420 s
abbrev pub max_rr_binding_lifetime : ℕ
max_rr_binding_lifetime = 105

-- a unit of a lifetime. RFC 6275 section 6.1.7
abbrev pub lifetime_unit : ℕ
lifetime_unit = 4000

-- the longest lifetime that a home agent grants, and that a mobile asks of it: one hour
abbrev pub max_home_lifetime : ℕ
max_home_lifetime = 900

-- after this an update is sent again for the first time, and the first home registration of a life
abbrev pub initial_bindack_timeout : ℕ
initial_bindack_timeout = 1000

abbrev pub initial_bindack_timeout_first_reg : ℕ
initial_bindack_timeout_first_reg = 1500

-- the longest time between two sendings
abbrev pub max_bindack_timeout : ℕ
max_bindack_timeout = 32000

-- after this a discovery request is sent again for the first time, and how often
abbrev pub initial_dhaad_timeout : ℕ
initial_dhaad_timeout = 3000

abbrev pub dhaad_retries : ℕ
dhaad_retries = 4
