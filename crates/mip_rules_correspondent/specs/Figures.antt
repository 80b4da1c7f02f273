-- The figures of the standard: the statuses of an acknowledgement (RFC 6275 section 6.1.8), and its constants (section 12). Times
-- are in milliseconds, lifetimes in units of 4 s.
use Rattle.std.specs.Prelude.{◌≡◌, ◌*◌}
use Rattle.mip_words.specs.Constants as constants
use Rattle.mip_reception.specs.Statuses as statuses

pub record HaveTheirNumbers : Type 0 where
  pub accepted : statuses.accepted ≡ 0
  pub insufficient_resources : statuses.insufficient_resources ≡ 130
  pub home_registration_not_supported : statuses.home_registration_not_supported ≡ 131
  pub not_home_subnet : statuses.not_home_subnet ≡ 132
  pub not_home_agent : statuses.not_home_agent ≡ 133
  pub dad_failed : statuses.dad_failed ≡ 134
  pub sequence_out_of_window : statuses.sequence_out_of_window ≡ 135
  pub expired_home_nonce : statuses.expired_home_nonce ≡ 136
  pub expired_careof_nonce : statuses.expired_careof_nonce ≡ 137
  pub expired_nonces : statuses.expired_nonces ≡ 138
  pub invalid_careof_address : statuses.invalid_careof_address ≡ 174

pub record HaveTheirValues : Type 0 where
  pub lifetime_unit : constants.lifetime_unit ≡ 4000
  -- 420 s
  pub max_rr_binding_lifetime : constants.max_rr_binding_lifetime * 4 ≡ 420
  pub max_token_lifetime : constants.max_token_lifetime ≡ 210000
  pub max_nonce_lifetime : constants.max_nonce_lifetime ≡ 240000
  pub initial_bindack_timeout : constants.initial_bindack_timeout ≡ 1000
  pub initial_bindack_timeout_first_reg : constants.initial_bindack_timeout_first_reg ≡ 1500
  pub max_bindack_timeout : constants.max_bindack_timeout ≡ 32000
  pub initial_dhaad_timeout : constants.initial_dhaad_timeout ≡ 3000
  pub dhaad_retries : constants.dhaad_retries ≡ 4
