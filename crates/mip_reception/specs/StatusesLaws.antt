-- Laws and invariants of Statuses: only proofs stand on them.
use Rattle.std.specs.Prelude.{ℕ, Bool, not, ◌&&◌, ◌==◌}
use Rattle.mip_reception.specs.Statuses.{home_registration_not_supported, expired_home_nonce, expired_careof_nonce, expired_nonces}

-- a correspondent's acknowledgement has an authenticator but for these, where no key could be made. RFC 6275 section 9.5.4
abbrev pub is_authorized : ℕ → Bool
is_authorized status =
    not (status == home_registration_not_supported) && not (status == expired_home_nonce)
    && not (status == expired_careof_nonce) && not (status == expired_nonces)
