-- What an acknowledgement needs of the trial that waits for it. RFC 6275 section 11.7.3
use Rattle.std.specs.Prelude.{◌≡◌, ℕ}
use Rattle.std.specs.Option.{option_map_or}
use Rattle.mip_bulist.specs.declared.state.Pending as pending
use Rattle.mip_bulist.specs.declared.trial.Trial.{Trial}
use Rattle.mip_rules_mobile.specs.Trials.{binds_to, sent_at}
use Rattle.mip_mobile_routability.specs.declared.waiting.Waiting.{Waiting}

-- its peer, the care-of address that its update is to bind, and when that was made: at this moment where it is not known
pub record IsOf (w : Waiting) (now : ℕ) (u : Trial pending.Pending) : Type 0 where
  pub peer : w.at.peer ≡ u.peer
  pub binds_to : w.binds_to ≡ binds_to u
  pub sent : w.sent.0 ≡ option_map_or (λ m. m.0) (sent_at u) now
