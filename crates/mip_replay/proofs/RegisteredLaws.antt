-- The registered homes of a permitted history.
use Rattle.std.proofs.Common.{◌≡◌, ℕ, List, ◌∷◌, ◌++◌, sym, subst}
use Rattle.std.specs.Prelude.{true, Some}
use Rattle.mip_words.specs.declared.address.Address.{Address}
use Rattle.mip_schedule.specs.Contents.{Content}
use Rattle.mip_entries.specs.declared.entry.Entry.{Entry}
use Rattle.mip_history.specs.Setup.{setup_of}
use Rattle.mip_history.specs.Permitted.{permitted}
use Rattle.mip_history.specs.Registered.{is_agent_at, registered_in, IsRegistered, HomeChange}
use Rattle.mip_replay.specs.Homes.{HomesAreSent}

abbrev pub AreSent : Type 0
AreSent = (c : Content) (n : ℕ) (home careof : Address) → is_agent_at (setup_of c) n ≡ true → registered_in (setup_of c) (permitted c) n home ≡ Some careof → IsRegistered (setup_of c) (permitted c) n home careof

abbrev pub AreChanged : Type 0
AreChanged = (c : Content) (before : List Entry) (e : Entry) (after : List Entry) (n : ℕ) (home : Address) → permitted c ≡ before ++ e ∷ after → is_agent_at (setup_of c) n ≡ true → HomeChange (setup_of c) before e n home

pub homes_of_content : AreSent → AreChanged → (c : Content) → HomesAreSent (setup_of c) (permitted c)
homes_of_content sent changed c = record {
  sent = λ n home careof mine is. sent c n home careof mine is;
  changes = λ before e after n home whole mine. changed c before e after n home whole mine;
}

pub homes_of : AreSent → AreChanged → (c : Content) (h : List Entry) → h ≡ permitted c → HomesAreSent (setup_of c) h
homes_of sent changed c h is = subst (HomesAreSent (setup_of c)) (sym is) (homes_of_content sent changed c)
