-- What the entries of a run tell of a mobile is what the mobile knows.
use Rattle.std.proofs.Common.{◌≡◌, ◌≢◌, ◌≤◌, ℕ, List, sym, ap, ◌∙◌}
use Rattle.std.specs.Prelude.{Option, Some, option_map, is_some, slice_get}
use Rattle.mip_words.specs.declared.address.Address.{Address}
use Rattle.mip_rules_mobile.specs.declared.registered.Registered.{Registered}
use Rattle.mip_rules_mobile.specs.HomeQuestions.{standing_registration, registered_agent}
use Rattle.mip_rules_mobile.specs.RowQuestions.{bound_row_of}
use Rattle.mip_links.specs.Table.{holder_outside}
use Rattle.mip_schedule.specs.declared.event.Event.{Event}
use Rattle.mip_history.specs.Setup.{Setup}
use Rattle.mip_history.specs.Setup.Kind.{Mobile}
use Rattle.mip_history.specs.Knowing.{now_in, mobile_known_in}
use Rattle.mip_history.specs.Permitted.{run_of}
use Rattle.mip_history.specs.Told.{present_in, agent_in, is_bound_in}
use Rattle.mip_history.specs.Found.{address_of}
use Rattle.mip_settled.proofs.Roaming.{roaming_run}
use Rattle.mip_settled.proofs.Rows.{bound_is_looked}
use Rattle.mip_settled.proofs.Bindings.{binding_run}
use Rattle.mip_settled.proofs.Early.{early_run, started_run}

module _ (s : Setup) (events : List Event) (n : ℕ) (own : Address) (agent : Option Address) (host : slice_get s.hosts n ≡ Some (record { address = own; kind = Mobile agent })) where
  pub found_as_told : present_in (run_of s events).past n own ≡ address_of own (mobile_known_in s (run_of s events) n own agent).standing
  found_as_told = let r = roaming_run s events in let f = r.found n own agent host in f.present

  pub registered_as_told : ((o : ℕ) → n ≢ holder_outside o) → (now : ℕ) → agent_in now (run_of s events).past n ≡ registered_agent (mobile_known_in s (run_of s events) n own agent) now
  registered_as_told node now =
      let r = roaming_run s events in
      let f = r.found n own agent host in
      ap (λ (o : Option Registered). option_map (λ (x : Registered). x.agent) (standing_registration now o)) (f.registered node)

  pub bound_as_told : (peer : Address) (now : ℕ) → now_in s (run_of s events) ≤ now
      → is_bound_in now (run_of s events).past n peer ≡ is_some (bound_row_of (mobile_known_in s (run_of s events) n own agent) now peer)
  bound_as_told peer now late =
      let b = binding_run s now (started_run s now events late) peer events in
      let x = b.bound n own agent host in
      x.so (early_run s now events late) ∙ sym (bound_is_looked (mobile_known_in s (run_of s events) n own agent) now peer)
