-- What each kind of node never tells: only mobiles move, use care-of addresses and are bound, an agent accepts no update for
-- others, and only agents register homes.
use Rattle.std.proofs.Common.{◌≡◌, ◌≢◌, ℕ, List, [], ◌∷◌, ◌++◌, Bool, true, false, refl, sym, ap, ◌∙◌}
use Rattle.std.specs.Prelude.{Option, Some, None, option_map, unwrap_or, fold, ◌==◌, ◌&&◌, if◌then◌else◌, slice_get}
use Rattle.std.specs.List.{AllByRecursion}
use Rattle.std.proofs.lemmas.Bool.{ne_eqb}
use Rattle.mip_words.specs.declared.address.Address.{Address}
use Rattle.mip_words.specs.Asked.{asked}
use Rattle.mip_binding.specs.Acceptance.{Acceptance}
use Rattle.mip_binding.specs.Held.{held}
use Rattle.mip_binding.proofs.HeldLaws.{held-none}
use Rattle.mip_entries.specs.declared.entry.Entry.{Entry}
use Rattle.mip_entries.specs.declared.entry.Entry.TheVariants as entries
use Rattle.mip_rules_correspondent.specs.Steps as correspondents
use Rattle.mip_rules_correspondent.specs.Wholes.{is_own}
use Rattle.mip_rules_agent.specs.Steps as agents
use Rattle.mip_rules_agent.specs.Questions.{if_standing}
use Rattle.mip_rules_agent.specs.declared.home_binding.HomeBinding.{HomeBinding}
use Rattle.mip_rules_mobile.specs.Calls as mobile_calls
use Rattle.mip_rules_mobile.specs.Known.{Known}
use Rattle.mip_rules_mobile.specs.Steps as mobiles
use Rattle.mip_rules_mobile.specs.Questions.{after}
use Rattle.mip_rules_mobile.specs.RowQuestions.{lies_ahead}
use Rattle.mip_rules_mobile.specs.Doing.{transition_of}
use Rattle.mip_rules_mobile.specs.Fitting.{Fits, EachFits}
use Rattle.mip_rules_mobile.proofs.Fits.{call-fits}
use Rattle.mip_schedule.specs.declared.event.Event.{Event}
use Rattle.mip_history.specs.Setup.{Setup, Kind, is_mobile_kind, is_mobile_host}
use Rattle.mip_history.specs.Setup.Kind.{Correspondent, Agent, Mobile}
use Rattle.mip_history.specs.Bound.{Lived, lived, accepted_by}
use Rattle.mip_history.specs.Permitted.{run_of}
use Rattle.mip_history.specs.Registered.{is_agent_kind, is_agent_host, registration_says}
use Rattle.mip_history.specs.Told.{present_says, present_in, binding_told, is_bound_in, careof_in}
use Rattle.mip_history.proofs.Reasons.{all_append}
use Rattle.mip_history.proofs.Keeping.{is_busy}
use Rattle.mip_settled.proofs.Answered.{IsQuiet, IsMute}
use Rattle.mip_settled.proofs.Questions.{present_quiet, present_mute}
use Rattle.mip_settled.proofs.Leaving.{binding_quiet, binding_mute}
use Rattle.mip_settled.proofs.Never.{IsSilentEntry, IsSilent, IsSilentKind, IsNever, never_told}

-- a mobile is another node than one that is none
apart_of_mobile : (s : Setup) (n m : ℕ) → is_mobile_host (slice_get s.hosts n) ≡ false → is_mobile_host (slice_get s.hosts m) ≡ true → n ≢ m
apart_of_mobile s n m none is same = absurd (let both : true ≡ false = sym is ∙ ap (λ (x : ℕ). is_mobile_host (slice_get s.hosts x)) (sym same) ∙ none in cc)

-- no other node than a mobile is anywhere but at its own address
present_correspondent : (n : ℕ) (step : correspondents.Step) → AllByRecursion (IsSilent (present_says n) n) (correspondents.answer_of step)
present_correspondent n (correspondents.Called call) = tt
present_correspondent n (correspondents.Sends packet) = (tt, tt)
present_correspondent n _ = ((λ k. refl), tt)

present_agent : (n : ℕ) (step : agents.Step) → AllByRecursion (IsSilent (present_says n) n) (agents.answer_of step)
present_agent n (agents.Called call) = tt
present_agent n agents.Rang = tt
present_agent n (agents.Sends shield packet) = (tt, tt)
present_agent n _ = ((λ k. refl), tt)

present_kind : (n : ℕ) (kind : Kind) → is_mobile_kind kind ≡ false → IsSilentKind (present_says n) n kind
present_kind n (Correspondent room) none = present_correspondent n
present_kind n (Agent preference life room serves) none = present_agent n
present_kind n (Mobile agent) none = absurd cc

module _ (s : Setup) (n : ℕ) (none : is_mobile_host (slice_get s.hosts n) ≡ false) where
  present_never : (own : Address) → IsNever s (present_says n) (Some own) n
  present_never own = record {
    apart = record { quiet = present_quiet n; taken = λ who link address holder. refl; timed = λ m. refl; injected = λ number o link packet. refl };
    own = λ host is. present_kind n host.kind (sym (ap is_mobile_host is) ∙ none);
    others = λ m other. present_mute n m other;
    moved = λ m link is. ap (λ (b : Bool). if b then Some None else None) (ne_eqb n m (apart_of_mobile s n m none is));
    restarted = λ m. refl;
  }

  pub present_at_own : (events : List Event) (own : Address) → present_in (run_of s events).past n own ≡ Some own
  present_at_own events own = never_told s (present_says n) (Some own) n (present_never own) events

-- nor is it bound
binding_correspondent : (n : ℕ) (peer : Address) (step : correspondents.Step) → AllByRecursion (IsSilent (binding_told n peer) n) (correspondents.answer_of step)
binding_correspondent n peer (correspondents.Called call) = tt
binding_correspondent n peer (correspondents.Sends packet) = (tt, tt)
binding_correspondent n peer _ = ((λ k. refl), tt)

binding_agent : (n : ℕ) (peer : Address) (step : agents.Step) → AllByRecursion (IsSilent (binding_told n peer) n) (agents.answer_of step)
binding_agent n peer (agents.Called call) = tt
binding_agent n peer agents.Rang = tt
binding_agent n peer (agents.Sends shield packet) = (tt, tt)
binding_agent n peer _ = ((λ k. refl), tt)

binding_kind : (n : ℕ) (peer : Address) (kind : Kind) → is_mobile_kind kind ≡ false → IsSilentKind (binding_told n peer) n kind
binding_kind n peer (Correspondent room) none = binding_correspondent n peer
binding_kind n peer (Agent preference life room serves) none = binding_agent n peer
binding_kind n peer (Mobile agent) none = absurd cc

ended : {A : Type 0} (same : Bool) → (let o : Option A = None in unwrap_or (if same then Some None else None) o) ≡ None
ended true = refl
ended false = refl

module _ (s : Setup) (n : ℕ) (none : is_mobile_host (slice_get s.hosts n) ≡ false) where
  binding_never : (peer : Address) → IsNever s (binding_told n peer) None n
  binding_never peer = record {
    apart = record { quiet = binding_quiet n peer; taken = λ who link address holder. refl; timed = λ m. refl; injected = λ number o link packet. refl };
    own = λ host is. binding_kind n peer host.kind (sym (ap is_mobile_host is) ∙ none);
    others = λ m other. binding_mute n m peer other;
    moved = λ m link is. refl;
    restarted = λ m. ended (n == m);
  }

  pub bound_to_none : (events : List Event) (peer : Address) (now : ℕ) → is_bound_in now (run_of s events).past n peer ≡ false
  bound_to_none events peer now = ap (lies_ahead now) (never_told s (binding_told n peer) None n (binding_never peer) events)

-- an agent accepts nothing
abbrev acceptance_says : ℕ → Entry → Option Bool
acceptance_says n (entries.Accepted node number h binding careof sequence end i j) = if n == node.0 then Some true else None
acceptance_says n _ = None

acceptance_agent : (n : ℕ) (step : agents.Step) → AllByRecursion (IsSilent (acceptance_says n) n) (agents.answer_of step)
acceptance_agent n (agents.Called call) = tt
acceptance_agent n agents.Rang = tt
acceptance_agent n (agents.Sends shield packet) = (tt, tt)
acceptance_agent n _ = ((λ k. refl), tt)

acceptance_kind : (n : ℕ) (kind : Kind) → is_agent_kind kind ≡ true → IsSilentKind (acceptance_says n) n kind
acceptance_kind n (Agent preference life room serves) is = acceptance_agent n
acceptance_kind n (Correspondent room) is = absurd cc
acceptance_kind n (Mobile agent) is = absurd cc

acceptance_quiet : (n : ℕ) → IsQuiet (acceptance_says n)
acceptance_quiet n = record { idle = idle; sent = λ number m shielded packet. refl }
  where
    idle : (e : Entry) → is_busy e ≡ false → acceptance_says n e ≡ None
    idle (entries.Accepted node number h binding careof sequence end i j) is = absurd cc
    idle _ is = refl

acceptance_mute : (n m : ℕ) → n ≢ m → IsMute (acceptance_says n) m
acceptance_mute n m other link k (entries.Accepted node number h binding careof sequence end i j) = ap (λ (b : Bool). if b then Some true else None) (ne_eqb n m other)
acceptance_mute n m other link k _ = refl

-- what was said once is not unsaid
said : (n : ℕ) (past : List Entry) → asked (acceptance_says n) true past ≡ false → ⊥
said n [] e = absurd cc
said n (entries.Accepted node number h binding careof sequence end i j ∷ past) e = by (n == node.0) (said n past) e
  where
    by : (mine : Bool) → (asked (acceptance_says n) true past ≡ false → ⊥) → asked (acceptance_says n) (unwrap_or (if mine then Some true else None) true) past ≡ false → ⊥
    by true more e = more e
    by false more e = more e
said n (_ ∷ past) e = said n past e

-- where nothing was accepted, nothing is held
abbrev HoldsNone : (n home now : ℕ) → Lived → List Entry → Type 0
HoldsNone n home now l past = held (let m : Lived = fold (lived n) l past in m.accepted) home now ≡ None

held_stays_none : (n home now : ℕ) (l : Lived) (past : List Entry) → held l.accepted home now ≡ None → asked (acceptance_says n) false past ≡ false → HoldsNone n home now l past
held_stays_none n home now l [] none never = none
held_stays_none n home now l (entries.At moment ∷ past) none never = held_stays_none n home now (record { at = moment.0; accepted = l.accepted }) past none never
held_stays_none n home now l (entries.Restarted node ∷ past) none never =
    by (n == node.0) (held_stays_none n home now (record { at = l.at; accepted = [] }) past (held-none home now) never) (held_stays_none n home now l past none never)
  where
    by : (mine : Bool) → HoldsNone n home now (record { at = l.at; accepted = [] }) past → HoldsNone n home now l past → HoldsNone n home now (record { at = l.at; accepted = if mine then [] else l.accepted }) past
    by true anew on = anew
    by false anew on = on
held_stays_none n home now l (entries.Accepted node number h binding careof sequence end i j ∷ past) none never = by (n == node.0) (held_stays_none n home now l past none) never
  where
    x : Acceptance
    x = record { at = l.at; home = h.0; number = binding; careof = careof.0; sequence = sequence; end = end.0 }

    by : (mine : Bool) → (asked (acceptance_says n) false past ≡ false → HoldsNone n home now l past) → asked (acceptance_says n) (unwrap_or (if mine then Some true else None) false) past ≡ false
        → HoldsNone n home now (if mine then record { at = l.at; accepted = l.accepted ++ x ∷ [] } else l) past
    by true on e = absurd (said n past e)
    by false on e = on e
held_stays_none n home now l (_ ∷ past) none never = held_stays_none n home now l past none never

module _ (s : Setup) (n : ℕ) (is_agent : is_agent_host (slice_get s.hosts n) ≡ true) where
  acceptance_never : IsNever s (acceptance_says n) false n
  acceptance_never = record {
    apart = record { quiet = acceptance_quiet n; taken = λ who link address holder. refl; timed = λ m. refl; injected = λ number o link packet. refl };
    own = λ host is. acceptance_kind n host.kind (sym (ap is_agent_host is) ∙ is_agent);
    others = λ m other. acceptance_mute n m other;
    moved = λ m link is. refl;
    restarted = λ m. refl;
  }

  pub agent_holds_none : (events : List Event) (home now : ℕ) → held (accepted_by s.start (run_of s events).past n) home now ≡ None
  unfolding accepted_by
  agent_holds_none events home now =
      held_stays_none n home now (record { at = s.start; accepted = [] }) (run_of s events).past (held-none home now) (never_told s (acceptance_says n) false n acceptance_never events)

-- only agents register homes
registration_correspondent : (n : ℕ) (home : Address) (step : correspondents.Step) → AllByRecursion (IsSilent (registration_says n home) n) (correspondents.answer_of step)
registration_correspondent n home (correspondents.Called call) = tt
registration_correspondent n home (correspondents.Sends packet) = (tt, tt)
registration_correspondent n home _ = ((λ k. refl), tt)

registration_note : (n : ℕ) (home : Address) (e : Entry) → is_own e ≡ true → IsSilentEntry (registration_says n home) n e
registration_note n home (entries.Home node h careof sequence end) is = absurd cc
registration_note n home (entries.Restarted node) is = tt
registration_note n home _ is = λ k. refl

module _ (n : ℕ) (home : Address) where
  registration_step : (c : mobile_calls.Call) (now : ℕ) (k : Known) (step : mobiles.Step) → Fits c now k step → AllByRecursion (IsSilent (registration_says n home) n) (mobiles.answer_of step)
  registration_step c now k (mobiles.Notes entry) fits = (registration_note n home entry fits, tt)
  registration_step c now k (mobiles.Sends sending) fits = (tt, tt)
  registration_step c now k (mobiles.Updates row update) fits = ((λ number. refl), (tt, tt))
  registration_step c now k (mobiles.Restarts secrets) fits = (tt, tt)
  registration_step c now k (mobiles.Unsends why) fits = ((λ number. refl), tt)
  registration_step c now k (mobiles.Drops dropped why) fits = ((λ number. refl), tt)
  registration_step c now k (mobiles.Claims address) fits = ((λ number. refl), tt)
  registration_step c now k (mobiles.Releases address) fits = ((λ number. refl), tt)
  registration_step c now k (mobiles.FindsTaken address holder) fits = ((λ number. refl), tt)
  registration_step c now k (mobiles.Arrives address) fits = ((λ number. refl), tt)
  registration_step c now k (mobiles.Registers agent end renew) fits = ((λ number. refl), tt)
  registration_step c now k (mobiles.Unregisters agent) fits = ((λ number. refl), tt)
  registration_step c now k (mobiles.IsRefused status) fits = ((λ number. refl), tt)
  registration_step c now k (mobiles.Chooses agent) fits = ((λ number. refl), tt)
  registration_step c now k (mobiles.Learns valid preferred) fits = ((λ number. refl), tt)
  registration_step c now k (mobiles.Binds row peer end renew) fits = ((λ number. refl), tt)
  registration_step c now k (mobiles.Unbinds row peer) fits = ((λ number. refl), tt)
  registration_step c now k _ fits = tt

  registration_steps : (c : mobile_calls.Call) (now : ℕ) (k : Known) (steps : List mobiles.Step) → EachFits c now k steps → AllByRecursion (IsSilent (registration_says n home) n) (mobiles.answers_of steps)
  registration_steps c now k [] each = tt
  registration_steps c now k (step ∷ steps) each =
      all_append (IsSilent (registration_says n home) n) (mobiles.answer_of step) (mobiles.answers_of steps) (registration_step c now k step each.0)
      (registration_steps c now (after k (record { at = now; step = step })) steps each.1)

  registration_kind : (kind : Kind) → is_agent_kind kind ≡ false → IsSilentKind (registration_says n home) n kind
  registration_kind (Agent preference life room serves) none = absurd cc
  registration_kind (Correspondent room) none = registration_correspondent n home
  registration_kind (Mobile agent) none = λ k now c. registration_steps c now k (transition_of k now c).steps (call-fits k now c)

registration_quiet : (n : ℕ) (home : Address) → IsQuiet (registration_says n home)
registration_quiet n home = record { idle = idle; sent = λ number m shielded packet. refl }
  where
    idle : (e : Entry) → is_busy e ≡ false → registration_says n home e ≡ None
    idle (entries.Home node h careof sequence end) is = absurd cc
    idle (entries.Restarted node) is = absurd cc
    idle _ is = refl

registration_mute : (n m : ℕ) (home : Address) → n ≢ m → IsMute (registration_says n home) m
registration_mute n m home other link k (entries.Home node h careof sequence end) =
    ap (λ (b : Bool). if b && (h.0 == home.0) then Some (Some (let x : HomeBinding = record { careof = careof; sequence = sequence; end = end } in x)) else None) (ne_eqb n m other)
registration_mute n m home other link k (entries.Restarted node) = ap (λ (b : Bool). if b then Some None else None) (ne_eqb n m other)
registration_mute n m home other link k _ = refl

module _ (s : Setup) (n : ℕ) (none : is_agent_host (slice_get s.hosts n) ≡ false) where
  registration_never : (home : Address) → IsNever s (registration_says n home) None n
  registration_never home = record {
    apart = record { quiet = registration_quiet n home; taken = λ who link address holder. refl; timed = λ m. refl; injected = λ number o link packet. refl };
    own = λ host is. registration_kind n home host.kind (sym (ap is_agent_host is) ∙ none);
    others = λ m other. registration_mute n m home other;
    moved = λ m link is. refl;
    restarted = λ m. ended (n == m);
  }

  pub registers_none : (events : List Event) (home : Address) (now : ℕ) → careof_in now (run_of s events).past n home ≡ None
  registers_none events home now =
      ap (λ (o : Option HomeBinding). option_map (λ (b : HomeBinding). b.careof) (if_standing home now o)) (never_told s (registration_says n home) None n (registration_never home) events)
