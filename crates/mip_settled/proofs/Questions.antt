-- Where a mobile is found and its registration, as questions that its own entries answer and nobody else's.
use Rattle.std.proofs.Common.{◌≡◌, ◌≢◌, ℕ, Bool, true, false, refl, sym, ap, ◌∙◌}
use Rattle.std.specs.Prelude.{Option, Some, None, unwrap_or, ◌==◌, if◌then◌else◌}
use Rattle.std.proofs.lemmas.Bool.{eqb-true, eq-eqb, ne_eqb}
use Rattle.mip_words.specs.declared.address.Address.{Address}
use Rattle.mip_nonce.specs.Secrets.{Life}
use Rattle.mip_entries.specs.declared.entry.Entry.{Entry}
use Rattle.mip_entries.specs.declared.entry.Entry.TheVariants as entries
use Rattle.mip_entries.specs.Completed.{node_id, named}
use Rattle.mip_rules_correspondent.specs.Wholes.{is_own}
use Rattle.mip_rules_mobile.specs.declared.registered.Registered.{Registered}
use Rattle.mip_rules_mobile.specs.declared.attachment.Attachment.TheVariants.{AtHome, Away}
use Rattle.mip_rules_mobile.specs.Steps.{Step, Notes, Claims, FindsTaken, Arrives, Detaches, Restarts, Registers, Unregisters}
use Rattle.mip_rules_mobile.specs.Known.{Known}
use Rattle.mip_rules_mobile.specs.HomeQuestions.{home_of, standing_at, registered_said}
use Rattle.mip_rules_mobile.specs.Questions.{after}
use Rattle.mip_rules_mobile.proofs.Told.{home-kept}
use Rattle.mip_history.specs.Questions.{moved_says}
use Rattle.mip_history.proofs.Keeping.{is_busy}
use Rattle.mip_history.specs.Told.{present_says, registration_told}
use Rattle.mip_history.specs.Found.{address_of}
use Rattle.mip_settled.proofs.Answered.{IsQuiet, IsMute}
use Rattle.mip_settled.proofs.MobileTransitions.{is_plain, entry_of, says_of, IsRightNote, plain_standing, IsKnown}

-- the link on which a mobile stands is told by no node
pub moved_quiet : (n : ℕ) → IsQuiet (moved_says n)
moved_quiet n = record { idle = idle; sent = λ number m shielded packet. refl }
  where
    idle : (e : Entry) → is_busy e ≡ false → moved_says n e ≡ None
    idle (entries.Moved node link) is = absurd cc
    idle _ is = refl

pub moved_mute : (m n : ℕ) → IsMute (moved_says m) n
moved_mute m n link k (entries.Idle) = refl
moved_mute m n link k _ = refl

-- where mobile n is found
pub present_quiet : (n : ℕ) → IsQuiet (present_says n)
present_quiet n = record { idle = idle; sent = λ number m shielded packet. refl }
  where
    idle : (e : Entry) → is_busy e ≡ false → present_says n e ≡ None
    idle (entries.Moved node link) is = absurd cc
    idle (entries.Careof node address) is = absurd cc
    idle _ is = refl

pub present_mute : (m n : ℕ) → m ≢ n → IsMute (present_says m) n
present_mute m n other link k (entries.Careof node address) = ap (λ (b : Bool). if b then Some (Some address) else None) (ne_eqb m n other)
present_mute m n other link k _ = refl

module _ (n : ℕ) (own : Address) where
  abbrev pub IsHome : Known → Type 0
  IsHome k = home_of k ≡ own

  present_note : (k : ℕ) (e : Entry) → is_own e ≡ true → present_says n (named n 0 k e) ≡ None
  present_note k (entries.Careof node address) is = absurd cc
  present_note k _ is = refl

  present_own : (k : ℕ) (step : Step) → is_plain step ≡ true → IsRightNote step → says_of (present_says n) n k (entry_of step) ≡ None
  present_own k (Notes entry) is right = present_note k entry right
  present_own k (Arrives address) is right = absurd cc
  present_own k _ is right = refl

  same_address : (address : Address) (same : Bool) → (address.0 == own.0) ≡ same → address_of own (if same then AtHome else Away address) ≡ Some address
  same_address address true is = ap (λ (a : ℕ). let x : Address = record { 0 = a } in Some x) (sym (eqb-true address.0 own.0 is))
  same_address address false is = refl

  present_arrives : (now : ℕ) (k : Known) (address : Address) → home_of k ≡ own
      → address_of own (let l : Known = after k (record { at = now; step = Arrives address }) in l.standing) ≡ unwrap_or (present_says n (entries.Careof (node_id n) address)) (address_of own k.standing)
  unfolding after
  present_arrives now k address home =
      ap (λ (a : Address). address_of own (standing_at a address)) home ∙ same_address address (address.0 == own.0) refl
      ∙ sym (ap (λ (b : Bool). unwrap_or (if b then Some (Some address) else None) (address_of own k.standing)) (eq-eqb n n refl))

  present_row : (k : Known) (now : ℕ) (step : Step) → is_plain step ≡ true → address_of own (let l : Known = after k (record { at = now; step = step }) in l.standing) ≡ address_of own k.standing
  unfolding after
  present_row k now step plain = ap (address_of own) (plain_standing k step plain)

  present_stays : (k : Known) (now : ℕ) (address : Address) → address_of own (let l : Known = after k (record { at = now; step = Claims address }) in l.standing) ≡ address_of own k.standing
  unfolding after
  present_stays k now address = refl

  present_reborn : (k : Known) (now : ℕ) (secrets : Life) → address_of own (let l : Known = after k (record { at = now; step = Restarts secrets }) in l.standing) ≡ address_of own k.standing
  unfolding after
  present_reborn k now secrets = refl

  pub present_known : IsKnown n IsHome (present_says n) (λ (step : Step). None) (λ (k : Known). address_of own k.standing) (λ (o : Option Address). o)
  present_known = record {
    quiet = present_quiet n;
    own = present_own;
    kept = λ c now k step holds fits. home-kept k (record { at = now; step = step }) ∙ holds;
    row = λ c now k step plain holds fits. present_row k now step plain;
    claims = λ now k address. present_stays k now address;
    arrives = present_arrives;
    reborn = λ now k secrets. present_reborn k now secrets;
  }

-- its registration
pub registration_quiet : (n : ℕ) → IsQuiet (registration_told n)
registration_quiet n = record { idle = idle; sent = λ number m shielded packet. refl }
  where
    idle : (e : Entry) → is_busy e ≡ false → registration_told n e ≡ None
    idle (entries.Registered node agent end) is = absurd cc
    idle (entries.Unregistered node agent) is = absurd cc
    idle (entries.Moved node link) is = absurd cc
    idle (entries.Careof node address) is = absurd cc
    idle (entries.Taken who link address holder) is = absurd cc
    idle (entries.Restarted node) is = absurd cc
    idle _ is = refl

pub registration_mute : (m n : ℕ) → m ≢ n → IsMute (registration_told m) n
registration_mute m n other link k (entries.Registered node agent end) = ap (λ (b : Bool). if b then Some (Some (record { agent = agent; end = end })) else None) (ne_eqb m n other)
registration_mute m n other link k (entries.Unregistered node agent) = ap (λ (b : Bool). if b then Some None else None) (ne_eqb m n other)
registration_mute m n other link k (entries.Careof node address) = ap (λ (b : Bool). if b then Some None else None) (ne_eqb m n other)
registration_mute m n other link k (entries.Taken who on address holder) = ap (λ (b : Bool). if b then Some None else None) (ne_eqb m n other)
registration_mute m n other link k (entries.Restarted node) = ap (λ (b : Bool). if b then Some None else None) (ne_eqb m n other)
registration_mute m n other link k _ = refl

module _ (n : ℕ) (own : Address) where
  registration_note : (k : ℕ) (e : Entry) → is_own e ≡ true → registration_told n (named n 0 k e) ≡ None
  registration_note k (entries.Registered node agent end) is = absurd cc
  registration_note k (entries.Unregistered node agent) is = absurd cc
  registration_note k (entries.Careof node address) is = absurd cc
  registration_note k (entries.Taken who link address holder) is = absurd cc
  registration_note k (entries.Restarted node) is = absurd cc
  registration_note k _ is = refl

  registration_own : (k : ℕ) (step : Step) → is_plain step ≡ true → IsRightNote step → says_of (registration_told n) n k (entry_of step) ≡ registered_said step
  registration_own k (Notes entry) is right = registration_note k entry right
  registration_own k (Registers agent end renew) is right = ap (λ (b : Bool). if b then Some (Some (record { agent = agent; end = end })) else None) (eq-eqb n n refl)
  registration_own k (Unregisters agent) is right = ap (λ (b : Bool). if b then Some None else None) (eq-eqb n n refl)
  registration_own k (Arrives address) is right = absurd cc
  registration_own k (FindsTaken address holder) is right = absurd cc
  registration_own k Detaches is right = absurd cc
  registration_own k (Restarts secrets) is right = absurd cc
  registration_own k _ is right = refl

  registered_row : (k : Known) (now : ℕ) (step : Step) → (let l : Known = after k (record { at = now; step = step }) in l.registered) ≡ unwrap_or (registered_said step) k.registered
  unfolding after
  registered_row k now step = refl

  ended : (o : Option Registered) → unwrap_or (if n == n then Some None else None) o ≡ None
  ended o = ap (λ (b : Bool). unwrap_or (if b then Some None else None) o) (eq-eqb n n refl)

  pub registration_known : IsKnown n (IsHome n own) (registration_told n) registered_said (λ (k : Known). k.registered) (λ (o : Option Registered). o)
  registration_known = record {
    quiet = registration_quiet n;
    own = registration_own;
    kept = λ c now k step holds fits. home-kept k (record { at = now; step = step }) ∙ holds;
    row = λ c now k step plain holds fits. registered_row k now step;
    claims = λ now k address. registered_row k now (Claims address);
    arrives = λ now k address holds. registered_row k now (Arrives address) ∙ sym (ended k.registered);
    reborn = λ now k secrets. registered_row k now (Restarts secrets) ∙ sym (ended k.registered);
  }
