-- What goes to the agent goes under its shield, and the last of it counts until a restart.
use Rattle.std.proofs.Common.{◌≡◌, ℕ, List, [], ◌∷◌, ◌++◌, Bool, true, false, refl, ap, ◌∙◌}
use Rattle.std.specs.Prelude.{Option, Some, None, fold, if◌then◌else◌, Ok}
use Rattle.std.specs.List.{list_any, AllByRecursion}
use Rattle.std.proofs.lemmas.Bool.{or_parts, eq-eqb}
use Rattle.std.proofs.lemmas.List.Sums.{fold-append}
use Rattle.mip_words.specs.declared.address.Address.{Address}
use Rattle.mip_ipv6.specs.Packet.{Packet}
use Rattle.mip_ipv6.specs.Reading.{packet_of}
use Rattle.mip_nonce.specs.Secrets.{Life}
use Rattle.mip_entries.specs.Stamped.{Stamped}
use Rattle.mip_rules_mobile.specs.Sendings.{Inner, OfPart, AsksHome, Given, ByTunnel, RegistersHome, DeregistersHome, inner_packet, is_mobility, is_signal, shield_to}
use Rattle.mip_rules_mobile.specs.Steps.{Step, Sends, Restarts, answer_of}
use Rattle.mip_rules_mobile.specs.Known.{Known}
use Rattle.mip_rules_mobile.specs.HomeQuestions.{latest_after}
use Rattle.mip_rules_mobile.specs.Questions.{after, fresh, known}
use Rattle.mip_rules_mobile.specs.SentLaws.{IsShieldedTo, is_home_update, ends_home_update}

-- a packet with a mobility message is signalling
signal-is : (home : Address) (inner : Inner) (packet : Packet) → packet_of (inner_packet home inner) ≡ Ok packet → packet.head.proto ≡ 135 → is_signal inner ≡ true
signal-is home (OfPart bytes) packet read mobility = ap is_mobility read ∙ eq-eqb packet.head.proto 135 mobility
signal-is home (Given bytes) packet read mobility = ap is_mobility read ∙ eq-eqb packet.head.proto 135 mobility
signal-is home (AsksHome peer cookie) packet read mobility = refl

pub leg-shielded : (home careof agent : Address) (inner : Inner) (packet : Packet) → packet_of (inner_packet home inner) ≡ Ok packet → packet.head.proto ≡ 135
    → AllByRecursion (IsShieldedTo home agent) (answer_of (Sends (ByTunnel home careof agent inner)))
leg-shielded home careof agent inner packet read mobility =
    (ap (λ (b : Bool). if b then shield_to home agent else None) (signal-is home inner packet read mobility), tt)

-- a step that says nothing of the last home update
silent-row : (k : Known) (at : ℕ) (step : Step) → ends_home_update step ≡ false → latest_after k at step ≡ k.latest
silent-row k at (Sends (RegistersHome home careof agent sequence)) silent = absurd cc
silent-row k at (Sends (DeregistersHome home agent sequence)) silent = absurd cc
silent-row k at (Sends sending) silent = refl
silent-row k at (Restarts secrets) silent = absurd cc
silent-row k at _ silent = refl

goes-on : (k : Known) (later : List (Stamped Step)) → list_any (λ s. ends_home_update s.step) later ≡ false → (let l : Known = fold after k later in l.latest) ≡ k.latest
unfolding after
goes-on k [] silent = refl
goes-on k (s ∷ later) silent =
    let parts = or_parts (ends_home_update s.step) (list_any (λ s. ends_home_update s.step) later) silent in
    goes-on (after k s) later parts.1 ∙ silent-row k s.at s.step parts.0

module _ (home : Address) (declared : Option Address) (numbers : ℕ) (secrets : Life) (before : List (Stamped Step)) (at : ℕ) (later : List (Stamped Step)) (silent : list_any (λ s. ends_home_update s.step) later ≡ false) where
  behind : (step : Step) → (known home declared numbers secrets (before ++ record { at = at; step = step } ∷ later)).latest ≡ latest_after (known home declared numbers secrets before) at step
  unfolding known after
  behind step =
      let k : Known = known home declared numbers secrets before in
      ap (λ (l : Known). l.latest) (fold-append after (fresh home declared numbers secrets) before (record { at = at; step = step } ∷ later))
      ∙ goes-on (after k (record { at = at; step = step })) later silent

  pub registered-counts : (own careof agent : Address) (sequence : ℕ) → (known home declared numbers secrets (before ++ record { at = at; step = Sends (RegistersHome own careof agent sequence) } ∷ later)).latest
      ≡ Some (record { agent = agent; sequence = sequence; at = record { 0 = at }; deletes = false })
  registered-counts own careof agent sequence = behind (Sends (RegistersHome own careof agent sequence))

  pub deregistered-counts : (own agent : Address) (sequence : ℕ) → (known home declared numbers secrets (before ++ record { at = at; step = Sends (DeregistersHome own agent sequence) } ∷ later)).latest
      ≡ Some (record { agent = agent; sequence = sequence; at = record { 0 = at }; deletes = true })
  deregistered-counts own agent sequence = behind (Sends (DeregistersHome own agent sequence))

  pub restarted-forgets : (next : Life) → (known home declared numbers secrets (before ++ record { at = at; step = Restarts next } ∷ later)).latest ≡ None
  restarted-forgets next = behind (Restarts next)

-- without a home update none is known
none-row : (k : Known) (at : ℕ) (step : Step) → is_home_update step ≡ false → k.latest ≡ None → latest_after k at step ≡ None
none-row k at (Sends (RegistersHome home careof agent sequence)) silent none = absurd cc
none-row k at (Sends (DeregistersHome home agent sequence)) silent none = absurd cc
none-row k at (Sends sending) silent none = none
none-row k at (Restarts secrets) silent none = refl
none-row k at _ silent none = none

none-goes : (k : Known) (past : List (Stamped Step)) → k.latest ≡ None → list_any (λ s. is_home_update s.step) past ≡ false → (let l : Known = fold after k past in l.latest) ≡ None
unfolding after
none-goes k [] none silent = none
none-goes k (s ∷ past) none silent =
    let parts = or_parts (is_home_update s.step) (list_any (λ s. is_home_update s.step) past) silent in
    none-goes (after k s) past (none-row k s.at s.step parts.0 none) parts.1

pub born-without : (home : Address) (declared : Option Address) (numbers : ℕ) (secrets : Life) (past : List (Stamped Step)) → list_any (λ s. is_home_update s.step) past ≡ false
    → (known home declared numbers secrets past).latest ≡ None
unfolding known
born-without home declared numbers secrets past silent = none-goes (fresh home declared numbers secrets) past refl silent
