-- What it is for two ends of a run to be settled, in parts.
use Rattle.std.proofs.Common.{◌≡◌, ◌≢◌, ℕ, List, Bool, true, false, ◌⊎◌, inl, inr, refl, sym, ap, ◌∙◌}
use Rattle.std.specs.Prelude.{Option, Some, None, is_some, not, ◌==◌, if◌then◌else◌, slice_get}
use Rattle.std.specs.Option.{option_and_then}
use Rattle.std.proofs.lemmas.Bool.{and_parts, eqb-true, eqb-false}
use Rattle.mip_words.specs.declared.address.Address.{Address}
use Rattle.mip_entries.specs.declared.entry.Entry.{Entry}
use Rattle.mip_binding.specs.Held.{held}
use Rattle.mip_links.specs.Table.{is_address}
use Rattle.mip_links.specs.Nets.{is_held_by}
use Rattle.mip_schedule.specs.declared.event.Event.{Event}
use Rattle.mip_history.specs.Setup.{Setup, Host, Kind, part_room}
use Rattle.mip_history.specs.Setup.Kind.{Correspondent, Agent, Mobile}
use Rattle.mip_history.specs.Questions.{moment_in, holder_in, declared_in}
use Rattle.mip_history.specs.Bound.{accepted_by}
use Rattle.mip_history.specs.Permitted.{run_of}
use Rattle.mip_history.specs.Told.{present_in, agent_in, is_bound_in, careof_in}
use Rattle.mip_history.specs.Settled.{is_with_agent, is_placed, is_held_right, is_bound_right, is_settled_at, is_settled_with, is_settled}
use Rattle.mip_settled.proofs.Declared.{declared_of_run}
use Rattle.mip_law_delivery.specs.Reached.{is_end}

-- end x, with this home address, is present somewhere; what its peer y holds for it is right
pub record IsPresent (start : ℕ) (past : List Entry) (x y : ℕ) (own peer : Address) : Type 0 where
  pub present : Address
  pub found : present_in past x own ≡ Some present
  pub holds : holder_in past present.0 ≡ Some x
  pub placed : is_placed (moment_in start past) past x own present ≡ true
  pub right : is_held_right own present (held (accepted_by start past y) own.0 (moment_in start past)) ≡ true
  pub bound : is_bound_right (is_bound_in (moment_in start past) past x peer) present (held (accepted_by start past y) own.0 (moment_in start past)) ≡ true

holder_is : (o : Option ℕ) (x : ℕ) → is_held_by o x ≡ true → o ≡ Some x
holder_is None x is = absurd cc
holder_is (Some other) x is = ap (λ (n : ℕ). Some n) (eqb-true other x is)

module _ (start : ℕ) (past : List Entry) where
  present_parts : (x y : ℕ) (own peer : Address) → is_settled_with (moment_in start past) start past x y (Some own) (Some peer) ≡ true → IsPresent start past x y own peer
  present_parts x y own peer is = by (present_in past x own) refl is
    where
      holds : Option ℕ
      holds = held (accepted_by start past y) own.0 (moment_in start past)

      by : (o : Option Address) → present_in past x own ≡ o → is_settled_at (moment_in start past) past x own peer holds o ≡ true → IsPresent start past x y own peer
      by None found e = absurd cc
      by (Some present) found e =
          let a = and_parts _ _ e in
          let b = and_parts _ _ a.1 in
          let d = and_parts _ _ b.1 in
          record { present = present; found = found; holds = holder_is (holder_in past present.0) x a.0; placed = b.0; right = d.0; bound = d.1 }

  pub record AreSettled (x y : ℕ) (own to : Address) : Type 0 where
    pub apart : x ≢ y
    pub sender : IsPresent start past x y own to
    pub receiver : IsPresent start past y x to own

  pub settled_parts : (x y : ℕ) (own to : Address) → declared_in past x ≡ Some own → declared_in past y ≡ Some to → is_settled start past x y ≡ true → AreSettled x y own to
  unfolding is_settled
  settled_parts x y own to first second is =
      let a = and_parts _ _ is in
      let b = and_parts _ _ a.1 in
      record {
        apart = eqb-false x y (negated (x == y) a.0);
        sender = present_parts x y own to (sym (both (declared_in past x) (declared_in past y) x y first second) ∙ b.0);
        receiver = present_parts y x to own (sym (both (declared_in past y) (declared_in past x) y x second first) ∙ b.1);
      }
    where
      negated : (t : Bool) → not t ≡ true → t ≡ false
      negated true e = absurd cc
      negated false e = refl

      both : {a b : Address} (p q : Option Address) (m n : ℕ) → p ≡ Some a → q ≡ Some b
          → is_settled_with (moment_in start past) start past m n p q ≡ is_settled_with (moment_in start past) start past m n (Some a) (Some b)
      both {a} {b} p q m n e f =
          ap (λ (o : Option Address). is_settled_with (moment_in start past) start past m n o q) e
          ∙ ap (λ (o : Option Address). is_settled_with (moment_in start past) start past m n (Some a) o) f

-- an end that is away is registered with an agent, which holds its home address
pub record IsAway (now : ℕ) (past : List Entry) (x : ℕ) (own present : Address) : Type 0 where
  pub agent : Address
  pub registered : agent_in now past x ≡ Some agent
  pub g : ℕ
  pub holds : holder_in past own.0 ≡ Some g
  pub declared : is_address (declared_in past g) agent ≡ true
  pub careof : is_address (careof_in now past g own) present ≡ true

pub away_parts : (now : ℕ) (past : List Entry) (x : ℕ) (own present : Address) → is_placed now past x own present ≡ true → (present.0 == own.0) ≡ false → IsAway now past x own present
away_parts now past x own present is apart = by (agent_in now past x) (holder_in past own.0) refl refl (at (present.0 == own.0) apart _ _ is)
  where
    at : (b : Bool) → b ≡ false → (t e : Bool) → (if b then t else e) ≡ true → e ≡ true
    at true apart t e is = absurd cc
    at false apart t e is = is

    by : (a : Option Address) (h : Option ℕ) → agent_in now past x ≡ a → holder_in past own.0 ≡ h → is_with_agent now past own present a h ≡ true → IsAway now past x own present
    by None h p q e = absurd cc
    by (Some agent) None p q e = absurd cc
    by (Some agent) (Some g) p q e =
        let parts = and_parts _ _ e in record { agent = agent; registered = p; g = g; holds = q; declared = parts.0; careof = parts.1 }

-- an end is a correspondent or a mobile with its own address
abbrev pub IsCorrespondentAt : Setup → ℕ → Address → Type 0
IsCorrespondentAt s x own = (room : ℕ) × (slice_get s.hosts x ≡ Some (record { address = own; kind = Correspondent room }))

abbrev pub IsMobileAt : Setup → ℕ → Address → Type 0
IsMobileAt s x own = (agent : Option Address) × (slice_get s.hosts x ≡ Some (record { address = own; kind = Mobile agent }))

pub end_kind : (s : Setup) (events : List Event) (x : ℕ) (own : Address) → is_end s x ≡ true → declared_in (run_of s events).past x ≡ Some own → IsCorrespondentAt s x own ⊎ IsMobileAt s x own
end_kind s events x own is told = by (slice_get s.hosts x) refl is
  where
    own_is : (host : Host) → slice_get s.hosts x ≡ Some host → host.address ≡ own
    own_is host there = some_same host.address own (sym (declared_of_run s events x host there) ∙ told)
      where
        some_same : (a b : Address) → (let o : Option Address = Some a in o) ≡ Some b → a ≡ b
        some_same a b e = cc

    of_kind : (address : Address) (kind : Kind) → slice_get s.hosts x ≡ Some (record { address = address; kind = kind }) → address ≡ own → is_some (part_room kind) ≡ true
        → IsCorrespondentAt s x own ⊎ IsMobileAt s x own
    of_kind address (Correspondent room) there same e = inl (room, there ∙ ap (λ (a : Address). Some (let h : Host = record { address = a; kind = Correspondent room } in h)) same)
    of_kind address (Agent preference life room serves) there same e = absurd cc
    of_kind address (Mobile agent) there same e = inr (agent, there ∙ ap (λ (a : Address). Some (let h : Host = record { address = a; kind = Mobile agent } in h)) same)

    by : (o : Option Host) → slice_get s.hosts x ≡ o → is_some (option_and_then (λ (host : Host). part_room host.kind) o) ≡ true → IsCorrespondentAt s x own ⊎ IsMobileAt s x own
    by None there e = absurd cc
    by (Some host) there e = of_kind host.address host.kind there (own_is host there) e
