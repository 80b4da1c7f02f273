-- Data of a schedule that is read can be sent.
use Rattle.std.proofs.Common.{◌≡◌, ℕ, zero, suc, List, [], ◌∷◌, ◌++◌, replicate, length, Bool, true, false, refl, sym, ◌∙◌, subst}
use Rattle.std.specs.Prelude.{Option, Some, None, Ok, not, ◌&&◌, ◌||◌, ◌==◌, nat_le, if◌then◌else◌}
use Rattle.std.specs.List.{AllByRecursion}
use Rattle.std.proofs.lemmas.List.{append_assoc}
use Rattle.mip_words.specs.declared.address.Address.{Address}
use Rattle.mip_words.specs.declared.ids.NodeId.{NodeId}
use Rattle.mip_ipv6.specs.Packet.{names_no_body}
use Rattle.mip_rules_correspondent.specs.Rules.{is_data}
use Rattle.mip_symbols.specs.declared.declaration.Declaration.{Declaration}
use Rattle.mip_symbols.specs.declared.reason.Reason.{Reason}
use Rattle.mip_symbols.specs.declared.reason.Reason.TheVariants as reasons
use Rattle.mip_schedule.specs.Contents.{Content}
use Rattle.mip_schedule.specs.EventTimes.{waited, carried, is_reserved, misfit, untimely}
use Rattle.mip_schedule.specs.Lawful.{IsEvent}
use Rattle.mip_schedule.specs.Reading.{reading}
use Rattle.mip_schedule.specs.Versions.{is_numbered}
use Rattle.mip_schedule.specs.declared.event.Event.{Event}
use Rattle.mip_schedule.specs.declared.event.Event.TheVariants.{Payload, Carry}
use Rattle.mip_schedule.proofs.LawfulLaws.{read_so}
use Rattle.mip_law_delivery.specs.Stretches.{split}
use Rattle.mip_law_delivery.specs.Reached.{IsPayload}

abbrev CanSend : Event → Type 0
CanSend (Payload node to proto payload) = IsPayload proto payload
CanSend _ = Unit {0}

-- a protocol that is not reserved
unreserved : (b0 b41 b43 b44 b50 b51 b58 b59 b60 b135 : Bool) → (b0 || b41 || b43 || b44 || b50 || b51 || b58 || b59 || b60 || b135) ≡ false
    → ((not b41 && not b58 && not b59 && not b135) ≡ true) × ((((((b0 || b43) || b44) || b50) || b51) || b60) ≡ false)
unreserved true b41 b43 b44 b50 b51 b58 b59 b60 b135 e = absurd cc
unreserved false true b43 b44 b50 b51 b58 b59 b60 b135 e = absurd cc
unreserved false false true b44 b50 b51 b58 b59 b60 b135 e = absurd cc
unreserved false false false true b50 b51 b58 b59 b60 b135 e = absurd cc
unreserved false false false false true b51 b58 b59 b60 b135 e = absurd cc
unreserved false false false false false true b58 b59 b60 b135 e = absurd cc
unreserved false false false false false false true b59 b60 b135 e = absurd cc
unreserved false false false false false false false true b60 b135 e = absurd cc
unreserved false false false false false false false false true b135 e = absurd cc
unreserved false false false false false false false false false true e = absurd cc
unreserved false false false false false false false false false false e = (refl, refl)

data_proto : (proto : ℕ) → is_reserved proto ≡ false → (is_data proto ≡ true) × (names_no_body proto ≡ false)
unfolding is_reserved
data_proto p e = unreserved (p == 0) (p == 41) (p == 43) (p == 44) (p == 50) (p == 51) (p == 58) (p == 59) (p == 60) (p == 135) e

-- what was not refused
behind_test : (test : Bool) (why : Reason) (o : Option Reason) → (if test then Some why else o) ≡ None → (test ≡ false) × (o ≡ None)
behind_test true why o e = absurd cc
behind_test false why o e = (refl, e)

payload_can : (numbered : Bool) (ds : List Declaration) (before : List Event) (node : NodeId) (to : Address) (proto : ℕ) (payload : List ℕ) → IsEvent numbered ds before (Payload node to proto payload) → IsPayload proto payload
unfolding untimely misfit
payload_can numbered ds before node to proto payload is =
    let timely = behind_test (nat_le 20000 (length before)) reasons.Limit (misfit ds (waited before) (carried before) (Payload node to proto payload)) is.fits in
    let free = behind_test (is_reserved proto) reasons.Number None timely.1 in
    let kind = data_proto proto free.0 in
    record { of_data = kind.0; body = kind.1; short = is.within.2 }

event_can : (numbered : Bool) (ds : List Declaration) (before : List Event) (e : Event) → IsEvent numbered ds before e → CanSend e
event_can numbered ds before (Payload node to proto payload) is = payload_can numbered ds before node to proto payload is
event_can numbered ds before _ is = tt

-- each event of what is read, and of the same where packets are carried one by one
each_can : (c : Content) → ((before : List Event) (e : Event) (after : List Event) → c.events ≡ before ++ e ∷ after → IsEvent (is_numbered c.version) c.declarations before e) → AllByRecursion CanSend c.events
each_can c each = by [] c.events refl
  where
    by : (front es : List Event) → c.events ≡ front ++ es → AllByRecursion CanSend es
    by front [] whole = tt
    by front (e ∷ es) whole = (event_can (is_numbered c.version) c.declarations front e (each front e es whole), by (front ++ e ∷ []) es (whole ∙ sym (append_assoc front (e ∷ []) es)))

carries_can : (n : ℕ) (es : List Event) → AllByRecursion CanSend es → AllByRecursion CanSend (replicate n (Carry 1) ++ es)
carries_can zero es all = all
carries_can (suc n) es all = (tt, carries_can n es all)

split_can : (es : List Event) → AllByRecursion CanSend es → AllByRecursion CanSend (split es)
split_can [] all = tt
split_can (Carry count ∷ es) all = carries_can count (split es) (split_can es all.1)
split_can (e ∷ es) all = (all.0, split_can es all.1)

found_can : (front : List Event) (e : Event) (es : List Event) → AllByRecursion CanSend (front ++ e ∷ es) → CanSend e
found_can [] e es all = all.0
found_can (f ∷ front) e es all = found_can front e es all.1

pub payload_of_text : (text : List ℕ) (c : Content) → reading text ≡ Ok c → (before after : List Event) (node : NodeId) (to : Address) (proto : ℕ) (payload : List ℕ) → split c.events ≡ before ++ Payload node to proto payload ∷ after
    → IsPayload proto payload
payload_of_text text c read before after node to proto payload whole =
    let so = read_so text c read in found_can before (Payload node to proto payload) after (subst (AllByRecursion CanSend) whole (split_can c.events (each_can c so.events)))
