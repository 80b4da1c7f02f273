-- A schedule sends plain data, and the acceptances of its history are marked.
use Rattle.std.proofs.Common.{◌≡◌, ℕ, ◌≤◌, List, [], ◌∷◌, ◌++◌, true, false, refl, sym, ap, ◌∙◌, subst}
use Rattle.std.specs.Prelude.{Ok, not, Bool}
use Rattle.std.specs.List.{sum_by, AllByRecursion}
use Rattle.std.proofs.lemmas.List.{append_assoc}
use Rattle.std.proofs.lemmas.Bool.{and_parts, not-true}
use Rattle.mip_ipv6.specs.Packet.{names_no_body}
use Rattle.mip_entries.specs.declared.entry.Entry.{Entry}
use Rattle.mip_schedule.specs.Contents.{Content}
use Rattle.mip_schedule.specs.EventTimes.{waited}
use Rattle.mip_schedule.specs.Lawful.{IsEvent}
use Rattle.mip_schedule.proofs.LawfulLaws.{read_so}
use Rattle.mip_symbols.specs.declared.declaration.Declaration.{Declaration}
use Rattle.mip_schedule.specs.declared.event.Event.{Event}
use Rattle.mip_schedule.specs.declared.event.Event.TheVariants.{Payload}
use Rattle.mip_schedule.specs.Reading.{reading}
use Rattle.mip_schedule.specs.Versions.{is_numbered}
use Rattle.mip_schedule.specs.Spelling.{spelling}
use Rattle.mip_rules_correspondent.specs.Rules.{is_data}
use Rattle.mip_history.specs.Setup.{setup_of}
use Rattle.mip_history.specs.Passing.{waited_by}
use Rattle.mip_history.specs.Permitted.{permitted}
use Rattle.mip_law_origin.specs.OwnHistoriesLaws.{IsPlainEvent, ArePlain}
use Rattle.mip_law_origin.specs.Marked.{EachIsMarked}
use Rattle.mip_engine.specs.Payloads.{is_payload}
use Rattle.mip_replay.proofs.ReadyLaws.{payload_fits, waits_are}
use Rattle.mip_replay.proofs.BindingLaws.{AreShort}

plain_proto : (proto : ℕ) → is_payload proto ≡ true → (names_no_body proto ≡ false) × (proto ≡ 135 → ⊥) × (proto ≡ 41 → ⊥)
plain_proto proto is = (
  not-true _ (and_parts (is_data proto) (not (names_no_body proto)) is).1,
  (λ e. let both = sym (ap is_payload e) ∙ is in absurd cc),
  (λ e. let both = sym (ap is_payload e) ∙ is in absurd cc),
)

plain_event : (numbered : Bool) (ds : List Declaration) (before : List Event) (event : Event) → IsEvent numbered ds before event → IsPlainEvent event
plain_event numbered ds before (Payload node to proto payload) is = plain_proto proto (payload_fits numbered ds before node to proto payload is)
plain_event numbered ds before _ is = tt

-- each event stands after those before it
abbrev AreEvents : Content → Type 0
AreEvents c = (before : List Event) (e : Event) (after : List Event) → c.events ≡ before ++ e ∷ after → IsEvent (is_numbered c.version) c.declarations before e

plain_events : (c : Content) → AreEvents c → ArePlain c
plain_events c each = by [] c.events refl
  where
    by : (before rest : List Event) → c.events ≡ before ++ rest → AllByRecursion IsPlainEvent rest
    by before [] whole = tt
    by before (event ∷ rest) whole =
        (plain_event (is_numbered c.version) c.declarations before event (each before event rest whole), by (before ++ event ∷ []) rest (whole ∙ sym (append_assoc before (event ∷ []) rest)))

abbrev pub AreMarked : Type 0
AreMarked = (c : Content) → ArePlain c → sum_by waited_by c.events ≤ 36000000 → EachIsMarked (setup_of c) (permitted c)

pub marked_of_text : AreMarked → AreShort → (text : List ℕ) (c : Content) → reading text ≡ Ok c → EachIsMarked (setup_of c) (permitted c)
unfolding waited
marked_of_text marked short text c read =
    marked c (plain_events c (read_so text c read).events) (subst (λ (n : ℕ). n ≤ 36000000) (sym (waits_are c.events)) (short text c read))

pub marked_of : AreMarked → AreShort → (c : Content) (h : List Entry) → reading (spelling c) ≡ Ok c → h ≡ permitted c → EachIsMarked (setup_of c) h
marked_of marked short c h read is = subst (EachIsMarked (setup_of c)) (sym is) (marked_of_text marked short (spelling c) c read)
