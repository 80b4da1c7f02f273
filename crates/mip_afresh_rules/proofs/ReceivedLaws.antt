-- A packet that was read is checked by what is kept of its home.
use Rattle.std.proofs.Common.{◌≡◌, ℕ, List, Bool, refl, sym, ap, ◌∙◌}
use Rattle.std.specs.Prelude.{Option, Some, None, Result, Ok}
use Rattle.mip_words.specs.declared.address.Address.{Address}
use Rattle.mip_ipv6.specs.declared.not_packet.NotPacket.{NotPacket}
use Rattle.mip_ipv6.specs.Packet.{Packet}
use Rattle.mip_ipv6.specs.Reading.{packet_of}
use Rattle.mip_mobhdr.specs.Said.{Said}
use Rattle.mip_entries.specs.declared.answer.Answer.{Answer}
use Rattle.mip_reception.specs.declared.refusal.Refusal.{Refusal}
use Rattle.mip_reception.specs.declared.address_match.AddressMatch.{AddressMatch}
use Rattle.mip_reception.specs.Checks.{checked}
use Rattle.mip_rules_correspondent.specs.declared.identity.Identity.{Identity}
use Rattle.mip_rules_correspondent.specs.declared.known.Known.{Known}
use Rattle.mip_reception.specs.declared.registration.Registration.{Registration}
use Rattle.mip_reception.specs.Registrations.{home_of}
use Rattle.mip_rules_correspondent.specs.Questions.{floor_of, is_full_for}
use Rattle.mip_rules_correspondent.specs.Verdicts.{Bench}
use Rattle.mip_rules_correspondent.specs.Rules.{bench, holds_option, standing_of, after_checks, place_in, receives}
use Rattle.mip_rules_correspondent.specs.Transitions.{Transition}
use Rattle.mip_afresh_rules.specs.declared.kept.Kept.{Kept}
use Rattle.mip_afresh_rules.specs.declared.who.Who.{Who}
use Rattle.mip_afresh_rules.specs.Judging.{bench_at}
use Rattle.mip_afresh_rules.specs.Keeping.{holds_home, IsKept, standing_at}
use Rattle.mip_afresh_rules.specs.Showing.{Shown}
use Rattle.mip_afresh_rules.proofs.ShowingLaws.{shown-now}

holds_same : (k : Known) (now : ℕ) (source : Address) (home : Option Address) → holds_option k now source home ≡ holds_home k.cache now source home
holds_same k now source None = refl
holds_same k now source (Some home) = refl

pub receives-checked : (me : Identity) (number : ℕ) (bytes : List ℕ) (p : Packet) (kept : Kept) (now : ℕ) (old : List Answer) (t : Transition) (place : ℕ) (standing : AddressMatch) (r : Result (Option Said) Refusal)
    → IsKept kept t.known.cache now p.head.source p.head.home → Shown now old t → packet_of bytes ≡ Ok p → place ≡ place_in bytes p → standing ≡ standing_at me.own kept.holds p.head → checked standing place p ≡ r
    → receives me number bytes (packet_of bytes) t ≡ after_checks me number bytes p r t
receives-checked me number bytes p kept now old t place standing r is shows read placed standing_is check =
    ap (λ (o : Result Packet NotPacket). receives me number bytes o t) read
    ∙ ap (λ (o : Result (Option Said) Refusal). after_checks me number bytes p o t)
    (ap (λ (n : ℕ). checked (standing_of me t.known n p.head) (place_in bytes p) p) (shown-now now old t shows)
    ∙ ap (λ (b : Bool). checked (standing_at me.own b p.head) (place_in bytes p) p) (holds_same t.known now p.head.source p.head.home ∙ sym is.bound)
    ∙ ap (λ (s : AddressMatch). checked s (place_in bytes p) p) (sym standing_is)
    ∙ ap (λ (n : ℕ). checked standing n p) (sym placed) ∙ check)

-- and an update is judged by it
pub bench-kept : (w : Who) (t : Transition) (r : Registration) (old : List Answer) → IsKept w.kept t.known.cache w.at.moment.0 r.source r.home_option → Shown w.at.moment.0 old t
    → bench_at w ≡ bench w.me.now t.known t.now r
bench-kept w t r old is shows =
    let mk = λ (floor : Option ℕ) (full : Bool) (numbers : ℕ). (let b : Bench = record { own = w.me.now.own; secrets = w.me.now.secrets; now = w.at.moment.0; floor = floor; full = full; numbers = numbers } in b) in
    ap (λ (floor : Option ℕ). mk floor w.kept.is_full w.kept.numbers) is.last
    ∙ ap (λ (full : Bool). mk (floor_of t.known w.at.moment.0 (home_of r)) full w.kept.numbers) is.room
    ∙ ap (λ (numbers : ℕ). mk (floor_of t.known w.at.moment.0 (home_of r)) (is_full_for t.known w.at.moment.0 (home_of r)) numbers) is.count
    ∙ ap (λ (n : ℕ). bench w.me.now t.known n r) (sym (shown-now w.at.moment.0 old t shows))
