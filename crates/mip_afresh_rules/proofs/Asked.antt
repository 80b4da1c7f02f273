-- A message as the registration that it is, where it is an update.
use Rattle.std.proofs.Common.{◌≡◌, ℕ, List, refl, sym, ap, subst}
use Rattle.std.proofs.Math.Logic.{∥∥₁_elim}
use Rattle.std.proofs.Props.{props}
use Rattle.std.specs.Prelude.{Option, Some, None, IsTrue, IsFalse, Ok, option_map}
use Rattle.mip_words.specs.declared.address.Address.{Address}
use Rattle.mip_ipv6.specs.Packet.{Packet, is_routable_if_any}
use Rattle.mip_mobhdr.specs.declared.message.Message.{Message}
use Rattle.mip_mobhdr.specs.Said.{Said, said}
use Rattle.mip_mobhdr.specs.Said.Said.{Refresh, HomeInit, CareofInit, HomeTest, CareofTest, Update, Acknowledgement, Error}
use Rattle.mip_packets.specs.Updates.{IsReadUpdate}
use Rattle.mip_reception.specs.Checks.{is_probe}
use Rattle.mip_rules_correspondent.specs.declared.identity.Identity.{Identity}
use Rattle.mip_reception.specs.declared.registration.Registration.{Registration}
use Rattle.mip_reception.specs.Registrations.{registration, registration_said, registration_in}
use Rattle.mip_rules_correspondent.specs.Rules.{takes_update, by_message}
use Rattle.mip_rules_correspondent.specs.Transitions.{Transition}

-- what the correspondent part does about a message that asks this
abbrev pub by_asked : Identity → ℕ → List ℕ → Option Registration → Transition → Transition
by_asked me number body None t = t
by_asked me number body (Some r) t = takes_update me number r body t

pub taken_asked : (me : Identity) (number : ℕ) (p : Packet) (m : Said) (t : Transition) → IsFalse (is_probe (Some m)) → by_message me number p (Some m) t ≡ by_asked me number p.body (registration_said p.head.source p.head.home (Ok m)) t
taken_asked me number p (Refresh o) t other = refl
taken_asked me number p (HomeInit c o) t other = absurd cc
taken_asked me number p (CareofInit c o) t other = absurd cc
taken_asked me number p (HomeTest i c k o) t other = refl
taken_asked me number p (CareofTest i c k o) t other = refl
taken_asked me number p (Update s a h l k q o) t other = refl
taken_asked me number p (Acknowledgement s k q l o) t other = refl
taken_asked me number p (Error s h o) t other = refl

asked_is : (r q : Registration) → Some r ≡ Some q → r ≡ q
asked_is r q e = cc

-- it is what the bytes of the update ask
pub asked_read : (source : Address) (home : Option Address) (m : Said) (body : List ℕ) (r : Registration) → IsReadUpdate (Some m) body → Some r ≡ registration_said source home (Ok m) → registration_in r.source r.home_option body ≡ Some r
asked_read source home (Update s a h l k q o) body r read is =
    let same : registration source home s a h q o ≡ r = sym (asked_is r (registration source home s a h q o) is) in
    subst (λ (r : Registration). registration_in r.source r.home_option body ≡ Some r) same
    (ap (registration_said source home) read.1)
asked_read source home (Refresh o) body r read is = absurd cc
asked_read source home (HomeInit c o) body r read is = absurd cc
asked_read source home (CareofInit c o) body r read is = absurd cc
asked_read source home (HomeTest i c k o) body r read is = absurd cc
asked_read source home (CareofTest i c k o) body r read is = absurd cc
asked_read source home (Acknowledgement s k q l o) body r read is = absurd cc
asked_read source home (Error s h o) body r read is = absurd cc

registered_set : IsSet (Option Registration)
registered_set = hlevel props

-- where the message that a packet passed with is this one
pub asked_passed : (source : Address) (home : Option Address) (message : Option Message) (m : Message) (body : List ℕ) (r : Registration) → message ≡ Some m → ∥ IsReadUpdate (option_map said message) body ∥₁
    → Some r ≡ registration_said source home (Ok (said m)) → registration_in r.source r.home_option body ≡ Some r
asked_passed source home message m body r there read is =
    ∥∥₁_elim read (registered_set _ _) (λ (u : IsReadUpdate (option_map said message) body). asked_read source home (said m) body r (subst (λ (o : Option Message). IsReadUpdate (option_map said o) body) there u) is)

-- its Home Address option is that of the packet
pub home_asked : (source : Address) (home : Option Address) (m : Said) (r : Registration) → Some r ≡ registration_said source home (Ok m) → IsTrue (is_routable_if_any home) → IsTrue (is_routable_if_any r.home_option)
home_asked source home (Update s a h l k q o) r is plain =
    let same : registration source home s a h q o ≡ r = sym (asked_is r (registration source home s a h q o) is) in
    subst (λ (r : Registration). IsTrue (is_routable_if_any r.home_option)) same plain
home_asked source home (Refresh o) r is plain = absurd cc
home_asked source home (HomeInit c o) r is plain = absurd cc
home_asked source home (CareofInit c o) r is plain = absurd cc
home_asked source home (HomeTest i c k o) r is plain = absurd cc
home_asked source home (CareofTest i c k o) r is plain = absurd cc
home_asked source home (Acknowledgement s k q l o) r is plain = absurd cc
home_asked source home (Error s h o) r is plain = absurd cc
