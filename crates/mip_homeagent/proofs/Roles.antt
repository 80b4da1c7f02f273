-- A message as the registration that it is, where it is an update.
use Rattle.std.proofs.Common.{◌≡◌, ℕ, List, [], ◌∷◌, refl, sym, subst, true}
use Rattle.std.specs.Prelude.{Option, Some, None, Ok, unwrap_or, is_some}
use Rattle.std.specs.List.{AllByRecursion}
use Rattle.mip_words.specs.declared.address.Address.{Address}
use Rattle.mip_words.specs.declared.why.Why.TheVariants as whys
use Rattle.mip_ipv6.specs.Packet.{Packet}
use Rattle.mip_mobhdr.specs.Said.{Said}
use Rattle.mip_mobhdr.specs.Said.Said.{Refresh, Update}
use Rattle.mip_outside.specs.Places.{Around, free}
use Rattle.mip_binding.proofs.RowLaws.{all-find}
use Rattle.mip_reception.specs.declared.registration.Registration.{Registration}
use Rattle.mip_reception.specs.Registrations.{registration, registration_said, home_of}
use Rattle.mip_rules_agent.specs.declared.served.Served.{Served}
use Rattle.mip_rules_agent.specs.Known.{Known}
use Rattle.mip_rules_agent.specs.Questions.{key_of, served_at, is_served}
use Rattle.mip_rules_agent.specs.Steps.{Drops}
use Rattle.mip_rules_agent.specs.Transitions.{Transition, noted}
use Rattle.mip_rules_agent.specs.Rules.{Handing, takes_update, by_role}
use Rattle.mip_homeagent.specs.Soundness.{HasRoom}
use Rattle.mip_homeagent.proofs.Routables.{find_key}

-- what the agent does about a message that asks this
abbrev pub by_registration : Handing → Option Registration → Transition → Transition
by_registration h None t = noted (Drops h.number whys.Role) t
by_registration h (Some r) t = takes_update h r t

pub role_is : (h : Handing) (p : Packet) (m : Said) (t : Transition) → by_role h p (Some m) t ≡ by_registration h (registration_said p.head.source p.head.home (Ok m)) t
role_is h p (Refresh o) t = refl
role_is h p _ t = refl

module _ (source : Address) (home : Option Address) (r : Registration) where
  abbrev IsOf : Registration → Type 0
  IsOf q = (home_of q ≡ unwrap_or home source) × (q.home_option ≡ home)

  registration_is : (q : Registration) → Some r ≡ Some q → r ≡ q
  registration_is q e = cc

  -- its home is that of the packet
  pub said_home : (m : Said) → Some r ≡ registration_said source home (Ok m) → (home_of r ≡ unwrap_or home source) × (r.home_option ≡ home)
  said_home (Update s a f l k q o) e =
      let same : r ≡ registration source home s a f q o = registration_is (registration source home s a f q o) e in
      subst IsOf (sym same) (refl, refl)
  said_home _ e = absurd cc

-- a place has room for a home that is served
pub room_served : (around : Around) (k : Known) (home : Address) → HasRoom around k → is_served k home ≡ true → around.room home.0 ≡ true
room_served around k home all served = by (served_at k home) refl served
  where
    by : (o : Option Served) → served_at k home ≡ o → is_some o ≡ true → around.room home.0 ≡ true
    by None is e = absurd cc
    by (Some s) is e = subst (λ (n : ℕ). around.room n ≡ true) (find_key home.0 k.homes s is) (all-find (λ (s : Served). around.room s.home.0 ≡ true) key_of home.0 k.homes s all is)

-- a free place has room for each home
pub free_room : (k : Known) → HasRoom free k
free_room k = by k.homes
  where
    by : (homes : List Served) → AllByRecursion (λ s. free.room s.home.0 ≡ true) homes
    by [] = tt
    by (s ∷ homes) = (refl, by homes)
