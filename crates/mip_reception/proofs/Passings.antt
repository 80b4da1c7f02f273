-- What passes the checks, and what each row refuses.
use Rattle.std.proofs.Common.{◌≡◌, ℕ, refl, ap, subst, ◌∙◌, Bool, true, false, not, ◌||◌, ◌&&◌}
use Rattle.std.proofs.lemmas.Bool.{cond_both, cond-true, cond-false, not-false, not_from_true, not_from_false, or_from, and_from}
use Rattle.std.specs.Prelude.{Option, Some, None, is_some, Result, Ok, Err, IsTrue, IsFalse, ◌↔◌}
use Rattle.mip_words.specs.declared.address.Address.{Address}
use Rattle.mip_words.proofs.StepLaws.{ok_is, done}
use Rattle.mip_ipv6.specs.Packet.{Packet}
use Rattle.mip_mobhdr.specs.Said.{Said}
use Rattle.mip_reception.specs.declared.refusal.Refusal.{Refusal}
use Rattle.mip_reception.specs.declared.address_match.AddressMatch.{AddressMatch}
use Rattle.mip_words.specs.declared.why.Why.TheVariants as whys
use Rattle.mip_reception.specs.Checks.{silent, message_at, is_probe, is_update, with_home, then_home, checked}
use Rattle.mip_reception.specs.Passing.{IsAllowed, Passes, RefusesInOrder}

record Allowed (holds : Bool) (home : Option Address) (x m : Option Said) : Type 0 where
  same : x ≡ m
  allowed : IsAllowed holds home m

home_takes : (holds : Bool) (home : Option Address) (x m : Option Said) → with_home holds home x ≡ Ok m → Allowed holds home x m
home_takes holds None x m = λ e. record { same = ok_is x m e; allowed = tt }
home_takes holds (Some home) x m =
    let P : Result (Option Said) Refusal → Type 0 = λ r. r ≡ Ok m → Allowed holds (Some home) x m in
    cond_both (is_probe x) _ _ P (λ probe e. absurd cc) (λ no_probe.
    cond_both (is_update x || holds) _ _ P (λ ok e.
    let same = ok_is x m e in
    record {
      same = same;
      allowed = subst (λ (y : Option Said). IsAllowed holds (Some home) y) same (no_probe, ok);
    }) (λ neither e. absurd cc))

then_takes : (holds : Bool) (home : Option Address) (r : Result (Option Said) Refusal) (m : Option Said) → then_home holds home r ≡ Ok m → (r ≡ Ok m) × IsAllowed holds home m
then_takes holds home (Ok x) m e =
    let a = home_takes holds home x m e in (ap done a.same, a.allowed)
then_takes holds home (Err refusal) m e = absurd cc

takes : (s : AddressMatch) (place : ℕ) (p : Packet) (m : Option Said) → checked s place p ≡ Ok m → Passes s place p m
unfolding checked
takes s place p m =
    let P : Result (Option Said) Refusal → Type 0 = λ r. r ≡ Ok m → Passes s place p m in
    cond_both (not s.is_mine) _ _ P (λ other e. absurd cc) (λ mine.
    cond_both (is_some p.head.route && not s.takes_route) _ _ P (λ routed e. absurd cc) (λ straight e.
    let t = then_takes s.holds p.head.home (message_at place p) m e in
    record { address = not-false _ mine; route = straight; message = t.0; home = t.1 }))

home_again : (holds : Bool) (home : Option Address) (m : Option Said) → IsAllowed holds home m → with_home holds home m ≡ Ok m
home_again holds None m is = refl
home_again holds (Some home) m is = cond-false (is_probe m) _ _ is.0 ∙ cond-true (is_update m || holds) _ _ is.1

-- behind the first two rows
behind : (s : AddressMatch) (place : ℕ) (p : Packet) → IsTrue s.is_mine → IsFalse (is_some p.head.route && not s.takes_route) → checked s place p ≡ then_home s.holds p.head.home (message_at place p)
unfolding checked
behind s place p mine straight = cond-false (not s.is_mine) _ _ (not_from_true _ mine) ∙ cond-false (is_some p.head.route && not s.takes_route) _ _ straight

again : (s : AddressMatch) (place : ℕ) (p : Packet) (m : Option Said) → Passes s place p m → checked s place p ≡ Ok m
again s place p m is =
    behind s place p is.address is.route ∙ ap (then_home s.holds p.head.home) is.message ∙ home_again s.holds p.head.home m is.home

pub passes : (s : AddressMatch) (place : ℕ) (p : Packet) (m : Option Said) → (checked s place p ≡ Ok m) ↔ Passes s place p m
passes s place p m = (takes s place p m, again s place p m)

refuses_address : (s : AddressMatch) (place : ℕ) (p : Packet) → IsFalse s.is_mine → checked s place p ≡ Err (silent whys.Address)
unfolding checked
refuses_address s place p other = cond-true (not s.is_mine) _ _ (not_from_false _ other)

refuses_route : (s : AddressMatch) (place : ℕ) (p : Packet) → IsTrue s.is_mine → IsTrue (is_some p.head.route) → IsFalse s.takes_route → checked s place p ≡ Err (silent whys.Route)
unfolding checked
refuses_route s place p mine routed takes =
    cond-false (not s.is_mine) _ _ (not_from_true _ mine)
    ∙ cond-true (is_some p.head.route && not s.takes_route) _ _ (and_from _ _ routed (not_from_false _ takes))

-- a Home Address option at the last two rows
with_option : (s : AddressMatch) (place : ℕ) (p : Packet) (m : Option Said) (home : Address) → IsTrue s.is_mine → IsFalse (is_some p.head.route && not s.takes_route) → message_at place p ≡ Ok m → p.head.home ≡ Some home → checked s place p ≡ with_home s.holds (Some home) m
with_option s place p m home mine straight message option =
    behind s place p mine straight ∙ ap (then_home s.holds p.head.home) message ∙ ap (λ (h : Option Address). with_home s.holds h m) option

pub refuses : (s : AddressMatch) (place : ℕ) (p : Packet) → RefusesInOrder s place p
refuses s place p = record {
  address = refuses_address s place p;
  route = refuses_route s place p;
  message = λ refusal mine straight e. behind s place p mine straight ∙ ap (then_home s.holds p.head.home) e;
  probe = λ m home mine straight e option probe.
      with_option s place p m home mine straight e option ∙ cond-true (is_probe m) _ _ probe;
  home = λ m home mine straight e option no_probe no_update unheld.
      with_option s place p m home mine straight e option ∙ cond-false (is_probe m) _ _ no_probe
      ∙ cond-false (is_update m || s.holds) _ _ (or_from _ _ no_update unheld);
}

allowed_of : (s : AddressMatch) (place : ℕ) (p : Packet) (m : Option Said) (home : Address) → checked s place p ≡ Ok m → p.head.home ≡ Some home → IsAllowed s.holds (Some home) m
allowed_of s place p m home e option = subst (λ (h : Option Address). IsAllowed s.holds h m) option (takes s place p m e).home

pub no_probe : (s : AddressMatch) (place : ℕ) (p : Packet) (m : Option Said) (home : Address) → checked s place p ≡ Ok m → p.head.home ≡ Some home → IsFalse (is_probe m)
no_probe s place p m home e option = (allowed_of s place p m home e option).0

or_left : (a b : Bool) → IsTrue (a || b) → IsFalse b → IsTrue a
or_left true b is no_b = refl
or_left false true is no_b = absurd cc
or_left false false is no_b = absurd cc

pub update_alone : (s : AddressMatch) (place : ℕ) (p : Packet) (m : Option Said) (home : Address) → checked s place p ≡ Ok m → p.head.home ≡ Some home → IsFalse s.holds → IsTrue (is_update m)
update_alone s place p m home e option unheld = or_left (is_update m) s.holds (allowed_of s place p m home e option).1 unheld
