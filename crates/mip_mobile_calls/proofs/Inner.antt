-- What comes out of a tunnel.
use Rattle.std.proofs.Common.{◌≡◌, ℕ, ◌≤◌, List, length, drop, refl, ap, arith}
use Rattle.std.specs.Prelude.{Bool, true, false, not, ◌&&◌, ◌==◌, if◌then◌else◌, Option, Some, None, is_some, is_none, Err}
use Rattle.std.proofs.lemmas.List.{length-drop}
use Rattle.mip_words.specs.Protocols.{ipv6, mobility_header}
use Rattle.mip_words.specs.declared.address.Address.{Address}
use Rattle.mip_words.specs.declared.shield.Shield.{Shield}
use Rattle.mip_words.specs.declared.why.Why.{Why}
use Rattle.mip_words.specs.declared.why.Why.TheVariants as whys
use Rattle.mip_ipv6.specs.Packet.{Packet, is_routable_if_any}
use Rattle.mip_ipv6.proofs.Packets.{packet_takes}
use Rattle.mip_ipv6.specs.declared.exit_fault.ExitFault.{ExitFault}
use Rattle.mip_ipv6.specs.declared.exit_fault.ExitFault.TheVariants.{NotTunnel, WrongEntry, Inner}
use Rattle.mip_ipv6.specs.Tunnel.{opened}
use Rattle.std.specs.Prelude.{Ok}
use Rattle.mip_reception.specs.Checks.{checked}
use Rattle.mip_ipv6.proofs.Placed.{home_routable}
use Rattle.mip_rules_correspondent.specs.Rules.{place_in}
use Rattle.mip_rules_mobile.specs.Steps.{Drops}
use Rattle.mip_rules_mobile.specs.HomeQuestions.{home_of}
use Rattle.mip_rules_mobile.specs.ReceivingRules.{inner_standing, after_inner_checks, takes_inner, opens_with}
use Rattle.mip_rules_mobile.specs.Transitions.{Transition, noted}
use Rattle.mip_rules_mobile.proofs.Checks.{opened-reads}
use Rattle.mip_mobile_calls.specs.Inners.{inner_why, entry_why}

-- the first reason, or what follows where there is none
chosen : (a b c d : Bool) (why : Why) (number : ℕ) (t u : Transition)
    → (if a then Some whys.Nested else if b then Some whys.Address else if c then Some whys.Route else if d then Some whys.Unshielded else None) ≡ Some why
    → noted (Drops number why) t
    ≡ (if a then noted (Drops number whys.Nested) t else if b then noted (Drops number whys.Address) t else if c then noted (Drops number whys.Route) t else if d then noted (Drops number whys.Unshielded) t else u)
chosen true b c d why number t u is = cc
chosen false true c d why number t u is = cc
chosen false false true d why number t u is = cc
chosen false false false true why number t u is = cc
chosen false false false false why number t u is = absurd cc

passed : (a b c d : Bool) (number : ℕ) (t u : Transition)
    → (if a then Some whys.Nested else if b then Some whys.Address else if c then Some whys.Route else if d then Some whys.Unshielded else None) ≡ None
    → u
    ≡ (if a then noted (Drops number whys.Nested) t else if b then noted (Drops number whys.Address) t else if c then noted (Drops number whys.Route) t else if d then noted (Drops number whys.Unshielded) t else u)
passed true b c d number t u is = absurd cc
passed false true c d number t u is = absurd cc
passed false false true d number t u is = absurd cc
passed false false false true number t u is = absurd cc
passed false false false false number t u is = refl

pub inner-dropped : (number : ℕ) (shield : Option Shield) (bytes : List ℕ) (p : Packet) (t : Transition) (why : Why) → inner_why (home_of t.known) shield p.head ≡ Some why
    → noted (Drops number why) t ≡ takes_inner number shield bytes p t
unfolding takes_inner
inner-dropped number shield bytes p t why =
    chosen (p.head.proto == ipv6) (not (p.head.destination.0 == (home_of t.known).0)) (is_some p.head.route) ((p.head.proto == mobility_header) && is_none shield) why number t
    (after_inner_checks number shield bytes p (checked (inner_standing t.known t.now p.head) (place_in bytes p) p) t)

pub inner-checked : (number : ℕ) (shield : Option Shield) (bytes : List ℕ) (p : Packet) (t : Transition) → inner_why (home_of t.known) shield p.head ≡ None
    → after_inner_checks number shield bytes p (checked (inner_standing t.known t.now p.head) (place_in bytes p) p) t ≡ takes_inner number shield bytes p t
unfolding takes_inner
inner-checked number shield bytes p t =
    passed (p.head.proto == ipv6) (not (p.head.destination.0 == (home_of t.known).0)) (is_some p.head.route) ((p.head.proto == mobility_header) && is_none shield) number t
    (after_inner_checks number shield bytes p (checked (inner_standing t.known t.now p.head) (place_in bytes p) p) t)

-- what is not opened
pub not-opened : (number : ℕ) (shield : Option Shield) (bytes : List ℕ) (fault : ExitFault) (t : Transition)
    → noted (Drops number (entry_why fault)) t ≡ opens_with number shield bytes (Err fault) t
not-opened number shield bytes NotTunnel t = refl
not-opened number shield bytes (WrongEntry seen) t = refl
not-opened number shield bytes (Inner fault) t = refl

-- what comes out of a tunnel was read, so its home address is routable
pub opened-routable : (agent : Address) (p q : Packet) → opened agent p ≡ Ok q → is_routable_if_any q.head.home ≡ true
opened-routable agent p q is = home_routable q p.body (packet_takes p.body q (opened-reads agent p q is))

-- it is no longer than the packet around it
pub inner-short : (place n : ℕ) (bytes body : List ℕ) → length bytes ≤ n → body ≡ drop place bytes → length body ≤ n
inner-short place n bytes body short is = let size = ap (λ (l : List ℕ). length l) is in let rest = length-drop place bytes in omega arith
