-- What passes the checks is the message of the packet, and a message that is an update was read as one.
use Rattle.std.proofs.Common.{◌≡◌, ℕ, List, Bool, true, false, sym}
use Rattle.std.specs.Prelude.{Option, Some, None, Result, Ok, Err, not, ◌==◌, ◌||◌, ◌&&◌, if◌then◌else◌, is_some, slice_index}
use Rattle.std.proofs.lemmas.Bool.{cond_both, eqb-true}
use Rattle.mip_words.specs.Steps.{◌>>=◌}
use Rattle.mip_words.specs.declared.address.Address.{Address}
use Rattle.mip_ipv6.specs.Packet.{Packet, source_of, destination_of}
use Rattle.mip_mobhdr.specs.OptionValues.{Values}
use Rattle.mip_mobhdr.specs.declared.fault.Fault.{Fault}
use Rattle.mip_mobhdr.specs.Said.{Said}
use Rattle.mip_mobhdr.specs.Said.Said.{Update}
use Rattle.mip_mobhdr.specs.Reading.{type_in, options_in, refresh_of, home_init_of, careof_init_of, home_test_of, careof_test_of, update_of, acknowledgement_of, error_of, fields_of, message_of}
use Rattle.mip_packets.proofs.WrittenMessages.{message_reads}
use Rattle.mip_reception.specs.declared.refusal.Refusal.{Refusal}
use Rattle.mip_reception.specs.declared.address_match.AddressMatch.{AddressMatch}
use Rattle.mip_reception.specs.Checks.{message_or_refusal, message_at, then_home, is_probe, is_update, checked}

-- whichever way a choice goes
pub either : {X Q : Type 0} (u : X) (b : Bool) (x y : X) → (x ≡ u → Q) → (y ≡ u → Q) → (if b then x else y) ≡ u → Q
either u true x y first second e = first e
either u false x y first second e = second e

-- a message that is an update was read as one
module _ (body : List ℕ) (s : ℕ) (a h l k : Bool) (t : ℕ) (o : Values) where
  another : (r : Result Values Fault) (f : Values → Said) → ((v : Values) → f v ≡ Update s a h l k t o → ⊥) → (r >>= (λ v. Ok (f v))) ≡ Ok (Update s a h l k t o) → ⊥
  another (Ok v) f never e = never v cc
  another (Err fault) f never e = absurd cc

  update_fields : (type : ℕ) → fields_of type body ≡ Ok (Update s a h l k t o) → update_of body ≡ Ok (Update s a h l k t o)
  unfolding fields_of refresh_of home_init_of careof_init_of home_test_of careof_test_of acknowledgement_of error_of
  update_fields type =
      either u (type == 0) _ _ (λ e. absurd (another (options_in 8 body) _ (λ v e. absurd cc) e))
      (either u (type == 1) _ _ (λ e. absurd (another (options_in 16 body) _ (λ v e. absurd cc) e))
      (either u (type == 2) _ _ (λ e. absurd (another (options_in 16 body) _ (λ v e. absurd cc) e))
      (either u (type == 3) _ _ (λ e. absurd (another (options_in 24 body) _ (λ v e. absurd cc) e))
      (either u (type == 4) _ _ (λ e. absurd (another (options_in 24 body) _ (λ v e. absurd cc) e))
      (either u (type == 5) _ _ (λ e. e)
      (either u (type == 6) _ _ (λ e. absurd (another (options_in 12 body) _ (λ v e. absurd cc) e))
      (λ e. absurd (another (options_in 24 body) _ (λ v e. absurd cc) e))))))))
    where
      u : Result Said Fault
      u = Ok (Update s a h l k t o)

  pub update_read : (source destination : Address) → message_of source destination body ≡ Ok (Update s a h l k t o) → update_of body ≡ Ok (Update s a h l k t o)
  unfolding message_of
  update_read source destination e = by (type_in source destination body) e
    where
      by : (r : Result ℕ Fault) → (r >>= (λ type. fields_of type body)) ≡ Ok (Update s a h l k t o) → update_of body ≡ Ok (Update s a h l k t o)
      by (Ok type) e = update_fields type e
      by (Err fault) e = absurd cc

  pub update_type : (source destination : Address) → message_of source destination body ≡ Ok (Update s a h l k t o) → slice_index body 2 ≡ 5
  update_type source destination e = let reads = message_reads source destination body (Update s a h l k t o) e in sym reads.type_is

-- what passes the checks is the message of the packet
passes_home : (holds : Bool) (home : Option Address) (r : Result (Option Said) Refusal) (m : Option Said) → then_home holds home r ≡ Ok m → r ≡ Ok m
passes_home holds home (Err refusal) m e = absurd cc
passes_home holds None (Ok message) m e = e
passes_home holds (Some home) (Ok message) m e =
    either (Ok m) (is_probe message) _ _ (λ e. absurd cc) (either (Ok m) (is_update message || holds) _ _ (λ e. e) (λ e. absurd cc)) e

pub checked_message : (standing : AddressMatch) (place : ℕ) (p : Packet) (m : Option Said) → checked standing place p ≡ Ok m → message_at place p ≡ Ok m
unfolding checked
checked_message standing place p m =
    either (Ok m) (not standing.is_mine) _ _ (λ e. absurd cc)
    (either (Ok m) (is_some p.head.route && not standing.takes_route) _ _ (λ e. absurd cc)
    (passes_home standing.holds p.head.home (message_at place p) m))

pub message_read : (place : ℕ) (p : Packet) (m : Said) → message_at place p ≡ Ok (Some m) → message_of (source_of p.head) (destination_of p.head) p.body ≡ Ok m
unfolding message_at
message_read place p m = either (Ok (Some m)) (p.head.proto == 135) _ _ (by (message_of (source_of p.head) (destination_of p.head) p.body)) (λ e. absurd cc)
  where
    by : (r : Result Said Fault) → message_or_refusal place p.head.home r ≡ Ok (Some m) → r ≡ Ok m
    by (Ok message) e = cc
    by (Err fault) e = absurd cc

-- only a packet with a mobility header has a message
pub message_proto : (place : ℕ) (p : Packet) (m : Said) → message_at place p ≡ Ok (Some m) → p.head.proto ≡ 135
unfolding message_at
message_proto place p m =
    cond_both (p.head.proto == 135) _ _ (λ (r : Result (Option Said) Refusal). r ≡ Ok (Some m) → p.head.proto ≡ 135) (λ is e. eqb-true p.head.proto 135 is) (λ other e. absurd cc)
