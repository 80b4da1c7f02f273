-- What a packet that was written says: the test that its message is, and no other.
use Rattle.std.proofs.Common.{◌≡◌, ℕ, ◌<◌, ◌%◌, List, refl, sym, ap, subst, ◌∙◌, false, arith}
use Rattle.std.proofs.lemmas.Bool.{cond-true, eq-eqb}
use Rattle.std.specs.Prelude.{Option, Some, None, Result, Ok, Err, slice_index}
use Rattle.std.specs.Option.{option_map_or}
use Rattle.std.specs.Result.{result_ok}
use Rattle.mip_words.specs.Addresses.{address_bytes}
use Rattle.mip_words.specs.declared.address.Address.{Address}
use Rattle.mip_ipv6.specs.declared.head.Head.{Head}
use Rattle.mip_ipv6.specs.declared.not_packet.NotPacket.{NotPacket}
use Rattle.mip_ipv6.specs.Packet.{Packet, source_of, destination_of, names_no_body}
use Rattle.mip_ipv6.specs.Reading.{packet_of}
use Rattle.mip_ipv6.specs.Spelling.{packet_bytes}
use Rattle.mip_mobhdr.specs.OptionValues.{Values}
use Rattle.mip_mobhdr.specs.declared.fault.Fault.{Fault}
use Rattle.mip_mobhdr.specs.Said.{Said}
use Rattle.mip_mobhdr.specs.Said.Said.{Refresh, HomeInit, CareofInit, HomeTest, CareofTest, Update, Acknowledgement, Error}
use Rattle.mip_mobhdr.specs.Reading.{message_of}
use Rattle.mip_mobhdr.specs.Spelling.{type_of, message_bytes}
use Rattle.mip_packets.specs.Says.{Carried, Other, Test, Update as Bound, update_said, said_by, says, carried}
use Rattle.mip_packets.proofs.Sayings.{said_if_read, carried_is, carried_plain, carried_other}
use Rattle.mip_packets.specs.Packets.{data_packet, message_packet, problem_packet}
use Rattle.mip_packets.specs.Written.{IsBack, IsTestOf, TestsOf, SaysNoTest, is_test}
use Rattle.mip_packets.proofs.WrittenPackets.{read_back}
use Rattle.mip_packets.proofs.WrittenMessages.{IsTestIn, Reads, message_reads, type_written, home_index_written, careof_index_written, home_token_written, careof_token_written}

small : (i : ℕ) → i ≡ i % 65536 → i < 65536
small i e = omega arith

-- a Home Test that was read is the one that was written
home_test_of_read : (to source destination dest : Address) (m : Said) (i c : ℕ) (t : List ℕ) (o : Values) → type_of m ≡ 3 → IsTestIn (HomeTest i c t o) (message_bytes source destination m) → address_bytes dest ≡ address_bytes to → IsTestOf to m 0 i t dest
home_test_of_read to source destination dest (HomeTest j d u p) i c t o is fields there =
    (refl, (λ fits. sym fields.0 ∙ home_index_written source destination j d u p (small j fits)), (λ long. sym fields.1 ∙ home_token_written source destination j d u p long), there)
home_test_of_read to source destination dest _ i c t o is fields there = absurd (omega (arith, is))

careof_test_of_read : (to source destination dest : Address) (m : Said) (i c : ℕ) (t : List ℕ) (o : Values) → type_of m ≡ 4 → IsTestIn (CareofTest i c t o) (message_bytes source destination m) → address_bytes dest ≡ address_bytes to → IsTestOf to m 1 i t dest
careof_test_of_read to source destination dest (CareofTest j d u p) i c t o is fields there =
    (refl, (λ fits. sym fields.0 ∙ careof_index_written source destination j d u p (small j fits)), (λ long. sym fields.1 ∙ careof_token_written source destination j d u p long), there)
careof_test_of_read to source destination dest _ i c t o is fields there = absurd (omega (arith, is))

-- an update says no test, with or without an authenticator
update_tests : (to : Address) (m : Said) (source home : Address) (body : List ℕ) (o : Values) (a : Option (List ℕ)) → TestsOf to m (update_said source home body o a)
update_tests to m source home body o None = tt
update_tests to m source home body o (Some a) = tt

-- what the message says that was read where this one was written
message_tests : (to source destination : Address) (m read : Said) (from home dest : Address) → Reads (type_of m) (message_bytes source destination m) read → address_bytes dest ≡ address_bytes to
    → TestsOf to m (said_by from home dest (message_bytes source destination m) read)
message_tests to source destination m (Refresh o) from home dest is there = tt
message_tests to source destination m (HomeInit c o) from home dest is there = tt
message_tests to source destination m (CareofInit c o) from home dest is there = tt
message_tests to source destination m (HomeTest i c t o) from home dest is there = home_test_of_read to source destination dest m i c t o (sym is.type_is) is.fields there
message_tests to source destination m (CareofTest i c t o) from home dest is there = careof_test_of_read to source destination dest m i c t o (sym is.type_is) is.fields there
message_tests to source destination m (Update s a h l k t o) from home dest is there = update_tests to m from home (message_bytes source destination m) o o.authorization
message_tests to source destination m (Acknowledgement s k q t o) from home dest is there = tt
message_tests to source destination m (Error s h o) from home dest is there = tt

-- of bytes that are no packet nothing is said
unread : (bytes : List ℕ) (fault : NotPacket) → packet_of bytes ≡ Err fault → carried bytes ≡ Other
unread bytes fault e = carried_is bytes ∙ ap said_if_read e

says_is : (q : Packet) → q.head.proto ≡ 135
    → says q ≡ option_map_or (said_by q.head.source (source_of q.head) q.head.destination q.body) (result_ok (message_of (source_of q.head) (destination_of q.head) q.body)) Other
unfolding says
says_is q is = ap (λ (o : Option Said). option_map_or (said_by q.head.source (source_of q.head) q.head.destination q.body) o Other) (cond-true _ _ _ (eq-eqb q.head.proto 135 is))

pub message_says : (head : Head) (m : Said) → head.proto ≡ 135 → TestsOf head.destination m (carried (message_packet head m))
unfolding message_packet
message_says head m proto = by (packet_of bytes) refl
  where
    body : List ℕ
    body = message_bytes (source_of head) (destination_of head) m

    bytes : List ℕ
    bytes = packet_bytes (record { head = head; body = body })

    plain : names_no_body head.proto ≡ false
    plain = ap names_no_body proto

    told : (q : Packet) → packet_of bytes ≡ Ok q → (r : Result Said Fault) → message_of (source_of q.head) (destination_of q.head) q.body ≡ r
        → TestsOf head.destination m (option_map_or (said_by q.head.source (source_of q.head) q.head.destination q.body) (result_ok r) Other)
    told q read (Err fault) e = tt
    told q read (Ok found) e =
        let back : IsBack (record { head = head; body = body }) q = read_back (record { head = head; body = body }) q plain read in
        let reads : Reads (type_of m) body found =
        subst (λ (t : ℕ). Reads t body found) (type_written (source_of head) (destination_of head) m)
        (subst (λ (l : List ℕ). Reads (slice_index l 2) l found) back.body (message_reads (source_of q.head) (destination_of q.head) q.body found e)) in
        subst (λ (l : List ℕ). TestsOf head.destination m (said_by q.head.source (source_of q.head) q.head.destination l found)) (sym back.body)
        (message_tests head.destination (source_of head) (destination_of head) m found q.head.source (source_of q.head) q.head.destination reads back.destination)

    by : (r : Result Packet NotPacket) → packet_of bytes ≡ r → TestsOf head.destination m (carried bytes)
    by (Err fault) e = subst (TestsOf head.destination m) (sym (unread bytes fault e)) tt
    by (Ok q) e =
        let back : IsBack (record { head = head; body = body }) q = read_back (record { head = head; body = body }) q plain e in
        let is : q.head.proto ≡ 135 = back.proto ∙ proto in
        subst (TestsOf head.destination m) (sym (carried_plain bytes q e (λ t. omega (arith, is, t)) ∙ says_is q is)) (told q e (message_of (source_of q.head) (destination_of q.head) q.body) refl)

-- a message that is no test is read as none
none_of : (to : Address) (m : Said) (c : Carried) → is_test m ≡ false → TestsOf to m c → SaysNoTest c
none_of to m Other none tests = tt
none_of to m (Bound key) none tests = tt
none_of to (Refresh o) (Test kind index token destination) none tests = tests
none_of to (HomeInit c o) (Test kind index token destination) none tests = tests
none_of to (CareofInit c o) (Test kind index token destination) none tests = tests
none_of to (HomeTest i c t o) (Test kind index token destination) none tests = absurd cc
none_of to (CareofTest i c t o) (Test kind index token destination) none tests = absurd cc
none_of to _ (Test kind index token destination) none tests = tests

pub message_says_no_test : (head : Head) (m : Said) → head.proto ≡ 135 → is_test m ≡ false → SaysNoTest (carried (message_packet head m))
message_says_no_test head m proto none = none_of head.destination m (carried (message_packet head m)) none (message_says head m proto)

-- and so is a packet with another body than a packet or a message
pub other_says_no_test : (p : Packet) → names_no_body p.head.proto ≡ false → (p.head.proto ≡ 135 → ⊥) → (p.head.proto ≡ 41 → ⊥) → SaysNoTest (carried (packet_bytes p))
other_says_no_test p plain other inner = by (packet_of (packet_bytes p)) refl
  where
    by : (r : Result Packet NotPacket) → packet_of (packet_bytes p) ≡ r → SaysNoTest (carried (packet_bytes p))
    by (Err fault) e = subst SaysNoTest (sym (unread (packet_bytes p) fault e)) tt
    by (Ok q) e =
        let back = read_back p q plain e in
        subst SaysNoTest (sym (carried_other (packet_bytes p) q e (λ is. other (sym back.proto ∙ is)) (λ is. inner (sym back.proto ∙ is)))) tt

pub data_says_no_test : (head : Head) (body : List ℕ) → names_no_body head.proto ≡ false → (head.proto ≡ 135 → ⊥) → (head.proto ≡ 41 → ⊥) → SaysNoTest (carried (data_packet head body))
unfolding data_packet
data_says_no_test head body plain other inner = other_says_no_test _ plain other inner

pub problem_says_no_test : (source destination : Address) (pointer : ℕ) (packet : List ℕ) → SaysNoTest (carried (problem_packet source destination pointer packet))
unfolding problem_packet
problem_says_no_test source destination pointer packet = other_says_no_test _ refl (λ e. omega (arith, e)) (λ e. omega (arith, e))
