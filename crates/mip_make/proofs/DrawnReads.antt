-- Each event that is drawn is fine in the network.
use Rattle.std.proofs.Common.{◌≡◌, ℕ, zero, suc, ◌+◌, ◌/◌, ◌%◌, ◌^◌, ◌<◌, Bool, true, false, cond, refl, arith}
use Rattle.std.specs.Prelude.{◌==◌, nat_lt, Some}
use Rattle.std.proofs.Math.Nat.{mod-lt}
use Rattle.std.proofs.lemmas.Bool.{cond_both}
use Rattle.mip_words.proofs.Fields.{IsBytes-number_bytes, length-number_bytes}
use Rattle.mip_words.specs.Addresses.{is_routable}
use Rattle.mip_words.specs.Numbers.{number_bytes}
use Rattle.mip_words.specs.declared.address.Address.{Address}
use Rattle.mip_words.specs.declared.ids.NodeId.{NodeId}
use Rattle.mip_symbols.specs.Kinds.{place, link, node, some_link}
use Rattle.mip_symbols.specs.Places.{members, place_of, name_at}
use Rattle.mip_schedule.specs.declared.event.Event.{Event}
use Rattle.mip_schedule.specs.declared.event.Event.TheVariants as events
use Rattle.mip_make.specs.Network as networks
use Rattle.mip_make.specs.Network.{network, correspondent_address, first_home, second_home}
use Rattle.mip_make.specs.Drawn.{packet_by, moves, advertises, calls, answers, carries, waits, loses, repeats, goes_on, drawn}
use Rattle.mip_make.specs.declared.draw.Draw.{Draw}
use Rattle.mip_make.proofs.EventReads.{IsFine, IsLinkRead, IsMobileRead, IsHostRead, fine_carry, fine_wait, fine_lose, fine_repeat, fine_advertise, fine_move, fine_data}

link0 : IsLinkRead network (networks.link 0)
unfolding network place link some_link members place_of name_at
link0 = record { reads = refl; some = refl; plain = refl }

link1 : IsLinkRead network (networks.link 1)
unfolding network place link some_link members place_of name_at
link1 = record { reads = refl; some = refl; plain = refl }

link2 : IsLinkRead network (networks.link 2)
unfolding network place link some_link members place_of name_at
link2 = record { reads = refl; some = refl; plain = refl }

link_read : (n : ℕ) → n < 3 → IsLinkRead network (networks.link n)
link_read zero few = link0
link_read (suc zero) few = link1
link_read (suc (suc zero)) few = link2
link_read (suc (suc (suc n))) few = absurd (omega arith)

mobile2 : IsMobileRead network (networks.node 2)
unfolding network place node members place_of name_at
mobile2 = record { reads = refl; plain = refl }

mobile3 : IsMobileRead network (networks.node 3)
unfolding network place node members place_of name_at
mobile3 = record { reads = refl; plain = refl }

host1 : IsHostRead network (networks.node 1)
unfolding network place node members place_of name_at
host1 = record { reads = refl; plain = refl }

host2 : IsHostRead network (networks.node 2)
unfolding network place node members place_of name_at
host2 = record { reads = refl; plain = refl }

host3 : IsHostRead network (networks.node 3)
unfolding network place node members place_of name_at
host3 = record { reads = refl; plain = refl }

fine_moves : (y : ℕ) → IsFine network (moves y)
unfolding moves
fine_moves y =
    let link = link_read (y / 2 % 3) (mod-lt (y / 2) (omega arith)) in
    cond_both (y % 2 == 0) _ _ (λ (n : NodeId). IsFine network (events.Move n (Some (networks.link (y / 2 % 3)))))
    (λ _. fine_move network (networks.node 2) _ mobile2 link)
    (λ _. fine_move network (networks.node 3) _ mobile3 link)

fine_advertises : (y : ℕ) → IsFine network (advertises y)
unfolding advertises
fine_advertises y = fine_advertise network _ (link_read (y % 3) (mod-lt y (omega arith)))

-- an address that data may go to
record IsHome (to : Address) : Type 0 where
  small : to.0 < 2 ^ 128
  routable : is_routable to.0 ≡ true

home1 : IsHome first_home
home1 = record { small = omega arith; routable = refl }

home2 : IsHome second_home
home2 = record { small = omega arith; routable = refl }

home3 : IsHome correspondent_address
home3 = record { small = omega arith; routable = refl }

fine_four : (n : NodeId) (to : Address) (y : ℕ) → IsHostRead network n → IsHome to → IsFine network (events.Payload n to 17 (number_bytes 4 y))
fine_four n to y host home = fine_data network n to (number_bytes 4 y) host home.small home.routable (omega (arith, length-number_bytes 4 y)) (IsBytes-number_bytes 4 y)

fine_calls : (y : ℕ) → IsFine network (calls y)
unfolding calls
fine_calls y = by (y % 2 == 0)
  where
    by : (b : Bool) → IsFine network (events.Payload (networks.node 1) (cond b first_home second_home) 17 (number_bytes 4 y))
    by true = fine_four (networks.node 1) first_home y host1 home1
    by false = fine_four (networks.node 1) second_home y host1 home2

fine_answers : (y : ℕ) → IsFine network (answers y)
unfolding answers
fine_answers y = by (y % 2 == 0)
  where
    by : (b : Bool) → IsFine network (events.Payload (cond b (networks.node 2) (networks.node 3)) (cond b correspondent_address first_home) 17 (number_bytes 4 y))
    by true = fine_four (networks.node 2) correspondent_address y host2 home3
    by false = fine_four (networks.node 3) first_home y host3 home1

fine_carries : (y : ℕ) → IsFine network (carries y)
unfolding carries
fine_carries y = let less = mod-lt y {m = 8} (omega arith) in fine_carry network (1 + y % 8) (omega arith) (omega arith)

fine_waits : (y : ℕ) → IsFine network (waits y)
unfolding waits
fine_waits y = let less = mod-lt y {m = 1800} (omega arith) in fine_wait network (1 + y % 1800) (omega arith) (omega arith)

packet_few : (i y : ℕ) → i < 20000 → packet_by i y < 20000
packet_few i y few = let less = mod-lt y {m = i + 1} (omega arith) in omega arith

fine_loses : (i y : ℕ) → i < 20000 → IsFine network (loses i y)
unfolding loses
fine_loses i y few = fine_lose network (packet_by i y) (packet_few i y few)

fine_repeats : (i y : ℕ) → i < 20000 → IsFine network (repeats i y)
unfolding repeats
fine_repeats i y few = fine_repeat network (packet_by i y) (packet_few i y few)

fine_goes_on : (i kind y : ℕ) → i < 20000 → IsFine network (goes_on i kind y)
unfolding goes_on
fine_goes_on i kind y few =
    let P : Event → Type 0 = IsFine network in
    cond_both (nat_lt kind 7) _ _ P (λ _. fine_carries y) (λ _.
    cond_both (kind == 7) _ _ P (λ _. fine_waits y) (λ _.
    cond_both (kind == 8) _ _ P (λ _. fine_loses i y few) (λ _. fine_repeats i y few)))

pub fine_drawn : (i : ℕ) (w : Draw) → i < 20000 → IsFine network (drawn i w)
unfolding drawn
fine_drawn i w few =
    let P : Event → Type 0 = IsFine network in
    cond_both (w.x % 10 == 0) _ _ P (λ _. fine_moves w.y) (λ _.
    cond_both (w.x % 10 == 1) _ _ P (λ _. fine_advertises w.y) (λ _.
    cond_both (w.x % 10 == 2) _ _ P (λ _. fine_calls w.y) (λ _.
    cond_both (w.x % 10 == 3) _ _ P (λ _. fine_answers w.y) (λ _. fine_goes_on i (w.x % 10) w.y few))))
