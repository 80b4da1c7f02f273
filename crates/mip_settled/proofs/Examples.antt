-- Small histories of a correspondent 0, a mobile 1 and its agent 2.
use Rattle.std.proofs.Common.{◌≡◌, ℕ, List, [], ◌∷◌, ◌++◌, Bool, true, false, refl}
use Rattle.std.specs.Prelude.{Some, None}
use Rattle.mip_words.specs.declared.address.Address.{Address}
use Rattle.mip_words.specs.declared.moment.Moment.{Moment}
use Rattle.mip_entries.specs.declared.entry.Entry.{Entry}
use Rattle.mip_entries.specs.declared.entry.Entry.TheVariants.{At, Moved, Claimed, Released, Careof, Home, Registered, Bound, Accepted, Restarted}
use Rattle.mip_entries.specs.Completed.{node_id, link_id}
use Rattle.mip_binding.specs.Held.{held}
use Rattle.mip_history.specs.Bound.{accepted_by}
use Rattle.mip_history.specs.Settled.{any_below, any_node, is_settled}

abbrev address : ℕ → Address
address a = record { 0 = a }

abbrev moment : ℕ → Moment
moment at = record { 0 = at }

abbrev claimed : ℕ → ℕ → Entry
claimed who a = Claimed who (link_id 0) (address a)

-- the correspondent, the mobile and the agent hold 10, 20 and 30
abbrev began : List Entry
began = claimed 0 10 ∷ claimed 1 20 ∷ claimed 2 30 ∷ []

-- the mobile leaves and uses 40
abbrev roams : List Entry
roams = began ++ Released 1 (link_id 0) (address 20) ∷ Moved (node_id 1) (Some (link_id 1)) ∷ claimed 1 40 ∷ Careof (node_id 1) (address 40) ∷ []

-- its agent registers it, and it knows of it; until 1000
abbrev registered : List Entry
registered = roams ++ claimed 2 20 ∷ Home (node_id 2) (address 20) (address 40) 1 (moment 1000) ∷ Registered (node_id 1) (address 30) (moment 1000) ∷ []

-- the correspondent accepts an update
abbrev accepts : ℕ → Entry
accepts careof = Accepted (node_id 0) 7 (address 20) 0 (address careof) 1 (moment 900) 0 None

module _ (past : List Entry) where
  abbrev Is : Bool → Type 0
  Is answer = is_settled 0 past 1 0 ≡ answer

at_home : Is began true
unfolding is_settled any_node any_below held accepted_by
at_home = refl

unregistered : Is roams false
unfolding is_settled any_node any_below held accepted_by
unregistered = refl

away : Is registered true
unfolding is_settled any_node any_below held accepted_by
away = refl

other_way : is_settled 0 registered 0 1 ≡ true
unfolding is_settled any_node any_below held accepted_by
other_way = refl

itself : is_settled 0 registered 1 1 ≡ false
unfolding is_settled any_node any_below held accepted_by
itself = refl

just_before : Is (registered ++ At (moment 999) ∷ []) true
unfolding is_settled any_node any_below held accepted_by
just_before = refl

at_its_end : Is (registered ++ At (moment 1000) ∷ []) false
unfolding is_settled any_node any_below held accepted_by
at_its_end = refl

held_there : Is (registered ++ accepts 40 ∷ Bound (node_id 1) (address 10) (moment 900) ∷ []) true
unfolding is_settled any_node any_below held accepted_by
held_there = refl

held_elsewhere : Is (registered ++ accepts 50 ∷ []) false
unfolding is_settled any_node any_below held accepted_by
held_elsewhere = refl

bound_to_nothing : Is (registered ++ Bound (node_id 1) (address 10) (moment 900) ∷ []) false
unfolding is_settled any_node any_below held accepted_by
bound_to_nothing = refl

peer_restarted : Is (registered ++ accepts 40 ∷ Bound (node_id 1) (address 10) (moment 900) ∷ Restarted (node_id 0) ∷ []) false
unfolding is_settled any_node any_below held accepted_by
peer_restarted = refl

moved_on : Is (registered ++ Moved (node_id 1) None ∷ []) false
unfolding is_settled any_node any_below held accepted_by
moved_on = refl

outsider_has_home : Is (began ++ Released 1 (link_id 0) (address 20) ∷ claimed 32 20 ∷ []) false
unfolding is_settled any_node any_below held accepted_by
outsider_has_home = refl

still_registered : Is (began ++ Home (node_id 2) (address 20) (address 40) 1 (moment 1000) ∷ []) false
unfolding is_settled any_node any_below held accepted_by
still_registered = refl
