-- A stretch of a history that is quiet for two ends: it begins settled, no entry in it is about them, and no end of what held then
-- comes. RFC 6275 sections 8.5, 9.5, 10.4 and 11.3
use Rattle.std.specs.Prelude.{◌≡◌, ℕ, List, [], ◌∷◌, ◌++◌, Bool, true, false, not, ◌||◌, ◌==◌, nat_lt, Option, Some, None, option_to_list}
use Rattle.std.specs.List.{list_any, list_all}
use Rattle.std.specs.Option.{option_and_then}
use Rattle.mip_words.specs.declared.address.Address.{Address}
use Rattle.mip_entries.specs.declared.entry.Entry.{Entry}
use Rattle.mip_entries.specs.declared.entry.Entry.TheVariants as entries
use Rattle.mip_schedule.specs.declared.event.Event.{Event}
use Rattle.mip_history.specs.Setup.{Setup}
use Rattle.mip_history.specs.Runs.{Run}
use Rattle.mip_history.specs.Questions.{moment_in, holder_in, declared_in}
use Rattle.mip_history.specs.Told.{present_in}
use Rattle.mip_history.specs.Settled.{is_settled}
use Rattle.mip_law_delivery.specs.Stretches.{run_on, left_by}

-- nodes, by their numbers, and addresses
pub record Circle : Type 0 where
  pub nodes : List ℕ
  pub addresses : List Address

-- the home address of an end, and the address at which it is present
abbrev pub home_and_present : List Entry → ℕ → Option Address → List Address
home_and_present past x None = []
home_and_present past x (Some own) = own ∷ option_to_list (present_in past x own)

abbrev pub addresses_of : List Entry → ℕ → List Address
addresses_of past x = home_and_present past x (declared_in past x)

-- an end, and who holds its home address: the end itself at home, elsewhere its agent
abbrev pub nodes_of : List Entry → ℕ → List ℕ
nodes_of past x = x ∷ option_to_list (option_and_then (λ (own : Address). holder_in past own.0) (declared_in past x))

-- two ends, their agents and their addresses
abbrev pub circle_of : List Entry → (x y : ℕ) → Circle
circle_of past x y = record { nodes = nodes_of past x ++ nodes_of past y; addresses = addresses_of past x ++ addresses_of past y }

abbrev pub has_node : Circle → ℕ → Bool
has_node c n = list_any (λ m. m == n) c.nodes

abbrev pub has_address : Circle → Address → Bool
has_address c a = list_any (λ b. b.0 == a.0) c.addresses

-- an entry changes where somebody of the circle is, who holds an address of it, or what is registered or bound there
abbrev pub is_loud : Circle → Entry → Bool
is_loud c (entries.Moved node link) = has_node c node.0
is_loud c (entries.Careof node address) = has_node c node.0 || has_address c address
is_loud c (entries.Claimed who link address) = has_node c who || has_address c address
is_loud c (entries.Released who link address) = has_node c who || has_address c address
is_loud c (entries.Restarted node) = has_node c node.0
is_loud c (entries.Home node home careof sequence end) = has_node c node.0 || has_address c home || has_address c careof
is_loud c (entries.Registered node agent end) = has_node c node.0 || has_address c agent
is_loud c (entries.Unregistered node agent) = has_node c node.0 || has_address c agent
is_loud c (entries.Accepted node number home binding careof sequence end i j) = has_node c node.0 || has_address c home || has_address c careof
is_loud c (entries.Bound node peer end) = has_node c node.0 || has_address c peer
is_loud c (entries.Unbound node peer) = has_node c node.0 || has_address c peer
is_loud c _ = false

-- the END of a registration or a binding, at either side of it
abbrev pub end_told : Entry → Option ℕ
end_told (entries.Home node home careof sequence end) = Some end.0
end_told (entries.Registered node agent end) = Some end.0
end_told (entries.Accepted node number home binding careof sequence end i j) = Some end.0
end_told (entries.Bound node peer end) = Some end.0
end_told _ = None

-- an END that lies ahead at one moment lies ahead at a later one
abbrev pub lasts : (now later : ℕ) → Option ℕ → Bool
lasts now later None = true
lasts now later (Some end) = not (nat_lt now end) || nat_lt later end

-- what these events leave behind this run is quiet for x and y
pub record IsQuiet (s : Setup) (run : Run) (events : List Event) (x y : ℕ) : Type 0 where
  -- it begins settled
  pub settled : is_settled s.start run.past x y ≡ true
  -- no entry in it is about the ends, their agents or their addresses
  pub silent : list_any (is_loud (circle_of run.past x y)) (left_by s run events) ≡ false
  -- each END told before that lay ahead as it began lies ahead as it ends
  pub lasting : list_all (λ e. lasts (moment_in s.start run.past) (moment_in s.start (run_on s run events).past) (end_told e)) run.past ≡ true
