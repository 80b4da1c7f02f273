-- What gives names to nodes, links and outsiders: the declarations of a schedule. Where there are none, as in a trace
-- that a single node writes, each node is `self` and each link `-`.
use Rattle.std.specs.Prelude.{ℕ, ◌-◌, List, [], nat_lt, if◌then◌else◌, Option, Some, None, codes}
use Rattle.std.specs.Borrow.{Bor}
use Rattle.mip_words.specs.Holders.{first_outsider}
use Rattle.mip_words.specs.declared.ids.LinkId.{LinkId}
use Rattle.mip_words.specs.declared.ids.NodeId.{NodeId}
use Rattle.mip_symbols.specs.Spelled.{link_text, node_text, outsider_text}
use Rattle.mip_symbols.specs.declared.declaration.Declaration.{Declaration}
use Rattle.mip_schedule.specs.declared.schedule.Schedule.{Schedule}

abbrev pub Names : Type 0
Names = Option (List Declaration)

-- those of what is declared, where that is known
abbrev pub names_in : Option (Bor (List Declaration)) → Names
names_in (Some declared) = Some declared.now
names_in None = None

-- those of a schedule, where there is one
abbrev pub names_of : Option (Bor Schedule) → Names
names_of (Some schedule) = Some schedule.now.declarations
names_of None = None

unfoldable pub node_name : Names → NodeId → List ℕ
node_name (Some ds) node = node_text ds node
node_name None node = codes "self"

unfoldable pub link_name : Names → LinkId → List ℕ
link_name (Some ds) link = link_text ds link
link_name None link = codes "-"

-- without declarations there are no outsiders
unfoldable pub outsider_name : Names → ℕ → List ℕ
outsider_name (Some ds) outsider = outsider_text ds outsider
outsider_name None outsider = []

-- the holder with this number
unfoldable pub who_name : Names → ℕ → List ℕ
who_name names who = if nat_lt who first_outsider then node_name names (record { 0 = who }) else outsider_name names (who - first_outsider)
