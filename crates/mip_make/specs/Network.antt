-- The network of a generated schedule: three links, an agent, a correspondent, two mobiles and an outsider.
use Rattle.std.specs.Prelude.{ℕ, List, [], ◌∷◌, Some}
use Rattle.mip_words.specs.declared.address.Address.{Address}
use Rattle.mip_words.specs.declared.ids.NodeId.{NodeId}
use Rattle.mip_words.specs.declared.ids.LinkId.{LinkId}
use Rattle.mip_symbols.specs.declared.declaration.Declaration.{Declaration}
use Rattle.mip_symbols.specs.declared.declaration.Declaration.TheVariants as declare
use Rattle.mip_symbols.specs.declared.name.Name.{Name}

-- a name of one letter or two; the rest of its eight places is 0
abbrev pub name_of : ℕ → ℕ → ℕ → Name
name_of size first second = record { length = size; letters = first ∷ second ∷ 0 ∷ 0 ∷ 0 ∷ 0 ∷ 0 ∷ 0 ∷ [] }

-- nodes and links by their numbers, in the order of declaration
abbrev pub node : ℕ → NodeId
node n = record { 0 = n }

abbrev pub link : ℕ → LinkId
link n = record { 0 = n }

-- the agent, the correspondent, and the home addresses of both mobiles
abbrev pub agent_address : Address
agent_address = record { 0 = 0x20010db8000100000000000000000001 }

abbrev pub correspondent_address : Address
correspondent_address = record { 0 = 0x20010db8000200000000000000000002 }

abbrev pub first_home : Address
first_home = record { 0 = 0x20010db8000100000000000000000077 }

abbrev pub second_home : Address
second_home = record { 0 = 0x20010db8000100000000000000000078 }

-- the link n1, n2 or n3, by its digit
abbrev pub numbered : ℕ → ℕ → Declaration
numbered digit prefix = declare.Link (name_of 2 110 digit) (record { 0 = prefix })

-- the agent g: preference 10, life 1800 s, room for 16
abbrev pub agent : Declaration
agent = declare.Agent (name_of 1 103 0) (link 0) agent_address 10 1800 16

-- the correspondent c, with room for 2
abbrev pub correspondent : Declaration
correspondent = declare.Correspondent (name_of 1 99 0) (link 1) correspondent_address 2

-- the mobiles m and m2, both at home with g
abbrev pub first_mobile : Declaration
first_mobile = declare.Mobile (name_of 1 109 0) (link 0) first_home (Some (node 0))

abbrev pub second_mobile : Declaration
second_mobile = declare.Mobile (name_of 2 109 50) (link 0) second_home (Some (node 0))

abbrev pub serves : NodeId → Declaration
serves mobile = declare.Serve (node 0) mobile

-- the outsider o
abbrev pub outsider : Declaration
outsider = declare.Outsider (name_of 1 111 0)

-- the declarations, in their order
unfoldable pub network : List Declaration
network =
    numbered 49 0x20010db800010000
    ∷ numbered 50 0x20010db800020000
    ∷ numbered 51 0x20010db800030000
    ∷ agent
    ∷ correspondent
    ∷ first_mobile
    ∷ second_mobile
    ∷ serves (node 2)
    ∷ serves (node 3)
    ∷ outsider
    ∷ []
