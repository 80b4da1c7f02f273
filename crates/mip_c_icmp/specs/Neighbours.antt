-- A neighbour message as C has it.
use Rattle.std.specs.Prelude.{◌≡◌, ℕ, List, replicate, Bool, true, false, not, ◌&&◌, ◌||◌, ◌==◌, nat_lt, if◌then◌else◌, Option, is_some, unwrap_or, Result, Ok, Err}
use Rattle.mip_words.specs.Addresses.{address_at, address_bytes}
use Rattle.mip_words.specs.declared.address.Address.{Address}
use Rattle.mip_proxynd.specs.declared.neighbour.Neighbour.{Neighbour}
use Rattle.mip_proxynd.specs.declared.neighbour.Neighbour.TheVariants.{Solicit, Advert}
use Rattle.mip_proxynd.specs.declared.fault.NeighbourFault.{NeighbourFault}
use Rattle.mip_proxynd.specs.declared.fault.NeighbourFault.TheVariants as faults
use Rattle.mip_proxynd.specs.Fields.{is_group}
use Rattle.mip_c_icmp.specs.declared.neighbour_fields.NeighbourFields.{NeighbourFields}
use Rattle.mip_c_words.specs.Addresses.{some_if}

-- a message of this kind with a target and a link-layer address, and no flag
abbrev pub plain_fields : ℕ → Address → Option (List ℕ) → NeighbourFields
plain_fields kind target layer = record {
  kind = kind;
  code = 0;
  router = false;
  solicited = false;
  overrides = false;
  target = address_bytes target;
  has_layer = is_some layer;
  layer = unwrap_or layer (replicate 6 0);
  place = 0;
}

-- the fields of a message. The kind is its type
abbrev pub fields_of : Neighbour → NeighbourFields
fields_of (Solicit target layer) = plain_fields 135 target layer
fields_of (Advert router solicited over target layer) =
    record (plain_fields 136 target layer) { router = router; solicited = solicited; overrides = over }

-- nothing but what is refused
abbrev pub refused_fields : ℕ → ℕ → ℕ → NeighbourFields
refused_fields kind code place = record {
  kind = kind;
  code = code;
  router = false;
  solicited = false;
  overrides = false;
  target = replicate 16 0;
  has_layer = false;
  layer = replicate 6 0;
  place = place;
}

-- the status of a fault
abbrev pub fault_status : NeighbourFault → ℕ
fault_status faults.Hop = 48
fault_status faults.Short = 49
fault_status faults.Checksum = 50
fault_status (faults.Unknown kind code) = 51
fault_status faults.Target = 52
fault_status (faults.Option place) = 53

abbrev pub fault_fields : NeighbourFault → NeighbourFields
fault_fields faults.Hop = refused_fields 0 0 0
fault_fields faults.Short = refused_fields 0 0 0
fault_fields faults.Checksum = refused_fields 0 0 0
fault_fields (faults.Unknown kind code) = refused_fields kind code 0
fault_fields faults.Target = refused_fields 0 0 0
fault_fields (faults.Option place) = refused_fields 0 0 place

abbrev pub TellsRead : Result Neighbour NeighbourFault → ℕ → NeighbourFields → Type 0
TellsRead (Ok m) status fields = (status ≡ 0) × (fields ≡ fields_of m)
TellsRead (Err fault) status fields = (status ≡ fault_status fault) × (fields ≡ fault_fields fault)

abbrev pub TellsIf : Bool → Result Neighbour NeighbourFault → ℕ → NeighbourFields → NeighbourFields → Type 0
TellsIf true read status old new = (status ≡ 14) × (new ≡ old)
TellsIf false read status old new = TellsRead read status new

-- a call tells what a reading of so many bytes gives, 14 where a packet can't have so many
abbrev pub TellsNeighbour : ℕ → Result Neighbour NeighbourFault → ℕ → NeighbourFields → NeighbourFields → Type 0
TellsNeighbour size = TellsIf (nat_lt 65535 size)

-- fields that say a message: one of the two kinds, and a target that is no group
abbrev pub is_neighbour : NeighbourFields → Bool
is_neighbour f = (f.kind == 135 || f.kind == 136) && not (is_group (address_at 0 f.target))

-- the message that such fields say
abbrev pub neighbour_of : NeighbourFields → Neighbour
neighbour_of f =
    if f.kind == 135 then Solicit (address_at 0 f.target) (some_if f.has_layer f.layer)
    else Advert f.router f.solicited f.overrides (address_at 0 f.target) (some_if f.has_layer f.layer)
