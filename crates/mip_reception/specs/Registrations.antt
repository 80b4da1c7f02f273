-- What a Binding Update asks of its receiver. RFC 6275 sections 6.1.7 and 9.5.1
use Rattle.std.specs.Prelude.{ℕ, List, Bool, ◌||◌, ◌==◌, ◌≤◌, length, if◌then◌else◌, Option, Some, None, is_some, unwrap_or, Result, Ok, IsOk}
use Rattle.mip_words.specs.declared.address.Address.{Address}
use Rattle.mip_mobhdr.specs.declared.fault.Fault.{Fault}
use Rattle.mip_mobhdr.specs.Said.{Said}
use Rattle.mip_mobhdr.specs.Said.Said.{Update}
use Rattle.mip_mobhdr.specs.Reading.{update_of}
use Rattle.mip_mobhdr.specs.OptionValues.{Values}
use Rattle.mip_reception.specs.declared.registration.Registration.{Registration}

-- the parts of an update from a source, with the home address of an option if there is one
abbrev pub registration : (source : Address) (home_option : Option Address) (sequence : ℕ) (ack for_agent : Bool) (lifetime : ℕ) (options : Values) → Registration
registration source home_option sequence ack for_agent lifetime options = record {
  source = source;
  home_option = home_option;
  sequence = sequence;
  ack = ack;
  for_agent = for_agent;
  lifetime = lifetime;
  alternate = options.alternate;
  nonces = options.nonces;
  number = options.number;
  authorized = is_some options.authorization;
}

abbrev pub registration_said : Address → Option Address → Result Said Fault → Option Registration
registration_said source home_option (Ok (Update s a h l k t o)) = Some (registration source home_option s a h t o)
registration_said source home_option _ = None

-- what the bytes of an update ask, whatever their checksum
abbrev pub registration_in : Address → Option Address → List ℕ → Option Registration
registration_in source home_option message = registration_said source home_option (update_of message)

-- an update that can be read, whatever stands before its fields, the checksum too
pub record IsUpdate (message : List ℕ) : Type 0 where
  pub long : 16 ≤ length message
  pub reads : IsOk (update_of message)

-- the home address: the Home Address option, else the source
abbrev pub home_of : Registration → Address
home_of r = unwrap_or r.home_option r.source

-- the care-of address: the alternate one, else the source
abbrev pub careof_of : Registration → Address
careof_of r = unwrap_or r.alternate r.source

-- it ends a binding: it asks for no time, or for the home address. RFC 6275 section 6.1.7
abbrev pub deletes : Registration → Bool
deletes r = (r.lifetime == 0) || ((careof_of r).0 == (home_of r).0)

-- the address that it registers: where it ends a binding, the home address
abbrev pub registered_of : Registration → Address
registered_of r = if deletes r then home_of r else careof_of r
