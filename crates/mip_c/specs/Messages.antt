-- A mobility message as C has it.
use Rattle.std.specs.Prelude.{◌≡◌, ℕ, replicate, Bool, false, not, ◌&&◌, ◌||◌, ◌==◌, nat_lt, if◌then◌else◌, Result, Ok, Err}
use Rattle.mip_words.specs.Addresses.{address_at, address_bytes}
use Rattle.mip_mobhdr.specs.OptionValues.{Values}
use Rattle.mip_mobhdr.specs.Said.{Said}
use Rattle.mip_mobhdr.specs.Said.Said.{Refresh, HomeInit, CareofInit, HomeTest, CareofTest, Update, Acknowledgement, Error}
use Rattle.mip_mobhdr.specs.declared.fault.Fault.{Fault}
use Rattle.mip_mobhdr.specs.declared.fault.Fault.TheVariants as faults
use Rattle.mip_c.specs.declared.option_fields.OptionFields.{OptionFields}
use Rattle.mip_c.specs.declared.message_fields.MessageFields.{MessageFields}
use Rattle.mip_c.specs.Options.{no_fields, values_of}
use Rattle.mip_c.specs.Options.{fields_of as option_fields_of}

-- a message of this kind with these options and zeros
abbrev pub blank : ℕ → OptionFields → MessageFields
blank kind options = record {
  kind = kind;
  cookie = 0;
  index = 0;
  token = replicate 8 0;
  sequence = 0;
  ack = false;
  registration = false;
  local = false;
  key = false;
  lifetime = 0;
  status = 0;
  home = replicate 16 0;
  options = options;
  place = 0;
}

-- the fields of a message. The kind is its MH Type
abbrev pub fields_of : Said → MessageFields
fields_of (Refresh o) = blank 0 (option_fields_of o)
fields_of (HomeInit c o) = record (blank 1 (option_fields_of o)) { cookie = c }
fields_of (CareofInit c o) = record (blank 2 (option_fields_of o)) { cookie = c }
fields_of (HomeTest i c t o) = record (blank 3 (option_fields_of o)) { index = i; cookie = c; token = t }
fields_of (CareofTest i c t o) = record (blank 4 (option_fields_of o)) { index = i; cookie = c; token = t }
fields_of (Update s a h l k t o) =
    record (blank 5 (option_fields_of o)) { sequence = s; ack = a; registration = h; local = l; key = k; lifetime = t }
fields_of (Acknowledgement s k q t o) =
    record (blank 6 (option_fields_of o)) { status = s; key = k; sequence = q; lifetime = t }
fields_of (Error s h o) = record (blank 7 (option_fields_of o)) { status = s; home = address_bytes h }

-- the status of a fault
abbrev pub fault_status : Fault → ℕ
fault_status faults.Size = 32
fault_status faults.Checksum = 33
fault_status (faults.Unknown kind) = 34
fault_status faults.Proto = 35
fault_status faults.HeaderLen = 36
fault_status (faults.Option place) = 37

-- the MH Type that is unknown, and where in the message the field stands that is wrong
abbrev pub fault_fields : Fault → MessageFields
fault_fields faults.Size = blank 0 no_fields
fault_fields faults.Checksum = record (blank 0 no_fields) { place = 4 }
fault_fields (faults.Unknown kind) = record (blank kind no_fields) { place = 2 }
fault_fields faults.Proto = blank 0 no_fields
fault_fields faults.HeaderLen = record (blank 0 no_fields) { place = 1 }
fault_fields (faults.Option place) = record (blank 0 no_fields) { place = place }

-- a call tells what a reading gives: the message, or why there is none
abbrev pub TellsMessage : Result Said Fault → ℕ → MessageFields → Type 0
TellsMessage (Ok m) status fields = (status ≡ 0) × (fields ≡ fields_of m)
TellsMessage (Err fault) status fields = (status ≡ fault_status fault) × (fields ≡ fault_fields fault)

-- fields that say a message: a kind that there is, and a binding number below 8 where there is one
abbrev pub is_message : MessageFields → Bool
is_message fields = nat_lt fields.kind 8 && (not fields.options.has_number || nat_lt fields.options.number 8)

-- the message that such fields say
abbrev pub said_by : MessageFields → Values → Said
said_by f o =
    if f.kind == 0 then Refresh o
    else if f.kind == 1 then HomeInit f.cookie o
    else if f.kind == 2 then CareofInit f.cookie o
    else if f.kind == 3 then HomeTest f.index f.cookie f.token o
    else if f.kind == 4 then CareofTest f.index f.cookie f.token o
    else if f.kind == 5 then Update f.sequence f.ack f.registration f.local f.key f.lifetime o
    else if f.kind == 6 then Acknowledgement f.status f.key f.sequence f.lifetime o
    else Error f.status (address_at 0 f.home) o

abbrev pub said_of : MessageFields → Said
said_of f = said_by f (values_of f.options)
