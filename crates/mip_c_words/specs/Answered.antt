-- An answer of a node as C has it.
use Rattle.std.specs.Prelude.{ℕ, List, [], replicate, true, false, Option, Some, None, is_some, unwrap_or}
use Rattle.mip_words.specs.Addresses.{address_bytes}
use Rattle.mip_words.specs.declared.shield.Shield.{Shield}
use Rattle.mip_entries.specs.declared.answer.Answer.{Answer}
use Rattle.mip_entries.specs.declared.answer.Answer.TheVariants.{Send, Note}
use Rattle.mip_entries.specs.declared.entry.Entry.{Entry}
use Rattle.mip_entries.specs.declared.entry.Entry.TheVariants.{Accepted, Denied, Dropped, Up, Idle, Home, Claimed, Released}
use Rattle.mip_c_words.specs.declared.answer_fields.AnswerFields.{AnswerFields}
use Rattle.mip_c_words.specs.Whys.{why_number}

-- an answer of this kind and zeros
abbrev pub blank : ℕ → AnswerFields
blank kind = record {
  kind = kind;
  number = 0;
  home = replicate 16 0;
  binding = 0;
  careof = replicate 16 0;
  sequence = 0;
  end = 0;
  home_index = 0;
  has_careof_index = false;
  careof_index = 0;
  status = 0;
  why = 0;
  is_shielded = false;
  source = replicate 16 0;
  destination = replicate 16 0;
  proto = 0;
}

-- the fields of an entry that a correspondent or a home agent leaves
abbrev pub entry_fields : Entry → AnswerFields
entry_fields (Accepted node number home binding careof sequence end home_index careof_index) = record (blank 2) {
  number = number;
  home = address_bytes home;
  binding = binding;
  careof = address_bytes careof;
  sequence = sequence;
  end = end.0;
  home_index = home_index;
  has_careof_index = is_some careof_index;
  careof_index = unwrap_or careof_index 0;
}
entry_fields (Denied node number status) = record (blank 3) { number = number; status = status }
entry_fields (Dropped node number why) = record (blank 4) { number = number; why = why_number why }
entry_fields (Up node number source destination proto payload) =
    record (blank 5) { number = number; source = address_bytes source; destination = address_bytes destination; proto = proto }
entry_fields Idle = blank 6
entry_fields (Home node home careof sequence end) =
    record (blank 7) { home = address_bytes home; careof = address_bytes careof; sequence = sequence; end = end.0 }
entry_fields (Claimed who link address) = record (blank 8) { home = address_bytes address }
entry_fields (Released who link address) = record (blank 9) { home = address_bytes address }
entry_fields _ = blank 0

-- the fields of a packet that is sent: whether it is protected, and between whom
abbrev pub sent_fields : Option Shield → AnswerFields
sent_fields None = blank 1
sent_fields (Some s) =
    record (blank 1) { is_shielded = true; source = address_bytes s.from; destination = address_bytes s.to }

abbrev pub fields_of : Answer → AnswerFields
fields_of (Send shield packet) = sent_fields shield
fields_of (Note entry) = entry_fields entry

-- the bytes of an answer: a packet that is sent, or a payload that is handed up
abbrev pub entry_bytes : Entry → List ℕ
entry_bytes (Up node number source destination proto payload) = payload
entry_bytes _ = []

abbrev pub bytes_of : Answer → List ℕ
bytes_of (Send shield packet) = packet
bytes_of (Note entry) = entry_bytes entry
