-- A registered home as C has it.
use Rattle.mip_words.specs.Addresses.{address_bytes}
use Rattle.mip_rules_agent.specs.declared.home_row.HomeRow.{HomeRow}
use Rattle.mip_c_agent.specs.declared.registration_fields.RegistrationFields.{RegistrationFields}

abbrev pub fields_of : HomeRow → RegistrationFields
fields_of r = record {
  home = address_bytes r.home;
  careof = address_bytes r.careof;
  sequence = r.sequence;
  end = r.end.0;
}
