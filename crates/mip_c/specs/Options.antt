-- Mobility options as C has them.
use Rattle.std.specs.Prelude.{ℕ, replicate, false, Option, Some, None, is_some, unwrap_or}
use Rattle.mip_words.specs.Addresses.{address_at}
use Rattle.mip_mobhdr.specs.declared.indices.Indices.{Indices}
use Rattle.mip_mobhdr.specs.OptionValues.{Values}
use Rattle.mip_c.specs.declared.option_fields.OptionFields.{OptionFields}
use Rattle.mip_c_words.specs.Addresses.{bytes_if_any, some_if}

abbrev pub home_index : Option Indices → ℕ
home_index (Some i) = i.home
home_index None = 0

abbrev pub careof_index : Option Indices → ℕ
careof_index (Some i) = i.careof
careof_index None = 0

-- the fields of options
abbrev pub fields_of : Values → OptionFields
fields_of v = record {
  has_advice = is_some v.advice;
  advice = unwrap_or v.advice 0;
  has_alternate = is_some v.alternate;
  alternate = bytes_if_any v.alternate;
  has_nonces = is_some v.nonces;
  home_index = home_index v.nonces;
  careof_index = careof_index v.nonces;
  has_number = is_some v.number;
  number = unwrap_or v.number 0;
  has_authorization = is_some v.authorization;
  authorization = unwrap_or v.authorization (replicate 12 0);
}

-- no option
abbrev pub no_fields : OptionFields
no_fields = record {
  has_advice = false;
  advice = 0;
  has_alternate = false;
  alternate = replicate 16 0;
  has_nonces = false;
  home_index = 0;
  careof_index = 0;
  has_number = false;
  number = 0;
  has_authorization = false;
  authorization = replicate 12 0;
}

-- the options that such fields say
abbrev pub values_of : OptionFields → Values
values_of fields = record {
  advice = some_if fields.has_advice fields.advice;
  alternate = some_if fields.has_alternate (address_at 0 fields.alternate);
  nonces = some_if fields.has_nonces (record { home = fields.home_index; careof = fields.careof_index });
  number = some_if fields.has_number fields.number;
  authorization = some_if fields.has_authorization fields.authorization;
}
