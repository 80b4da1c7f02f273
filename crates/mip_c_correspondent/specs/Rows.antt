-- A row of a binding cache as C has it.
use Rattle.mip_words.specs.Addresses.{address_bytes}
use Rattle.mip_bcache.specs.declared.row.Row.{Row}
use Rattle.mip_c_correspondent.specs.declared.row_fields.RowFields.{RowFields}

abbrev pub fields_of : Row → RowFields
fields_of r = record {
  home = address_bytes r.home;
  binding = r.number;
  careof = address_bytes r.careof;
  sequence = r.sequence;
  end = r.end.0;
  kept_until = r.kept_until.0;
}
