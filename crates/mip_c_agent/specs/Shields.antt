-- The protection of a packet as C has it.
use Rattle.std.specs.Prelude.{Option}
use Rattle.mip_words.specs.Addresses.{address_at}
use Rattle.mip_words.specs.declared.shield.Shield.{Shield}
use Rattle.mip_c_words.specs.Addresses.{some_if}
use Rattle.mip_c_agent.specs.declared.shield_fields.ShieldFields.{ShieldFields}

abbrev pub shield_of : ShieldFields → Option Shield
shield_of f = some_if f.is_shielded (record { from = address_at 0 f.from; to = address_at 0 f.to })
