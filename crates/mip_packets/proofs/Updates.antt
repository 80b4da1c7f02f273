-- An update that was read is what the fields of its body say.
use Rattle.std.proofs.Common.{ℕ, List, refl, arith}
use Rattle.std.specs.Prelude.{Some}
use Rattle.mip_words.specs.declared.address.Address.{Address}
use Rattle.mip_mobhdr.proofs.OptionsAgain.{options_read}
use Rattle.mip_mobhdr.specs.Said.{Said}
use Rattle.mip_mobhdr.specs.Said.Said.{Refresh, HomeInit, CareofInit, HomeTest, CareofTest, Update, Acknowledgement, Error}
use Rattle.mip_mobhdr.specs.Reading.{update_of}
use Rattle.mip_mobhdr.specs.Spelling.{IsMessage}
use Rattle.mip_packets.specs.Updates.{IsReadUpdate}

pub read_update : (source destination : Address) (m : Said) (body : List ℕ) → IsMessage source destination m body → IsReadUpdate (Some m) body
unfolding update_of
read_update source destination (Update s a h l k t o) body is =
    (omega (arith, is.size, is.least_len), rw (options_read 12 body o is.fields.6, is.fields.0, is.fields.1, is.fields.2, is.fields.3, is.fields.4, is.fields.5) refl)
read_update source destination (Refresh o) body is = tt
read_update source destination (HomeInit c o) body is = tt
read_update source destination (CareofInit c o) body is = tt
read_update source destination (HomeTest i c t o) body is = tt
read_update source destination (CareofTest i c t o) body is = tt
read_update source destination (Acknowledgement s k q t o) body is = tt
read_update source destination (Error s h o) body is = tt
