-- An update that was read. RFC 6275 section 6.1.7
use Rattle.std.specs.Prelude.{◌≡◌, ℕ, ◌≤◌, List, length, Option, Some, Ok, ⊤}
use Rattle.mip_mobhdr.specs.Said.{Said}
use Rattle.mip_mobhdr.specs.Said.Said.{Update}
use Rattle.mip_mobhdr.specs.Reading.{update_of}

-- what was read, where it is an update, is what the fields of this body say
abbrev pub IsReadUpdate : Option Said → List ℕ → Type 0
IsReadUpdate (Some (Update s a h l k t o)) body = (16 ≤ length body) × (update_of body ≡ Ok (Update s a h l k t o))
IsReadUpdate _ body = ⊤
