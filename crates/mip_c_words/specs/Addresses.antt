-- Addresses as C has them: 16 bytes, which are zeros where there is no address.
use Rattle.std.specs.Prelude.{ℕ, List, replicate, Bool, true, false, Option, Some, None}
use Rattle.mip_words.specs.Addresses.{address_bytes}
use Rattle.mip_words.specs.declared.address.Address.{Address}

-- the bytes of an address that may be absent
abbrev pub bytes_if_any : Option Address → List ℕ
bytes_if_any None = replicate 16 0
bytes_if_any (Some address) = address_bytes address

-- a value that counts where its flag is set
abbrev pub some_if : {A : Type 0} → Bool → A → Option A
some_if true x = Some x
some_if false x = None
