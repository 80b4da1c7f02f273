-- How options are spelled: every spelling that a receiver accepts.
use Rattle.std.specs.Prelude.{◌≡◌, ◌≢◌, ℕ, ◌<◌, ◌^◌, List, [], ◌∷◌, ◌++◌, length, Some, None, false}
use Rattle.std.specs.List.{flat_map}
use Rattle.mip_words.specs.Numbers.{number_bytes}
use Rattle.mip_words.specs.Addresses.{address_bytes}
use Rattle.mip_words.specs.declared.address.Address.{Address}
use Rattle.mip_mobhdr.specs.declared.indices.Indices.{Indices}
use Rattle.mip_mobhdr.specs.OptionValues.{Values, nothing}
use Rattle.mip_mobhdr.specs.OptionReading.{is_first_number}

pub data Item : Type 0 where
  -- Pad1, the only one with no length byte. RFC 6275 section 6.2.2
  Pad : Item
  Advice : (units : ℕ) → Item
  Alternate : (address : Address) → Item
  Nonces : (indices : Indices) → Item
  Number : (number : ℕ) → Item
  Authorization : (bytes : List ℕ) → Item
  -- PadN, and any unknown type, with any contents. Sections 6.2.1 and 6.2.3
  Skipped : (type : ℕ) (contents : List ℕ) → Item

abbrev pub item_bytes : Item → List ℕ
item_bytes Pad = 0 ∷ []
item_bytes (Advice units) = 2 ∷ 2 ∷ number_bytes 2 units
item_bytes (Alternate address) = 3 ∷ 16 ∷ address_bytes address
item_bytes (Nonces indices) = 4 ∷ 4 ∷ (number_bytes 2 indices.home ++ number_bytes 2 indices.careof)
item_bytes (Number number) = 200 ∷ 2 ∷ number_bytes 2 number
item_bytes (Authorization bytes) = 5 ∷ 12 ∷ bytes
item_bytes (Skipped type contents) = type ∷ length contents ∷ contents

-- a type that is passed over: neither Pad1 nor one of the standard's with a value
pub record IsSkipped (type : ℕ) (contents : List ℕ) : Type 0 where
  pub type_fits : type < 256
  pub size_fits : length contents < 256
  pub not_pad : type ≢ 0
  pub not_advice : type ≢ 2
  pub not_alternate : type ≢ 3
  pub not_nonces : type ≢ 4
  pub not_authorization : type ≢ 5

-- of type 200 only what is no binding number, or no first one
abbrev pub IsPassed : Values → ℕ → List ℕ → Type 0
IsPassed v type contents = type ≡ 200 → is_first_number v (length contents ∷ contents) ≡ false

-- an item may stand between these values and these items, and leaves these values:
-- each kind with a value at most once, and nothing behind an authorization
abbrev pub IsNext : Values → Item → List Item → Values → Type 0
IsNext v Pad more w = v ≡ w
IsNext v (Advice units) more w = (units < 2 ^ 16) × (v.advice ≡ None) × (record v { advice = Some units } ≡ w)
IsNext v (Alternate address) more w =
    (address.0 < 2 ^ 128) × (v.alternate ≡ None) × (record v { alternate = Some address } ≡ w)
IsNext v (Nonces i) more w =
    (i.home < 2 ^ 16) × (i.careof < 2 ^ 16) × (v.nonces ≡ None) × (record v { nonces = Some i } ≡ w)
IsNext v (Number n) more w = (n < 8) × (v.number ≡ None) × (record v { number = Some n } ≡ w)
IsNext v (Authorization bytes) more w =
    (length bytes ≡ 12) × (more ≡ []) × (v.authorization ≡ None) × (record v { authorization = Some bytes } ≡ w)
IsNext v (Skipped type contents) more w = IsSkipped type contents × IsPassed v type contents × (v ≡ w)

-- these items one after another lead from the first values to the second
abbrev pub IsRun : Values → List Item → Values → Type 0
IsRun v [] w = v ≡ w
IsRun v (item ∷ items) w = (middle : Values) × IsNext v item items middle × IsRun middle items w

-- these bytes spell these values
abbrev pub IsSpelled : Values → List ℕ → Type 0
IsSpelled w bytes = (items : List Item) × IsRun nothing items w × (bytes ≡ flat_map item_bytes items)
