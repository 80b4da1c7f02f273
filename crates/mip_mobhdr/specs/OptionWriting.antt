-- The canonical spelling: advice, nonces, binding number, alternate address, authorization, each at the alignment of
-- RFC 6275 sections 6.2.4 to 6.2.7, a number at an even place, and the end at a multiple of 8. Gaps are padded with zeros.
use Rattle.std.specs.Prelude.{◌≡◌, ℕ, zero, suc, ◌+◌, ◌-◌, ◌%◌, List, [], ◌∷◌, ◌++◌, length, replicate, Option, Some, None}
use Rattle.mip_words.specs.declared.address.Address.{Address}
use Rattle.mip_mobhdr.specs.declared.indices.Indices.{Indices}
use Rattle.mip_mobhdr.specs.OptionValues.{Values}
use Rattle.mip_mobhdr.specs.OptionSpelling.{Item, item_bytes, IsSpelled}
use Rattle.mip_mobhdr.specs.OptionSpelling.Item.{Advice, Alternate, Nonces, Number, Authorization}

-- how many bytes from a place to the next one that is r more than a multiple of n
unfoldable pub gap : ℕ → ℕ → ℕ → ℕ
gap n r place = (n + r - place % n) % n

-- a gap of one byte is Pad1, a longer one PadN
unfoldable pub padding : ℕ → List ℕ
padding zero = []
padding (suc zero) = 0 ∷ []
padding (suc (suc k)) = 1 ∷ k ∷ replicate k 0

-- the area that begins at a place of the message, with an item more, r after a multiple of n
unfoldable pub aligned : ℕ → ℕ → ℕ → Item → List ℕ → List ℕ
aligned start n r item area = area ++ padding (gap n r (start + length area)) ++ item_bytes item

unfoldable pub with_advice : ℕ → Option ℕ → List ℕ → List ℕ
with_advice start None area = area
with_advice start (Some units) area = aligned start 2 0 (Advice units) area

unfoldable pub with_nonces : ℕ → Option Indices → List ℕ → List ℕ
with_nonces start None area = area
with_nonces start (Some indices) area = aligned start 2 0 (Nonces indices) area

unfoldable pub with_number : ℕ → Option ℕ → List ℕ → List ℕ
with_number start None area = area
with_number start (Some number) area = aligned start 2 0 (Number number) area

unfoldable pub with_alternate : ℕ → Option Address → List ℕ → List ℕ
with_alternate start None area = area
with_alternate start (Some address) area = aligned start 8 6 (Alternate address) area

unfoldable pub with_authorization : ℕ → Option (List ℕ) → List ℕ → List ℕ
with_authorization start None area = area
with_authorization start (Some bytes) area = aligned start 8 2 (Authorization bytes) area

unfoldable pub closed : ℕ → List ℕ → List ℕ
closed start area = area ++ padding (gap 8 0 (start + length area))

unfoldable pub canonical : ℕ → Values → List ℕ
canonical start v =
    closed start (with_authorization start v.authorization (with_alternate start v.alternate
    (with_number start v.number (with_nonces start v.nonces (with_advice start v.advice [])))))

-- the new bytes are the old ones and, behind them, these options spelled
abbrev pub AppendsOptions : Values → List ℕ → List ℕ → Type 0
AppendsOptions v old new = (bytes : List ℕ) × (new ≡ old ++ bytes) × IsSpelled v bytes
