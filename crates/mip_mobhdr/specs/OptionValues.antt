-- What mobility options say, whatever order and padding they came in. RFC 6275 section 6.2, and a binding number of our own
use Rattle.std.specs.Prelude.{ℕ, List, Option, None}
use Rattle.mip_words.specs.declared.address.Address.{Address}
use Rattle.mip_mobhdr.specs.declared.indices.Indices.{Indices}
use Rattle.mip_mobhdr.specs.declared.option_set.OptionSet.{OptionSet}
use Rattle.mip_mobhdr.specs.declared.options.Options.{Options}

pub record Values : Type 0 where
  -- Binding Refresh Advice, in units of 4 s
  pub advice : Option ℕ
  -- Alternate Care-of Address
  pub alternate : Option Address
  -- Nonce Indices
  pub nonces : Option Indices
  -- binding number, below 8
  pub number : Option ℕ
  -- the 12 bytes of Binding Authorization Data
  pub authorization : Option (List ℕ)

-- no option
abbrev pub nothing : Values
nothing = record { advice = None; alternate = None; nonces = None; number = None; authorization = None }

-- what was read
abbrev pub values : Options → Values
values o = record { advice = o.advice; alternate = o.alternate; nonces = o.nonces; number = o.number; authorization = o.authorization }

-- what is to be written
abbrev pub set_values : OptionSet → Values
set_values o = record { advice = o.advice; alternate = o.alternate; nonces = o.nonces; number = o.number; authorization = o.authorization }
