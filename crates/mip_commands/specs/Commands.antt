-- The words of the command line, and what they ask for.
use Rattle.std.specs.Prelude.{ℕ, ◌≤◌, ⊤, List, [], ◌∷◌, None, Some, option_map, Result, Ok, Err, codes, if◌then◌else◌}
use Rattle.std.specs.Str.{bytes_eq}
use Rattle.std.specs.declared.option.Option.{Option}
use Rattle.mip_words.specs.Addresses.{address_read}
use Rattle.mip_words.specs.Hex.{unhex_exact}
use Rattle.mip_words.specs.declared.address.Address.{Address}
use Rattle.mip_words.specs.declared.address.NotAddress.{NotAddress}
use Rattle.mip_lines.specs.Decimals.{number_in}
use Rattle.mip_commands.specs.declared.command.Command.{Command}
use Rattle.mip_commands.specs.declared.command.Command.TheVariants.{Replay, Decode, Claims, Audit, Make, Sum, Node, Hub}
use Rattle.mip_commands.specs.declared.draft.Draft.{Draft}

-- a seed has 64 digits
abbrev pub seed_in : List ℕ → Option (List ℕ)
seed_in word = unhex_exact 32 word

-- a count is 1 to 20,000
abbrev pub count_in : List ℕ → Option ℕ
count_in word = number_in 1 20000 word

-- turns are 1 to 1,000,000
abbrev pub turns_in : List ℕ → Option ℕ
turns_in word = number_in 1 1000000 word

abbrev pub if_address : Result Address NotAddress → Option Address
if_address (Ok address) = Some address
if_address (Err fault) = None

-- an address has 32 digits
unfoldable pub address_in : List ℕ → Option Address
address_in word = if_address (address_read word)

-- a command without further words
abbrev pub alone : Command → List (List ℕ) → Option Command
alone command [] = Some command
alone command (word ∷ rest) = None

-- the claims, and an address that is asked for
abbrev pub asking : List (List ℕ) → Option Command
asking [] = Some (Claims None)
asking (word ∷ []) = option_map (λ address. Claims (Some address)) (address_in word)
asking (word ∷ next ∷ rest) = None

-- what a schedule is made of
abbrev pub draft_of : Option (List ℕ) → Option ℕ → Option Draft
draft_of (Some seed) (Some count) = Some (record { seed = seed; count = count })
draft_of (Some seed) None = None
draft_of None count = None

-- a seed and a count
abbrev pub drafted : (Draft → Command) → List (List ℕ) → Option Command
drafted command (seed ∷ count ∷ []) = option_map command (draft_of (seed_in seed) (count_in count))
drafted command _ = None

-- a number of turns
abbrev pub turned : (ℕ → Command) → List (List ℕ) → Option Command
turned command (turns ∷ []) = option_map command (turns_in turns)
turned command _ = None

-- the command of its name, with the words behind that
abbrev pub command_named : List ℕ → List (List ℕ) → Option Command
command_named name rest =
    if bytes_eq name (codes "replay") then alone Replay rest
    else (if bytes_eq name (codes "decode") then alone Decode rest
    else (if bytes_eq name (codes "claims") then asking rest
    else (if bytes_eq name (codes "audit") then alone Audit rest
    else (if bytes_eq name (codes "make") then drafted Make rest
    else (if bytes_eq name (codes "sum") then drafted Sum rest
    else (if bytes_eq name (codes "node") then turned Node rest
    else (if bytes_eq name (codes "hub") then turned Hub rest
    else None)))))))

-- the command of the words, if they are one of the forms
abbrev pub command_of : List (List ℕ) → Option Command
command_of [] = None
command_of (name ∷ rest) = command_named name rest

-- a count and turns are within their bounds
abbrev pub IsWithin : Command → Type 0
IsWithin (Make draft) = draft.count ≤ 20000
IsWithin (Sum draft) = draft.count ≤ 20000
IsWithin (Node turns) = (1 ≤ turns) × (turns ≤ 1000000)
IsWithin (Hub turns) = (1 ≤ turns) × (turns ≤ 1000000)
IsWithin _ = ⊤
