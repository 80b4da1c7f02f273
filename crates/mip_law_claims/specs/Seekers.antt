-- Who may find an address taken.
use Rattle.std.specs.Prelude.{◌≡◌, ◌≢◌, ◌⊎◌, ◌++◌, ◌∷◌, ℕ, List, true, false}
use Rattle.mip_words.specs.declared.address.Address.{Address}
use Rattle.mip_words.specs.declared.ids.LinkId.{LinkId}
use Rattle.mip_entries.specs.declared.entry.Entry.{Entry}
use Rattle.mip_entries.specs.declared.entry.Entry.TheVariants.{Taken}
use Rattle.mip_links.specs.Table.{holder_outside}
use Rattle.mip_history.specs.Setup.{Setup, is_mobile_at}
use Rattle.mip_history.specs.Registered.{is_agent_at}

-- a mobile or an outsider
abbrev pub MayFindTaken : Setup → ℕ → Type 0
MayFindTaken s who = (is_mobile_at s who ≡ true) ⊎ ((o : ℕ) × (who ≡ holder_outside o))

-- in a history, whoever finds an address taken is one of these
abbrev pub EachMayFindTaken : Setup → List Entry → Type 0
EachMayFindTaken s past = (before : List Entry) (who : ℕ) (link : LinkId) (address : Address) (holder : ℕ) (after : List Entry)
    → past ≡ before ++ Taken who link address holder ∷ after → MayFindTaken s who

-- so no home agent does, where its number is no outsider's
abbrev pub NoAgentFindsTaken : Setup → List Entry → Type 0
NoAgentFindsTaken s past = (before : List Entry) (who : ℕ) (link : LinkId) (address : Address) (holder : ℕ) (after : List Entry)
    → past ≡ before ++ Taken who link address holder ∷ after → ((o : ℕ) → who ≢ holder_outside o) → is_agent_at s who ≡ false
