-- Addresses are claimed and given up, by nodes and by outsiders.
use Rattle.std.specs.Prelude.{ℕ, ◌==◌, if◌then◌else◌, Option, Some, None}
use Rattle.mip_words.specs.declared.address.Address.{Address}
use Rattle.mip_words.specs.declared.ids.LinkId.{LinkId}
use Rattle.mip_entries.specs.declared.entry.Entry.{Entry}
use Rattle.mip_entries.specs.declared.entry.Entry.TheVariants.{Claimed, Taken, Idle}
use Rattle.mip_links.specs.Table.{link_of}
use Rattle.mip_history.specs.Setup.{Setup}
use Rattle.mip_history.specs.Runs.{Run, note}
use Rattle.mip_history.specs.Questions.{holder_in}

abbrev pub link_id : ℕ → LinkId
link_id link = record { 0 = link }

-- the claim of a holder that asks for an address, by who holds it
abbrev pub claim_entry : ℕ → Address → ℕ → Option ℕ → Entry
claim_entry who address link None = Claimed who (link_id link) address
claim_entry who address link (Some other) =
    if other == who then Claimed who (link_id link) address else Taken who (link_id link) address other

abbrev pub claimed_on : ℕ → Address → Run → Option ℕ → Run
claimed_on who address run None = note Idle run
claimed_on who address run (Some link) = note (claim_entry who address link (holder_in run.past address.0)) run

-- somebody claims an address, and has it unless somebody else does
abbrev pub claims : Setup → ℕ → Address → Run → Run
claims s who address run = claimed_on who address run (link_of s.links address.0)
