-- Who holds which address: the claims that stand at the end of a history.
use Rattle.std.specs.Prelude.{ℕ, List, fold, ◌==◌, if◌then◌else◌, Option, Some, None, unwrap_or}
use Rattle.std.specs.BTreeMap.{insert_entry, is_at}
use Rattle.std.specs.Map.{lookup}
use Rattle.std.specs.Ordering.{nat_cmp}
use Rattle.mip_words.specs.declared.address.Address.{Address}
use Rattle.mip_words.specs.Asked.{asked}
use Rattle.mip_entries.specs.declared.entry.Entry.{Entry}
use Rattle.mip_entries.specs.declared.entry.Entry.TheVariants.{Claimed, Released}
use Rattle.mip_proxynd.specs.declared.claim.Claim.{Claim}
use Rattle.mip_proxynd.specs.Fields.{is_group}

-- what an entry says of an address: that somebody holds it from here on, or nobody
abbrev pub claim_says : ℕ → Entry → Option (Option Claim)
claim_says a (Claimed who link address) = if a == address.0 then Some (Some (record { link = link; address = address; who = who })) else None
claim_says a (Released who link address) = if a == address.0 then Some None else None
claim_says a _ = None

-- the claim of an address that stands: that of the last `claimed` or `released` entry of the address, where this is a `claimed`
abbrev pub claim_in : List Entry → ℕ → Option Claim
claim_in history a = asked (claim_says a) None history

-- each address that was claimed or released, with the claim of it that stands or none; the addresses rise
abbrev pub Rows : Type 0
Rows = List (ℕ × Option Claim)

abbrev pub row_of : Rows → ℕ → Option Claim
row_of rows a = unwrap_or (lookup (is_at (nat_cmp a)) rows) None

-- nobody holds a multicast address
abbrev pub with_row : Rows → Address → Option Claim → Rows
with_row rows address claim = if is_group address then rows else insert_entry nat_cmp rows address.0 claim

abbrev pub rows_after : Rows → Entry → Rows
rows_after rows (Claimed who link address) = with_row rows address (Some (record { link = link; address = address; who = who }))
rows_after rows (Released who link address) = with_row rows address None
rows_after rows _ = rows

-- the rows behind these entries, after those before
abbrev pub rows_in : Rows → List Entry → Rows
rows_in rows entries = fold rows_after rows entries
