-- The lines of a hub: what each is read as.
use Rattle.std.specs.Prelude.{ℕ, List, [], ◌∷◌, Bool, true, false, if◌then◌else◌, Result, Ok, Err, codes}
use Rattle.std.specs.Str.{bytes_eq}
use Rattle.mip_lines.specs.Rows.{row2, row3, row4}
use Rattle.mip_symbols.specs.Kinds as kinds
use Rattle.mip_symbols.specs.declared.reason.Reason.{Reason}
use Rattle.mip_symbols.specs.declared.reason.Reason.TheVariants as reasons
use Rattle.mip_config.specs.Rows.{port}
pub use Rattle.mip_config.specs.Rows.{turn}
use Rattle.mip_hub.specs.declared.hub_line.HubLine.{HubLine}
use Rattle.mip_hub.specs.declared.hub_line.HubLine.TheVariants.{Claim, Release, Advertise, Copies}

abbrev pub yes_or_no : List ℕ → Result Bool Reason
yes_or_no field =
    if bytes_eq field (codes "yes") then Ok true
    else if bytes_eq field (codes "no") then Ok false
    else Err reasons.Name

unfoldable pub claim_row : List (List ℕ) → Result HubLine Reason
claim_row fields = row3 reasons.Form turn kinds.address port (λ t a p. Claim t a p) fields

unfoldable pub release_row : List (List ℕ) → Result HubLine Reason
release_row fields = row2 reasons.Form turn kinds.address (λ t a. Release t a) fields

unfoldable pub advertise_row : List (List ℕ) → Result HubLine Reason
advertise_row fields = row4 reasons.Form turn kinds.prefix yes_or_no port (λ t x g p. Advertise t x g p) fields

unfoldable pub copies_row : List (List ℕ) → Result HubLine Reason
copies_row fields = row2 reasons.Form turn (kinds.number 0 4) (λ t n. Copies t n) fields

-- a line by its first field
unfoldable pub line_fields : List (List ℕ) → Result HubLine Reason
line_fields [] = Err reasons.Form
line_fields (word ∷ fields) =
    if bytes_eq word (codes "claim") then claim_row fields
    else if bytes_eq word (codes "release") then release_row fields
    else if bytes_eq word (codes "advertise") then advertise_row fields
    else if bytes_eq word (codes "copies") then copies_row fields
    else Err reasons.Form
