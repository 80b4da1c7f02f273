-- The home address of a mobile passes to it once somebody else gives it up, where the mobile is at home.
-- RFC 6275 section 11.5.5
use Rattle.std.specs.Prelude.{ℕ, zero, suc, Bool, true, false, ◌&&◌, ◌==◌, if◌then◌else◌, length, Option, Some, None, slice_get}
use Rattle.mip_words.specs.declared.address.Address.{Address}
use Rattle.mip_words.specs.Last.{or_else}
use Rattle.mip_entries.specs.declared.entry.Entry.TheVariants.{Claimed, Released, Idle}
use Rattle.mip_rules_mobile.specs.declared.attachment.Attachment.{Attachment}
use Rattle.mip_rules_mobile.specs.declared.attachment.Attachment.TheVariants.{Detached, AtHome, Away}
use Rattle.mip_links.specs.Table.{link_of}
use Rattle.mip_links.specs.Nets.{is_held_by}
use Rattle.mip_history.specs.Setup.{Setup, Host, Kind}
use Rattle.mip_history.specs.Setup.Kind.{Mobile}
use Rattle.mip_history.specs.Runs.{Run, note}
use Rattle.mip_history.specs.Questions.{holder_in}
use Rattle.mip_history.specs.Knowing.{mobile_known_in}
use Rattle.mip_history.specs.Claims.{link_id}

abbrev pub is_at_home : Attachment → Bool
is_at_home AtHome = true
is_at_home Detached = false
is_at_home (Away careof) = false

-- a node is a mobile at home, and this is its home address
abbrev pub lives_by_kind : Setup → Run → ℕ → ℕ → Address → Kind → Bool
lives_by_kind s run address n own (Mobile agent) = (own.0 == address) && is_at_home (mobile_known_in s run n own agent).standing
lives_by_kind s run address n own _ = false

abbrev pub lives_by_host : Setup → Run → ℕ → ℕ → Option Host → Bool
lives_by_host s run address n None = false
lives_by_host s run address n (Some host) = lives_by_kind s run address n host.address host.kind

abbrev pub lives_at : Setup → Run → ℕ → ℕ → Bool
lives_at s run address n = lives_by_host s run address n (slice_get s.hosts n)

-- the first number below a bound of which something is so
abbrev pub first_below : (ℕ → Bool) → ℕ → Option ℕ
first_below is zero = None
first_below is (suc n) = or_else (first_below is n) (if is n then Some n else None)

-- the mobile at home whose home address this is
abbrev pub resident : Setup → Run → ℕ → Option ℕ
resident s run address = first_below (lives_at s run address) (length s.hosts)

abbrev pub passes_to : ℕ → Address → ℕ → Run → Option ℕ → Run
passes_to who address link run None = run
passes_to who address link run (Some m) = if m == who then run else note (Claimed m (link_id link) address) run

-- an address is given up on its link: if it is a home address whose mobile is at home, the mobile has it at once
abbrev pub left_on : Setup → ℕ → Address → ℕ → Run → Run
left_on s who address link run = passes_to who address link (note (Released who (link_id link) address) run) (resident s run address.0)

abbrev pub given_up_on : Setup → ℕ → Address → Run → Option ℕ → Run
given_up_on s who address run None = note Idle run
given_up_on s who address run (Some link) = if is_held_by (holder_in run.past address.0) who then left_on s who address link run else note Idle run

-- somebody gives up an address, if it holds it
abbrev pub gives_up : Setup → ℕ → Address → Run → Run
gives_up s who address run = given_up_on s who address run (link_of s.links address.0)
