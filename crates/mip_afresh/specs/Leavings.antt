-- What an entry of a node comes to in a run.
use Rattle.std.specs.Prelude.{ℕ, length}
use Rattle.mip_entries.specs.declared.entry.Entry.{Entry}
use Rattle.mip_entries.specs.declared.entry.Entry.TheVariants.{Claimed, Taken, Released, Restarted}
use Rattle.mip_entries.specs.Completed.{named}
use Rattle.mip_history.specs.Setup.{Setup}
use Rattle.mip_history.specs.Runs.{Run}
use Rattle.mip_history.specs.Claims.{claims}
use Rattle.mip_history.specs.Homes.{gives_up}
use Rattle.mip_history.specs.Nodes.{marked}
use Rattle.mip_afresh.specs.declared.answering.Leaving.{Leaving}
use Rattle.mip_afresh.specs.declared.answering.Leaving.TheVariants.{Claim, Release, Nothing, Plain}

abbrev pub leaving_of : Entry → Leaving
leaving_of (Claimed who link address) = Claim address
leaving_of (Taken who link address holder) = Claim address
leaving_of (Released who link address) = Release address
leaving_of (Restarted node) = Nothing
leaving_of entry = Plain

abbrev pub left_so : Setup → ℕ → Run → Entry → Leaving → Run
left_so s n run entry (Claim address) = claims s n address run
left_so s n run entry (Release address) = gives_up s n address run
left_so s n run entry Nothing = run
left_so s n run entry Plain = marked (named n 0 (length run.posts) entry) run
