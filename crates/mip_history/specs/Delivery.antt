-- What becomes of a packet that is delivered, and of those that are carried.
use Rattle.std.specs.Prelude.{ℕ, zero, suc, List, Bool, false, not, ◌==◌, if◌then◌else◌, Option, Some, None}
use Rattle.mip_words.specs.declared.why.Why.{Why}
use Rattle.mip_words.specs.declared.why.Why.TheVariants as whys
use Rattle.mip_entries.specs.declared.entry.Entry.TheVariants.{Handed, Heard, Gone as Goes, Idle as Stays}
use Rattle.mip_entries.specs.Completed.{node_id}
use Rattle.mip_ipv6.specs.Tunnel.{lowered}
use Rattle.mip_links.specs.Table.{Fate, Post, link_of, destination_in, delivery, in_pool, outsider_of}
use Rattle.mip_links.specs.Nets.{lowest_of}
use Rattle.mip_links.specs.Table.Fate.{Idle, Gone, Outsider, Node}
use Rattle.mip_history.specs.Calls.{Take}
use Rattle.mip_history.specs.Setup.{Setup}
use Rattle.mip_history.specs.Runs.{Run, note, without}
use Rattle.mip_history.specs.Questions.{asked_in, hears_in}
use Rattle.mip_history.specs.Posting.{overheard}
use Rattle.mip_history.specs.Nodes.{acts}

-- the link that a packet comes to, where that is another one than it was sent from
abbrev pub other_link : Option ℕ → ℕ → Option ℕ
other_link None from = None
other_link (Some link) from = if link == from then None else Some link

abbrev pub arrival_link : Setup → Post → Option ℕ
arrival_link s post = other_link (link_of s.links (destination_in post.packet)) post.from

-- the packet as it is handed over: with its hop limit one less where it comes to another link
abbrev pub handed_over : List ℕ → Option ℕ → List ℕ
handed_over packet None = packet
handed_over packet (Some link) = lowered packet

-- it is heard on that link
abbrev pub overheard_at : Setup → Post → ℕ → Option ℕ → Run → Run
overheard_at s post k None run = run
overheard_at s post k (Some link) run = overheard s link post.shield None k run

abbrev pub hears_there : Run → ℕ → Option ℕ → Bool
hears_there run o None = false
hears_there run o (Some link) = hears_in run.past o link

-- an outsider that holds the destination has heard it once
abbrev pub held_by_outsider : Run → ℕ → ℕ → Option ℕ → Run
held_by_outsider run k o link = if hears_there run o link then run else note (Heard k o) run

-- node n is handed the packet, and its answers follow
unfoldable pub handed : Setup → ℕ → Post → ℕ → Option ℕ → Run → Run
handed s k post n link run =
    acts s n (Take k post.shield (handed_over post.packet link)) (note (Handed k (node_id n)) run)

abbrev pub is_no_holder : Why → Bool
is_no_holder whys.NoHolder = not false
is_no_holder _ = false

abbrev pub became : Setup → ℕ → Post → Option ℕ → Run → Fate → Run
became s k post link run Idle = note Stays run
became s k post link run (Gone why) = note (Goes k why) (if is_no_holder why then overheard_at s post k link run else run)
became s k post link run (Outsider by) = held_by_outsider (overheard_at s post k link run) k (outsider_of by) link
became s k post link run (Node by) = handed s k post by link (overheard_at s post k link run)

abbrev pub arrived : Setup → ℕ → Run → Option Post → Run
arrived s k run None = note Stays run
arrived s k run (Some post) = became s k post (arrival_link s post) run (delivery (asked_in s run.past) (Some post))

-- a packet of the pool is delivered, and leaves the pool unless it is kept; one that is not there changes nothing
unfoldable pub delivered : Setup → Run → ℕ → Bool → Run
delivered s run k keep = arrived s k (if keep then run else without k run) (in_pool run.flying run.posts k)

abbrev pub carried_one : Setup → Run → Option ℕ → Run
carried_one s run None = run
carried_one s run (Some k) = delivered s run k false

-- the lowest packet of the pool is delivered, so many times or until the pool is empty
unfoldable pub carried : Setup → Run → ℕ → Run
carried s run zero = run
carried s run (suc n) = let before = carried s run n in carried_one s before (lowest_of before.flying)
