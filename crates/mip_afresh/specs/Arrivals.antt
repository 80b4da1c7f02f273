-- What becomes of a packet that is delivered, up to where a node acts.
use Rattle.std.specs.Prelude.{◌≡◌, ℕ, Bool, List, Option, Some, None, option_map, if◌then◌else◌}
use Rattle.mip_words.specs.declared.ids.LinkId.{LinkId}
use Rattle.mip_words.specs.declared.ids.NodeId.{NodeId}
use Rattle.mip_entries.specs.declared.entry.Entry.{Entry}
use Rattle.mip_entries.specs.declared.entry.Entry.TheVariants as entries
use Rattle.mip_links.specs.Table.{Post, delivery}
use Rattle.mip_history.specs.Setup.{Setup}
use Rattle.mip_history.specs.Runs.{Run, note, without}
use Rattle.mip_history.specs.Calls.{Take}
use Rattle.mip_history.specs.Questions.{asked_in}
use Rattle.mip_history.specs.Nodes.{acts}
use Rattle.mip_history.specs.Delivery.{arrival_link, handed_over, overheard_at, became, delivered}
use Rattle.mip_afresh.specs.declared.landing.Landing.{Landing}
use Rattle.mip_afresh.specs.declared.arriving.Arrival.{Arrival}
use Rattle.mip_afresh.specs.declared.arriving.Arrival.TheVariants.{Done, Handed}
use Rattle.mip_afresh.specs.Fates.{fate_seen}
use Rattle.mip_afresh.specs.Tellings.{TellingSeen}

abbrev pub link_seen : Option LinkId → Option ℕ
link_seen link = option_map (λ l. l.0) link

-- behind these entries this is what a packet comes to
pub record IsLanding (s : Setup) (past : List Entry) (post : Post) (l : Landing) : Type 0 where
  pub comes : fate_seen l.fate ≡ delivery (asked_in s past) (Some post)
  pub guarded : l.shield ≡ post.shield
  pub reaches : link_seen l.link ≡ arrival_link s post
  pub given : l.packet ≡ handed_over post.packet (arrival_link s post)

-- if there is one
abbrev pub IsLandingIn : Setup → List Entry → Option Post → Option Landing → Type 0
IsLandingIn s past None None = Unit {0}
IsLandingIn s past (Some post) (Some l) = IsLanding s past post l
IsLandingIn s past _ _ = ⊥

-- what is left to do: the node to which a packet was handed acts
abbrev pub then_acts : Setup → ℕ → Arrival → Run → Run
then_acts s k Done run = run
then_acts s k (Handed node shield packet) run = acts s node.0 (Take k shield packet) run

-- the run in which a node acts: a packet was heard on the link that it comes to, and is noted as handed over
pub record IsHandedOver (s : Setup) (before after : Run) (k : ℕ) (node : NodeId) : Type 0 where
  pub post : Post
  pub is : after ≡ note (entries.Handed k node) (overheard_at s post k (arrival_link s post) before)

-- where a packet was handed to a node, the run is as it is before the node acts
abbrev pub IsBeforeAct : Setup → (before after : Run) → ℕ → Arrival → Type 0
IsBeforeAct s before after k Done = Unit {0}
IsBeforeAct s before after k (Handed node shield packet) = IsHandedOver s before after k node

-- with what is left to do, that became of a packet
pub record Lands (old new : TellingSeen) (k : ℕ) (post : Post) (a : Arrival) : Type 0 where
  pub same : new.setup ≡ old.setup
  pub comes : then_acts old.setup k a new.run ≡ became old.setup k post (arrival_link old.setup post) old.run (delivery (asked_in old.setup old.run.past) (Some post))
  pub reached : IsBeforeAct old.setup old.run new.run k a

-- with what is left to do, the packet with this number was delivered
pub record Arrives (old new : TellingSeen) (k : ℕ) (keep : Bool) (a : Arrival) : Type 0 where
  pub same : new.setup ≡ old.setup
  pub whole : then_acts old.setup k a new.run ≡ delivered old.setup old.run k keep
  pub reached : IsBeforeAct old.setup (if keep then old.run else without k old.run) new.run k a
