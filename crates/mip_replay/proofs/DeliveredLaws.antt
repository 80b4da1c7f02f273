-- Packets stay as they were posted, whoever hears them.
use Rattle.std.proofs.Common.{ℕ, ◌<◌, length}
use Rattle.std.specs.Prelude.{Option, Some, None}
use Rattle.mip_words.specs.declared.shield.Shield.{Shield}
use Rattle.mip_links.specs.Table.{Post}
use Rattle.mip_history.specs.Setup.{Setup}
use Rattle.mip_history.specs.Runs.{Run}
use Rattle.mip_history.specs.Posting.{overheard}
use Rattle.mip_history.specs.Delivery.{overheard_at}

heard_posted : (s : Setup) (shield : Option Shield) (by : Option ℕ) (link k : ℕ) (run : Run) → k < length run.posts → k < length (overheard s link shield by k run).posts
heard_posted s None by link k run inside = inside
heard_posted s (Some shield) by link k run inside = inside

pub overheard_posted : (s : Setup) (post : Post) (k : ℕ) (link : Option ℕ) (run : Run) → k < length run.posts → k < length (overheard_at s post k link run).posts
overheard_posted s post k None run inside = inside
overheard_posted s post k (Some link) run inside = heard_posted s post.shield None link k run inside
