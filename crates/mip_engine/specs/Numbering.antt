-- The packets of a run are those of its history, numbered as they were posted.
use Rattle.std.specs.Prelude.{◌≡◌, ℕ, List, length, option_map, slice_get}
use Rattle.std.specs.List.{filter_map}
use Rattle.mip_entries.specs.declared.entry.Entry.{Entry}
use Rattle.mip_links.specs.Table.{Post}
use Rattle.mip_provenance.specs.Entries.{packet_in}
use Rattle.mip_provenance_index.specs.Stands.{number_posted}
use Rattle.mip_recorder.specs.Packets.{IsInOrder}

pub record IsNumbered (posts : List Post) (past : List Entry) : Type 0 where
  -- packets are heard and handed over once they were posted
  pub order : IsInOrder past
  pub count : length (filter_map number_posted past) ≡ length posts
  pub packets : (k : ℕ) → option_map (λ (p : Post). p.packet) (slice_get posts k) ≡ packet_in past k
