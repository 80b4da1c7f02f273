-- A history that is watched: the watch and the tokens of the packets go along with it.
use Rattle.std.specs.Prelude.{◌≡◌, ◌≢◌, ◌<◌, ◌≤◌, ℕ, List, Option, None, length}
use Rattle.std.specs.List.{filter_map}
use Rattle.mip_entries.specs.declared.entry.Entry.{Entry}
use Rattle.mip_provenance.specs.Entries.{packet_in}
use Rattle.mip_provenance_index.specs.declared.provenance_index.ProvenanceIndex.{ProvenanceIndex}
use Rattle.mip_provenance_index.specs.Stands.{StandsFor, number_posted}
use Rattle.mip_provenance_index.specs.Told.{AreTold}
use Rattle.mip_words.specs.declared.token.Token.{Token}
use Rattle.mip_provenance_index.specs.Sights.{token_of}
use Rattle.mip_recorder.specs.Packets.{token_at}

pub record IsWatched (watch : ProvenanceIndex) (past : List Entry) (kept : List (Option Token)) : Type 0 where
  pub stands : StandsFor watch past
  -- packets are heard and handed over once they were posted
  pub told : AreTold past
  pub posted : (k : ℕ) → k < length kept → packet_in past k ≢ None
  pub ahead : (k : ℕ) → length kept ≤ k → packet_in past k ≡ None
  pub count : length kept ≡ length (filter_map number_posted past)
  -- the token of each packet stands at its number
  pub tokens : (k : ℕ) → token_at kept k ≡ token_of (packet_in past k)
