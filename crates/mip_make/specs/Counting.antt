-- How many entries of a history begin with each word, as a tally keeps it in 64 bits.
use Rattle.std.specs.Prelude.{ℕ, ◌-◌, ◌^◌, min, List, length}
use Rattle.std.specs.List.{count_by, flat_map}
use Rattle.mip_entries.specs.declared.entry.Entry.{Entry}
use Rattle.mip_make.specs.declared.word.Word.{Word}
use Rattle.mip_make.specs.declared.word.Word.TheVariants.{Sent, Handed, Up, Accepted, Denied, Dropped, Forged}
use Rattle.mip_make.specs.declared.counts.Counts.{Counts}
use Rattle.mip_make.specs.Summaries.{is_of, word_text, count_line}

-- a count as it is kept: at 2 ^ 64 - 1 it stays
abbrev pub kept_count : ℕ → ℕ
kept_count n = min n (2 ^ 64 - 1)

abbrev pub word_count : Word → List Entry → ℕ
word_count word h = kept_count (count_by (is_of word) h)

unfoldable pub counts_of : List Entry → Counts
counts_of h = record {
  entries = kept_count (length h);
  sent = word_count Sent h;
  handed = word_count Handed h;
  up = word_count Up h;
  accepted = word_count Accepted h;
  denied = word_count Denied h;
  dropped = word_count Dropped h;
  forged = word_count Forged h;
}

abbrev pub count_in : Counts → Word → ℕ
count_in c Sent = c.sent
count_in c Handed = c.handed
count_in c Up = c.up
count_in c Accepted = c.accepted
count_in c Denied = c.denied
count_in c Dropped = c.dropped
count_in c Forged = c.forged

-- the line of a word, of the counts that are kept
abbrev pub kept_line : Counts → Word → List (List ℕ)
kept_line c word = count_line (word_text word) (count_in c word)

-- pieces of a history, one behind the other
abbrev pub joined : List (List Entry) → List Entry
joined pieces = flat_map (λ piece. piece) pieces
