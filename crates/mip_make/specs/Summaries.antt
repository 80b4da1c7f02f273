-- The summary of a run: how many events there were, how many entries, and how many of some words.
use Rattle.std.specs.Prelude.{ℕ, List, [], ◌∷◌, Bool, true, false, length, codes, decimal, map}
use Rattle.std.specs.List.{count_by}
use Rattle.mip_entries.specs.declared.entry.Entry.{Entry}
use Rattle.mip_entries.specs.declared.entry.Entry.TheVariants as entries
use Rattle.mip_lines.specs.Lines.{lines_text}
use Rattle.mip_make.specs.declared.word.Word.{Word}
use Rattle.mip_make.specs.declared.word.Word.TheVariants.{Sent, Handed, Up, Accepted, Denied, Dropped, Forged}

-- the word with which the line of an entry begins
abbrev pub word_text : Word → List ℕ
word_text Sent = codes "sent"
word_text Handed = codes "handed"
word_text Up = codes "up"
word_text Accepted = codes "accepted"
word_text Denied = codes "denied"
word_text Dropped = codes "dropped"
word_text Forged = codes "forged"

-- the line of the entry begins with this word
abbrev pub is_of : Word → Entry → Bool
is_of Sent (entries.Sent number node shielded packet) = true
is_of Handed (entries.Handed number node) = true
is_of Up (entries.Up node number source destination proto payload) = true
is_of Accepted (entries.Accepted node number home binding careof sequence end home_index careof_index) = true
is_of Denied (entries.Denied node number status) = true
is_of Dropped (entries.Dropped node number why) = true
is_of Forged (entries.Forged cause) = true
is_of _ _ = false

abbrev pub count_line : List ℕ → ℕ → List (List ℕ)
count_line word count = word ∷ decimal count ∷ []

-- how many entries begin with a word
abbrev pub word_line : List Entry → Word → List (List ℕ)
word_line h word = count_line (word_text word) (count_by (is_of word) h)

-- the words that are counted, in their order
abbrev pub counted_words : List Word
counted_words = Sent ∷ Handed ∷ Up ∷ Accepted ∷ Denied ∷ Dropped ∷ Forged ∷ []

abbrev pub summary_rows : ℕ → List Entry → List (List (List ℕ))
summary_rows events h = count_line (codes "events") events ∷ count_line (codes "entries") (length h) ∷ map (word_line h) counted_words

-- the text of the summary of a run of so many events
unfoldable pub summary_text : ℕ → List Entry → List ℕ
summary_text events h = lines_text (summary_rows events h)
