-- What is known of the table of lines: words are told apart, a line has few fields, the entry of an entry's line is the
-- entry, and the line of a row's entry is the row.
use Rattle.std.proofs.Common.{◌≡◌, ℕ, ◌+◌, List, [], length, true, nat_le, refl}
use Rattle.std.specs.Prelude.{Some, None}
use Rattle.mip_lines.specs.LinesLaws.{is_plain}
use Rattle.mip_entries.specs.declared.entry.Entry.{Entry}
use Rattle.mip_entries.specs.declared.entry.Entry.TheVariants as entries
use Rattle.mip_symbols.specs.declared.declaration.Declaration.{Declaration}
use Rattle.mip_rows.specs.Ranges.{AreOfKinds, IsTail}
use Rattle.mip_rows.specs.Rows.{tail_count}
use Rattle.mip_rows.specs.declared.tail.Tail.{Tail}
use Rattle.mip_rows.specs.declared.tail.Tail.TheVariants as tails
use Rattle.mip_rows.proofs.Shapes.{Shapes, packs}
use Rattle.mip_trace.specs.EntryLines.{word_text, entry_words, kinds_of, tail_kind, entry_at, Line, line_of}
use Rattle.mip_trace.specs.EntryReading.{word_of}
use Rattle.mip_trace.specs.Ranges.{IsOf}
use Rattle.mip_trace.specs.declared.entry_word.EntryWord.{EntryWord}
use Rattle.mip_trace.specs.declared.entry_word.EntryWord.TheVariants as words

-- a word is found by its text, which is plain, and no line of it has more than ten fields
abbrev pub IsWord : EntryWord → Type 0
IsWord w = (word_of (word_text w) ≡ Some w) × (is_plain (word_text w) ≡ true) × (nat_le (length (kinds_of w) + tail_count (tail_kind w)) 9 ≡ true)

pub words-known : (w : EntryWord) → IsWord w
unfolding entry_words
words-known words.Sent = (refl, refl, refl)
words-known words.Handed = (refl, refl, refl)
words-known words.Gone = (refl, refl, refl)
words-known words.Lost = (refl, refl, refl)
words-known words.Unsent = (refl, refl, refl)
words-known words.Listening = (refl, refl, refl)
words-known words.Deafened = (refl, refl, refl)
words-known words.Injected = (refl, refl, refl)
words-known words.Heard = (refl, refl, refl)
words-known words.Claimed = (refl, refl, refl)
words-known words.Released = (refl, refl, refl)
words-known words.Taken = (refl, refl, refl)
words-known words.Denied = (refl, refl, refl)
words-known words.Dropped = (refl, refl, refl)
words-known words.Up = (refl, refl, refl)
words-known words.At = (refl, refl, refl)
words-known words.Idle = (refl, refl, refl)
words-known words.Restarted = (refl, refl, refl)
words-known words.Settled = (refl, refl, refl)
words-known words.Moved = (refl, refl, refl)
words-known words.Advertised = (refl, refl, refl)
words-known words.Careof = (refl, refl, refl)
words-known words.Prefixes = (refl, refl, refl)
words-known words.Registered = (refl, refl, refl)
words-known words.Unregistered = (refl, refl, refl)
words-known words.Refused = (refl, refl, refl)
words-known words.Chosen = (refl, refl, refl)
words-known words.Made = (refl, refl, refl)
words-known words.Bound = (refl, refl, refl)
words-known words.Unbound = (refl, refl, refl)
words-known words.Accepted = (refl, refl, refl)
words-known words.Origin = (refl, refl, refl)
words-known words.Forged = (refl, refl, refl)
words-known words.Home = (refl, refl, refl)
words-known words.Row = (refl, refl, refl)

-- a line whose row is that of the entry again, within its kinds
abbrev pub IsKept : List Declaration → Entry → Line → Type 0
IsKept ds e l = (entry_at l.word (record { values = l.values; bytes = l.bytes }) ≡ e) × AreOfKinds ds (kinds_of l.word) l.values × IsTail (tail_kind l.word) l.bytes

pub entry-kept : (ds : List Declaration) (e : Entry) → IsOf ds e → IsKept ds e (line_of e)
entry-kept ds (entries.Sent a b c d) is = (refl, (is.0, (is.1, (tt, tt))), is.2)
entry-kept ds (entries.Handed a b) is = (refl, (is.0, (is.1, tt)), refl)
entry-kept ds (entries.Gone a b) is = (refl, (is.0, (is.1, tt)), refl)
entry-kept ds (entries.Lost a) is = (refl, (is, tt), refl)
entry-kept ds (entries.Unsent a b) is = (refl, (is.0, (is.1, tt)), refl)
entry-kept ds (entries.Listening a b) is = (refl, (is.0, (is.1, tt)), refl)
entry-kept ds (entries.Deafened a b) is = (refl, (is.0, (is.1, tt)), refl)
entry-kept ds (entries.Injected a b c d) is = (refl, (is.0, (is.1, (is.2, tt))), is.3)
entry-kept ds (entries.Heard a b) is = (refl, (is.0, (is.1, tt)), refl)
entry-kept ds (entries.Claimed a b c) is = (refl, (is.0, (is.1, (is.2, tt))), refl)
entry-kept ds (entries.Released a b c) is = (refl, (is.0, (is.1, (is.2, tt))), refl)
entry-kept ds (entries.Taken a b c d) is = (refl, (is.0, (is.1, (is.2, (is.3, tt)))), refl)
entry-kept ds (entries.Denied a b c) is = (refl, (is.0, (is.1, (is.2, tt))), refl)
entry-kept ds (entries.Dropped a b c) is = (refl, (is.0, (is.1, (is.2, tt))), refl)
entry-kept ds (entries.Up a b c d e f) is = (refl, (is.0, (is.1, (is.2, (is.3, (is.4, tt))))), is.5)
entry-kept ds (entries.At a) is = (refl, (is, tt), refl)
entry-kept ds entries.Idle is = (refl, tt, refl)
entry-kept ds (entries.Restarted a) is = (refl, (is, tt), refl)
entry-kept ds (entries.Settled a b c) is = (refl, (is.0, (is.1, (tt, tt))), refl)
entry-kept ds (entries.Moved a b) is = (refl, (is.0, (is.1, tt)), refl)
entry-kept ds (entries.Advertised a b (Some c)) is = (refl, (is.0, (is.1, (is.2, tt))), refl)
entry-kept ds (entries.Advertised a b None) is = (refl, (is.0, (is.1, (tt, tt))), refl)
entry-kept ds (entries.Careof a b) is = (refl, (is.0, (is.1, tt)), refl)
entry-kept ds (entries.Prefixes a b c) is = (refl, (is.0, (is.1, (is.2, tt))), refl)
entry-kept ds (entries.Registered a b c) is = (refl, (is.0, (is.1, (is.2, tt))), refl)
entry-kept ds (entries.Unregistered a b) is = (refl, (is.0, (is.1, tt)), refl)
entry-kept ds (entries.Refused a b) is = (refl, (is.0, (is.1, tt)), refl)
entry-kept ds (entries.Chosen a b) is = (refl, (is.0, (is.1, tt)), refl)
entry-kept ds (entries.Made a b c d e) is = (refl, (is.0, (is.1, (is.2, (is.3, (is.4, tt))))), refl)
entry-kept ds (entries.Bound a b c) is = (refl, (is.0, (is.1, (is.2, tt))), refl)
entry-kept ds (entries.Unbound a b) is = (refl, (is.0, (is.1, tt)), refl)
entry-kept ds (entries.Accepted a b c d e f g h i) is = (refl, (is.0, (is.1, (is.2, (is.3, (is.4, (is.5, (is.6, (is.7, (is.8, tt))))))))), refl)
entry-kept ds (entries.Origin a b c) is = (refl, (is.0, (is.1, (is.2, tt))), refl)
entry-kept ds (entries.Forged a) is = (refl, (is, tt), refl)
entry-kept ds (entries.Home a b c d e) is = (refl, (is.0, (is.1, (is.2, (is.3, (is.4, tt))))), refl)
entry-kept ds (entries.Row a b c d e f g) is = (refl, (is.0, (is.1, (is.2, (is.3, (is.4, (is.5, (is.6, tt))))))), refl)

-- the bytes of a tail: none where there is no tail
abbrev pub kept : Tail → List ℕ → List ℕ
kept tails.Nothing b = []
kept _ b = b

-- the line of the entry of a typed row is that row, and the entry is one of the declarations
pub line-kept : (ds : List Declaration) (w : EntryWord) (xs : Shapes (kinds_of w)) (b : List ℕ) → AreOfKinds ds (kinds_of w) (packs (kinds_of w) xs) → IsTail (tail_kind w) b
    → (line_of (entry_at w (record { values = packs (kinds_of w) xs; bytes = b })) ≡ record { word = w; values = packs (kinds_of w) xs; bytes = kept (tail_kind w) b }) × IsOf ds (entry_at w (record { values = packs (kinds_of w) xs; bytes = b }))
line-kept ds words.Sent xs b are is = (refl, (are.0, are.1.0, is))
line-kept ds words.Handed xs b are is = (refl, (are.0, are.1.0))
line-kept ds words.Gone xs b are is = (refl, (are.0, are.1.0))
line-kept ds words.Lost xs b are is = (refl, are.0)
line-kept ds words.Unsent xs b are is = (refl, (are.0, are.1.0))
line-kept ds words.Listening xs b are is = (refl, (are.0, are.1.0))
line-kept ds words.Deafened xs b are is = (refl, (are.0, are.1.0))
line-kept ds words.Injected xs b are is = (refl, (are.0, are.1.0, are.1.1.0, is))
line-kept ds words.Heard xs b are is = (refl, (are.0, are.1.0))
line-kept ds words.Claimed xs b are is = (refl, (are.0, are.1.0, are.1.1.0))
line-kept ds words.Released xs b are is = (refl, (are.0, are.1.0, are.1.1.0))
line-kept ds words.Taken xs b are is = (refl, (are.0, are.1.0, are.1.1.0, are.1.1.1.0))
line-kept ds words.Denied xs b are is = (refl, (are.0, are.1.0, are.1.1.0))
line-kept ds words.Dropped xs b are is = (refl, (are.0, are.1.0, are.1.1.0))
line-kept ds words.Up xs b are is = (refl, (are.0, are.1.0, are.1.1.0, are.1.1.1.0, are.1.1.1.1.0, is))
line-kept ds words.At xs b are is = (refl, are.0)
line-kept ds words.Idle xs b are is = (refl, tt)
line-kept ds words.Restarted xs b are is = (refl, are.0)
line-kept ds words.Settled xs b are is = (refl, (are.0, are.1.0))
line-kept ds words.Moved xs b are is = (refl, (are.0, are.1.0))
line-kept ds words.Advertised (x, (y, (Some z, u))) b are is = (refl, (are.0, are.1.0, are.1.1.0))
line-kept ds words.Advertised (x, (y, (None, u))) b are is = (refl, (are.0, are.1.0, tt))
line-kept ds words.Careof xs b are is = (refl, (are.0, are.1.0))
line-kept ds words.Prefixes xs b are is = (refl, (are.0, are.1.0, are.1.1.0))
line-kept ds words.Registered xs b are is = (refl, (are.0, are.1.0, are.1.1.0))
line-kept ds words.Unregistered xs b are is = (refl, (are.0, are.1.0))
line-kept ds words.Refused xs b are is = (refl, (are.0, are.1.0))
line-kept ds words.Chosen xs b are is = (refl, (are.0, are.1.0))
line-kept ds words.Made xs b are is = (refl, (are.0, are.1.0, are.1.1.0, are.1.1.1.0, are.1.1.1.1.0))
line-kept ds words.Bound xs b are is = (refl, (are.0, are.1.0, are.1.1.0))
line-kept ds words.Unbound xs b are is = (refl, (are.0, are.1.0))
line-kept ds words.Accepted xs b are is = (refl, (are.0, are.1.0, are.1.1.0, are.1.1.1.0, are.1.1.1.1.0, are.1.1.1.1.1.0, are.1.1.1.1.1.1.0, are.1.1.1.1.1.1.1.0, are.1.1.1.1.1.1.1.1.0))
line-kept ds words.Origin xs b are is = (refl, (are.0, are.1.0, are.1.1.0))
line-kept ds words.Forged xs b are is = (refl, are.0)
line-kept ds words.Home xs b are is = (refl, (are.0, are.1.0, are.1.1.0, are.1.1.1.0, are.1.1.1.1.0))
line-kept ds words.Row xs b are is = (refl, (are.0, are.1.0, are.1.1.0, are.1.1.1.0, are.1.1.1.1.0, are.1.1.1.1.1.0, are.1.1.1.1.1.1.0))
