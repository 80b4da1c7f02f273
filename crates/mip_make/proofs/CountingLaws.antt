-- Counts of a history that grows, and the lines that are made of them.
use Rattle.std.proofs.Common.{◌≡◌, ◌≢◌, ℕ, ◌+◌, ◌-◌, ◌≤◌, ◌^◌, List, [], ◌∷◌, ◌++◌, length, map, refl, sym, ap, ◌∙◌, cond, arith, length-append}
use Rattle.std.specs.Prelude.{codes}
use Rattle.std.specs.List.{count_by}
use Rattle.std.proofs.lemmas.List.{append_assoc}
use Rattle.std.proofs.lemmas.List.Sums.{sum_by-append, count_by-le-length}
use Rattle.mip_entries.specs.declared.entry.Entry.{Entry}
use Rattle.mip_lines.specs.Lines.{line_text, lines_text}
use Rattle.mip_schedule.specs.declared.event.Event.{Event}
use Rattle.mip_make.specs.declared.word.Word.{Word}
use Rattle.mip_make.specs.declared.word.Word.TheVariants.{Sent, Handed, Up, Accepted, Denied, Dropped, Forged}
use Rattle.mip_make.specs.declared.counts.Counts.{Counts}
use Rattle.mip_make.specs.Summaries.{is_of, word_text, word_line, count_line, counted_words, summary_text}
use Rattle.mip_make.specs.Counting.{kept_count, word_count, counts_of, count_in, kept_line}

kept_more : (a b : ℕ) → kept_count (kept_count a + b) ≡ kept_count (a + b)
kept_more a b = omega arith

-- where the entries were not too many to be counted, no count is at its limit
kept_exact : (n m : ℕ) → n ≤ m → kept_count m ≢ 2 ^ 64 - 1 → kept_count n ≡ n
kept_exact n m within below = omega (arith, within, below)

kept_in : (h : List Entry) (word : Word) → count_in (counts_of h) word ≡ word_count word h
unfolding counts_of
kept_in h Sent = refl
kept_in h Handed = refl
kept_in h Up = refl
kept_in h Accepted = refl
kept_in h Denied = refl
kept_in h Dropped = refl
kept_in h Forged = refl

-- the count of a word goes up by the entries that begin with it
pub word_more : (c : Counts) (h es : List Entry) (word : Word) (more raised : ℕ) → c ≡ counts_of h → more ≡ count_by (is_of word) es → raised ≡ kept_count (count_in c word + more)
    → raised ≡ word_count word (h ++ es)
word_more c h es word more raised are counted is =
    is ∙ ap (λ (n : ℕ). kept_count (count_in c word + n)) counted
    ∙ ap (λ (n : ℕ). kept_count (n + count_by (is_of word) es)) (ap (λ (x : Counts). count_in x word) are ∙ kept_in h word)
    ∙ kept_more (count_by (is_of word) h) (count_by (is_of word) es)
    ∙ ap kept_count (sym (sum_by-append (λ e. cond (is_of word e) 1 0) h es))

pub entries_more : (c : Counts) (h es : List Entry) (raised : ℕ) → c ≡ counts_of h → raised ≡ kept_count (c.entries + length es) → raised ≡ kept_count (length (h ++ es))
unfolding counts_of
entries_more c h es raised are is =
    is ∙ ap (λ (x : Counts). kept_count (x.entries + length es)) are ∙ kept_more (length h) (length es) ∙ ap kept_count (sym (length-append h es))

line_exact : (h : List Entry) (word : Word) → kept_count (length h) ≢ 2 ^ 64 - 1 → kept_line (counts_of h) word ≡ word_line h word
line_exact h word below =
    ap (λ (n : ℕ). count_line (word_text word) n)
    (kept_in h word ∙ kept_exact (count_by (is_of word) h) (length h) (count_by-le-length (is_of word) h) below)

lines_exact : (h : List Entry) (words : List Word) → kept_count (length h) ≢ 2 ^ 64 - 1 → map (kept_line (counts_of h)) words ≡ map (word_line h) words
lines_exact h [] below = refl
lines_exact h (word ∷ words) below = λ i. line_exact h word below i ∷ lines_exact h words below i

-- the summary, as it is written line by line
pub summary_is : (events : ℕ) (h : List Entry) (c : Counts) → c ≡ counts_of h → c.entries ≢ 2 ^ 64 - 1
    → (line_text (count_line (codes "events") events) ++ line_text (count_line (codes "entries") c.entries)) ++ lines_text (map (kept_line c) counted_words) ≡ summary_text events h
unfolding counts_of summary_text
summary_is events h c are below =
    let first : List ℕ = line_text (count_line (codes "events") events) in
    let kept : c.entries ≡ kept_count (length h) = ap (λ (x : Counts). x.entries) are in
    let few : kept_count (length h) ≢ 2 ^ 64 - 1 = λ e. below (kept ∙ e) in
    let all : c.entries ≡ length h = kept ∙ kept_exact (length h) (length h) (omega arith) few in
    ap (λ (x : Counts). (first ++ line_text (count_line (codes "entries") c.entries)) ++ lines_text (map (kept_line x) counted_words)) are
    ∙ ap (λ (rows : List (List (List ℕ))). (first ++ line_text (count_line (codes "entries") c.entries)) ++ lines_text rows) (lines_exact h counted_words few)
    ∙ ap (λ (n : ℕ). (first ++ line_text (count_line (codes "entries") n)) ++ lines_text (map (word_line h) counted_words)) all
    ∙ append_assoc first (line_text (count_line (codes "entries") (length h))) (lines_text (map (word_line h) counted_words))
