use Rattle.std.proofs.Common.{◌≡◌, ℕ, ◌+◌, ◌*◌, ◌^◌, ◌<◌, get_or, sym, ap, ◌∙◌, subst, arith}
use Rattle.std.proofs.Math.ListN.{set, length-set}
use Rattle.std.proofs.lemmas.List.Edits.{fill_by_more}
use Rattle.rand_chacha.specs.ChaCha.{ChaCha, key_of, word_at}
use Rattle.mip_nonce.specs.Secrets.{Life, stream_of, cookie_of}
use Rattle.mip_nonce.proofs.source.Source.cookies.Goals as goal

-- two words one behind the other as one number
two_words : ChaCha → ℕ
two_words g = word_at 10 g.key g.stream g.word_pos * 2 ^ 32 + word_at 10 g.key g.stream (g.word_pos + 1)

at_cookie : Life → ℕ → ChaCha
at_cookie life place = record { key = key_of life.seed; stream = stream_of life 2; word_pos = place }

two_words-at : (life : Life) (first i : ℕ) → two_words (at_cookie life (2 * first + 2 * i)) ≡ cookie_of life (first + i)
unfolding two_words at_cookie cookie_of
two_words-at life first i =
    let same : 2 * first + 2 * i ≡ 2 * (first + i) = omega arith in
    ap (λ (n : ℕ). two_words (at_cookie life n)) same

two_words-of : (g : ChaCha) (n : ℕ) → n ≡ word_at 10 g.key g.stream g.word_pos * 2 ^ 32 + word_at 10 g.key g.stream (g.word_pos + 1) → n ≡ two_words g
unfolding two_words
two_words-of g n is = is

words-on : (life : Life) (g h : ChaCha) (first i : ℕ) → g ≡ record { key = key_of life.seed; stream = stream_of life 2; word_pos = 2 * first + 2 * i } → h ≡ record g { word_pos = g.word_pos + 2 }
    → h ≡ record { key = key_of life.seed; stream = stream_of life 2; word_pos = 2 * first + 2 * (i + 1) }
words-on life g h first i before after =
    let same : 2 * first + 2 * i + 2 ≡ 2 * first + 2 * (i + 1) = omega arith in
    after
    ∙ ap (λ (g : ChaCha). (let next : ChaCha = record g { word_pos = g.word_pos + 2 } in next)) before
    ∙ ap (λ (n : ℕ). (let next : ChaCha = record { key = key_of life.seed; stream = stream_of life 2; word_pos = n } in next)) same

pub loop-i-preserved : goal.loop-i-preserved
unfolding at_cookie
loop-i-preserved c =
    let life = c.args.self.now in
    let first = c.args.first in
    let i = c.loop-i.i in
    let drawn = two_words-of c.loop-i.words c.next_cookie.result c.next_cookie.ensures.value ∙ ap two_words c.loop-i.invariant.words ∙ two_words-at life first i in
    record {
      long = length-set c.loop-i.cookies i c.next_cookie.result ∙ c.loop-i.invariant.long;
      words = words-on life c.loop-i.words c.next_cookie.new.words first i c.loop-i.invariant.words c.next_cookie.ensures.words;
      drawn = subst (λ (x : ℕ). (k : ℕ) → k < i + 1 → get_or (set c.loop-i.cookies i x) k 0 ≡ cookie_of life (first + k)) (sym drawn)
          (fill_by_more (λ k. cookie_of life (first + k)) c.loop-i.cookies i 0 (omega arith) c.loop-i.invariant.drawn);
    }
