use Rattle.std.proofs.Common.{◌≡◌, ◌∙◌, ◌+◌, ◌++◌, List, ℕ, ap}
use Rattle.mip_make.specs.Draws.{Place, draw_of}
use Rattle.mip_make.specs.Drawn.{drawn}
use Rattle.mip_make.specs.Made.{event_line}
use Rattle.mip_make.specs.MadeLaws.{events_text}
use Rattle.mip_make.specs.declared.draw.Draw.{Draw}
use Rattle.mip_make.proofs.SpellingLaws.{line_more}
use Rattle.mip_make.proofs.spelling.put_events.Goals as goal

pub loop-number-preserved : goal.loop-number-preserved
loop-number-preserved c =
    let seed = c.args.seed.now in
    let n = c.loop-number.number in
    let so_far = c.loop-number.invariant in
    let words : c.draw-draw.result ≡ draw_of seed n = c.draw-draw.ensures.value ∙ ap (λ (d : Place). draw_of d.seed d.event) so_far.draws in
    record {
      draws = c.draw-draw.ensures.next ∙ ap (λ (d : Place). record { seed = d.seed; event = d.event + 1 }) so_far.draws;
      lines = c.in_ok-put_drawn.ensures ∙ ap (λ (text : List ℕ). text ++ event_line (drawn n c.draw-draw.result)) so_far.lines
          ∙ ap (λ (w : Draw). (c.args.out.now ++ events_text seed n) ++ event_line (drawn n w)) words ∙ line_more c.args.out.now seed n;
    }
