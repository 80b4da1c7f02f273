use Rattle.std.proofs.Common.{arith, sym, ap, ◌∙◌, ◌+◌, List, [], ◌∷◌, ◌++◌, ◌≡◌}
use Rattle.std.proofs.lemmas.List.FromFn.{map-range_with_len_more}
use Rattle.mip_schedule.specs.declared.event.Event.{Event}
use Rattle.mip_make.specs.Draws.{Place, draw_of}
use Rattle.mip_make.specs.Drawn.{drawn}
use Rattle.mip_make.specs.Made.{event_at, events_from}
use Rattle.mip_make.proofs.making.events.Goals as goal

pub loop-number-preserved : goal.loop-number-preserved
loop-number-preserved c =
    let seed = c.args.seed.now in
    let n = c.loop-number.number in
    let so_far = c.loop-number.invariant in
    let event : c.in_ok-event.event ≡ event_at seed n =
    c.in_ok-event.ensures ∙ ap (drawn n) (c.draw-draw.ensures.value ∙ ap (λ (d : Place). draw_of d.seed d.event) so_far.draws) in
    record {
      draws = c.draw-draw.ensures.next ∙ ap (λ (d : Place). record { seed = d.seed; event = d.event + 1 }) so_far.draws;
      events = c.in_ok-push.ensures.ok ∙ ap (λ (es : List Event). es ++ c.in_ok-event.event ∷ []) so_far.events
          ∙ ap (λ (e : Event). events_from seed 0 n ++ e ∷ []) event ∙ sym (map-range_with_len_more (event_at seed) 0 n n (omega arith));
    }
