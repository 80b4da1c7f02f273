use Rattle.std.proofs.Common.{◌≡◌, ◌<◌, List, ℕ, length, take, refl, ap, ◌∙◌, subst, inl}
use Rattle.std.specs.Io.KnownBytes.{append_known}
use Rattle.mip_frames.specs.declared.served.Served.TheVariants.{WriteFault, Memory}
use Rattle.mip_hub.specs.Turns.{turn_calls, turn_done}
use Rattle.mip_hub.specs.declared.hub.Hub.{Hub}
use Rattle.mip_hub.proofs.RunLaws.{quiet_turn, told_all, told_part, link_cut, memory_cut}
use Rattle.mip_hub.proofs.serving.turn_told.Goals as goal

pub returns-in-Err-Failed-clause-seen : goal.returns-in-Err-Failed-clause-seen
returns-in-Err-Failed-clause-seen g c =
    let s = rw c.in-Err-Failed.field-0-is at c.in-Err-Failed.ensures.seen in
    let calls = turn_calls c.args.lines.now c.args.number s.0 c.args.hub.now in
    (s.0, s.1, link_cut calls (turn_done c.args.lines.now c.args.number s.0 c.args.hub.now).text _ _ _ _ (quiet_turn c.args.lines.now c.args.number s.0 c.args.hub.now) s.2 refl, tt)

pub returns-in-Err-Memory-clause-seen : goal.returns-in-Err-Memory-clause-seen
returns-in-Err-Memory-clause-seen g c =
    let s = rw c.in-Err-Memory.field-0-is at c.in-Err-Memory.ensures.seen in
    let calls = turn_calls c.args.lines.now c.args.number s.0 c.args.hub.now in
    (s.0, s.1, memory_cut calls (turn_done c.args.lines.now c.args.number s.0 c.args.hub.now).text _ _ _ _ (quiet_turn c.args.lines.now c.args.number s.0 c.args.hub.now) s.2 refl, tt)

pub returns-in-Ok-write_text-clause-seen : goal.returns-in-Ok-write_text-clause-seen
returns-in-Ok-write_text-clause-seen g c =
    let s = c.in-Ok.ensures.seen in
    let calls = turn_calls c.args.lines.now c.args.number s.0 c.args.hub.now in
    let text : c.as_slice.result.now ≡ (turn_done c.args.lines.now c.args.number s.0 c.args.hub.now).text = c.as_slice.ensures ∙ ap (λ (h : Hub). h.text) s.3 in (
      s.0,
      s.1,
      told_all calls (turn_done c.args.lines.now c.args.number s.0 c.args.hub.now).text _ _ _ _ (quiet_turn c.args.lines.now c.args.number s.0 c.args.hub.now) s.2
          (c.in-Ok-write_text.ensures.ok ∙ ap (append_known (g.K.Sink.held c.args.sink.now)) text),
      s.3,
    )

pub returns-in-Err-Failed-write_text-clause-seen : goal.returns-in-Err-Failed-write_text-clause-seen
returns-in-Err-Failed-write_text-clause-seen g c =
    let s = c.in-Ok.ensures.seen in
    let calls = turn_calls c.args.lines.now c.args.number s.0 c.args.hub.now in
    let text : c.as_slice.result.now ≡ (turn_done c.args.lines.now c.args.number s.0 c.args.hub.now).text = c.as_slice.ensures ∙ ap (λ (h : Hub). h.text) s.3 in
    let part = c.in-Err-Failed-write_text.ensures.err in (
      s.0,
      s.1,
      told_part WriteFault calls (turn_done c.args.lines.now c.args.number s.0 c.args.hub.now).text part.0 _ _ _ _ (quiet_turn c.args.lines.now c.args.number s.0 c.args.hub.now) s.2
          (subst (λ (t : List ℕ). part.0 < length t) text part.1, refl)
          (part.2 ∙ ap (λ (t : List ℕ). append_known (g.K.Sink.held c.args.sink.now) (take part.0 t)) text),
      tt,
    )

pub returns-in-Err-Memory-write_text-clause-seen : goal.returns-in-Err-Memory-write_text-clause-seen
returns-in-Err-Memory-write_text-clause-seen g c =
    let s = c.in-Ok.ensures.seen in
    let calls = turn_calls c.args.lines.now c.args.number s.0 c.args.hub.now in
    let text : c.as_slice.result.now ≡ (turn_done c.args.lines.now c.args.number s.0 c.args.hub.now).text = c.as_slice.ensures ∙ ap (λ (h : Hub). h.text) s.3 in
    let part = c.in-Err-Memory-write_text.ensures.err in (
      s.0,
      s.1,
      told_part Memory calls (turn_done c.args.lines.now c.args.number s.0 c.args.hub.now).text part.0 _ _ _ _ (quiet_turn c.args.lines.now c.args.number s.0 c.args.hub.now) s.2
          (inl refl)
          (part.2 ∙ ap (λ (t : List ℕ). append_known (g.K.Sink.held c.args.sink.now) (take part.0 t)) text),
      tt,
    )
