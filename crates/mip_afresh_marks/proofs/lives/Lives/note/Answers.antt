use Rattle.std.proofs.Common.{◌+◌, true, sym, ap, ◌∙◌}
use Rattle.std.specs.Prelude.{◌==◌, if◌then◌else◌}
use Rattle.mip_provenance.specs.declared.known.Known.{Known}
use Rattle.mip_afresh_marks.specs.declared.sight.Sight.{Sight}
use Rattle.mip_afresh_marks.specs.Sighting.{sight_seen}
use Rattle.mip_afresh_marks.specs.Searches.{known_at, known_step}
use Rattle.mip_afresh_marks.proofs.Walks.{agent_step, restart_step}
use Rattle.mip_afresh_marks.proofs.lives.Lives.note.Goals as goal

pub returns-in-Agent : goal.returns-in-Agent
returns-in-Agent c = λ token n below.
    let old = c.args.self.now in
    let m = c.in-Agent.node.0 in
    c.put.ensures n below
    ∙ ap (λ (k : Known). if m == n then (let a : Known = record { is_agent = true; life = k.life } in a) else known_at old n) c.known-life.ensures
    ∙ agent_step (known_at old) m n
    ∙ sym (ap (λ (s : Sight). known_step n (sight_seen token s) (known_at old n)) c.in-Agent.is)

pub returns-in-Restarted : goal.returns-in-Restarted
returns-in-Restarted c = λ token n below.
    let old = c.args.self.now in
    let m = c.in-Restarted.node.0 in
    c.put-in-Restarted.ensures n below
    ∙ ap (λ (k : Known). if m == n then (let a : Known = record { is_agent = k.is_agent; life = k.life + 1 } in a) else known_at old n) c.known-is_agent.ensures
    ∙ restart_step (known_at old) m n
    ∙ sym (ap (λ (s : Sight). known_step n (sight_seen token s) (known_at old n)) c.in-Restarted.is)
