use Rattle.std.proofs.Common.{rules, inl, inr, refl}
use Rattle.mip_config.specs.Configs.{content}
use Rattle.mip_node.specs.Faults.{CutAfter}
use Rattle.mip_node.specs.Runs.{Start, start, outside}
use Rattle.mip_node.specs.RunsLaws.{stand}
use Rattle.mip_node.specs.Settings.{said}
use Rattle.mip_node.proofs.Calling.{run_on, run_refused}
use Rattle.mip_node.proofs.Ends.{start_on, ran_on}
use Rattle.mip_node.proofs.running.run.Goals as goal

pub returns-in_err-setting-clause-memory : goal.returns-in_err-setting-clause-memory
returns-in_err-setting-clause-memory g c = λ _. inl (record { unread = refl; untaken = refl; unsent = refl; unwritten = refl })

pub returns-in_err-node-clause-memory : goal.returns-in_err-node-clause-memory
returns-in_err-node-clause-memory g c = λ _. inl (record { unread = refl; untaken = refl; unsent = refl; unwritten = refl })

pub returns-clause-ok : goal.returns-clause-ok
returns-clause-ok g c =
    ran_on c.run_turns.result (content c.args.config.now) (said c.in_ok-setting.setting) (g.C.Clock.ahead c.args.clock.now) (g.L.Link.coming c.args.link.now) (g.L.Link.coming c.listen.new.link)
    (g.L.Link.sent c.args.link.now) (g.L.Link.sent c.listen.new.link) (g.K.Sink.held c.args.sink.now) c.args.turns
    (stand (g.C.Clock.ahead c.run_turns.new.clock) (g.L.Link.coming c.run_turns.new.link) c.run_turns.new.node (g.L.Link.sent c.run_turns.new.link) (g.K.Sink.held c.run_turns.new.sink))
    c.in_ok-setting.ensures c.listen.ensures.kept.1 c.listen.ensures.kept.0 c.run_turns.ensures.ok

pub returns-clause-memory : goal.returns-clause-memory
returns-clause-memory g c = λ failed.
    inr (start_on
    (λ (s : Start). CutAfter s c.args.turns (outside (g.C.Clock.ahead c.run_turns.new.clock) (g.L.Link.coming c.run_turns.new.link) (g.L.Link.sent c.run_turns.new.link) (g.K.Sink.held c.run_turns.new.sink)))
    (content c.args.config.now) (said c.in_ok-setting.setting) (g.C.Clock.ahead c.args.clock.now) (g.L.Link.coming c.args.link.now) (g.L.Link.coming c.listen.new.link)
    (g.L.Link.sent c.args.link.now) (g.L.Link.sent c.listen.new.link) (g.K.Sink.held c.args.sink.now)
    c.in_ok-setting.ensures c.listen.ensures.kept.1 c.listen.ensures.kept.0 (c.run_turns.ensures.memory failed))

pub returns-clause-calls : goal.returns-clause-calls
returns-clause-calls g c = run_on _ _ _ c.in_ok-listen.ensures.listens c.run_turns.ensures.calls

pub returns-in_err-listen-clause-calls : goal.returns-in_err-listen-clause-calls
returns-in_err-listen-clause-calls g c = run_refused _ _ c.in_err-listen.ensures.refused (search rules) (search rules) (search rules)
