use Rattle.std.proofs.Common.{rules, ◌≡◌}
use Rattle.std.specs.Prelude.{IsSomeAnd}
use Rattle.mip_reception.specs.Registrations.{registration_in}
use Rattle.mip_rules_agent.specs.Verdicts.{verdict}
use Rattle.mip_rules_agent.specs.Rules.{bench}
use Rattle.mip_homeagent.proofs.Registers.{own-of}
use Rattle.mip_homeagent.proofs.agent.HomeAgent.judge_home.Goals as goal

pub returns-clause-accepts : goal.returns-clause-accepts
returns-clause-accepts c = λ home careof sequence granted is.
    let s = c.args.self.now in
    let asks = registration_in c.args.update.now.source c.args.update.now.home c.args.update.now.message.now in
    let found : IsSomeAnd asks (λ r. c.verdict.result ≡ verdict (bench s.identity s.known c.args.now.0 r) c.args.shield c.args.claim r) = search rules in
    own-of s.identity s.known c.args.now.0 c.args.shield c.args.claim asks c.verdict.result home careof sequence granted found is
