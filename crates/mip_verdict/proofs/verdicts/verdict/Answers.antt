use Rattle.std.proofs.Common.{◌∙◌}
use Rattle.mip_verdict.proofs.BenchLaws.{verdict_same}
use Rattle.mip_verdict.proofs.verdicts.verdict.Goals as goal

pub returns-clause-answers : goal.returns-clause-answers
returns-clause-answers c = λ past stands.
    let j = c.args.judge.now in
    c.from_the_first.ensures ∙ verdict_same j.own j.secrets.now j.moment.0 j.cache.now past c.args.registration.now c.args.message.now stands j.later
