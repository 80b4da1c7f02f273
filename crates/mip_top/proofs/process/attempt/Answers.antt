use Rattle.std.proofs.Common.{rules, ◌≡◌}
use Rattle.mip_commands.specs.Given.{words_behind}
use Rattle.mip_top.proofs.process.attempt.Goals as goal

pub returns-clause-obeyed : goal.returns-clause-obeyed
returns-clause-obeyed g c =
    let same : c.deref.result.now ≡ words_behind c.args.given = search rules in
    rw same at c.mip_flushed.ensures.obeyed

pub returns-clause-obeyed_of_some : goal.returns-clause-obeyed_of_some
returns-clause-obeyed_of_some g c =
    let same : c.deref.result.now ≡ words_behind c.args.given = search rules in
    rw same at c.mip_flushed.ensures.obeyed_of_some

pub returns-clause-whole : goal.returns-clause-whole
returns-clause-whole g c =
    let same : c.deref.result.now ≡ words_behind c.args.given = search rules in
    rw same at c.mip_flushed.ensures.whole

pub returns-clause-whole_of_some : goal.returns-clause-whole_of_some
returns-clause-whole_of_some g c =
    let same : c.deref.result.now ≡ words_behind c.args.given = search rules in
    rw same at c.mip_flushed.ensures.whole_of_some

pub returns-clause-front : goal.returns-clause-front
returns-clause-front g c =
    let same : c.deref.result.now ≡ words_behind c.args.given = search rules in
    rw same at c.mip_flushed.ensures.front

pub returns-clause-ends : goal.returns-clause-ends
returns-clause-ends g c =
    let same : c.deref.result.now ≡ words_behind c.args.given = search rules in
    rw same at c.mip_flushed.ensures.ends
