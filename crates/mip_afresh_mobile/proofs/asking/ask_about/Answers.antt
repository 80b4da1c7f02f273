use Rattle.std.proofs.Common.{◌≡◌, subst}
use Rattle.mip_words.specs.declared.moment.Moment.{Moment}
use Rattle.mip_ipv6.specs.Packet.{packet as tree}
use Rattle.mip_rules_correspondent.specs.Calls as parts
use Rattle.mip_rules_correspondent.specs.Steps as part_steps
use Rattle.mip_rules_correspondent.specs.Doing.{transition_of}
use Rattle.mip_afresh_rules.specs.Keeping.{IsKept}
use Rattle.mip_afresh_mobile.proofs.Turned.{shows-seen, part-answered}
use Rattle.mip_afresh_mobile.proofs.asking.ask_about.Goals as goal

pub returns : goal.returns
returns c = λ t kept shows.
    let turn = c.args.turn.now in
    let head = c.args.passed.now.packet.head in
    let call = parts.Part c.args.handed.now.number (tree c.args.passed.now.packet) in
    let known = t.known.part.known in
    let by : Moment → Type 0 = λ m. IsKept c.args.handed.now.kept known.cache m.0 head.source head.home
    → c.in_ok-answers.answers ≡ part_steps.answers_of (transition_of c.identity.result.now known m.0 call).steps in
    c.pass_on.ensures call t
    (part-answered turn t c.identity.result.now call c.in_ok-answers.answers shows (c.identity.ensures t.known (shows-seen turn t shows))
    (subst by c.in_ok-at.ensures (c.in_ok-answers.ensures known) kept))
    shows
