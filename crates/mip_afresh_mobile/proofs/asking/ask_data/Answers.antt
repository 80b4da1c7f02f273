use Rattle.mip_rules_correspondent.specs.Calls as parts
use Rattle.mip_afresh_mobile.proofs.Turned.{shows-seen, part-answered}
use Rattle.mip_afresh_mobile.proofs.asking.ask_data.Goals as goal

pub returns : goal.returns
returns c = λ t held shows.
    let turn = c.args.turn.now in
    let call = parts.Send c.args.to.address c.args.payload.now.proto c.args.payload.now.bytes.now in
    c.pass_on.ensures call t
    (part-answered turn t c.identity.result.now call c.in_ok-answers.answers shows (c.identity.ensures t.known (shows-seen turn t shows)) (c.in_ok-answers.ensures turn.now.0 t.known.part.known held))
    shows
