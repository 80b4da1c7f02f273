use Rattle.std.specs.Prelude.{Option, option_map}
use Rattle.mip_words.specs.declared.address.Address.{Address}
use Rattle.mip_bulist.specs.declared.any.Any.{Any}
use Rattle.mip_rules_mobile.specs.HomeQuestions.{home_of}
use Rattle.mip_rules_mobile.specs.RowQuestions.{trial_of}
use Rattle.mip_rules_mobile.specs.PeerRules.{acks_trial}
use Rattle.mip_afresh_mobile.specs.Asking.{row_trial}
use Rattle.mip_afresh_mobile.proofs.Turned.{shows-seen, asked}
use Rattle.mip_afresh_mobile.proofs.acknowledging.ack_at.Goals as goal

pub returns : goal.returns
returns c = λ t shows.
    let turn = c.args.turn.now in
    let ack = c.args.ack.now in
    let row = c.args.row in
    let seen = shows-seen turn t shows in
    let rule = λ (home : Address) (of : Option Any). acks_trial c.args.number row home ack.status ack.sequence ack.lifetime ack.authenticator c.args.message.now of t in
    let result = c.ack_trial.result in
    let new = c.ack_trial.new.turn in
    asked result new (λ home. rule home (trial_of t.known row)) c.home-home.result (home_of t.known) (c.home-home.ensures t.known seen)
    (asked result new (λ of. rule c.home-home.result of) (option_map row_trial c.trial_of-of.result) (trial_of t.known row) (c.trial_of-of.ensures t.known seen)
    (c.ack_trial.ensures t shows))
