use Rattle.std.proofs.Common.{ap, ◌∙◌}
use Rattle.mip_words.specs.declared.address.Address.{Address}
use Rattle.mip_reception.specs.Replies.{reply_packet}
use Rattle.mip_rules_mobile.specs.HomeQuestions.{home_of}
use Rattle.mip_rules_mobile.specs.OutRules.{goes_back, replies}
use Rattle.mip_afresh_mobile.proofs.Turned.{shows-seen, asked}
use Rattle.mip_afresh_mobile.proofs.refusing.reply_to.Goals as goal

pub returns : goal.returns
unfolding replies
returns c = λ t shows.
    let from = λ (own : Address). reply_packet own c.args.source c.args.bytes.now c.args.reply in
    asked c.go_back.result c.go_back.new.turn (λ packet. goes_back packet t) c.in_ok-packet.packet (from (home_of t.known))
    (c.in_ok-packet.ensures.bytes ∙ ap from (c.home.ensures t.known (shows-seen c.args.turn.now t shows)))
    (c.go_back.ensures t shows)
