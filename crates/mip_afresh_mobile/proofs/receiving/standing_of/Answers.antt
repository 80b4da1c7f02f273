use Rattle.std.proofs.Common.{Bool, ap, ◌∙◌}
use Rattle.mip_words.specs.declared.address.Address.{Address}
use Rattle.mip_reception.specs.declared.address_match.AddressMatch.{AddressMatch}
use Rattle.mip_rules_mobile.specs.declared.attachment.Attachment.{Attachment}
use Rattle.mip_rules_mobile.specs.HomeQuestions.{home_of}
use Rattle.mip_rules_mobile.specs.ReceivingRules.{is_address_of, takes_route}
use Rattle.mip_afresh_mobile.proofs.Turned.{shows-seen}
use Rattle.mip_afresh_mobile.proofs.receiving.standing_of.Goals as goal

pub returns : goal.returns
returns c = λ t holds shows.
    let head = c.args.head.now in
    let seen = shows-seen c.args.turn.now t shows in
    let stands = c.standing-standing.ensures t.known seen in
    let own = c.home-home.ensures t.known seen in
    let home = c.home-home.result in
    let mk : Bool → Bool → Bool → AddressMatch = λ mine route there. record { is_mine = mine; takes_route = route; holds = there } in
    let mine = c.is_address_of.ensures ∙ ap (λ (s : Attachment). is_address_of s home head.destination) stands ∙ ap (λ (h : Address). is_address_of t.known.standing h head.destination) own in
    let route = c.takes_route.ensures ∙ ap (λ (s : Attachment). takes_route s home head.route) stands ∙ ap (λ (h : Address). takes_route t.known.standing h head.route) own in
    ap (λ (b : Bool). mk b c.takes_route.result c.args.holds) mine
    ∙ ap (λ (b : Bool). mk (is_address_of t.known.standing (home_of t.known) head.destination) b c.args.holds) route
    ∙ ap (λ (b : Bool). mk (is_address_of t.known.standing (home_of t.known) head.destination) (takes_route t.known.standing (home_of t.known) head.route) b) holds
