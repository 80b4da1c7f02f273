use Rattle.std.proofs.Common.{sym, subst, rules}
use Rattle.std.specs.Prelude.{List, Option, option_map}
use Rattle.mip_ipv6.specs.Packet.{packet as tree}
use Rattle.mip_mobhdr.specs.declared.message.Message.{Message}
use Rattle.mip_mobhdr.specs.Said.{said}
use Rattle.mip_rules_agent.specs.Rules.{by_role}
use Rattle.mip_homeagent.specs.Changes.{unclaimed}
use Rattle.mip_entries.specs.declared.answer.Answer.{Answer}
use Rattle.mip_homeagent.specs.Showing.{Shows, opened}
use Rattle.mip_homeagent.specs.Contexts.{handing_at, claim_of}
use Rattle.mip_homeagent.proofs.Befores.{unchanged}
use Rattle.mip_homeagent.proofs.receiving.answer_role.Goals as goal

pub returns-in_ok-take_other-in-None-clause-place : goal.returns-in_ok-take_other-in-None-clause-place
returns-in_ok-take_other-in-None-clause-place g c = record { claims = unchanged (g.P.Place.claims c.args.place.now); left = search rules; around = search rules; same = search rules }

pub returns-in_ok-take_other-in-None-clause-shows : goal.returns-in_ok-take_other-in-None-clause-shows
returns-in_ok-take_other-in-None-clause-shows g c = λ t shows.
    let d = c.args.context.now in
    let now = d.moment.0 in
    let k = opened now d.known.now in
    let begins = subst (λ (l : List Answer). Shows now k unclaimed l t) (sym c.in_ok-answers-in-None.ensures) shows in
    let p = tree c.args.packet.now in
    let claim = claim_of (g.P.Place.around c.args.place.now) p.head in
    subst (λ (m : Option Message). Shows now k unclaimed c.take_other.new.answers (by_role (handing_at d claim) p (option_map said m) t))
    (sym c.in-None.is) (c.in_ok-take_other-in-None.ensures claim now k unclaimed t begins)
