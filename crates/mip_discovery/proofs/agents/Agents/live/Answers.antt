use Rattle.std.proofs.Common.{◌≡◌, ◌∙◌, rules}
use Rattle.std.specs.Prelude.{option_map, slice_get}
use Rattle.mip_discovery.specs.Heard.{live}
use Rattle.mip_discovery.proofs.ViewLaws.{live_stands}
use Rattle.mip_discovery.proofs.agents.Agents.live.Goals as goal

pub returns-clause-answers : goal.returns-clause-answers
returns-clause-answers c =
    λ past stands.
    let found : c.live_at.result ≡ option_map (λ x. x.address) (slice_get (live c.args.now.0 c.args.self.now.agents) c.args.place) = search rules in
    found ∙ live_stands c.args.self.now past c.args.now.0 c.args.place stands
