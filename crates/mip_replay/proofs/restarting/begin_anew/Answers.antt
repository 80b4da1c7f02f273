use Rattle.std.proofs.Common.{◌≡◌, true, false, sym, ap, ◌∙◌}
use Rattle.std.specs.Prelude.{Option}
use Rattle.std.specs.Option.{option_map_or}
use Rattle.mip_engine.specs.Nodes.{NodeSeen}
use Rattle.mip_engine.specs.Roles.{is_roaming}
use Rattle.mip_engine.proofs.GoesLaws.{goes_as}
use Rattle.mip_replay.proofs.RestartLaws.{anew_roaming, anew_still}
use Rattle.mip_replay.proofs.restarting.begin_anew.Goals as goal

pub returns-then-is_roaming : goal.returns-then-is_roaming
returns-then-is_roaming c = λ node there.
    let roams : is_roaming node.role ≡ true = ap (λ (o : Option NodeSeen). option_map_or (λ (x : NodeSeen). is_roaming x.role) o false) (sym there) ∙ sym c.is_roaming.ensures ∙ c.if-is_roaming.true in
    goes_as c.act.ensures (λ s run at.
    anew_roaming c.args.engine.now s run at c.args.node.0 node c.args.homes.now c.in_ok-secrets.secrets.value there roams (c.in_ok-secrets.ensures.ok ∙ c.secrets-secrets.ensures node there))

pub returns : goal.returns
returns c = λ node there.
    let still : is_roaming node.role ≡ false = ap (λ (o : Option NodeSeen). option_map_or (λ (x : NodeSeen). is_roaming x.role) o false) (sym there) ∙ sym c.is_roaming.ensures ∙ c.if-is_roaming.false in
    goes_as c.leave_homes.ensures (λ s run at. anew_still c.args.engine.now s run at c.args.node.0 node c.args.homes.now there still)
