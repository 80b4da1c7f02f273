use Rattle.std.proofs.Common.{◌≡◌, subst}
use Rattle.std.specs.Prelude.{OnOk}
use Rattle.mip_afresh.specs.Tellings.{TellingSeen}
use Rattle.mip_afresh_nodes.proofs.DeliveryLaws.{handed_run, handed_whole, done_whole}
use Rattle.mip_afresh_nodes.proofs.delivering.deliver.Goals as goal

pub take-requires : goal.take-requires
take-requires c =
    handed_run c.args.telling.now c.deliver.new.self c.args.number c.args.keep c.in_ok-arrival.arrival c.in_ok-arrival.ensures c.in-Handed.node c.in-Handed.shield c.in-Handed.packet c.in-Handed.is
    c.requires

pub returns-in-Done : goal.returns-in-Done
returns-in-Done c = done_whole c.args.telling.now c.deliver.new.self c.args.number c.args.keep c.in_ok-arrival.arrival c.in_ok-arrival.ensures c.in-Done.is

pub returns-in-Handed : goal.returns-in-Handed
returns-in-Handed c =
    subst (λ (t : TellingSeen). OnOk c.take.result (c.take.new.telling ≡ t))
    (handed_whole c.args.telling.now c.deliver.new.self c.args.number c.args.keep c.in_ok-arrival.arrival c.in_ok-arrival.ensures c.in-Handed.node c.in-Handed.shield c.in-Handed.packet c.in-Handed.is)
    c.take.ensures
