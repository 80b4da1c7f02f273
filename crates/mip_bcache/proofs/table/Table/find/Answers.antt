use Rattle.std.proofs.Common.{sym, ap, ◌∙◌, arith}
use Rattle.std.specs.Prelude.{option_map}
use Rattle.mip_chain.specs.Chain.{find}
use Rattle.mip_chain.specs.declared.slot.Slot.{Slot}
use Rattle.mip_bcache.specs.Table.{seen}
use Rattle.mip_bcache.proofs.Puts.{as_many}
use Rattle.mip_bcache.proofs.Searches.{row_at_place}
use Rattle.mip_bcache.proofs.table.Table.find.Goals as goal

pub index-requires : goal.index-requires
index-requires c =
    let long = c.args.self.now.homes.ok.0 in
    let many = as_many (seen c.args.self.now) c.requires in
    let within = c.in-Ok.ensures.found.inside in
    omega arith

pub returns-in-Ok : goal.returns-in-Ok
returns-in-Ok c =
    let t = seen c.args.self.now in
    let place = c.in-Ok.ensures.found in
    c.get.ensures
    ∙ ap (λ (s : Slot). option_map (λ x. x.value) (find s.0 t.chain.items)) c.index.ensures
    ∙ row_at_place t.chain.items t.homes c.index.result.now c.requires.filled c.in-Ok.at place.inside
    ∙ sym place.found
