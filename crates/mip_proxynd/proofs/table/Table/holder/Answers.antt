use Rattle.std.proofs.Common.{ap, sym, ◌∙◌}
use Rattle.std.specs.Prelude.{Option, option_map}
use Rattle.mip_words.specs.declared.ids.LinkId.{LinkId}
use Rattle.mip_proxynd.specs.declared.neighbour_entry.NeighbourEntry.{NeighbourEntry}
use Rattle.mip_proxynd.specs.Adverts.{adverts_heard}
use Rattle.mip_proxynd.specs.Tables.{holder_of}
use Rattle.mip_proxynd.proofs.TableLaws.{claim_answers}
use Rattle.mip_proxynd.proofs.table.Table.holder.Goals as goal

pub returns-clause-heard : goal.returns-clause-heard
returns-clause-heard c = λ heard is. c.layer.ensures ∙ ap (λ (o : Option NeighbourEntry). option_map (λ kept. kept.layer) o) (is c.args.link.0 c.args.address.0)

pub returns-clause-standing : goal.returns-clause-standing
returns-clause-standing c = λ h is claim stands single same.
    c.layer.ensures ∙ ap (λ (o : Option NeighbourEntry). option_map (λ kept. kept.layer) o) (is c.args.link.0 c.args.address.0)
    ∙ ap (λ (l : LinkId). holder_of l.0 c.args.address.0 (adverts_heard h)) (sym same) ∙ claim_answers c.args.address single h claim stands
