use Rattle.mip_provenance_index.proofs.Noting.{stands_new}
use Rattle.mip_provenance_index.proofs.provenance_index.ProvenanceIndex.new.Goals as goal

pub returns : goal.returns
returns c =
    stands_new
    (record {
      addresses = c.new.result;
      nodes = c.new-2.result;
      names = c.new-3.result;
      heard = c.new-4.result;
      early = c.new-5.result;
      made = c.new-6.result;
      updates = c.new-7.result;
    })
    c.new.ensures c.new-2.ensures c.new-3.ensures c.new-4.ensures.known c.new-4.ensures.list c.new-5.ensures c.new-6.ensures c.new-7.ensures.keys c.new-7.ensures.numbers
