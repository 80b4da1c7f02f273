use Rattle.std.proofs.Common.{ap, ◌∙◌, List, ℕ}
use Rattle.std.specs.Prelude.{Option, option_map}
use Rattle.mip_provenance.specs.Seen.{naming_of}
use Rattle.mip_provenance_index.specs.declared.named.Named.{Named}
use Rattle.mip_provenance_index.specs.Names.{named_at, kept_of, kept_at}
use Rattle.mip_provenance_index.proofs.Keeping.{kept_put}
use Rattle.mip_provenance_index.proofs.names.Names.add.Goals as goal

pub returns : goal.returns
returns c = λ t.
    kept_put (naming_of c.args.naming.now) (named_at c.put.new.self t) (named_at c.args.self.now t) c.renamed-named.result (option_map kept_of c.named.result) t
    (c.in_ok-put.ensures t) c.renamed-named.ensures
    (λ e. ap (λ (o : Option Named). option_map kept_of o) c.named.ensures ∙ ap (λ (u : List ℕ). kept_at c.args.self.now u) e)
