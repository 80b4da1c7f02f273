use Rattle.std.specs.BTreeSet.{contains}
use Rattle.mip_provenance_index.specs.Heard.{Coming, coming_cmp}
use Rattle.mip_provenance_index.proofs.Maps.{come_step}
use Rattle.mip_provenance_index.proofs.heard.Heard.add.Goals as goal

pub returns-in_ok-push-clause-known : goal.returns-in_ok-push-clause-known
returns-in_ok-push-clause-known c = λ o t.
    come_step c.args.outsider c.args.token.0 c.coming-coming.result c.coming-coming.ensures.key c.coming-coming.ensures.spelled (λ (k : Coming). contains coming_cmp _ k) (λ (k : Coming). contains coming_cmp c.args.self.now.known k)
    (λ k. c.in_ok-insert.ensures.updates.0 k) o t
