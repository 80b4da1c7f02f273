use Rattle.std.proofs.Common.{◌∙◌, ap}
use Rattle.mip_proxynd.specs.Claims.{Rows, row_of}
use Rattle.mip_proxynd.proofs.ClaimLaws.{row_is_claim}
use Rattle.mip_proxynd.proofs.address_claims.AddressClaims.claim.Goals as goal

pub returns-clause-last : goal.returns-clause-last
returns-clause-last c = λ h is single. c.found.ensures ∙ ap (λ (rows : Rows). row_of rows c.args.address.0) is ∙ row_is_claim h c.args.address single
