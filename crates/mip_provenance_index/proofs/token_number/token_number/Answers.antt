use Rattle.std.proofs.Common.{rules}
use Rattle.mip_provenance_index.proofs.Maps.{spelled_bytes}
use Rattle.mip_provenance_index.proofs.token_number.token_number.Goals as goal

pub returns-clause-spelled : goal.returns-clause-spelled
returns-clause-spelled c = spelled_bytes c.args.token.0 (search rules) (search rules)
