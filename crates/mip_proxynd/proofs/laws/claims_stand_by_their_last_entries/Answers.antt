use Rattle.mip_proxynd.proofs.ClaimLaws.{row_is_claim}
use Rattle.mip_proxynd.proofs.RowLaws.{rows_rise, rows_are_own}
use Rattle.mip_proxynd.proofs.laws.claims_stand_by_their_last_entries.Goals as goal

pub returns-clause-last : goal.returns-clause-last
returns-clause-last c = λ a single. row_is_claim c.args.history.now a single

pub returns-clause-rise : goal.returns-clause-rise
returns-clause-rise c = rows_rise c.args.history.now

pub returns-clause-own : goal.returns-clause-own
returns-clause-own c = rows_are_own c.args.history.now
