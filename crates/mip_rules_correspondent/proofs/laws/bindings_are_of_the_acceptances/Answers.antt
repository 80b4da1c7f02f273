use Rattle.mip_rules_correspondent.proofs.Acceptances.{cache-stands, held-answers, holds-answers, floor-answers, full-answers}
use Rattle.mip_rules_correspondent.proofs.laws.bindings_are_of_the_acceptances.Goals as goal

pub returns-clause-stands : goal.returns-clause-stands
returns-clause-stands c = λ room numbers past rises. cache-stands room numbers past rises

pub returns-clause-held : goal.returns-clause-held
returns-clause-held c = λ room numbers past now home rises all. held-answers room numbers past rises now home all

pub returns-clause-holds : goal.returns-clause-holds
returns-clause-holds c = λ room numbers past now home careof rises all. holds-answers room numbers past rises now home all careof

pub returns-clause-floor : goal.returns-clause-floor
returns-clause-floor c = λ room numbers past now home rises all. floor-answers room numbers past rises now home all

pub returns-clause-full : goal.returns-clause-full
returns-clause-full c = λ room numbers past now home rises all. full-answers room numbers past rises now home all
