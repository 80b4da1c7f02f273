use Rattle.mip_proxynd.proofs.Standing.{advert_stands, holds_stands}
use Rattle.mip_proxynd.proofs.laws.claims_are_told.Goals as goal

pub returns-clause-adverts : goal.returns-clause-adverts
returns-clause-adverts c = advert_stands

pub returns-clause-holds : goal.returns-clause-holds
returns-clause-holds c = holds_stands
