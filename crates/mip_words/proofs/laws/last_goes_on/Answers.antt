use Rattle.mip_words.proofs.LastLaws.{last_where-push}
use Rattle.mip_words.proofs.laws.last_goes_on.Goals as goal

pub returns : goal.returns
returns c = λ p xs x. last_where-push p xs x
