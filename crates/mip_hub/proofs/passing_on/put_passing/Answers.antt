use Rattle.mip_hub.specs.Passing.{passed_text}
use Rattle.mip_hub.proofs.passing_on.put_passing.Goals as goal

pub returns-in-Gone : goal.returns-in-Gone
unfolding passed_text
returns-in-Gone c = rw c.in-Gone.is c.put_because-in-Gone.ensures
