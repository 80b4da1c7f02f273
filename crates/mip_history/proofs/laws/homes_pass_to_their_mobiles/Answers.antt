use Rattle.mip_history.proofs.Residents.{passes_home, leaves_free}
use Rattle.mip_history.proofs.laws.homes_pass_to_their_mobiles.Goals as goal

pub returns : goal.returns
returns c = record {
  passes = λ s run who link home on held m agent other is there first. passes_home s run who link home on held m agent other is there first;
  free = λ s run who link home on held none. leaves_free s run who link home on held none;
}
