use Rattle.mip_law_security.proofs.Naming.{straight_held, within_held}
use Rattle.mip_law_security.proofs.laws.home_options_at_a_mobile_need_their_binding.Goals as goal

pub returns : goal.returns
returns c = record {
  straight = λ k now number shield bytes p home option none read. straight_held k now number shield bytes p home option none read;
  within = λ k now number shield bytes p home option none outer read tunnel inside. within_held k now number shield bytes p home option none outer read tunnel inside;
}
