use Rattle.mip_config_writing.proofs.GrammarLaws.{in_grammar}
use Rattle.mip_config_writing.proofs.laws.read_is_in_grammar.Goals as goal

pub returns : goal.returns
returns c = in_grammar
