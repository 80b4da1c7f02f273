use Rattle.std.proofs.Common.{◌∙◌, ap}
use Rattle.mip_words.specs.Addresses.{address_read}
use Rattle.mip_words.proofs.AddressLaws.{found_if, spelled_is_read}
use Rattle.mip_words.proofs.address.Address.read.Goals as goal

pub returns-clause-found : goal.returns-clause-found
returns-clause-found c = found_if c.args.text.now c.read_digits.result c.read_digits.ensures

pub returns-clause-only : goal.returns-clause-only
returns-clause-only c = λ a small e. c.read_digits.ensures ∙ ap address_read e ∙ spelled_is_read a small
