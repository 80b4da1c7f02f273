use Rattle.std.proofs.Common.{subst, Result, Ok, Err, IfOk, drop, ℕ, List, arith}
use Rattle.mip_words.specs.Numbers.{IsBytes}
use Rattle.mip_mobhdr.specs.declared.bad_option.BadOption.{BadOption}
use Rattle.mip_mobhdr.specs.declared.options.Options.{Options}
use Rattle.mip_mobhdr.specs.OptionValues.{values}
use Rattle.mip_mobhdr.specs.OptionReading.{options_of, GivesAt}
use Rattle.mip_mobhdr.specs.OptionSpelling.{IsSpelled}
use Rattle.mip_mobhdr.proofs.OptionTaking.{options_spelled}
use Rattle.mip_mobhdr.proofs.OptionsAgain.{options_read}
use Rattle.mip_mobhdr.proofs.option_reading.read_options.Goals as goal

is_found : (start : ℕ) (message : List ℕ) (r : Result Options BadOption) → IsBytes message → GivesAt values r (options_of start message) → IfOk r (λ o. IsSpelled (values o) (drop start message))
is_found start message (Ok o) are e = options_spelled start message (values o) are e
is_found start message (Err bad) are e = tt

pub returns-clause-found : goal.returns-clause-found
returns-clause-found c = is_found c.args.start c.args.message.now c.spanned.result (λ i. omega (arith, c.type_inv.message i)) c.spanned.ensures.exact

pub returns-clause-only : goal.returns-clause-only
returns-clause-only c = λ v is. subst (GivesAt values c.spanned.result) (options_read c.args.start c.args.message.now v is) c.spanned.ensures.exact
