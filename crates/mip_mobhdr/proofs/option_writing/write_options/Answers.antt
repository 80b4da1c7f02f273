use Rattle.std.proofs.Common.{◌∙◌, ap}
use Rattle.mip_mobhdr.specs.OptionValues.{set_values}
use Rattle.mip_mobhdr.specs.OptionWriting.{canonical}
use Rattle.mip_mobhdr.proofs.OptionsCanonical.{appends_options, appends_whole}
use Rattle.mip_mobhdr.proofs.option_writing.write_options.Goals as goal

pub returns-clause-spelled : goal.returns-clause-spelled
returns-clause-spelled c =
    appends_options _ (set_values c.args.options.now) c.args.out.now c.extend.new.self c.as_slice.result.now c.extend.ensures (c.as_slice.ensures.value ∙ c.area_of-area.ensures.exact) c.area_of-area.ensures.fits

pub returns-clause-whole : goal.returns-clause-whole
returns-clause-whole c =
    let v = set_values c.args.options.now in
    let is = c.as_slice.ensures.value ∙ c.area_of-area.ensures.exact ∙ ap (λ n. canonical n v) c.len.ensures.is in
    appends_whole v c.args.out.now c.extend.new.self c.as_slice.result.now c.extend.ensures is
