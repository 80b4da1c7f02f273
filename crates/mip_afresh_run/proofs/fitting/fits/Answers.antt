use Rattle.mip_schedule.specs.Schedules.{content}
use Rattle.mip_afresh_run.proofs.FittingLaws.{fit}
use Rattle.mip_afresh_run.proofs.fitting.fits.Goals as goal

pub returns : goal.returns
returns c = fit (content c.args.schedule.now) c.lawful.ensures c.few.ensures
