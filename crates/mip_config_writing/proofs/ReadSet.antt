-- What a text is read as is told in one way alone.
use Rattle.std.specs.Prelude.{Result}
use Rattle.std.proofs.Props.{props}
use Rattle.mip_schedule.specs.Faults.{Wrong}
use Rattle.mip_config.specs.Contents.{Content}

pub read_set : IsSet (Result Content Wrong)
read_set = hlevel props
