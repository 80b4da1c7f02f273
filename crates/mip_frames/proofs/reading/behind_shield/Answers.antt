use Rattle.std.proofs.Common.{arith, drop, length, ◌-◌, length-drop}
use Rattle.std.proofs.lemmas.List.{take_all}
use Rattle.mip_frames.proofs.reading.behind_shield.Goals as goal

pub returns : goal.returns
returns c = take_all (length c.args.rest.now - 32) (drop 32 c.args.rest.now) (omega (arith, length-drop 32 c.args.rest.now))
