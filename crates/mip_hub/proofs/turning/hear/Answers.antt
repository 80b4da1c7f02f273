use Rattle.std.proofs.Common.{refl}
use Rattle.std.specs.Prelude.{Some, None}
use Rattle.mip_hub.proofs.CallLaws.{received, deaf}
use Rattle.mip_hub.proofs.TurnLaws.{next_of, next_seen, some_seen, none_seen, heard}
use Rattle.mip_hub.proofs.turning.hear.Goals as goal

pub returns-in-Ok-Some-clause-seen : goal.returns-in-Ok-Some-clause-seen
returns-in-Ok-Some-clause-seen g c = (
  Some _,
  some_seen _ c.in-Ok-Some.count c.receive.new.into _ c.receive.auto.into refl (rw c.in-Ok-Some.field-0-is at c.in-Ok-Some.ensures.came),
  heard _ c.pass.result _ _ _ (received _ _ _ _ c.in-Ok-Some.ensures.sent c.in-Ok-Some.ensures.calls) c.pass.ensures.goes,
  c.pass.ensures.hub,
)

pub returns-in-Ok-None-clause-seen : goal.returns-in-Ok-None-clause-seen
returns-in-Ok-None-clause-seen g c = (None, none_seen _ c.receive.new.into (rw c.in-Ok-None.field-0-is at c.in-Ok-None.ensures.came), received _ _ _ _ c.in-Ok-None.ensures.sent c.in-Ok-None.ensures.calls, refl)

pub returns-in-Err-clause-seen : goal.returns-in-Err-clause-seen
returns-in-Err-clause-seen g c = (next_of _, next_seen _, deaf _ _ _ _ _ c.in-Err.ensures.sent c.in-Err.ensures.calls, tt)
