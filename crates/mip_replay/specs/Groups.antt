-- What events of one kind make of a run. An event of another kind makes nothing of it.
use Rattle.mip_schedule.specs.declared.event.Event.{Event}
use Rattle.mip_schedule.specs.declared.event.Event.TheVariants.{Inject, Probe, Bind, Tell, Payload, Refresh, Plan, Ask}
use Rattle.mip_history.specs.Setup.{Setup}
use Rattle.mip_history.specs.Runs.{Run}
use Rattle.mip_history.specs.Permitted.{happens}

-- an outsider posts its own bytes, the init of a test, or a test
abbrev pub posted_by : Setup → Run → Event → Run
posted_by s run (Inject outsider link packet) = happens s run (Inject outsider link packet)
posted_by s run (Probe outsider link careof source peer cookie) = happens s run (Probe outsider link careof source peer cookie)
posted_by s run (Tell outsider link test probe) = happens s run (Tell outsider link test probe)
posted_by s run _ = run

-- an outsider posts an update
abbrev pub bound_by : Setup → Run → Event → Run
bound_by s run (Bind outsider link ends sequence lifetime home_test careof_test number) =
    happens s run (Bind outsider link ends sequence lifetime home_test careof_test number)
bound_by s run _ = run

-- a node is asked something
abbrev pub asked_by : Setup → Run → Event → Run
asked_by s run (Payload node to proto payload) = happens s run (Payload node to proto payload)
asked_by s run (Refresh node home) = happens s run (Refresh node home)
asked_by s run (Plan node valid preferred) = happens s run (Plan node valid preferred)
asked_by s run (Ask node) = happens s run (Ask node)
asked_by s run _ = run
