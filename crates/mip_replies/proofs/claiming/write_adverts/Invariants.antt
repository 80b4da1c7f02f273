use Rattle.std.proofs.Common.{◌≡◌, ◌-◌, ◌≤◌, [], length}
use Rattle.std.specs.Io.KnownBytes.{append_known}
use Rattle.mip_schedule.specs.Schedules.{content}
use Rattle.mip_replay.specs.Permitted.{permitted}
use Rattle.mip_proxynd.specs.Claims.{rows_in}
use Rattle.mip_proxynd.specs.Text.{adverts}
use Rattle.mip_replay.specs.Pieces.{IsRunOf}
use Rattle.mip_replies.proofs.claiming.write_adverts.Given as goal

abbrev pub invariant-loop-declarations : goal.invariant-loop-declarations
invariant-loop-declarations g l = record {
  stands : IsRunOf l.run (content l.fn.schedule);
  written : g.K.Sink.held l.sink ≡ append_known (g.K.Sink.held l.initial.sink) (adverts l.fn.schedule.declarations l.run.told);
  claims : l.claims ≡ rows_in [] l.run.told;
  faults : g.K.Sink.faults l.initial.sink ≤ g.K.Sink.faults l.sink;
}

abbrev pub decreases-loop-declarations : goal.decreases-loop-declarations
decreases-loop-declarations g l = length (permitted (content l.fn.schedule)) - length l.run.told
