use Rattle.mip_schedule.specs.Schedules.{content}
use Rattle.mip_history.specs.Permitted.{permitted}
use Rattle.mip_trace_round_trip.proofs.Spelled.{all_spelled, read_back}
use Rattle.mip_trace_round_trip.proofs.laws.trace_is_read_back.Goals as goal

pub returns-clause-spelled : goal.returns-clause-spelled
returns-clause-spelled c = λ fit.
    let s = content c.args.schedule.now in
    all_spelled s.declarations (permitted s) (c.entries_name_what_is_declared.ensures s c.lawful.ensures c.few.ensures) fit

pub returns-clause-read_back : goal.returns-clause-read_back
returns-clause-read_back c = λ fit short.
    let s = content c.args.schedule.now in
    read_back s.declarations (permitted s) c.few.ensures c.names_found.ensures
    (all_spelled s.declarations (permitted s) (c.entries_name_what_is_declared.ensures s c.lawful.ensures c.few.ensures) fit short)
