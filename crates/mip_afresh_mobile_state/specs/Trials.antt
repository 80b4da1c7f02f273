-- A trial as plain data, as the definitions of return routability have it.
use Rattle.std.specs.Prelude.{ℕ, ◌+◌, ◌%◌, Option, Some, None, option_map, Result, Ok, Err}
use Rattle.mip_words.specs.declared.address.Address.{Address}
use Rattle.mip_words.specs.declared.moment.Moment.{Moment}
use Rattle.mip_bulist.specs.declared.any.Any.{Any}
use Rattle.mip_bulist.specs.declared.any.Any.TheVariants as any
use Rattle.mip_bulist.specs.declared.recent.Recent as recent
use Rattle.mip_bulist.specs.declared.tested.Test as tests
use Rattle.mip_bulist.specs.declared.tested.Tested as tested
use Rattle.mip_bulist.specs.declared.tested.Tested.TheVariants.{Both, Home}
use Rattle.mip_bulist.specs.declared.trial.Trial as trials
use Rattle.mip_bulist.specs.declared.row.Row as rows
use Rattle.mip_bulist.specs.declared.timer.Timer as timers
use Rattle.mip_bulist.specs.declared.list_full.ListFull.{ListFull}
use Rattle.mip_discovery.specs.Retries.{DiscoverySeen}
use Rattle.mip_rules_mobile.specs.Trials as changes
use Rattle.mip_afresh_mobile_state.specs.declared.change.Change.{Change}
use Rattle.mip_afresh_mobile_state.specs.declared.change.Change.TheVariants.{Start, HomeTest, CareofTest, Make, Resequence, Acknowledge, Rest}
use Rattle.mip_afresh_mobile_state.specs.declared.trial.Test.{Test}
use Rattle.mip_afresh_mobile_state.specs.declared.trial.Tested.{Tested}
use Rattle.mip_afresh_mobile_state.specs.declared.trial.Tested.TheVariants as plain
use Rattle.mip_afresh_mobile_state.specs.declared.trial.Stage.{Stage}
use Rattle.mip_afresh_mobile_state.specs.declared.trial.Stage.TheVariants as stages
use Rattle.mip_afresh_mobile_state.specs.declared.trial.Trial.{Trial}
use Rattle.mip_afresh_mobile_state.specs.declared.row.Row.{Row}
use Rattle.mip_afresh_mobile_state.specs.declared.timer.Timer.{Timer}
use Rattle.mip_afresh_mobile_state.specs.declared.discovery.Discovery.{Discovery}

abbrev pub test_seen : Test → tests.Test
test_seen t = record { index = t.index; token = t.token; at = t.at }

abbrev pub tested_seen : Tested → tested.Tested
tested_seen (plain.Both to home careof) = Both to (test_seen home) (test_seen careof)
tested_seen (plain.Home home) = Home (test_seen home)

abbrev pub recent_seen : Trial → recent.Recent
recent_seen t = record { newest = t.newest; middle = t.middle; oldest = t.oldest }

-- a trial with this peer, in this state
abbrev pub trial_in : {S : Type 0} → Address → Trial → S → trials.Trial S
trial_in peer t state = record { peer = peer; next = t.next; recent = recent_seen t; state = state }

abbrev pub staged : Address → Trial → Stage → Any
staged peer t stages.Idle = any.Idle (trial_in peer t (record {}))
staged peer t (stages.Probing aim home_cookie careof_cookie home careof) =
    any.Probing (trial_in peer t (record { aim = aim; home_cookie = home_cookie; careof_cookie = careof_cookie; home = option_map test_seen home; careof = option_map test_seen careof }))
staged peer t (stages.Proved tested) = any.Proved (trial_in peer t (record { tested = tested_seen tested }))
staged peer t (stages.Pending tested last) = any.Pending (trial_in peer t (record { tested = tested_seen tested; last = last }))
staged peer t (stages.Bound aim) = any.Bound (trial_in peer t (record { aim = aim }))

-- the trial with a peer
abbrev pub any_seen : Address → Trial → Any
any_seen peer t = staged peer t t.stage

abbrev pub change_seen : Change → changes.Change
change_seen (Start aim home careof) = changes.Start aim home careof
change_seen (HomeTest sender cookie test) = changes.HomeTest sender cookie (test_seen test)
change_seen (CareofTest sender cookie test) = changes.CareofTest sender cookie (test_seen test)
change_seen Make = changes.Make
change_seen (Resequence last) = changes.Resequence last
change_seen (Acknowledge sequence granted) = changes.Acknowledge sequence granted
change_seen Rest = changes.Rest

-- a trial that has just made an update of these tests
abbrev pub having_made : Moment → Tested → Trial → Trial
having_made now tested t = record {
  next = (t.next + 1) % 65536;
  newest = Some now;
  middle = t.newest;
  oldest = t.middle;
  stage = stages.Pending tested t.next;
}

-- a row whose trial is given up
abbrev pub given_up : Row → Row
given_up r = record { peer = r.peer; trial = record r.trial { stage = stages.Idle } }

abbrev pub row_seen : Row → rows.Row
row_seen r = record { peer = r.peer; trial = Some (any_seen r.peer r.trial) }

abbrev pub timer_seen : Timer → timers.Timer
timer_seen t = record { due = t.due; work = t.work }

abbrev pub discovery_seen : Discovery → DiscoverySeen
discovery_seen d = record { identifier = d.identifier; retries = d.retries; due = d.due.0 }

-- the row that a peer gets, if there is room
abbrev pub given_seen : Option ℕ → Result ℕ ListFull
given_seen (Some row) = Ok row
given_seen None = Err (record {})
