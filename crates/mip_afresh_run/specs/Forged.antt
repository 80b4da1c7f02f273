-- The packets that outsiders make, and what these are made of, without how it lies in memory.
use Rattle.std.specs.Prelude.{ℕ, List, Option, Some, None}
use Rattle.mip_packets.specs.Says.{kind_of}
use Rattle.mip_schedule.specs.declared.event.Event.{Event}
use Rattle.mip_schedule.specs.declared.event.Event.TheVariants.{Probe, Bind, Tell}
use Rattle.mip_links.specs.Table.{Post}
use Rattle.mip_history.specs.Outsiders as runs
use Rattle.mip_history.specs.Outsiders.{probe_packet, update_packet, test_packet}
use Rattle.mip_afresh_run.specs.declared.told.Told.{Told}
use Rattle.mip_afresh_run.specs.declared.asking.Asking.{Asking}
use Rattle.mip_afresh_run.specs.declared.binding.Binding.{Binding}

abbrev pub told_seen : Told → runs.Told
told_seen t = record { index = t.index; token = t.token.0 }

abbrev pub asking_seen : Asking → runs.Asking
asking_seen a = record { kind = kind_of a.kind; cookie = a.cookie.0 }

abbrev pub binding_seen : Binding → runs.Binding
binding_seen b = record {
  source = b.ends.source;
  peer = b.ends.peer;
  home = b.ends.home;
  careof = b.ends.careof;
  sequence = b.sequence;
  lifetime = b.lifetime;
  number = b.number;
}

-- the init, update or test that an outsider makes of the packets that were posted; none where the event makes none
abbrev pub forged : List Post → Event → Option (List ℕ)
forged posts (Probe outsider link careof source peer cookie) = Some (probe_packet careof source peer cookie.0)
forged posts (Bind outsider link ends sequence lifetime home_test careof_test number) =
    update_packet (record { source = ends.source; peer = ends.peer; home = ends.home; careof = ends.careof; sequence = sequence; lifetime = lifetime; number = number }) posts home_test careof_test
forged posts (Tell outsider link test probe) = test_packet posts test probe
forged posts _ = None
