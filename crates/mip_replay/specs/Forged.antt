-- What outsiders learn from packets, without how it lies in memory.
use Rattle.mip_packets.specs.Says.{kind_of}
use Rattle.mip_history.specs.Outsiders as runs
use Rattle.mip_replay.specs.declared.told.Told.{Told}
use Rattle.mip_replay.specs.declared.asking.Asking.{Asking}
use Rattle.mip_replay.specs.declared.binding.Binding.{Binding}

abbrev pub told : Told → runs.Told
told t = record { index = t.index; token = t.token.0 }

abbrev pub asking : Asking → runs.Asking
asking a = record { kind = kind_of a.kind; cookie = a.cookie.0 }

abbrev pub binding : Binding → runs.Binding
binding b = record { source = b.source; peer = b.peer; home = b.home; careof = b.careof; sequence = b.sequence; lifetime = b.lifetime; number = b.number }
