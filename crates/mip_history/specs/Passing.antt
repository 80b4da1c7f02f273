-- What an event does to time and to the lives of nodes.
use Rattle.std.specs.Prelude.{ℕ, ◌==◌, if◌then◌else◌}
use Rattle.mip_schedule.specs.declared.event.Event.{Event}
use Rattle.mip_schedule.specs.declared.event.Event.TheVariants.{Wait, Restart}

-- by how much it moves the moment on
abbrev pub waited_by : Event → ℕ
waited_by (Wait ms) = ms
waited_by _ = 0

-- how often it restarts a node
abbrev pub restarted_by : ℕ → Event → ℕ
restarted_by n (Restart node) = if n == node.0 then 1 else 0
restarted_by n _ = 0
