-- What a scene is of: the version and the events of the schedule, the entries before a place, the moment before the first, and the run
-- that is led along to the place.
use Rattle.mip_past_text.specs.declared.scene.Scene.{Scene}
use Rattle.mip_past_text.specs.Text.{Front}

abbrev pub front_of : Scene → Front
front_of s = record { version = s.version; start = s.past.start.0; events = s.events.now; past = s.past.entries.now; led = s.led.now }
