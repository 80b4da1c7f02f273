-- A run that is led along to a place of its history, and what mobiles know there: a node knows things between two events, so they are
-- asked behind the events that lie wholly before the place.
use Rattle.std.specs.Prelude.{ℕ, Option, Some, None, slice_get}
use Rattle.mip_words.specs.declared.address.Address.{Address}
use Rattle.mip_rules_mobile.specs.Known.{Known}
use Rattle.mip_schedule.specs.Contents.{Content}
use Rattle.mip_history.specs.Setup.{Host, Kind, setup_of}
use Rattle.mip_history.specs.Setup.Kind.{Mobile}
use Rattle.mip_history.specs.Knowing.{mobile_known_in}
use Rattle.mip_afresh_mobile_state.specs.Mobiles.{MobileSeen, seen_of}
use Rattle.mip_afresh.specs.Tellings.{TellingSeen}
use Rattle.mip_afresh_run.specs.Runs.{behind}
use Rattle.mip_past_led.specs.Whole.{whole_before}

-- what a schedule declares, and the run of its events wholly before a place
abbrev pub LedSeen : Type 0
LedSeen = TellingSeen

abbrev pub led_to : Content → (place : ℕ) → LedSeen
led_to c place = behind c (whole_before (setup_of c) c.events place)

-- what node n knows there, if it is a mobile
abbrev pub known_by : LedSeen → (n : ℕ) → (home : Address) → Kind → Option Known
known_by t n home (Mobile agent) = Some (mobile_known_in t.setup t.run n home agent)
known_by t n home _ = None

abbrev pub known_as : LedSeen → (n : ℕ) → Option Host → Option Known
known_as t n None = None
known_as t n (Some host) = known_by t n host.address host.kind

abbrev pub mobile_at : LedSeen → (n : ℕ) → Option Known
mobile_at t n = known_as t n (slice_get t.setup.hosts n)

-- a mobile that is led along shows what it knows, but for the bindings of its correspondent part
abbrev pub ShownMobile : Type 0
ShownMobile = MobileSeen

abbrev pub shown_of : Known → ShownMobile
shown_of k = seen_of k
