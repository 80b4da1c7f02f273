-- A mobile wherever it stands, and what it says of that.
use Rattle.std.specs.Prelude.{◌≡◌}
use Rattle.mip_rules_mobile.specs.declared.attachment.Attachment.{Attachment}
use Rattle.mip_rules_mobile.specs.declared.attachment.Attachment.TheVariants as standings
use Rattle.mip_mobile.specs.declared.machine.Machine.{Machine}
use Rattle.mip_mobile.specs.declared.mobile.Mobile.{Mobile}
use Rattle.mip_mobile.specs.declared.mobile.Mobile.TheVariants.{Detached, AtHome, Away}

abbrev pub machine_of : {C W : Type 0} → Mobile C W → Machine C W
machine_of (Detached s) = s.machine
machine_of (AtHome s) = s.machine
machine_of (Away s) = s.machine

-- what its type says of where it stands
abbrev pub state_of : {C W : Type 0} → Mobile C W → Attachment
state_of (Detached s) = standings.Detached
state_of (AtHome s) = standings.AtHome
state_of (Away s) = standings.Away s.state.careof

-- its type says where it stands
abbrev pub IsTyped : {C W : Type 0} → Mobile C W → Type 0
IsTyped m = state_of m ≡ (machine_of m).context.known.standing

-- with another clock, or another wire
abbrev pub with_clock : {C W : Type 0} → Machine C W → C → Machine C W
with_clock m clock = record m { clock = clock }

abbrev pub with_wire : {C W : Type 0} → Machine C W → W → Machine C W
with_wire m wire = record m { wire = wire }

abbrev pub with_clock_in : {C W : Type 0} → Mobile C W → C → Mobile C W
with_clock_in (Detached s) clock = Detached (record s { machine = with_clock s.machine clock })
with_clock_in (AtHome s) clock = AtHome (record s { machine = with_clock s.machine clock })
with_clock_in (Away s) clock = Away (record s { machine = with_clock s.machine clock })

abbrev pub with_wire_in : {C W : Type 0} → Mobile C W → W → Mobile C W
with_wire_in (Detached s) wire = Detached (record s { machine = with_wire s.machine wire })
with_wire_in (AtHome s) wire = AtHome (record s { machine = with_wire s.machine wire })
with_wire_in (Away s) wire = Away (record s { machine = with_wire s.machine wire })
