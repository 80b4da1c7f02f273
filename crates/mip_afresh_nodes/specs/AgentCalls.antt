-- What a home agent is asked for, as a node of a run and as an agent.
use Rattle.mip_outside.specs.Places.{Around}
use Rattle.mip_rules_agent.specs.Calls as agents
use Rattle.mip_rules_agent.specs.Calls.{claim_for}
use Rattle.mip_history.specs.Calls as asked_for
use Rattle.mip_afresh_nodes.specs.declared.agent_call.AgentCall.{AgentCall}
use Rattle.mip_afresh_nodes.specs.declared.agent_call.AgentCall.TheVariants.{Take, Tick, Plan, Hear}

abbrev pub asked_of_agent : AgentCall → asked_for.Call
asked_of_agent (Take number shield packet) = asked_for.Take number shield packet.now
asked_of_agent Tick = asked_for.Tick
asked_of_agent (Plan valid preferred) = asked_for.Plan valid preferred
asked_of_agent (Hear router) = asked_for.Hear router.address router.preference router.life

-- to an agent that finds this around it
abbrev pub call_of_agent : Around → AgentCall → agents.Call
call_of_agent around (Take number shield packet) = agents.Take number shield packet.now (claim_for around packet.now)
call_of_agent around Tick = agents.Tick
call_of_agent around (Plan valid preferred) = agents.Plan valid preferred
call_of_agent around (Hear router) = agents.Hear router.address router.preference router.life
