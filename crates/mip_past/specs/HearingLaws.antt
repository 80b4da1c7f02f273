-- What is asked of the agents that an agent knows of, beside what it knows in a run.
use Rattle.std.specs.Prelude.{◌≡◌, ℕ, ◌^◌, ◌<◌, List, take, Some, slice_get}
use Rattle.mip_words.specs.declared.address.Address.{Address}
use Rattle.mip_schedule.specs.Contents.{Content}
use Rattle.mip_history.specs.Setup.{Host, setup_of}
use Rattle.mip_history.specs.Setup.Kind.{Agent}
use Rattle.mip_history.specs.Knowing.{now_in, agent_known_in}
use Rattle.mip_past.specs.Hearing.{router_of, live_addresses, agents_in}
use Rattle.mip_past.specs.Places.{run_at, front_at}

-- two nodes with one address are one
abbrev pub AreApart : List Host → Type 0
AreApart hosts = (i j : ℕ) (x y : Host) → slice_get hosts i ≡ Some x → slice_get hosts j ≡ Some y → x.address.0 ≡ y.address.0 → x ≡ y

-- each agent is asked for those that it knows of and that are live, behind the first k events. No two nodes have one address, and moments are below
-- 2 ^ 62, as in every schedule that was read
abbrev pub AreListedAsAsked : Content → (k : ℕ) → Type 0
AreListedAsAsked c k = AreApart (setup_of c).hosts → now_in (setup_of c) (run_at (setup_of c) c.events k) < 2 ^ 62
    → (n : ℕ) (own : Address) (preference life room : ℕ) (serves : List Address) → slice_get (setup_of c).hosts n ≡ Some (record { address = own; kind = Agent preference life room serves })
    → agents_in (router_of c.declarations) c.start.0 (front_at (setup_of c) c.events k) n
    ≡ take 32 (live_addresses (now_in (setup_of c) (run_at (setup_of c) c.events k)) (agent_known_in (run_at (setup_of c) c.events k) n serves).agents.agents)
