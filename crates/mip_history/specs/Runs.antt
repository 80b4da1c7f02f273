-- A run: what has happened so far, and what the entries do not tell.
use Rattle.std.specs.Prelude.{ℕ, List, [], ◌∷◌, ◌++◌, Bool, true, false, slice_set, slice_index_or}
use Rattle.mip_entries.specs.declared.entry.Entry.{Entry}
use Rattle.mip_entries.specs.Stamped.{Stamped}
use Rattle.mip_rules_correspondent.specs.Steps.{Step}
use Rattle.mip_rules_agent.specs.Steps as agents
use Rattle.mip_rules_mobile.specs.Steps as mobiles
use Rattle.mip_links.specs.Table.{Post}

pub record Run : Type 0 where
  -- the history so far
  pub past : List Entry
  -- for each node the past of the correspondent that it is, in its present life
  pub pasts : List (List (Stamped Step))
  -- of the home agent that it is, in its present life
  pub agent_pasts : List (List (Stamped agents.Step))
  -- and of the mobile that it is, through all its lives
  pub mobile_pasts : List (List (Stamped mobiles.Step))
  -- every packet ever posted; its number is its place
  pub posts : List Post
  -- which of them are in the pool
  pub flying : List Bool

-- entries are left
abbrev pub notes : List Entry → Run → Run
notes entries run = record run { past = run.past ++ entries }

abbrev pub note : Entry → Run → Run
note entry run = notes (entry ∷ []) run

-- a packet enters the pool
abbrev pub entered : Post → Run → Run
entered post run = record run { posts = run.posts ++ post ∷ []; flying = run.flying ++ true ∷ [] }

-- and leaves it
abbrev pub without : ℕ → Run → Run
without k run = record run { flying = slice_set run.flying k false }

-- the past of a node
abbrev pub past_at : Run → ℕ → List (Stamped Step)
past_at run n = slice_index_or run.pasts n []

abbrev pub agent_past_at : Run → ℕ → List (Stamped agents.Step)
agent_past_at run n = slice_index_or run.agent_pasts n []

abbrev pub mobile_past_at : Run → ℕ → List (Stamped mobiles.Step)
mobile_past_at run n = slice_index_or run.mobile_pasts n []

-- it goes on, or begins anew
abbrev pub with_past : ℕ → List (Stamped Step) → Run → Run
with_past n past run = record run { pasts = slice_set run.pasts n past }

abbrev pub with_agent_past : ℕ → List (Stamped agents.Step) → Run → Run
with_agent_past n past run = record run { agent_pasts = slice_set run.agent_pasts n past }

abbrev pub with_mobile_past : ℕ → List (Stamped mobiles.Step) → Run → Run
with_mobile_past n past run = record run { mobile_pasts = slice_set run.mobile_pasts n past }
