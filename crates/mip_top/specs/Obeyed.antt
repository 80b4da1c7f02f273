-- What became of a command.
use Rattle.std.specs.Prelude.{◌≡◌, ℕ, ◌≤◌, ◌⊎◌, ⊤, List, length, true, IfSome, Some, None}
use Rattle.std.specs.declared.option.Option.{Option}
use Rattle.std.specs.Io.KnownBytes.{prepend_known, IsAtEnd}
use Rattle.mip_commands.specs.declared.command.Command.{Command}
use Rattle.mip_commands.specs.declared.command.Command.TheVariants.{Node, Hub}
use Rattle.mip_config.specs.Reading as nodes
use Rattle.mip_hub.specs.Reading as hubs
use Rattle.mip_replies.specs.Told.{Told, IsConclusive}
use Rattle.mip_top.specs.Answers.{answer_to, configured, takes_nothing}
use Rattle.mip_top.specs.Serving.{Outside, NodeServed, HubServed, IsIdle, IsStopped}

-- a node or a hub was run by its configuration, unless that was stopped before; without one none was
abbrev pub IsRunBy : {X : Type 0} → Option X → (ran : X → Type 0) → ℕ → Outside → Outside → Type 0
IsRunBy (Some c) ran given old new = ran c ⊎ IsStopped given old new
IsRunBy None ran given old new = IsIdle old new

-- the node or the hub that a command asks for was run by the configuration of these bytes
abbrev pub IsServed : Option Command → List ℕ → ℕ → Outside → Outside → Type 0
IsServed (Some (Node turns)) bytes given old new = IsRunBy (configured nodes.reading bytes) (λ c. NodeServed c turns given old new) given old new
IsServed (Some (Hub turns)) bytes given old new = IsRunBy (configured hubs.reading bytes) (λ c. HubServed c turns given old new) given old new
IsServed _ bytes given old new = ⊤

-- these bytes of the input were answered, or a node or a hub was run by them
pub record Obeys (command : Option Command) (bytes : List ℕ) (given : ℕ) (old new : Outside) : Type 0 where
  pub told : IfSome (answer_to command bytes) (λ answer. Told answer given old.held new.held)
  pub served : IsServed command bytes given old new

-- a status before what the sink keeps back is put on, and the one after: a fault of that call, or want of memory, makes 4 or 5 of a status that no fault had made
abbrev pub IsFlushed : (given result : ℕ) → Type 0
IsFlushed given result = (result ≡ given) ⊎ (IsConclusive given × ((result ≡ 4) ⊎ (result ≡ 5)))

-- they were obeyed, and then what the sink kept back was put on
pub record ObeysFlushed (command : Option Command) (bytes : List ℕ) (result : ℕ) (old new : Outside) : Type 0 where
  pub given : ℕ
  pub flushed : IsFlushed given result
  pub obeys : Obeys command bytes given old new

-- the input was taken as far as these bytes, and they were obeyed
pub record IsObeyed (command : Option Command) (bytes : List ℕ) (given : ℕ) (left_old left_new : Option (List ℕ)) (old new : Outside) : Type 0 where
  pub most : length bytes ≤ 16777217
  pub taken : left_old ≡ prepend_known bytes left_new
  pub obeys : Obeys command bytes given old new
  -- nothing is taken for the command, or all bytes within the bound were, or reading stopped before anything was sent and written
  pub read : (takes_nothing command ≡ true) ⊎ ((length bytes ≤ 16777216 → IsAtEnd left_new) ⊎ IsStopped given old new)
