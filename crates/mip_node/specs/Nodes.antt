-- A node that is run over a link, and what it does about a call.
use Rattle.std.specs.Prelude.{ℕ, ◌+◌, ◌%◌, ◌^◌, List, [], ◌∷◌, ◌++◌, fold, Bool, false, ◌==◌, if◌then◌else◌, Option, Some, None, option_map, is_some}
use Rattle.mip_words.specs.declared.ids.NodeId.{NodeId}
use Rattle.mip_words.specs.declared.shield.Shield.{Shield}
use Rattle.mip_words.specs.declared.why.Why.TheVariants as whys
use Rattle.mip_entries.specs.Completed.{named}
use Rattle.mip_entries.specs.declared.answer.Answer.{Answer}
use Rattle.mip_entries.specs.declared.answer.Answer.TheVariants.{Send, Note}
use Rattle.mip_entries.specs.declared.entry.Entry.{Entry}
use Rattle.mip_entries.specs.declared.entry.Entry.TheVariants.{At, Sent, Unsent}
use Rattle.mip_outside.specs.declared.put.Put.{Put}
use Rattle.mip_outside.specs.declared.put.Put.TheVariants as puts
use Rattle.mip_frames.specs.Routing.{put_for, sent_for}
use Rattle.mip_history.specs.Calls.{Call}
use Rattle.mip_roles.specs.declared.role.Role.{Role}
use Rattle.mip_config.specs.Configs.{Content}
use Rattle.mip_node.specs.Roles.{answers_at, role_after}

-- its role, the number that the next packet takes, the moment of its last turn, and the entries of this turn
pub record Running : Type 0 where
  pub role : Role
  pub next : ℕ
  pub last : Option ℕ
  pub entries : List Entry

-- the datagrams that a link sent, each with its port, where they are told
abbrev pub Datagrams : Type 0
Datagrams = Option (List (ℕ × List ℕ))

-- a node with what its link sent so far
pub record Serving : Type 0 where
  pub node : Running
  pub sent : Datagrams

abbrev pub serving : Running → Datagrams → Serving
serving node sent = record { node = node; sent = sent }

-- it leaves an entry
abbrev pub noted : Entry → Running → Running
noted entry n = record { role = n.role; next = n.next; last = n.last; entries = n.entries ++ entry ∷ [] }

-- a packet took its number. The numbers go on from 0 behind the last of 64 bits
abbrev pub counted : Running → Running
counted n = record { role = n.role; next = (n.next + 1) % 2 ^ 64; last = n.last; entries = n.entries }

abbrev pub with_role : Role → Running → Running
with_role role n = record { role = role; next = n.next; last = n.last; entries = n.entries }

abbrev pub is_at : Option ℕ → ℕ → Bool
is_at None now = false
is_at (Some last) now = last == now

abbrev pub at_moment : ℕ → Running → Running
at_moment now n = record { role = n.role; next = n.next; last = Some now; entries = [] }

-- a turn begins: the moment is told where it is not that of the turn before
unfoldable pub begun : ℕ → Running → Running
begun now n = if is_at n.last now then at_moment now n else noted (At (record { 0 = now })) (at_moment now n)

-- what a packet leaves that the link was given: one that is not sent takes no number
unfoldable pub after_put : NodeId → Put → Bool → List ℕ → Running → Running
after_put by puts.Sent shielded packet n = counted (noted (Sent n.next by shielded packet) n)
after_put by puts.NoRoute shielded packet n = noted (Unsent by whys.NoRoute) n
after_put by puts.Oversize shielded packet n = noted (Unsent by whys.Size) n

-- it sends a packet, in a frame to the port of its route
unfoldable pub put_on : Content → Option Shield → List ℕ → Serving → Serving
put_on c shield packet s =
    serving (after_put c.node (put_for c.routes c.fallback shield packet) (is_some shield) packet s.node)
    (option_map (sent_for c.routes c.fallback shield packet) s.sent)

-- an answer of its role is carried out
unfoldable pub answered_one : Content → Serving → Answer → Serving
answered_one c s (Send shield packet) = put_on c shield packet s
answered_one c s (Note entry) = serving (noted (named c.node.0 0 s.node.next entry) s.node) s.sent

-- all of them, in order
unfoldable pub answered : Content → List Answer → Serving → Serving
answered c answers s = fold (answered_one c) s answers

-- its role is asked something, and answers
unfoldable pub asked_at : Content → ℕ → Call → Serving → Serving
asked_at c now call s = answered c (answers_at s.node.role now call) (serving (with_role (role_after s.node.role now call) s.node) s.sent)
