-- The role of a node that is run by itself: nobody else holds an address around it.
use Rattle.std.specs.Prelude.{ℕ, ◌≤◌, List, Bool, true, false, if◌then◌else◌}
use Rattle.mip_words.specs.declared.address.Address.{Address}
use Rattle.mip_entries.specs.declared.answer.Answer.{Answer}
use Rattle.mip_outside.specs.Places.{free}
use Rattle.mip_history.specs.Calls.{Call, Leave}
use Rattle.mip_history.specs.Setup.{Kind}
use Rattle.mip_history.specs.Setup.Kind.{Correspondent as OfCorrespondent, Agent as OfAgent, Mobile as OfMobile}
use Rattle.mip_history.specs.Waiting.{is_due}
use Rattle.mip_roles.specs.declared.role.Role.{Role}
use Rattle.mip_roles.specs.Roles.{answers_to, after_call, due_of, last_of, new_role, is_roaming}
use Rattle.mip_config.specs.declared.role.Role.{Role as Named}
use Rattle.mip_config.specs.declared.role.Role.TheVariants.{Correspondent, Agent, Mobile}
use Rattle.mip_config.specs.Configs.{Content}
use Rattle.mip_config.specs.Facts.{address_of}

-- its answers to a call at a moment
unfoldable pub answers_at : Role → ℕ → Call → List Answer
answers_at role now call = answers_to free role now call

-- and what the call makes of it
unfoldable pub role_after : Role → ℕ → Call → Role
role_after role now call = after_call free role now call

-- it has work due by a moment
unfoldable pub has_due : Role → ℕ → Bool
has_due role now = is_due (due_of role) now

-- its last call was no later than a moment
unfoldable pub IsBy : Role → ℕ → Type 0
IsBy role now = last_of role ≤ now

-- what a node is that is configured so
abbrev pub kind_by : List Address → Named → Kind
kind_by serves (Agent address preference life room) = OfAgent preference life room serves
kind_by serves (Correspondent address room) = OfCorrespondent room
kind_by serves (Mobile address agent) = OfMobile agent

abbrev pub kind_in : Content → Kind
kind_in c = kind_by c.serves c.role

abbrev pub is_mobile : Named → Bool
is_mobile (Agent address preference life room) = false
is_mobile (Correspondent address room) = false
is_mobile (Mobile address agent) = true

-- a mobile begins detached: it leaves its link at the moment 0, and nothing is told of that
unfoldable pub detached : Role → Role
detached role = if is_roaming role then role_after role 0 Leave else role

-- the role of a configured node, with nothing behind it
unfoldable pub new_role_of : Content → Role
new_role_of c = new_role c.seed 1 c.node.0 0 (address_of c.role) (kind_in c)

-- and before its first turn
unfoldable pub first_role : Content → Role
first_role c = detached (new_role_of c)
