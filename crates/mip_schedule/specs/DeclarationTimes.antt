-- What a declaration owes to those before it.
use Rattle.std.specs.Prelude.{ℕ, ◌%◌, ◌^◌, ◌==◌, nat_le, List, length, Bool, false, not, ◌&&◌, ◌||◌, if◌then◌else◌, Option, Some, None, Result, Ok, Err, slice_get}
use Rattle.std.specs.List.{list_any, count_by}
use Rattle.mip_words.specs.Addresses.{prefix_of}
use Rattle.mip_words.specs.Steps.{◌>>=◌}
use Rattle.mip_words.specs.declared.address.Address.{Address}
use Rattle.mip_words.specs.declared.prefix.Prefix.{Prefix}
use Rattle.mip_words.specs.declared.ids.LinkId.{LinkId}
use Rattle.mip_words.specs.declared.ids.NodeId.{NodeId}
use Rattle.mip_schedule.specs.DeclarationRows.{declaration_fields}
use Rattle.mip_symbols.specs.Places.{members, is_mobile}
use Rattle.mip_symbols.specs.declared.declaration.Declaration.{Declaration}
use Rattle.mip_symbols.specs.declared.declaration.Declaration.TheVariants as declare
use Rattle.mip_symbols.specs.declared.places.Sort.TheVariants as sorts
use Rattle.mip_symbols.specs.declared.reason.Reason.{Reason}
use Rattle.mip_symbols.specs.declared.reason.Reason.TheVariants as reasons

-- the last 64 bits of an address
abbrev pub interface_of : ℕ → ℕ
interface_of a = a % 2 ^ 64

abbrev pub has_interface : ℕ → Declaration → Bool
has_interface i (declare.Agent name link address preference life room) = interface_of address.0 == i
has_interface i (declare.Correspondent name link address room) = interface_of address.0 == i
has_interface i (declare.Mobile name link address agent) = interface_of address.0 == i
has_interface i _ = false

-- the last 64 bits are those of another address, or of the home-agents anycast addresses. RFC 2526 section 3
unfoldable pub is_interface_taken : List Declaration → Address → Bool
is_interface_taken ds a = (interface_of a.0 == 0xfdff_ffff_ffff_fffe) || list_any (has_interface (interface_of a.0)) ds

abbrev pub has_prefix : ℕ → Declaration → Bool
has_prefix p (declare.Link name prefix) = prefix.0 == p
has_prefix p _ = false

unfoldable pub is_prefix_taken : List Declaration → Prefix → Bool
is_prefix_taken ds p = list_any (has_prefix p.0) ds

abbrev pub gives_prefix : ℕ → Option Declaration → Bool
gives_prefix p (Some d) = has_prefix p d
gives_prefix p None = false

-- the address has the prefix of the link
unfoldable pub is_on_link : List Declaration → LinkId → Address → Bool
is_on_link ds l a = gives_prefix (prefix_of a.0) (slice_get (members sorts.Link ds) l.0)

abbrev pub is_pair : NodeId → NodeId → Declaration → Bool
is_pair g m (declare.Serve agent mobile) = (agent.0 == g.0) && (mobile.0 == m.0)
is_pair g m _ = false

unfoldable pub is_served : List Declaration → NodeId → NodeId → Bool
is_served ds g m = list_any (is_pair g m) ds

-- so many or more
abbrev pub is_full : ℕ → List Declaration → Bool
is_full most ds = nat_le most (length ds)

-- as many nodes, or as many mobiles, as there may be
abbrev pub has_no_room : List Declaration → Bool
has_no_room ds = is_full 32 (members sorts.Node ds) || nat_le 8 (count_by is_mobile ds)

-- a node's address that is not on its link, or clashes with another
unfoldable pub misplaced : List Declaration → LinkId → Address → Option Reason
misplaced ds l a = if not (is_on_link ds l a) || is_interface_taken ds a then Some reasons.Clash else None

-- what keeps a declaration from standing after those before it
unfoldable pub undeclared : List Declaration → Declaration → Option Reason
undeclared ds (declare.Link name prefix) =
    if is_full 32 (members sorts.Link ds) then Some reasons.Limit
    else if is_prefix_taken ds prefix then Some reasons.Clash
    else None
undeclared ds (declare.Agent name link address preference life room) =
    if is_full 32 (members sorts.Node ds) then Some reasons.Limit else misplaced ds link address
undeclared ds (declare.Correspondent name link address room) =
    if is_full 32 (members sorts.Node ds) then Some reasons.Limit else misplaced ds link address
undeclared ds (declare.Mobile name link address agent) =
    if has_no_room ds then Some reasons.Limit else misplaced ds link address
undeclared ds (declare.Serve agent mobile) = if is_served ds agent mobile then Some reasons.Clash else None
undeclared ds (declare.Outsider name) = if is_full 8 (members sorts.Outsider ds) then Some reasons.Limit else None

abbrev pub judged : {A : Type 0} → A → Option Reason → Result A Reason
judged x None = Ok x
judged x (Some why) = Err why

-- a line of declarations after these
unfoldable pub declaration_line : List Declaration → List (List ℕ) → Result Declaration Reason
declaration_line ds row = do
  d ← declaration_fields ds row
  judged d (undeclared ds d)
