-- The first packet of the update in each packet that carries one.
use Rattle.std.specs.Prelude.{◌≡◌, ℕ, ◌==◌, if◌then◌else◌, Option, Some, None, unwrap_or}
use Rattle.std.specs.Ordering.{nat_cmp}
use Rattle.std.specs.BTreeMap.{get}
use Rattle.mip_packets.specs.Says.{UpdateIdentity, key_of}
use Rattle.mip_packets.specs.Says.Carried.{Update}
use Rattle.mip_provenance.specs.declared.maker.Maker.{Maker}
use Rattle.mip_provenance.specs.declared.maker.Maker.TheVariants.{Node, Outsider}
use Rattle.mip_provenance.specs.Sights.{Sight}
use Rattle.mip_provenance.specs.Sights.Sight.{Sent, Injected}
use Rattle.mip_provenance.specs.Firsts.{same_key}
use Rattle.mip_provenance_index.specs.declared.first.First.{First}
use Rattle.mip_provenance_index.specs.declared.posting.Posting.{Posting as FoundPosting}
use Rattle.mip_provenance_index.specs.declared.updates.Updates.{Updates}
use Rattle.mip_provenance_index.specs.Firsts.{UpdateKey, key_named, first_at}

-- a packet with an update, and who posts it
pub record Posting : Type 0 where
  pub number : ℕ
  pub maker : Maker
  pub key : UpdateIdentity

abbrev pub posting_of : FoundPosting → Posting
posting_of p = record { number = p.number; maker = p.maker; key = key_of p.key }

abbrev pub update_posted : Sight → Option Posting
update_posted (Sent number node (Update key)) = Some (record { number = number; maker = Node (record { 0 = node }); key = key })
update_posted (Injected number outsider (Update key)) = Some (record { number = number; maker = Outsider outsider; key = key })
update_posted _ = None

-- the first packet of the update in packet k
abbrev pub update_at : Updates → ℕ → Option First
update_at u k = get nat_cmp u.by_number k

-- the first packet of each update is this
abbrev pub AreOf : Updates → (UpdateIdentity → Option First) → Type 0
AreOf u look = (k : UpdateKey) → first_at u.by_key k ≡ look (key_named k)

abbrev pub fresh : ℕ → Posting → First
fresh heard p = record { number = p.number; maker = p.maker; heard = heard }

-- the first packet of an update that is posted: this one, unless there was one before
abbrev pub chosen : ℕ → Posting → (UpdateIdentity → Option First) → First
chosen heard p look = unwrap_or (look p.key) (fresh heard p)

-- the first packets after one more packet
abbrev pub look_step : ℕ → Option Posting → (UpdateIdentity → Option First) → UpdateIdentity → Option First
look_step heard None look key = look key
look_step heard (Some p) look key = if same_key p.key key then Some (chosen heard p look) else look key

abbrev pub at_step : ℕ → Option Posting → (UpdateIdentity → Option First) → (ℕ → Option First) → ℕ → Option First
at_step heard None look at k = at k
at_step heard (Some p) look at k = if p.number == k then Some (chosen heard p look) else at k
