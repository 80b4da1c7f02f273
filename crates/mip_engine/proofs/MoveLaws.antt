-- Only a mobile moves.
use Rattle.std.proofs.Common.{◌≡◌, ℕ, true, false, refl, sym, ap, ◌∙◌}
use Rattle.std.specs.Prelude.{Bool, Option, Some, None, option_map, if◌then◌else◌, slice_get}
use Rattle.std.specs.Option.{option_map_or}
use Rattle.mip_words.specs.declared.address.Address.{Address}
use Rattle.mip_words.specs.declared.ids.LinkId.{LinkId}
use Rattle.mip_entries.specs.declared.entry.Entry.TheVariants.{Idle}
use Rattle.mip_history.specs.Setup.{Setup, Host, Kind, is_mobile_kind, is_mobile_host, is_mobile_at}
use Rattle.mip_history.specs.Setup.Kind.{Correspondent as OfCorrespondent, Agent as OfAgent, Mobile as OfMobile}
use Rattle.mip_history.specs.Runs.{Run, note}
use Rattle.mip_history.specs.Permitted.{moves, moves_if}
use Rattle.mip_roles.specs.Nodes.{NodeSeen}
use Rattle.mip_roles.specs.Roles.{is_roaming}
use Rattle.mip_engine.specs.Engines.{EngineSeen, stood, stood_by}
use Rattle.mip_engine.specs.Standing.{IsAt, role_in, node_in}

module _ (e : EngineSeen) (s : Setup) (run : Run) (at : IsAt e s run) (n : ℕ) where
  role_roams : (own : Address) (kind : Kind) → is_roaming (role_in s run n own kind) ≡ is_mobile_kind kind
  role_roams own (OfCorrespondent room) = refl
  role_roams own (OfAgent preference life room serves) = refl
  role_roams own (OfMobile agent) = refl

  pub roaming_is : option_map_or (λ (c : NodeSeen). is_roaming c.role) (slice_get e.nodes n) false ≡ is_mobile_at s n
  roaming_is = ap (λ (o : Option NodeSeen). option_map_or (λ (c : NodeSeen). is_roaming c.role) o false) (at.nodes n) ∙ by (slice_get s.hosts n)
    where
      by : (o : Option Host) → option_map_or (λ (c : NodeSeen). is_roaming c.role) (option_map (node_in s run n) o) false ≡ is_mobile_host o
      by None = refl
      by (Some host) = role_roams host.address host.kind

pub moves_there : (s : Setup) (run : Run) (n : ℕ) (link : Option LinkId) → is_mobile_at s n ≡ true → moves s run n link ≡ moves_if s run n link
moves_there s run n link is = sym (ap (λ (b : Bool). if b then moves s run n link else note Idle run) is)

pub stays_there : (s : Setup) (run : Run) (n : ℕ) (link : Option LinkId) → is_mobile_at s n ≡ false → note Idle run ≡ moves_if s run n link
stays_there s run n link is = sym (ap (λ (b : Bool). if b then moves s run n link else note Idle run) is)

-- to stand elsewhere gives nothing away
pub stood_told : (n : ℕ) (spot : Option ℕ) (e : EngineSeen) → (let x = stood n spot e in x.told) ≡ e.told
stood_told n spot e = by (slice_get e.nodes n)
  where
    by : (o : Option NodeSeen) → (let x = stood_by n spot e o in x.told) ≡ e.told
    by None = refl
    by (Some c) = refl
