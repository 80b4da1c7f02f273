-- A fact of a run that is kept by each thing which can happen in one, and what claims and packets leave of it.
use Rattle.std.proofs.Common.{◌≡◌, ℕ, zero, suc, List, [], ◌∷◌, ◌++◌, Bool, true, false, length, refl, sym, ap, ◌∙◌, subst}
use Rattle.std.specs.Prelude.{Option, Some, None, is_some, ◌==◌, ◌&&◌, ◌||◌, if◌then◌else◌, slice_get, slice_index_or}
use Rattle.std.specs.List.{list_any}
use Rattle.std.proofs.lemmas.List.{append_assoc, append-nil}
use Rattle.std.proofs.lemmas.List.Folds.{list_any-append}
use Rattle.std.proofs.lemmas.Bool.{or_parts}
use Rattle.mip_words.specs.declared.address.Address.{Address}
use Rattle.mip_words.specs.declared.ids.LinkId.{LinkId}
use Rattle.mip_words.specs.declared.shield.Shield.{Shield}
use Rattle.mip_nonce.specs.Secrets.{Life}
use Rattle.mip_entries.specs.declared.entry.Entry.{Entry}
use Rattle.mip_entries.specs.declared.entry.Entry.TheVariants as entries
use Rattle.mip_entries.specs.Completed.{node_id}
use Rattle.mip_links.specs.Table.{Post, link_of, holder_outside}
use Rattle.mip_links.specs.Nets.{is_held_by}
use Rattle.mip_history.specs.Setup.{Setup, Host, Kind, is_mobile_host}
use Rattle.mip_history.specs.Setup.Kind.{Correspondent, Agent, Mobile}
use Rattle.mip_history.specs.Runs.{Run, note, notes, entered, without, with_past, with_agent_past}
use Rattle.mip_history.specs.Questions.{holder_in, hears_in}
use Rattle.mip_history.specs.Calls.{Call, Take, Attach, Leave, Restart}
use Rattle.mip_history.specs.Claims.{link_id, claim_entry, claimed_on, claims}
use Rattle.mip_history.specs.Homes.{resident, passes_to, left_on, given_up_on, gives_up}
use Rattle.mip_history.specs.Nodes.{acts}
use Rattle.mip_history.specs.Posting.{heards, is_other, overheard}
use Rattle.mip_history.specs.Delivery.{handed_over}
use Rattle.mip_history.specs.Advertising.{roams_on}
use Rattle.mip_history.specs.Permitted.{moves}

-- an entry that tells of time or of lives, of a packet that is posted, of what a node accepts, or of where a mobile stands
-- and what it is acknowledged
abbrev pub is_busy : Entry → Bool
is_busy (entries.At moment) = true
is_busy (entries.Sent number node shielded packet) = true
is_busy (entries.Injected number outsider link packet) = true
is_busy (entries.Home node home careof sequence end) = true
is_busy (entries.Accepted node number home binding careof sequence end i j) = true
is_busy (entries.Restarted node) = true
is_busy (entries.Taken who link address holder) = true
is_busy (entries.Moved node link) = true
is_busy (entries.Careof node address) = true
is_busy (entries.Registered node agent end) = true
is_busy (entries.Unregistered node agent) = true
is_busy (entries.Bound node peer end) = true
is_busy (entries.Unbound node peer) = true
is_busy _ = false

-- a packet that a node is handed was posted, and is as it was posted but for its hop limit
pub record IsHanded (run : Run) (n k : ℕ) (shield : Option Shield) (packet : List ℕ) : Type 0 where
  pub earlier : List Entry
  pub told : run.past ≡ earlier ++ entries.Handed k (node_id n) ∷ []
  pub post : Post
  pub link : Option ℕ
  pub posted : slice_get run.posts k ≡ Some post
  pub under : shield ≡ post.shield
  pub as_posted : packet ≡ handed_over post.packet link

-- a prefix of which a mobile is told is that of the link on which it stands
pub record IsThere (s : Setup) (run : Run) (n prefix : ℕ) : Type 0 where
  pub link : ℕ
  pub stands : roams_on s run link n ≡ true
  pub of_link : prefix ≡ slice_index_or s.links link 0

abbrev pub IsCall : Setup → Run → ℕ → Call → Type 0
IsCall s run n (Take k shield packet) = IsHanded run n k shield packet
IsCall s run n (Attach prefix) = IsThere s run n prefix
IsCall s run n _ = Unit {0}

-- a mobile leaves its link, and a node begins its next life
abbrev pub is_leave : Call → Bool
is_leave Leave = true
is_leave _ = false

abbrev pub is_rebirth : Call → Bool
is_rebirth (Restart secrets) = true
is_rebirth _ = false

-- a node loses its past of this life; that of a mobile goes on
abbrev pub emptied_by_kind : ℕ → Run → Kind → Run
emptied_by_kind n run (Correspondent room) = with_past n [] run
emptied_by_kind n run (Agent preference life room serves) = with_agent_past n [] run
emptied_by_kind n run (Mobile agent) = run

abbrev pub emptied_by_host : ℕ → Run → Option Host → Run
emptied_by_host n run None = run
emptied_by_host n run (Some host) = emptied_by_kind n run host.kind

abbrev pub emptied : Setup → ℕ → Run → Run
emptied s n run = emptied_by_host n run (slice_get s.hosts n)

-- a fact that each thing keeps which can happen in a run
pub record Keeps (s : Setup) (P : Run → Type 0) : Type 0 where
  -- another entry is left
  pub idle : (run : Run) (e : Entry) → is_busy e ≡ false → P run → P (note e run)
  pub timed : (run : Run) (m : ℕ) → P run → P (note (entries.At (record { 0 = m })) run)
  -- an outsider posts a packet
  pub injects : (run : Run) (o link : ℕ) (packet : List ℕ) → P run
      → P (entered (record { from = link; shield = None; packet = packet }) (note (entries.Injected (length run.posts) o (link_id link) packet) run))
  pub leaves : (run : Run) (k : ℕ) → P run → P (without k run)
  -- an outsider finds an address taken
  pub taken : (run : Run) (o : ℕ) (link : LinkId) (address : Address) (holder : ℕ) → P run → P (note (entries.Taken (holder_outside o) link address holder) run)
  -- a node is called, and a mobile moves
  pub acted : (run : Run) (n : ℕ) (call : Call) → IsCall s run n call → is_leave call ≡ false → is_rebirth call ≡ false → P run → P (acts s n call run)
  pub moved : (run : Run) (n : ℕ) (link : Option LinkId) → is_mobile_host (slice_get s.hosts n) ≡ true → P run → P (moves s run n link)
  -- a node begins its next life; a mobile stays where it stands
  pub reborn : (run : Run) (n : ℕ) → is_mobile_host (slice_get s.hosts n) ≡ false → P run → P (note (entries.Restarted (node_id n)) (emptied s n run))
  pub renewed : (run : Run) (n : ℕ) (secrets : Life) → is_mobile_host (slice_get s.hosts n) ≡ true → P run → P (acts s n (Restart secrets) (note (entries.Restarted (node_id n)) run))

-- what outsiders hear
heards_idle : (hears : ℕ → Bool) (k o : ℕ) → list_any is_busy (heards hears k o) ≡ false
heards_idle hears k zero = refl
heards_idle hears k (suc o) =
    list_any-append is_busy (heards hears k o) (if hears o then entries.Heard k o ∷ [] else [])
    ∙ ap (λ (b : Bool). b || list_any is_busy (if hears o then entries.Heard k o ∷ [] else [])) (heards_idle hears k o)
    ∙ by (hears o)
  where
    by : (b : Bool) → (false || list_any is_busy (if b then entries.Heard k o ∷ [] else [])) ≡ false
    by true = refl
    by false = refl

-- what other entries keep
module _ (s : Setup) (P : Run → Type 0) (idle : (run : Run) (e : Entry) → is_busy e ≡ false → P run → P (note e run)) where
  pub keeps_notes : (es : List Entry) (run : Run) → list_any is_busy es ≡ false → P run → P (notes es run)
  keeps_notes [] run none p = subst (λ (l : List Entry). P (record run { past = l })) (sym (append-nil run.past)) p
  keeps_notes (e ∷ es) run none p =
      let parts = or_parts (is_busy e) (list_any is_busy es) none in
      subst (λ (l : List Entry). P (record run { past = l })) (append_assoc run.past (e ∷ []) es) (keeps_notes es (note e run) parts.1 (idle run e parts.0 p))

  pub keeps_overheard : (link : ℕ) (shield : Option Shield) (by : Option ℕ) (k : ℕ) (run : Run) → P run → P (overheard s link shield by k run)
  keeps_overheard link shield by k run p = at (is_some shield)
    where
      hears : ℕ → Bool
      hears o = is_other by o && hears_in run.past o link

      at : (b : Bool) → P (if b then run else notes (heards hears k s.outsiders) run)
      at true = p
      at false = keeps_notes (heards hears k s.outsiders) run (heards_idle hears k s.outsiders) p

  pub keeps_claims : (who : ℕ) (address : Address) (run : Run) → ((link : LinkId) (holder : ℕ) → P (note (entries.Taken who link address holder) run)) → P run → P (claims s who address run)
  keeps_claims who address run taken p = by (link_of s.links address.0)
    where
      of_other : (link other : ℕ) (mine : Bool) → P (note (if mine then entries.Claimed who (link_id link) address else entries.Taken who (link_id link) address other) run)
      of_other link other true = idle run (entries.Claimed who (link_id link) address) refl p
      of_other link other false = taken (link_id link) other

      claim : (link : ℕ) (holder : Option ℕ) → P (note (claim_entry who address link holder) run)
      claim link None = idle run (entries.Claimed who (link_id link) address) refl p
      claim link (Some other) = of_other link other (other == who)

      by : (link : Option ℕ) → P (claimed_on who address run link)
      by None = idle run entries.Idle refl p
      by (Some link) = claim link (holder_in run.past address.0)

  keeps_passes : (who : ℕ) (address : Address) (link : ℕ) (run : Run) (o : Option ℕ) → P run → P (passes_to who address link run o)
  keeps_passes who address link run None p = p
  keeps_passes who address link run (Some m) p = by (m == who)
    where
      by : (same : Bool) → P (if same then run else note (entries.Claimed m (link_id link) address) run)
      by true = p
      by false = idle run (entries.Claimed m (link_id link) address) refl p

  pub keeps_gives_up : (who : ℕ) (address : Address) (run : Run) → P run → P (gives_up s who address run)
  keeps_gives_up who address run p = by (link_of s.links address.0)
    where
      held : (link : ℕ) (b : Bool) → P (if b then left_on s who address link run else note entries.Idle run)
      held link true =
          keeps_passes who address link (note (entries.Released who (link_id link) address) run) (resident s run address.0)
          (idle run (entries.Released who (link_id link) address) refl p)
      held link false = idle run entries.Idle refl p

      by : (link : Option ℕ) → P (given_up_on s who address run link)
      by None = idle run entries.Idle refl p
      by (Some link) = held link (is_held_by (holder_in run.past address.0) who)
