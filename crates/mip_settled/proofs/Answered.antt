-- What the answers of a node add to what a history says of a question.
use Rattle.std.proofs.Common.{◌≡◌, ℕ, List, [], ◌∷◌, Bool, false, length, refl, ap, ◌∙◌}
use Rattle.std.specs.Prelude.{Option, Some, None, unwrap_or, is_some}
use Rattle.std.proofs.lemmas.List.Sums.{fold-append}
use Rattle.mip_words.specs.declared.address.Address.{Address}
use Rattle.mip_words.specs.declared.ids.LinkId.{LinkId}
use Rattle.mip_words.specs.declared.shield.Shield.{Shield}
use Rattle.mip_words.specs.Asked.{asked}
use Rattle.mip_entries.specs.declared.answer.Answer.{Answer}
use Rattle.mip_entries.specs.declared.answer.Answer.TheVariants.{Send, Note}
use Rattle.mip_entries.specs.declared.entry.Entry.{Entry}
use Rattle.mip_entries.specs.declared.entry.Entry.TheVariants as entries
use Rattle.mip_entries.specs.Completed.{node_id, named}
use Rattle.mip_provenance.specs.declared.accepted_update.AcceptedUpdate.{AcceptedUpdate}
use Rattle.mip_provenance.specs.declared.mark.Mark.{Mark}
use Rattle.mip_provenance.specs.declared.mark.Mark.TheVariants.{Origin, Forged}
use Rattle.mip_provenance.specs.Entries.{update_accepted, mark_entry}
use Rattle.mip_provenance.specs.Marks.{mark_in}
use Rattle.mip_links.specs.Table.{Post}
use Rattle.mip_history.specs.Setup.{Setup}
use Rattle.mip_history.specs.Runs.{Run, note, notes, entered}
use Rattle.mip_history.specs.Claims.{claims}
use Rattle.mip_history.specs.Homes.{gives_up}
use Rattle.mip_history.specs.Nodes.{marks_of, marked, left_by, answered_one, answered}
use Rattle.mip_history.proofs.Keeping.{is_busy, keeps_overheard, keeps_claims, keeps_gives_up}

-- a question of entries that only busy entries answer, and no packet
pub record IsQuiet {S : Type 0} (says : Entry → Option S) : Type 0 where
  pub idle : (e : Entry) → is_busy e ≡ false → says e ≡ None
  pub sent : (number n : ℕ) (shielded : Bool) (packet : List ℕ) → says (entries.Sent number (node_id n) shielded packet) ≡ None

-- nothing that node n leaves answers it
abbrev pub IsMute : {S : Type 0} → (Entry → Option S) → ℕ → Type 0
IsMute says n = (link k : ℕ) (e : Entry) → says (named n link k e) ≡ None

module _ {S : Type 0} (s : Setup) (says : Entry → Option S) (d : S) where
  abbrev pub tells : Run → S
  tells run = asked says d run.past

  pub tells_push : (run : Run) (e : Entry) → tells (note e run) ≡ unwrap_or (says e) (tells run)
  tells_push run e = fold-append (λ (x : S) (y : Entry). unwrap_or (says y) x) d run.past (e ∷ [])

  pub tells_same : (run : Run) (e : Entry) → says e ≡ None → tells (note e run) ≡ tells run
  tells_same run e none = tells_push run e ∙ ap (λ (o : Option S). unwrap_or o (tells run)) none

  module _ (quiet : IsQuiet says) where
    idle_kept : (v : S) (run : Run) (e : Entry) → is_busy e ≡ false → tells run ≡ v → tells (note e run) ≡ v
    idle_kept v run e idle is = tells_same run e (quiet.idle e idle) ∙ is

    mark_silent : (m : Mark) → says (mark_entry m) ≡ None
    mark_silent (Origin hot cot update) = quiet.idle (mark_entry (Origin hot cot update)) refl
    mark_silent (Forged cause) = quiet.idle (mark_entry (Forged cause)) refl

    -- an entry with its mark
    pub tells_marked : (run : Run) (e : Entry) → tells (marked e run) ≡ unwrap_or (says e) (tells run)
    tells_marked run e = by (update_accepted e)
      where
        by : (o : Option AcceptedUpdate) → tells (notes (e ∷ marks_of run.past o) run) ≡ unwrap_or (says e) (tells run)
        by None = tells_push run e
        by (Some a) =
            fold-append (λ (x : S) (y : Entry). unwrap_or (says y) x) d run.past (e ∷ mark_entry (mark_in run.past a) ∷ [])
            ∙ ap (λ (o : Option S). unwrap_or o (unwrap_or (says e) (tells run))) (mark_silent (mark_in run.past a))

    -- a packet that is posted, and an address that is given up
    pub tells_sent : (n from : ℕ) (shield : Option Shield) (packet : List ℕ) (run : Run) → tells (answered_one s n from run (Send shield packet)) ≡ tells run
    tells_sent n from shield packet run =
        let post : Post = record { from = from; shield = shield; packet = packet } in
        let e : Entry = entries.Sent (length run.posts) (node_id n) (is_some shield) packet in
        keeps_overheard s (λ (r : Run). tells r ≡ tells run) (idle_kept (tells run)) from shield None (length run.posts) (entered post (note e run))
        (tells_same run e (quiet.sent (length run.posts) n (is_some shield) packet))

    pub tells_released : (n : ℕ) (address : Address) (run : Run) → tells (gives_up s n address run) ≡ tells run
    tells_released n address run = keeps_gives_up s (λ (r : Run). tells r ≡ tells run) (idle_kept (tells run)) n address run refl

    -- an address that is claimed, where what is seen of the answer does not mind that it may be taken
    pub tells_claimed : {V : Type 0} (view : S → V) (n : ℕ) (address : Address) (run : Run)
        → ((link : LinkId) (holder : ℕ) → view (unwrap_or (says (entries.Taken n link address holder)) (tells run)) ≡ view (tells run)) → view (tells (claims s n address run)) ≡ view (tells run)
    tells_claimed view n address run free =
        keeps_claims s (λ (r : Run). view (tells r) ≡ view (tells run)) (λ r e idle is. ap view (tells_same r e (quiet.idle e idle)) ∙ is) n address run
        (λ link holder. ap view (tells_push run (entries.Taken n link address holder)) ∙ free link holder) refl

    -- what a node leaves that says nothing of it
    module _ (n : ℕ) (mute : IsMute says n) where
      taken_mute : (run : Run) (link : LinkId) (address : Address) (holder : ℕ) → unwrap_or (says (entries.Taken n link address holder)) (tells run) ≡ tells run
      taken_mute run link address holder = ap (λ (o : Option S). unwrap_or o (tells run)) (mute link.0 0 (entries.Taken n link address holder))

      left_mute : (run : Run) (e : Entry) → tells (left_by s n run e) ≡ tells run
      left_mute run (entries.Claimed who link address) = tells_claimed (λ (x : S). x) n address run (λ on holder. taken_mute run on address holder)
      left_mute run (entries.Taken who link address holder) = tells_claimed (λ (x : S). x) n address run (λ on other. taken_mute run on address other)
      left_mute run (entries.Released who link address) = tells_released n address run
      left_mute run (entries.Restarted node) = refl
      left_mute run e = tells_marked run (named n 0 (length run.posts) e) ∙ ap (λ (o : Option S). unwrap_or o (tells run)) (mute 0 (length run.posts) e)

      answer_mute : (from : ℕ) (run : Run) (answer : Answer) → tells (answered_one s n from run answer) ≡ tells run
      answer_mute from run (Send shield packet) = tells_sent n from shield packet run
      answer_mute from run (Note e) = left_mute run e

      pub answers_mute : (from : ℕ) (run : Run) (answers : List Answer) → tells (answered s n from run answers) ≡ tells run
      unfolding answered
      answers_mute from run [] = refl
      answers_mute from run (answer ∷ answers) = answers_mute from (answered_one s n from run answer) answers ∙ answer_mute from run answer
