-- One more call behind those that were remembered.
use Rattle.std.proofs.Common.{◌≡◌, List, [], ◌∷◌, ◌++◌, ap}
use Rattle.std.proofs.lemmas.List.{append_assoc, append-nil}
use Rattle.std.proofs.lemmas.List.Sums.{fold-append}
use Rattle.mip_entries.specs.declared.entry.Entry.{Entry}
use Rattle.mip_history.specs.Setup.{Setup}
use Rattle.mip_history.specs.Runs.{note, notes}
use Rattle.mip_afresh.specs.declared.acted.Acted.{Acted}
use Rattle.mip_afresh.specs.Tellings.{TellingSeen, with_run, acted_one, no_pasts, pasts_of}

pub acted_more : (s : Setup) (calls : List Acted) (call : Acted) → pasts_of s (calls ++ call ∷ []) ≡ acted_one s (pasts_of s calls) call
acted_more s calls call = fold-append (acted_one s) (no_pasts s) calls (call ∷ [])

-- no entries, and one more behind those that were left
pub told_none : (t : TellingSeen) → with_run (notes [] t.run) t ≡ t
told_none t =
    ap (λ (past : List Entry). with_run (record { past = past; pasts = t.run.pasts; agent_pasts = t.run.agent_pasts; mobile_pasts = t.run.mobile_pasts; posts = t.run.posts; flying = t.run.flying }) t)
    (append-nil t.run.past)

pub told_more : (xs : List Entry) (x : Entry) (t : TellingSeen) → with_run (note x (notes xs t.run)) t ≡ with_run (notes (xs ++ x ∷ []) t.run) t
told_more xs x t =
    ap (λ (past : List Entry). with_run (record { past = past; pasts = t.run.pasts; agent_pasts = t.run.agent_pasts; mobile_pasts = t.run.mobile_pasts; posts = t.run.posts; flying = t.run.flying }) t)
    (append_assoc t.run.past xs (x ∷ []))

-- two entries, one after the other
pub told_two : (x y : Entry) (t : TellingSeen) → with_run (note y (note x t.run)) t ≡ with_run (notes (x ∷ y ∷ []) t.run) t
told_two x y t =
    ap (λ (past : List Entry). with_run (record { past = past; pasts = t.run.pasts; agent_pasts = t.run.agent_pasts; mobile_pasts = t.run.mobile_pasts; posts = t.run.posts; flying = t.run.flying }) t)
    (append_assoc t.run.past (x ∷ []) (y ∷ []))
