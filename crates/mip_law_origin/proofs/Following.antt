-- Each entry that accepts an update is followed by its mark, where the entries of a history are put together.
use Rattle.std.proofs.Common.{◌≡◌, List, [], ◌∷◌, ◌++◌, Bool, true, false, sym, ap, subst}
use Rattle.std.specs.Prelude.{Option, Some, None}
use Rattle.std.specs.List.{list_any}
use Rattle.std.proofs.lemmas.List.{append_assoc, append-nil}
use Rattle.std.proofs.lemmas.Bool.{or_parts}
use Rattle.mip_entries.specs.declared.entry.Entry.{Entry}
use Rattle.mip_entries.specs.declared.entry.Entry.TheVariants as entries
use Rattle.mip_provenance.specs.declared.accepted_update.AcceptedUpdate.{AcceptedUpdate}
use Rattle.mip_provenance.specs.Entries.{update_accepted}
use Rattle.mip_law_origin.specs.MarkedLaws.{IsFollowed, EachIsFollowed}

-- an entry of which something is asked, that posts a packet, or that changes the moment or a life
abbrev pub is_busy : Entry → Bool
is_busy (entries.At moment) = true
is_busy (entries.Restarted node) = true
is_busy (entries.Sent number node shielded packet) = true
is_busy (entries.Injected number outsider link packet) = true
is_busy (entries.Home node home careof sequence end) = true
is_busy (entries.Made node peer number home careof) = true
is_busy (entries.Accepted node number home binding careof sequence end i j) = true
is_busy _ = false

-- an entry that accepts nothing, and another behind it
followed_idle_one : (front rest : List Entry) (e : Entry) → is_busy e ≡ false → IsFollowed front (update_accepted e) rest
followed_idle_one front rest (entries.Accepted node number home binding careof sequence end i j) idle = absurd cc
followed_idle_one front rest _ idle = tt

pub followed_idle : (front es : List Entry) → list_any is_busy es ≡ false → EachIsFollowed front es
followed_idle front [] idle = tt
followed_idle front (e ∷ es) idle =
    let parts = or_parts (is_busy e) (list_any is_busy es) idle in
    (followed_idle_one front es e parts.0, followed_idle (front ++ e ∷ []) es parts.1)

followed_more : (front rest more : List Entry) (o : Option AcceptedUpdate) → IsFollowed front o rest → IsFollowed front o (rest ++ more)
followed_more front rest more None is = tt
followed_more front rest more (Some a) is = (is.0 ++ more, ap (λ (l : List Entry). l ++ more) is.1)

pub followed-append : (front xs ys : List Entry) → EachIsFollowed front xs → EachIsFollowed (front ++ xs) ys → EachIsFollowed front (xs ++ ys)
followed-append front [] ys a b = subst (λ (f : List Entry). EachIsFollowed f ys) (append-nil front) b
followed-append front (x ∷ xs) ys a b = (
  followed_more front xs ys (update_accepted x) a.0,
  followed-append (front ++ x ∷ []) xs ys a.1 (subst (λ (f : List Entry). EachIsFollowed f ys) (sym (append_assoc front (x ∷ []) xs)) b),
)
