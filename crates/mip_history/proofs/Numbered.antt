-- Packets are found by their numbers, which are their places.
use Rattle.std.proofs.Common.{◌≡◌, ℕ, zero, suc, ◌<◌, ◌≤◌, List, [], ◌∷◌, ◌++◌, Bool, true, length, refl, sym, ap, ◌∙◌, arith}
use Rattle.std.specs.Prelude.{fold, Option, Some, None, ◌==◌, if◌then◌else◌, slice_get}
use Rattle.std.specs.List.{cons_option}
use Rattle.std.proofs.lemmas.List.{append_assoc, append-nil}
use Rattle.std.proofs.lemmas.List.Elements.{filter_map-append}
use Rattle.std.proofs.lemmas.Bool.Decides.{nat_tests}
use Rattle.mip_words.specs.Last.{or_else}
use Rattle.mip_words.specs.EachAfter.{EachAfter}
use Rattle.mip_entries.specs.declared.entry.Entry.{Entry}
use Rattle.mip_entries.specs.declared.entry.Entry.TheVariants as entries
use Rattle.mip_history.specs.Setup.{Setup}
use Rattle.mip_history.specs.Questions.{holder_in}
use Rattle.mip_history.specs.Permitted.{opening_claims}
use Rattle.mip_history.specs.ClaimsLaws.{is_free_for}
use Rattle.mip_history.specs.Bound.{packet_told, packet_in}
use Rattle.mip_history.specs.BoundLaws.{packet_posted, packets_of}

-- what an entry tells of packets and of addresses, of those before it
abbrev pub IsNumbered : Setup → List Entry → Entry → Type 0
IsNumbered s past (entries.Sent number node shielded packet) = number ≡ length (packets_of past)
IsNumbered s past (entries.Injected number outsider link packet) = number ≡ length (packets_of past)
IsNumbered s past (entries.Heard number outsider) = number < length (packets_of past)
IsNumbered s past (entries.Handed number node) = number < length (packets_of past)
IsNumbered s past (entries.Claimed who link address) = length (opening_claims s) ≤ length past → is_free_for (holder_in past address.0) who ≡ true
IsNumbered s past (entries.Released who link address) = holder_in past address.0 ≡ Some who
IsNumbered s past (entries.Taken who link address holder) = holder_in past address.0 ≡ Some holder
IsNumbered s past _ = Unit {0}

-- one item more
pub slice_get_push : {X : Type 0} (xs : List X) (x : X) (k : ℕ) → slice_get (xs ++ x ∷ []) k ≡ or_else (slice_get xs k) (if length xs == k then Some x else None)
slice_get_push [] x zero = refl
slice_get_push [] x (suc k) = grind (arith, nat_tests)
slice_get_push (y ∷ xs) x zero = refl
slice_get_push {X = X} (y ∷ xs) x (suc k) = slice_get_push xs x k ∙ ap (λ (b : Bool). or_else (slice_get xs k) (if b then Some x else None)) (by xs)
  where
    by : (xs : List X) → (length xs == k) ≡ (length (y ∷ xs) == suc k)
    by xs = grind (arith, nat_tests)

packets_push : (front : List Entry) (e : Entry) → packets_of (front ++ e ∷ []) ≡ packets_of front ++ cons_option (packet_posted e) []
packets_push front e = filter_map-append packet_posted front (e ∷ [])

-- what is known of packet k after one entry more
told_step : (s : Setup) (k : ℕ) (front : List Entry) (e : Entry) → IsNumbered s front e → or_else (slice_get (packets_of front) k) (packet_told k e) ≡ slice_get (packets_of front ++ cons_option (packet_posted e) []) k
told_step s k front (entries.Sent number node shielded packet) is =
    ap (λ (n : ℕ). or_else (slice_get (packets_of front) k) (if n == k then Some packet else None)) is ∙ sym (slice_get_push (packets_of front) packet k)
told_step s k front (entries.Injected number outsider link packet) is =
    ap (λ (n : ℕ). or_else (slice_get (packets_of front) k) (if n == k then Some packet else None)) is ∙ sym (slice_get_push (packets_of front) packet k)
told_step s k front _ is = nothing (slice_get (packets_of front) k) ∙ ap (λ (l : List (List ℕ)). slice_get l k) (sym (append-nil (packets_of front)))
  where
    nothing : (o : Option (List ℕ)) → or_else o None ≡ o
    nothing None = refl
    nothing (Some x) = refl

told_from : (s : Setup) (k : ℕ) (front es : List Entry) → EachAfter (IsNumbered s) front es
    → fold (λ o e. or_else o (packet_told k e)) (slice_get (packets_of front) k) es ≡ slice_get (packets_of (front ++ es)) k
told_from s k front [] each = ap (λ (l : List Entry). slice_get (packets_of l) k) (sym (append-nil front))
told_from s k front (e ∷ es) each =
    ap (λ (o : Option (List ℕ)). fold (λ (o : Option (List ℕ)) (e : Entry). or_else o (packet_told k e)) o es)
    (told_step s k front e each.0 ∙ ap (λ (l : List (List ℕ)). slice_get l k) (sym (packets_push front e)))
    ∙ told_from s k (front ++ e ∷ []) es each.1
    ∙ ap (λ (l : List Entry). slice_get (packets_of l) k) (append_assoc front (e ∷ []) es)

pub packet_numbered : (s : Setup) (past : List Entry) (k : ℕ) → EachAfter (IsNumbered s) [] past → packet_in past k ≡ slice_get (packets_of past) k
packet_numbered s past k each = told_from s k [] past each
