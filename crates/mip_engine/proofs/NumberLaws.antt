-- One more entry of a run whose packets are numbered as they were posted.
use Rattle.std.proofs.Common.{◌≡◌, ◌≢◌, ℕ, ◌+◌, ◌<◌, List, [], ◌∷◌, ◌++◌, Bool, true, length, inl, inr, refl, sym, ap, ◌∙◌, subst, arith, length-append}
use Rattle.std.specs.Prelude.{Option, Some, None, ◌==◌, ◌&&◌, nat_lt, option_map, slice_get}
use Rattle.std.specs.List.{filter_map, cons_option}
use Rattle.std.specs.Option.{option_map_or}
use Rattle.std.proofs.lemmas.Bool.{eq-eqb, cases_eq, cases_order}
use Rattle.std.proofs.lemmas.Bool.Decides.{nat_tests}
use Rattle.std.proofs.lemmas.List.{append-nil}
use Rattle.std.proofs.lemmas.List.Elements.{filter_map-append}
use Rattle.std.proofs.lemmas.Option.{slice_get_past}
use Rattle.mip_words.specs.Last.{or_else}
use Rattle.mip_words.proofs.EachLaws.{each-append}
use Rattle.mip_entries.specs.declared.entry.Entry.{Entry}
use Rattle.mip_entries.specs.declared.entry.Entry.TheVariants.{Sent, Injected, Heard, Handed}
use Rattle.mip_links.specs.Table.{Post}
use Rattle.mip_provenance.specs.Entries.{packet_in, packet_told}
use Rattle.mip_provenance_index.specs.Stands.{number_posted}
use Rattle.mip_roles.specs.RolesLaws.{is_apart}
use Rattle.mip_recorder.specs.Packets.{bytes_posted, number_reached, comes_next, ComesNext, IsInOrder}
use Rattle.mip_recorder.proofs.Watching.{packet_more, or_none, told_none, told_here, told_there, get_front, get_seam}
use Rattle.mip_engine.specs.Engines.{EngineSeen}
use Rattle.mip_engine.specs.Numbering.{IsNumbered}
use Rattle.mip_engine.specs.Standing.{IsAt}
use Rattle.mip_history.specs.Setup.{Setup}
use Rattle.mip_history.specs.Runs.{Run}

abbrev packet_of : Post → List ℕ
packet_of p = p.packet

posted_more : (past : List Entry) (x : Entry) → filter_map number_posted (past ++ x ∷ []) ≡ filter_map number_posted past ++ cons_option (number_posted x) []
posted_more past x = filter_map-append number_posted past (x ∷ [])

module _ (posts : List Post) (past : List Entry) (x : Entry) (is : IsNumbered posts past) (next : comes_next (length posts) x ≡ true) where
  in_order : IsInOrder (past ++ x ∷ [])
  in_order = each-append ComesNext [] past (x ∷ []) is.order (subst (λ (n : ℕ). comes_next n x ≡ true) (sym is.count) next, tt)

  -- an entry that posts no packet
  pub numbered_on : number_posted x ≡ None → IsNumbered posts (past ++ x ∷ [])
  numbered_on none = record {
    order = in_order;
    count = ap (λ (l : List ℕ). length l) (posted_more past x ∙ ap (λ (o : Option ℕ). filter_map number_posted past ++ cons_option o []) none ∙ append-nil (filter_map number_posted past)) ∙ is.count;
    packets = λ k. is.packets k ∙ sym (packet_more past x k ∙ ap (or_else (packet_in past k)) (told_none x k none) ∙ or_none (packet_in past k));
  }

  -- one that posts the next
  pub numbered_more : (post : Post) → number_posted x ≡ Some (length posts) → bytes_posted x ≡ Some post.packet → IsNumbered (posts ++ post ∷ []) (past ++ x ∷ [])
  numbered_more post posted bytes = record {
    order = in_order;
    count =
        ap (λ (l : List ℕ). length l) (posted_more past x ∙ ap (λ (o : Option ℕ). filter_map number_posted past ++ cons_option o []) posted)
        ∙ length-append (filter_map number_posted past) (length posts ∷ [])
        ∙ ap (λ (n : ℕ). n + 1) is.count ∙ sym longer;
    packets = λ k. elim (cases_eq (length posts) k) as (λ _. option_map packet_of (slice_get (posts ++ post ∷ []) k) ≡ packet_in (past ++ x ∷ []) k) [
      | inl same ↦ subst (λ (m : ℕ). option_map packet_of (slice_get (posts ++ post ∷ []) m) ≡ packet_in (past ++ x ∷ []) m) same here
      | inr other ↦ there k other
    ];
  }
    where
      longer : length (posts ++ post ∷ []) ≡ length posts + 1
      longer = length-append posts (post ∷ [])

      none_yet : packet_in past (length posts) ≡ None
      none_yet = sym (is.packets (length posts)) ∙ ap (option_map packet_of) (slice_get_past posts (length posts) (omega arith))

      here : option_map packet_of (slice_get (posts ++ post ∷ []) (length posts)) ≡ packet_in (past ++ x ∷ []) (length posts)
      here =
          ap (option_map packet_of) (get_seam posts post (length posts) refl)
          ∙ sym bytes
          ∙ sym (packet_more past x (length posts) ∙ ap (λ (o : Option (List ℕ)). or_else o (packet_told (length posts) x)) none_yet ∙ told_here x (length posts) posted)

      same_post : (k : ℕ) → length posts ≢ k → slice_get (posts ++ post ∷ []) k ≡ slice_get posts k
      same_post k other = elim (cases_order k (length posts)) as (λ _. slice_get (posts ++ post ∷ []) k ≡ slice_get posts k) [
        | inl at ↦ absurd (other (sym at))
        | inr (inl below) ↦ get_front posts post k below
        | inr (inr above) ↦
            slice_get_past (posts ++ post ∷ []) k (omega (arith, longer, above))
            ∙ sym (slice_get_past posts k (omega (arith, above)))
      ]

      there : (k : ℕ) → length posts ≢ k → option_map packet_of (slice_get (posts ++ post ∷ []) k) ≡ packet_in (past ++ x ∷ []) k
      there k other =
          ap (option_map packet_of) (same_post k other) ∙ is.packets k
          ∙ sym (packet_more past x k ∙ ap (or_else (packet_in past k)) (told_there x (length posts) k posted other) ∙ or_none (packet_in past k))

-- an entry that tells of no packet of the network
apart_next : (x : Entry) → is_apart x ≡ true → (n : ℕ) → comes_next n x ≡ true
apart_next (Sent number node shielded packet) apart n = absurd cc
apart_next (Injected number outsider link packet) apart n = absurd cc
apart_next (Heard number outsider) apart n = absurd cc
apart_next (Handed number node) apart n = absurd cc
apart_next _ apart n = refl

apart_none : (x : Entry) → is_apart x ≡ true → number_posted x ≡ None
apart_none (Sent number node shielded packet) apart = absurd cc
apart_none (Injected number outsider link packet) apart = absurd cc
apart_none (Heard number outsider) apart = absurd cc
apart_none (Handed number node) apart = absurd cc
apart_none _ apart = refl

pub numbered_apart : (posts : List Post) (past : List Entry) (x : Entry) → is_apart x ≡ true → IsNumbered posts past → IsNumbered posts (past ++ x ∷ [])
numbered_apart posts past x apart is = numbered_on posts past x is (apart_next x apart (length posts)) (apart_none x apart)

-- a packet is heard, or handed over
reached_next : (x : Entry) (k n : ℕ) → number_posted x ≡ None → number_reached x ≡ Some k → k < n → comes_next n x ≡ true
reached_next x k n none some inside =
    ap (λ (o : Option ℕ). option_map_or (λ (number : ℕ). number == n) o true && option_map_or (λ (number : ℕ). nat_lt number n) (number_reached x) true) none
    ∙ ap (λ (o : Option ℕ). option_map_or (λ (number : ℕ). nat_lt number n) o true) some
    ∙ below
  where
    below : nat_lt k n ≡ true
    below = grind (arith, nat_tests, inside)

pub numbered_reached : (posts : List Post) (past : List Entry) (x : Entry) (k : ℕ) → number_posted x ≡ None → number_reached x ≡ Some k → k < length posts
    → IsNumbered posts past → IsNumbered posts (past ++ x ∷ [])
numbered_reached posts past x k none some inside is = numbered_on posts past x is (reached_next x k (length posts) none some inside) none

-- a packet is posted
posted_next : (x : Entry) (n : ℕ) → number_posted x ≡ Some n → comes_next n x ≡ true
posted_next (Sent number node shielded packet) n posted = let same : number ≡ n = cc in ap (λ (b : Bool). b && true) (eq-eqb number n same)
posted_next (Injected number outsider link packet) n posted = let same : number ≡ n = cc in ap (λ (b : Bool). b && true) (eq-eqb number n same)
posted_next _ n posted = absurd cc

pub numbered_posted : (posts : List Post) (past : List Entry) (x : Entry) (post : Post) → number_posted x ≡ Some (length posts) → bytes_posted x ≡ Some post.packet
    → IsNumbered posts past → IsNumbered (posts ++ post ∷ []) (past ++ x ∷ [])
numbered_posted posts past x post posted bytes is = numbered_more posts past x is (posted_next x (length posts) posted) post posted bytes

-- the packets that the engine keeps are those of its history
pub numbered_of : (e : EngineSeen) (s : Setup) (run : Run) → IsAt e s run → IsNumbered e.net.posts e.past
numbered_of e s run at =
    subst (λ (posts : List Post). IsNumbered posts e.past) (sym at.posts)
    (subst (λ (past : List Entry). IsNumbered run.posts past) (sym at.history) at.numbered)

pub numbered_none : IsNumbered [] []
numbered_none = record { order = tt; count = refl; packets = λ k. refl }
