-- One more entry of a watched history.
use Rattle.std.proofs.Common.{◌≡◌, ◌≢◌, ℕ, ◌+◌, ◌<◌, List, [], ◌∷◌, ◌++◌, Bool, true, length, inl, inr, refl, sym, ap, ◌∙◌, subst, arith, length-append}
use Rattle.std.specs.Prelude.{Option, Some, None, ◌==◌, nat_lt, if◌then◌else◌, option_map, slice_get}
use Rattle.std.specs.List.{filter_map, cons_option}
use Rattle.std.specs.Option.{option_and_then, option_map_or}
use Rattle.std.proofs.lemmas.Bool.{and_parts, eqb-true, ltb-true, ne_eqb, eq-eqb, cases_eq, cases_order}
use Rattle.std.proofs.lemmas.List.{append_assoc, append-nil}
use Rattle.std.proofs.lemmas.List.Sums.{fold-append}
use Rattle.std.proofs.lemmas.List.Elements.{filter_map-append}
use Rattle.std.proofs.lemmas.Option.{slice_get_past}
use Rattle.mip_words.specs.Last.{or_else}
use Rattle.mip_words.specs.EachAfter.{EachAfter}
use Rattle.mip_words.proofs.EachLaws.{each-append, each_at}
use Rattle.mip_entries.specs.declared.entry.Entry.{Entry}
use Rattle.mip_entries.specs.declared.entry.Entry.TheVariants as entries
use Rattle.mip_provenance.specs.Entries.{packet_told, packet_in}
use Rattle.mip_provenance_index.specs.declared.provenance_index.ProvenanceIndex.{ProvenanceIndex}
use Rattle.mip_provenance_index.specs.Stands.{StandsFor, IsNumber, number_posted, IsNext, IsHeard}
use Rattle.mip_provenance_index.specs.Sights.{token_of, token_posted}
use Rattle.mip_words.specs.declared.token.Token.{Token}
use Rattle.mip_provenance_index.specs.Told.{IsTold, AreTold}
use Rattle.mip_recorder.specs.Packets.{bytes_posted, number_reached, token_at, comes_next, ComesNext, IsInOrder, heard_at}
use Rattle.mip_recorder.specs.Given.{joined}
use Rattle.mip_recorder.specs.Watched.{IsWatched}
pub use Rattle.mip_recorder.proofs.Items.{get_front, get_seam}

-- the packets of a history with one more entry
pub packet_more : (past : List Entry) (e : Entry) (k : ℕ) → packet_in (past ++ e ∷ []) k ≡ or_else (packet_in past k) (packet_told k e)
packet_more past e k = fold-append (λ (o : Option (List ℕ)) (x : Entry). or_else o (packet_told k x)) None past (e ∷ [])

pub or_none : (o : Option (List ℕ)) → or_else o None ≡ o
or_none (Some a) = refl
or_none None = refl

some_is : (x : List ℕ) → Some x ≢ None
some_is x = λ e. absurd cc

-- an entry that posts no packet
pub told_none : (e : Entry) (k : ℕ) → number_posted e ≡ None → packet_told k e ≡ None
told_none (entries.Sent number node shielded packet) k none = absurd cc
told_none (entries.Injected number outsider link packet) k none = absurd cc
told_none _ k none = refl

-- one that posts packet n
pub told_here : (e : Entry) (n : ℕ) → number_posted e ≡ Some n → packet_told n e ≡ bytes_posted e
told_here (entries.Sent number node shielded packet) n is = let same : number ≡ n = cc in ap (λ (b : Bool). if b then Some packet else None) (eq-eqb number n same)
told_here (entries.Injected number outsider link packet) n is = let same : number ≡ n = cc in ap (λ (b : Bool). if b then Some packet else None) (eq-eqb number n same)
told_here _ n is = absurd cc

pub told_there : (e : Entry) (n k : ℕ) → number_posted e ≡ Some n → n ≢ k → packet_told k e ≡ None
told_there (entries.Sent number node shielded packet) n k is other =
    let same : number ≡ n = cc in ap (λ (b : Bool). if b then Some packet else None) (ne_eqb number k (λ x. other (sym same ∙ x)))
told_there (entries.Injected number outsider link packet) n k is other =
    let same : number ≡ n = cc in ap (λ (b : Bool). if b then Some packet else None) (ne_eqb number k (λ x. other (sym same ∙ x)))
told_there _ n k is other = absurd cc

posts_some : (e : Entry) (n : ℕ) → number_posted e ≡ Some n → (b : List ℕ) × (bytes_posted e ≡ Some b)
posts_some (entries.Sent number node shielded packet) n is = (packet, refl)
posts_some (entries.Injected number outsider link packet) n is = (packet, refl)
posts_some _ n is = absurd cc

module _ (w : ProvenanceIndex) (past : List Entry) (kept : List (Option Token)) (is : IsWatched w past kept) (e : Entry) (next : comes_next (length kept) e ≡ true) where
  parts : (option_map_or (λ number. number == length kept) (number_posted e) true ≡ true) × (option_map_or (λ number. nat_lt number (length kept)) (number_reached e) true ≡ true)
  parts = and_parts _ _ next

  pub is_next : IsNext past e
  is_next = by (number_posted e) parts.0
    where
      by : (o : Option ℕ) → option_map_or (λ number. number == length kept) o true ≡ true → IsNumber o (length (filter_map number_posted past))
      by None e = tt
      by (Some k) e = eqb-true k (length kept) e ∙ is.count

  pub is_heard : IsHeard past e (heard_at kept e)
  is_heard = by e
    where
      by : (e : Entry) → IsHeard past e (heard_at kept e)
      by (entries.Heard number outsider) = is.tokens number
      by _ = tt

  is_told : IsTold past e
  is_told = by e parts.1
    where
      by : (e : Entry) → option_map_or (λ number. nat_lt number (length kept)) (number_reached e) true ≡ true → IsTold past e
      by (entries.Heard number outsider) test = is.posted number (ltb-true number (length kept) test)
      by (entries.Handed number node) test = is.posted number (ltb-true number (length kept) test)
      by _ test = tt

  all_told : AreTold (past ++ e ∷ [])
  all_told = each-append IsTold [] past (e ∷ []) is.told (is_told, tt)

  posted_more : filter_map number_posted (past ++ e ∷ []) ≡ filter_map number_posted past ++ cons_option (number_posted e) []
  posted_more = filter_map-append number_posted past (e ∷ [])

  -- an entry that posts no packet
  pub watched_on : (v : ProvenanceIndex) → StandsFor v (past ++ e ∷ []) → number_posted e ≡ None → IsWatched v (past ++ e ∷ []) kept
  watched_on v stands none = record {
    stands = stands;
    told = all_told;
    posted = λ k inside. subst (λ (o : Option (List ℕ)). o ≢ None) (sym (stays k)) (is.posted k inside);
    ahead = λ k beyond. stays k ∙ is.ahead k beyond;
    count = is.count ∙ sym (ap (λ (l : List ℕ). length l) (posted_more ∙ ap (λ (o : Option ℕ). filter_map number_posted past ++ cons_option o []) none ∙ append-nil (filter_map number_posted past)));
    tokens = λ k. is.tokens k ∙ sym (ap token_of (stays k));
  }
    where
      stays : (k : ℕ) → packet_in (past ++ e ∷ []) k ≡ packet_in past k
      stays k = packet_more past e k ∙ ap (or_else (packet_in past k)) (told_none e k none) ∙ or_none (packet_in past k)

  -- one that posts the next packet
  module _ (n : ℕ) (posts : number_posted e ≡ Some n) where
    n_is : n ≡ length kept
    n_is = by (number_posted e) posts parts.0
      where
        by : (o : Option ℕ) → o ≡ Some n → option_map_or (λ number. number == length kept) o true ≡ true → n ≡ length kept
        by None e test = absurd cc
        by (Some k) e test = let same : k ≡ n = cc in sym same ∙ eqb-true k (length kept) test

    none_yet : packet_in past n ≡ None
    none_yet = is.ahead n (omega (arith, n_is))

    here : packet_in (past ++ e ∷ []) n ≡ bytes_posted e
    here = packet_more past e n ∙ ap (λ (o : Option (List ℕ)). or_else o (packet_told n e)) none_yet ∙ told_here e n posts

    there : (k : ℕ) → n ≢ k → packet_in (past ++ e ∷ []) k ≡ packet_in past k
    there k other = packet_more past e k ∙ ap (or_else (packet_in past k)) (told_there e n k posts other) ∙ or_none (packet_in past k)

    token_here : (t : Option Token) → option_map (λ (x : Token). x.0) t ≡ token_posted e → token_at (kept ++ t ∷ []) n ≡ token_of (packet_in (past ++ e ∷ []) n)
    token_here t same =
        ap (λ (o : Option (Option Token)). option_and_then (option_map (λ (x : Token). x.0)) o) (get_seam kept t n n_is)
        ∙ same ∙ sym (by e)
        ∙ ap token_of (sym here)
      where
        by : (x : Entry) → token_of (bytes_posted x) ≡ token_posted x
        by (entries.Sent number node shielded packet) = refl
        by (entries.Injected number outsider link packet) = refl
        by _ = refl

    token_there : (t : Option Token) (k : ℕ) → n ≢ k → token_at (kept ++ t ∷ []) k ≡ token_of (packet_in (past ++ e ∷ []) k)
    token_there t k other =
        ap (λ (o : Option (Option Token)). option_and_then (option_map (λ (x : Token). x.0)) o) (same k other)
        ∙ is.tokens k
        ∙ ap token_of (sym (there k other))
      where
        same : (k : ℕ) → n ≢ k → slice_get (kept ++ t ∷ []) k ≡ slice_get kept k
        same k other = elim (cases_order k (length kept)) as (λ _. slice_get (kept ++ t ∷ []) k ≡ slice_get kept k) [
          | inl at ↦ absurd (other (n_is ∙ sym at))
          | inr (inl below) ↦ get_front kept t k below
          | inr (inr above) ↦
              slice_get_past (kept ++ t ∷ []) k (omega (arith, length-append kept (t ∷ []), above))
              ∙ sym (slice_get_past kept k (omega (arith, above)))
        ]

    pub watched_more : (v : ProvenanceIndex) (t : Option Token) → StandsFor v (past ++ e ∷ []) → option_map (λ (x : Token). x.0) t ≡ token_posted e
        → IsWatched v (past ++ e ∷ []) (kept ++ t ∷ [])
    watched_more v t stands token = record {
      stands = stands;
      told = all_told;
      posted = λ k inside. elim (cases_eq n k) as (λ _. packet_in (past ++ e ∷ []) k ≢ None) [
        | inl same ↦ subst (λ (m : ℕ). packet_in (past ++ e ∷ []) m ≢ None) same some_here
        | inr other ↦ subst (λ (o : Option (List ℕ)). o ≢ None) (sym (there k other)) (is.posted k (below k inside other))
      ];
      ahead = λ k beyond. there k (λ same. absurd (omega (arith, n_is, same, beyond, longer))) ∙ is.ahead k (omega (arith, beyond, longer));
      count =
          longer
          ∙ ap (λ (m : ℕ). m + 1) is.count
          ∙ sym (ap (λ (l : List ℕ). length l) (posted_more ∙ ap (λ (o : Option ℕ). filter_map number_posted past ++ cons_option o []) posts) ∙ length-append (filter_map number_posted past) (n ∷ []));
      tokens = λ k. elim (cases_eq n k) as (λ _. token_at (kept ++ t ∷ []) k ≡ token_of (packet_in (past ++ e ∷ []) k)) [
        | inl same ↦ subst (λ (m : ℕ). token_at (kept ++ t ∷ []) m ≡ token_of (packet_in (past ++ e ∷ []) m)) same (token_here t token)
        | inr other ↦ token_there t k other
      ];
    }
      where
        longer : length (kept ++ t ∷ []) ≡ length kept + 1
        longer = length-append kept (t ∷ [])

        some_here : packet_in (past ++ e ∷ []) n ≢ None
        some_here =
            let b = posts_some e n posts in
            subst (λ (o : Option (List ℕ)). o ≢ None) (sym (here ∙ b.1)) (some_is b.0)

        below : (k : ℕ) → k < length (kept ++ t ∷ []) → n ≢ k → k < length kept
        below k inside other = elim (cases_order k (length kept)) as (λ _. k < length kept) [
          | inl at ↦ absurd (other (n_is ∙ sym at))
          | inr (inl under) ↦ under
          | inr (inr above) ↦ absurd (omega (arith, above, inside, longer))
        ]

-- a history in order, with one more entry
pub in_order_front : (front past : List Entry) (e : Entry) → EachAfter ComesNext front (past ++ e ∷ []) → EachAfter ComesNext front past
in_order_front front [] e each = tt
in_order_front front (x ∷ past) e each = (each.0, in_order_front (front ++ x ∷ []) past e each.1)

pub in_order_next : (past : List Entry) (e : Entry) → IsInOrder (past ++ e ∷ []) → ComesNext past e
in_order_next past e order = each_at ComesNext [] past e [] order

-- one piece more
pub joined-push : (pieces : List (List Entry)) (piece : List Entry) → joined (pieces ++ piece ∷ []) ≡ joined pieces ++ piece
joined-push [] piece = append-nil piece
joined-push (x ∷ pieces) piece = ap (λ (l : List Entry). x ++ l) (joined-push pieces piece) ∙ sym (append_assoc x (joined pieces) piece)
