-- The mark by look-ups is the mark of the sights.
use Rattle.std.proofs.Common.{◌≡◌, ℕ, List, [], ◌∷◌, ◌++◌, take, Bool, true, false, refl, sym, ap, ◌∙◌, subst}
use Rattle.std.specs.Prelude.{Option, Some, None, ◌||◌, if◌then◌else◌, option_map}
use Rattle.std.specs.Option.{option_or, option_and_then, option_map_or}
use Rattle.std.proofs.lemmas.Bool.{or_parts}
use Rattle.mip_words.specs.declared.address.Address.{Address}
use Rattle.mip_packets.specs.Says.{UpdateIdentity, carried}
use Rattle.mip_entries.specs.declared.entry.Entry.{Entry}
use Rattle.mip_provenance.specs.declared.accepted_update.AcceptedUpdate.{AcceptedUpdate}
use Rattle.mip_provenance.specs.declared.maker.Maker.{Maker}
use Rattle.mip_provenance.specs.declared.maker.Maker.TheVariants.{Node, Outsider}
use Rattle.mip_provenance.specs.declared.mark.Mark.TheVariants.{Origin, Forged}
use Rattle.mip_provenance.specs.Lists.{first_some, until, along, if_passes}
use Rattle.mip_provenance.specs.Entries.{packet_told, packet_in, declared_in}
use Rattle.mip_provenance.specs.Reached.{values}
use Rattle.mip_provenance.specs.Names.{life_at, namings, is_misnamed, first_sent}
use Rattle.mip_provenance.specs.Firsts.{Post, post_with, post_at, is_post, key_in, key_at, first_update}
use Rattle.mip_provenance.specs.Pairs.{Pair, alone, both, gives, as_asked, first_with, first_pair, pair_by}
use Rattle.mip_provenance.specs.Causes.{Claim, home_claim_in, careof_claim_with, is_used_early, is_named_otherwise}
use Rattle.mip_provenance.specs.Marks.{origin_of, by_claims, by_pair, by_post, by_first, by_key, mark_of}
use Rattle.mip_provenance.proofs.Plain.{post_step, packet_first}
use Rattle.mip_provenance_index.specs.declared.first.First.{First}
use Rattle.mip_provenance.specs.declared.known.Known.{Known}
use Rattle.mip_provenance_index.specs.declared.provenance_index.ProvenanceIndex.{ProvenanceIndex}
use Rattle.mip_provenance_index.specs.Sights.{seen_behind, seen_in}
use Rattle.mip_provenance_index.specs.Names.{kept_at, is_otherwise, number_kept}
use Rattle.mip_provenance_index.specs.Heard.{heard_by}
use Rattle.mip_provenance_index.specs.Updates.{update_at}
use Rattle.mip_provenance_index.specs.Answers.{pair_by_maker, is_used_by, is_otherwise_by, claims_looked, pair_looked, first_looked, key_looked, own_looked, mark_looked}
use Rattle.mip_provenance_index.specs.Stands.{AreAlike, IsFirst, IsFirstAtIf, StandsFor}
use Rattle.mip_provenance_index.proofs.Kept.{kept_otherwise, kept_number}

-- packets are told by the same entries
posts_along : (k : ℕ) (front es : List Entry) → option_map (λ (p : Post). p.carried) (first_some (post_with k) (along seen_behind front es)) ≡ option_map carried (first_some (packet_told k) es)
posts_along k front [] = refl
posts_along k front (e ∷ es) = by (post_with k _) (packet_told k e) (post_step front k e) (posts_along k (front ++ e ∷ []) es)
  where
    by : (o : Option Post) (p : Option (List ℕ)) → option_map (λ (p : Post). p.carried) o ≡ option_map carried p
        → option_map (λ (p : Post). p.carried) (first_some (post_with k) (along seen_behind (front ++ e ∷ []) es)) ≡ option_map carried (first_some (packet_told k) es)
        → option_map (λ (p : Post). p.carried) (option_or o (first_some (post_with k) (along seen_behind (front ++ e ∷ []) es))) ≡ option_map carried (option_or p (first_some (packet_told k) es))
    by None None here rest = rest
    by (Some x) (Some y) here rest = here
    by None (Some y) here rest = absurd cc
    by (Some x) None here rest = absurd cc

-- the update of a packet
key_seen : (past : List Entry) (k : ℕ) → option_and_then (λ bytes. key_in (carried bytes)) (packet_in past k) ≡ key_at (seen_in past) k
unfolding seen_in
key_seen past k =
    ap (λ (o : Option (List ℕ)). option_and_then (λ bytes. key_in (carried bytes)) o) (packet_first k past)
    ∙ by (first_some (packet_told k) past) (post_at (along seen_behind [] past) k) (posts_along k [] past)
  where
    by : (p : Option (List ℕ)) (o : Option Post) → option_map (λ (p : Post). p.carried) o ≡ option_map carried p → option_and_then (λ bytes. key_in (carried bytes)) p ≡ option_and_then (λ q. key_in q.carried) o
    by None None e = refl
    by (Some y) (Some x) e = let same : carried y ≡ x.carried = cc in ap key_in same
    by (Some y) None e = absurd cc
    by None (Some x) e = absurd cc

-- searches over tokens that find the same
same_first : {X Y : Type 0} (f g : X → Option Y) (xs : List X) → ((x : X) → f x ≡ g x) → first_some f xs ≡ first_some g xs
same_first f g [] same = refl
same_first {Y = Y} f g (x ∷ xs) same = two (same x) (same_first f g xs same)
  where
    two : {a b c d : Option Y} → a ≡ b → c ≡ d → option_or a c ≡ option_or b d
    two {a} {b} {c} {d} e h = cc

pairs_alike : (careof : Option ℕ) (test : Pair → Bool) (vs ws : List (List ℕ)) → AreAlike vs ws → first_pair careof test vs ≡ first_pair careof test ws
pairs_alike None test vs ws alike = alike (λ p. if_passes test (alone p))
pairs_alike (Some j) test vs ws alike =
    alike (first_with test vs) ∙ same_first (first_with test vs) (first_with test ws) ws (λ p. alike (λ q. if_passes test (both p q)))

module _ (w : ProvenanceIndex) (past : List Entry) (stands : StandsFor w past) where
  pair_same : (careof : Option ℕ) (test : Pair → Bool) (key : UpdateIdentity) (f : First) → IsFirst w.heard.list.items (seen_in past) key f → (maker : Maker)
      → pair_by_maker w careof test f maker ≡ pair_by (seen_in past) careof test f.number maker
  pair_same careof test key f is (Node node) = ap (λ (o : Option Pair). option_and_then (if_passes test) (option_and_then (as_asked careof) o)) (stands.made node.0 f.number)
  pair_same careof test key f is (Outsider outsider) =
      pairs_alike careof test (heard_by outsider (take f.heard w.heard.list.items)) (values outsider (until (is_post f.number) (seen_in past))) (is.come outsider)

  used_same : (home : Claim) (careof : Option Claim) → is_used_by w home careof ≡ is_used_early (seen_in past) home careof
  used_same home None = ap (λ (b : Bool). b || false) (stands.early home.token)
  used_same home (Some c) = two (stands.early home.token) (stands.early c.token)
    where
      two : {a b c d : Bool} → a ≡ b → c ≡ d → (a || c) ≡ (b || d)
      two {a} {b} {c} {d} e f = cc

  otherwise_one : (c : Claim) → is_otherwise c.name (kept_at w.names c.token) ≡ is_misnamed (seen_in past) c.token c.name
  otherwise_one c = kept_otherwise (namings (seen_in past)) c.token c.name (kept_at w.names c.token) (stands.names c.token)

  otherwise_same : (home : Claim) (careof : Option Claim) → is_otherwise_by w home careof ≡ is_named_otherwise (seen_in past) home careof
  otherwise_same home None = ap (λ (b : Bool). b || false) (otherwise_one home)
  otherwise_same home (Some c) = two (otherwise_one home) (otherwise_one c)
    where
      two : {a b c d : Bool} → a ≡ b → c ≡ d → (a || c) ≡ (b || d)
      two {a} {b} {c} {d} e f = cc

  number_one : (c : Claim) → is_misnamed (seen_in past) c.token c.name ≡ false → number_kept (kept_at w.names c.token) ≡ first_sent (seen_in past) c.token c.name
  number_one c well = kept_number (namings (seen_in past)) c.token c.name (kept_at w.names c.token) (stands.names c.token) well

  claims_same : (home : Claim) (careof : Option Claim) (update : ℕ) → claims_looked w home careof update ≡ by_claims (seen_in past) home careof update
  claims_same home careof update = by (is_used_by w home careof) (used_same home careof) (is_otherwise_by w home careof) (otherwise_same home careof) refl
    where
      cots : (o : Option Claim) → option_map_or (λ c. is_misnamed (seen_in past) c.token c.name) o false ≡ false
          → option_map (λ c. number_kept (kept_at w.names c.token)) o ≡ option_map (λ c. first_sent (seen_in past) c.token c.name) o
      cots None well = refl
      cots (Some c) well = ap Some (number_one c well)

      origin : is_named_otherwise (seen_in past) home careof ≡ false
          → Origin (number_kept (kept_at w.names home.token)) (option_map (λ c. number_kept (kept_at w.names c.token)) careof) update ≡ origin_of (seen_in past) home careof update
      origin well =
          let parts = or_parts (is_misnamed (seen_in past) home.token home.name) (option_map_or (λ c. is_misnamed (seen_in past) c.token c.name) careof false) well in
          two (number_one home parts.0) (cots careof parts.1)
        where
          two : {a b : ℕ} {c d : Option ℕ} → a ≡ b → c ≡ d → Origin a c update ≡ Origin b d update
          two {a} {b} {c} {d} e f = cc

      by : (b : Bool) → b ≡ is_used_early (seen_in past) home careof → (c : Bool) → c ≡ is_named_otherwise (seen_in past) home careof → is_otherwise_by w home careof ≡ c
          → (if b then Forged 2 else if c then Forged 3 else Origin (number_kept (kept_at w.names home.token)) (option_map (λ c. number_kept (kept_at w.names c.token)) careof) update)
          ≡ by_claims (seen_in past) home careof update
      by true used c other is = ap (λ (b : Bool). if b then Forged 2 else if is_named_otherwise (seen_in past) home careof then Forged 3 else origin_of (seen_in past) home careof update) used
      by false used true other is =
          two used other
        where
          two : {x y : Bool} → false ≡ x → true ≡ y → Forged 3 ≡ (if x then Forged 2 else if y then Forged 3 else origin_of (seen_in past) home careof update)
          two {x} {y} e f = ap (λ (b : Bool). if b then Forged 2 else Forged 3) e ∙ ap (λ (b : Bool). if x then Forged 2 else if b then Forged 3 else origin_of (seen_in past) home careof update) f
      by false used false other is =
          origin (sym other) ∙ two used other
        where
          two : {x y : Bool} → false ≡ x → false ≡ y → origin_of (seen_in past) home careof update ≡ (if x then Forged 2 else if y then Forged 3 else origin_of (seen_in past) home careof update)
          two {x} {y} e f =
              ap (λ (b : Bool). if b then Forged 2 else origin_of (seen_in past) home careof update) e
              ∙ ap (λ (b : Bool). if x then Forged 2 else if b then Forged 3 else origin_of (seen_in past) home careof update) f

  pair_mark : (a : AcceptedUpdate) (update : ℕ) (o : Option Pair) → pair_looked w a update o ≡ by_pair (seen_in past) a update o
  pair_mark a update None = refl
  pair_mark a update (Some pair) =
      ap (λ (k : Known). claims_looked w (home_claim_in k.life a pair.home) (careof_claim_with k.life a pair.careof a.careof_index) update) (stands.nodes a.node.0)
      ∙ claims_same (home_claim_in (life_at a.node.0 (seen_in past)) a pair.home) (careof_claim_with (life_at a.node.0 (seen_in past)) a pair.careof a.careof_index) update

  first_mark : (a : AcceptedUpdate) (own : Address) (key : UpdateIdentity) → key_at (seen_in past) a.number ≡ Some key → (o : Option First) → IsFirstAtIf w.heard.list.items (seen_in past) a.number o
      → first_looked w a own key o ≡ by_first (seen_in past) a own key (first_update (seen_in past) key)
  first_mark a own key key_is None is = absurd (let e : Some key ≡ None = sym key_is ∙ is in cc)
  first_mark a own key key_is (Some f) is =
      let same : is.key ≡ key = (let e : Some is.key ≡ Some key = sym is.carries ∙ key_is in cc) in
      let first : IsFirst w.heard.list.items (seen_in past) key f = subst (λ (k : UpdateIdentity). IsFirst w.heard.list.items (seen_in past) k f) same is.first in
      ap (λ (o : Option Pair). pair_looked w a f.number o) (pair_same a.careof_index (gives own a.careof key) key f first f.maker)
      ∙ pair_mark a f.number (pair_by (seen_in past) a.careof_index (gives own a.careof key) f.number f.maker)
      ∙ ap (λ (m : Maker). by_pair (seen_in past) a f.number (pair_by (seen_in past) a.careof_index (gives own a.careof key) f.number m)) (sym first.maker)
      ∙ sym (ap (λ (o : Option Post). by_post (seen_in past) a own key f.number o) first.post_is)
      ∙ sym (ap (λ (o : Option ℕ). by_first (seen_in past) a own key o) first.first)

  pub mark_same : (a : AcceptedUpdate) (packet : Option (List ℕ)) → packet ≡ packet_in past a.number → mark_looked w a packet ≡ mark_of (seen_in past) a (declared_in past a.node.0)
  unfolding mark_looked mark_of
  mark_same a packet is = ap (λ (o : Option Address). own_looked w a packet o) (stands.addresses a.node.0) ∙ by (declared_in past a.node.0)
    where
      keyed : (own : Address) (o : Option UpdateIdentity) → key_at (seen_in past) a.number ≡ o → key_looked w a own o ≡ by_key (seen_in past) a own o
      keyed own None key_is = refl
      keyed own (Some key) key_is = first_mark a own key key_is (update_at w.updates a.number) (stands.updates.numbers a.number)

      by : (o : Option Address) → own_looked w a packet o ≡ mark_of (seen_in past) a o
      by None = refl
      by (Some own) =
          ap (λ (o : Option UpdateIdentity). key_looked w a own o) (ap (λ (p : Option (List ℕ)). option_and_then (λ bytes. key_in (carried bytes)) p) is ∙ key_seen past a.number)
          ∙ keyed own (key_at (seen_in past) a.number) refl
