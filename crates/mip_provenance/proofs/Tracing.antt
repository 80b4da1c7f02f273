-- A mark that is not forged traces both tokens and the update.
use Rattle.std.proofs.Common.{◌≡◌, ℕ, List, [], ◌∷◌, Bool, true, false, refl, sym, ap, ◌∙◌, subst}
use Rattle.std.specs.Prelude.{Option, Some, None, ◌||◌, if◌then◌else◌, option_map, unwrap_or, ⊤}
use Rattle.std.specs.List.{list_any}
use Rattle.std.specs.Option.{option_map_or}
use Rattle.std.proofs.lemmas.Bool.{or_parts}
use Rattle.mip_words.specs.declared.address.Address.{Address}
use Rattle.mip_packets.specs.Says.{UpdateIdentity}
use Rattle.mip_provenance.specs.declared.maker.Maker.{Maker}
use Rattle.mip_provenance.specs.declared.accepted_update.AcceptedUpdate.{AcceptedUpdate}
use Rattle.mip_provenance.specs.declared.mark.Mark.TheVariants.{Origin, Forged}
use Rattle.mip_provenance.specs.Lists.{until}
use Rattle.mip_provenance.specs.Sights.{Sight}
use Rattle.mip_provenance.specs.ReachedLaws.{reaches, has_reached}
use Rattle.mip_provenance.specs.Names.{Naming, number_of_naming, life_at, is_misnamed, first_sent}
use Rattle.mip_provenance.specs.Firsts.{Post, is_post, post_at, key_at, first_update}
use Rattle.mip_provenance.specs.Pairs.{Pair, gives, pair_by}
use Rattle.mip_provenance.specs.Causes.{Claim, home_claim, careof_claim_in, careof_claim_with, careof_claim, is_early, is_used_early, is_named_otherwise}
use Rattle.mip_provenance.specs.Marks.{origin_of, by_claims, by_pair, by_post, by_first, by_key, mark_of}
use Rattle.mip_provenance.specs.Traces.{IsTraced, IsCareofTraced, IsTracedMark}
use Rattle.mip_provenance.specs.Laws.{AreLawful}
use Rattle.mip_provenance.proofs.Tokens.{reached_carried, own_of_carried}
use Rattle.mip_provenance.proofs.Pairing.{HasCome, paired}

-- what had come before a place is in the whole
any_until : {X : Type 0} (p q : X → Bool) (xs : List X) → list_any p (until q xs) ≡ true → list_any p xs ≡ true
any_until p q [] e = absurd cc
any_until {X = X} p q (x ∷ xs) e = by (q x) (any_until p q xs) e
  where
    inner : (c : Bool) → (list_any p (until q xs) ≡ true → list_any p xs ≡ true) → (c || list_any p (until q xs)) ≡ true → (c || list_any p xs) ≡ true
    inner true later e = refl
    inner false later e = later e

    by : (b : Bool) → (list_any p (until q xs) ≡ true → list_any p xs ≡ true) → list_any p (if b then [] else x ∷ until q xs) ≡ true → (p x || list_any p xs) ≡ true
    by true later e = absurd cc
    by false later e = inner (p x) later e

-- a token that had reached the maker, under no cause, is traced
traced_one : (seen : List Sight) (maker : Maker) (k : ℕ) (claim : Claim) → AreLawful seen → has_reached maker claim.token (until (is_post k) seen) ≡ true
    → is_early seen claim.token ≡ false → is_misnamed seen claim.token claim.name ≡ false → IsTraced seen maker k claim (first_sent seen claim.token claim.name)
traced_one seen maker k claim lawful reached late well =
    let carried = reached_carried seen maker claim.token lawful (any_until (reaches maker claim.token) (is_post k) seen reached) in
    let own = own_of_carried seen claim.token claim.name lawful carried late well in
    record {
      reached = reached;
      naming = own.item;
      first = own.found;
      same = sym (ap (λ (o : Option Naming). unwrap_or (option_map number_of_naming o) 0) own.found);
    }

-- neither of causes 2 and 3 holds
pub record IsClear (seen : List Sight) (claim : Claim) : Type 0 where
  pub late : is_early seen claim.token ≡ false
  pub well : is_misnamed seen claim.token claim.name ≡ false

abbrev pub AreClear : List Sight → Option Claim → Type 0
AreClear seen None = ⊤
AreClear seen (Some claim) = IsClear seen claim

pub record IsOriginOf (seen : List Sight) (home : Claim) (careof : Option Claim) (k hot : ℕ) (cot : Option ℕ) (update : ℕ) : Type 0 where
  pub home_clear : IsClear seen home
  pub careof_clear : AreClear seen careof
  pub hot_is : first_sent seen home.token home.name ≡ hot
  pub cot_is : option_map (λ c. first_sent seen c.token c.name) careof ≡ cot
  pub update_is : k ≡ update

by_claims-origin : (seen : List Sight) (home : Claim) (careof : Option Claim) (k hot : ℕ) (cot : Option ℕ) (update : ℕ) → by_claims seen home careof k ≡ Origin hot cot update
    → IsOriginOf seen home careof k hot cot update
by_claims-origin seen home careof k hot cot update e = by (is_used_early seen home careof) (is_named_otherwise seen home careof) refl refl e
  where
    rest : (o : Option Claim) → option_map_or (λ c. is_early seen c.token) o false ≡ false → option_map_or (λ c. is_misnamed seen c.token c.name) o false ≡ false → AreClear seen o
    rest None late well = tt
    rest (Some c) late well = record { late = late; well = well }

    by : (b c : Bool) → is_used_early seen home careof ≡ b → is_named_otherwise seen home careof ≡ c → (if b then Forged 2 else if c then Forged 3 else origin_of seen home careof k) ≡ Origin hot cot update
        → IsOriginOf seen home careof k hot cot update
    by true c early other e = absurd cc
    by false true early other e = absurd cc
    by false false early other e =
        let late = or_parts (is_early seen home.token) (option_map_or (λ c. is_early seen c.token) careof false) early in
        let well = or_parts (is_misnamed seen home.token home.name) (option_map_or (λ c. is_misnamed seen c.token c.name) careof false) other in
        record {
          home_clear = record { late = late.0; well = well.0 };
          careof_clear = rest careof late.1 well.1;
          hot_is = cc;
          cot_is = cc;
          update_is = cc;
        }

careof_traced : (seen : List Sight) (a : AcceptedUpdate) (maker : Maker) (k : ℕ) (j : Option ℕ) (q : Option (List ℕ)) (cot : Option ℕ) → AreLawful seen
    → HasCome maker (until (is_post k) seen) j q → AreClear seen (careof_claim_with (life_at a.node.0 seen) a q j)
    → option_map (λ c. first_sent seen c.token c.name) (careof_claim_with (life_at a.node.0 seen) a q j) ≡ cot → IsCareofTraced seen a maker k j q cot
careof_traced seen a maker k None None cot lawful come clear is = subst (λ (o : Option ℕ). IsCareofTraced seen a maker k None None o) is tt
careof_traced seen a maker k (Some j) (Some q) cot lawful come clear is =
    subst (λ (o : Option ℕ). IsCareofTraced seen a maker k (Some j) (Some q) o) is
    (traced_one seen maker k (careof_claim_in (life_at a.node.0 seen) a q j) lawful come clear.late clear.well)
careof_traced seen a maker k None (Some q) cot lawful come clear is = absurd come
careof_traced seen a maker k (Some j) None cot lawful come clear is = absurd come

-- the theorem on sights: a mark that is not forged has its trace
pub traced : (seen : List Sight) (a : AcceptedUpdate) (own : Address) (hot : ℕ) (cot : Option ℕ) (update : ℕ) → AreLawful seen → mark_of seen a (Some own) ≡ Origin hot cot update
    → IsTracedMark seen a own hot cot update
unfolding mark_of
traced seen a own hot cot update lawful e = of_key (key_at seen a.number) refl e
  where
    of_pair : (key : UpdateIdentity) (k : ℕ) (post : Post) → key_at seen a.number ≡ Some key → first_update seen key ≡ Some k → post_at seen k ≡ Some post
        → (o : Option Pair) → pair_by seen a.careof_index (gives own a.careof key) k post.maker ≡ o → by_pair seen a k o ≡ Origin hot cot update → IsTracedMark seen a own hot cot update
    of_pair key k post key_is first_is post_is None pair_is e = absurd cc
    of_pair key k post key_is first_is post_is (Some pair) pair_is e =
        let o = by_claims-origin seen (home_claim seen a pair.home) (careof_claim seen a pair) k hot cot update e in
        let p = paired seen a.careof_index (gives own a.careof key) k post.maker pair lawful pair_is in
        record {
          key = key;
          key_is = key_is;
          first_is = first_is ∙ ap Some o.update_is;
          post = post;
          post_is = subst (λ (n : ℕ). post_at seen n ≡ Some post) o.update_is post_is;
          pair = pair;
          authentic = p.passes;
          home = subst (λ (n : ℕ). IsTraced seen post.maker n (home_claim seen a pair.home) hot) o.update_is
              (subst (λ (n : ℕ). IsTraced seen post.maker k (home_claim seen a pair.home) n) o.hot_is
              (traced_one seen post.maker k (home_claim seen a pair.home) lawful p.home_came o.home_clear.late o.home_clear.well));
          careof = subst (λ (n : ℕ). IsCareofTraced seen a post.maker n a.careof_index pair.careof cot) o.update_is
              (careof_traced seen a post.maker k a.careof_index pair.careof cot lawful p.careof_came o.careof_clear o.cot_is);
        }

    of_post : (key : UpdateIdentity) (k : ℕ) → key_at seen a.number ≡ Some key → first_update seen key ≡ Some k → (o : Option Post) → post_at seen k ≡ o → by_post seen a own key k o ≡ Origin hot cot update
        → IsTracedMark seen a own hot cot update
    of_post key k key_is first_is None post_is e = absurd cc
    of_post key k key_is first_is (Some post) post_is e =
        of_pair key k post key_is first_is post_is (pair_by seen a.careof_index (gives own a.careof key) k post.maker) refl e

    of_first : (key : UpdateIdentity) → key_at seen a.number ≡ Some key → (o : Option ℕ) → first_update seen key ≡ o → by_first seen a own key o ≡ Origin hot cot update → IsTracedMark seen a own hot cot update
    of_first key key_is None first_is e = absurd cc
    of_first key key_is (Some k) first_is e = of_post key k key_is first_is (post_at seen k) refl e

    of_key : (o : Option UpdateIdentity) → key_at seen a.number ≡ o → by_key seen a own o ≡ Origin hot cot update → IsTracedMark seen a own hot cot update
    of_key None key_is e = absurd cc
    of_key (Some key) key_is e = of_first key key_is (first_update seen key) refl e
