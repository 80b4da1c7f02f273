-- What each row of the verdict answers.
use Rattle.std.proofs.Common.{◌≡◌, ℕ, refl, ap, ◌∙◌, List, not, ◌&&◌}
use Rattle.std.proofs.lemmas.Bool.{cond-true, cond-false, not_from_true, not_from_false}
use Rattle.std.specs.Prelude.{Option, Some, None, IsTrue, IsFalse}
use Rattle.mip_words.specs.Addresses.{is_routable}
use Rattle.mip_words.specs.Sequence.{is_after}
use Rattle.mip_words.specs.declared.why.Why.TheVariants as whys
use Rattle.mip_mobhdr.specs.declared.indices.Indices.{Indices}
use Rattle.mip_nonce.specs.Window.{number_named}
use Rattle.mip_tokens.specs.Token.{is_authentic}
use Rattle.mip_reception.specs.declared.registration.Registration.{Registration}
use Rattle.mip_reception.specs.Registrations.{home_of, careof_of, registered_of}
use Rattle.mip_rules_correspondent.specs.declared.verdict.Verdict.TheVariants.{Refuse, Deny}
use Rattle.mip_rules_correspondent.specs.Verdicts.{Bench, kbm_of, by_room, by_sequence, by_numbers, by_indices, careof_number, verdict}
use Rattle.mip_rules_correspondent.specs.Rows.{HasRoutableAddresses, IsComplete, IsAuthorized, IsInSequence, JudgesInOrder}

module _ (b : Bench) (r : Registration) (message : List ℕ) where
  for_agent : IsTrue r.for_agent → verdict b r message ≡ Deny 131 r.sequence None
  unfolding verdict
  for_agent agent = cond-true r.for_agent _ _ agent

  unroutable : IsFalse r.for_agent → IsFalse (is_routable (home_of r).0 && is_routable (careof_of r).0) → verdict b r message ≡ Refuse whys.Unroutable
  unfolding verdict
  unroutable correspondent other = cond-false r.for_agent _ _ correspondent ∙ cond-true (not (is_routable (home_of r).0 && is_routable (careof_of r).0)) _ _ (not_from_false _ other)

  unauthorized : IsFalse r.for_agent → HasRoutableAddresses r → IsFalse r.authorized → verdict b r message ≡ Refuse whys.Options
  unfolding verdict
  unauthorized correspondent routable none =
      cond-false r.for_agent _ _ correspondent ∙ cond-false (not (is_routable (home_of r).0 && is_routable (careof_of r).0)) _ _ (not_from_true _ routable)
      ∙ cond-true (not r.authorized) _ _ (not_from_false _ none)

  -- behind the first three rows
  behind : IsFalse r.for_agent → HasRoutableAddresses r → IsTrue r.authorized → verdict b r message ≡ by_indices b r message r.nonces
  unfolding verdict
  behind correspondent routable authorized =
      cond-false r.for_agent _ _ correspondent ∙ cond-false (not (is_routable (home_of r).0 && is_routable (careof_of r).0)) _ _ (not_from_true _ routable)
      ∙ cond-false (not r.authorized) _ _ (not_from_true _ authorized)

  complete : (indices : Indices) → IsComplete r indices → verdict b r message ≡ by_numbers b r message (number_named b.now indices.home) (careof_number b r indices)
  complete indices is = behind is.correspondent is.routable is.authorized ∙ ap (by_indices b r message) is.nonces

  numbered : (indices : Indices) (i : Option ℕ) (j : Option (Option ℕ)) → IsComplete r indices → number_named b.now indices.home ≡ i → careof_number b r indices ≡ j
      → verdict b r message ≡ by_numbers b r message i j
  numbered indices i j is home careof =
      complete indices is ∙ ap (λ (o : Option ℕ). by_numbers b r message o (careof_number b r indices)) home ∙ ap (by_numbers b r message i) careof

  opened : (i : ℕ) (j : Option ℕ) → IsAuthorized b r message i j → verdict b r message ≡ by_sequence b r i j (kbm_of b r i j) b.floor
  opened i j is =
      numbered is.indices (Some i) (Some j) is.complete is.home is.careof
      ∙ cond-false (not (is_authentic (kbm_of b r i j).0 (registered_of r) b.own message)) _ _ (not_from_true _ is.authentic)

  in_sequence : (i : ℕ) (j : Option ℕ) (floor : Option ℕ) → IsInSequence r floor → by_sequence b r i j (kbm_of b r i j) floor ≡ by_room b r i j (kbm_of b r i j)
  in_sequence i j None is = refl
  in_sequence i j (Some last) is = cond-false (not (is_after r.sequence last)) _ _ (not_from_true _ is)

  pub judges : JudgesInOrder b r message
  judges = record {
    for_agent = for_agent;
    unroutable = unroutable;
    unauthorized = unauthorized;
    unnamed = λ correspondent routable authorized none. behind correspondent routable authorized ∙ ap (by_indices b r message) none;
    no_nonce = λ indices is home careof. numbered indices None None is home careof;
    no_home_nonce = λ indices j is home careof. numbered indices None (Some j) is home careof;
    no_careof_nonce = λ indices i is home careof. numbered indices (Some i) None is home careof;
    authenticator = λ indices i j is home careof other.
        numbered indices (Some i) (Some j) is home careof ∙ cond-true (not (is_authentic (kbm_of b r i j).0 (registered_of r) b.own message)) _ _ (not_from_false _ other);
    sequence = λ i j last is kept older.
        opened i j is ∙ ap (by_sequence b r i j (kbm_of b r i j)) kept ∙ cond-true (not (is_after r.sequence last)) _ _ (not_from_false _ older);
    room = λ i j is newer full. opened i j is ∙ in_sequence i j b.floor newer ∙ cond-true b.full _ _ full;
    accept = λ i j is newer free. opened i j is ∙ in_sequence i j b.floor newer ∙ cond-false b.full _ _ free;
  }
