-- What is known of a question is what the last step says that says anything of it.
use Rattle.std.proofs.Common.{◌≡◌, ℕ, ◌+◌, List, [], ◌∷◌, length, filter, refl, sym, ap, ◌∙◌, arith}
use Rattle.std.specs.Prelude.{not, ◌++◌, Option, Some, None, unwrap_or, is_some, option_and_then, fold, if◌then◌else◌, Bool, true, false, ◌==◌, ◌||◌}
use Rattle.std.specs.List.{list_any}
use Rattle.std.proofs.lemmas.Bool.{eqb-true, eqb-false}
use Rattle.mip_words.specs.declared.address.Address.{Address}
use Rattle.mip_words.specs.declared.moment.Moment.{Moment}
use Rattle.mip_nonce.specs.Secrets.{Life}
use Rattle.mip_words.specs.Last.{or_else, last_where}
use Rattle.mip_words.specs.LastLaws.{since}
use Rattle.mip_words.proofs.LastLaws.{last_where-found, since-quiet}
use Rattle.mip_entries.specs.Stamped.{Stamped}
use Rattle.mip_rules_correspondent.specs.Seen.{CorrespondentSeen}
use Rattle.mip_rules_mobile.specs.declared.attachment.Attachment.TheVariants.{AtHome}
use Rattle.mip_rules_mobile.specs.declared.numbering.Numbering.{Numbering}
use Rattle.mip_rules_mobile.specs.Steps.{Step, Called, is_call}
use Rattle.mip_rules_mobile.specs.Known.{Known}
use Rattle.mip_rules_mobile.specs.HomeQuestions.{standing_said, registered_said, latest_said, agent_said, owes_said, Next, next_said, next_to, with_next, renumbered, home_of}
use Rattle.mip_rules_mobile.specs.DiscoveryQuestions.{found_said, chosen_said, is_choice}
use Rattle.mip_rules_mobile.specs.Questions.{after, fresh, known, part_after}
use Rattle.mip_rules_mobile.specs.Told.{last_told, next_in}

-- of any question whose answer is what a step says of it, else what it was
module _ {X : Type 0} (I : Known → Type 0) (kept : (k : Known) (s : Stamped Step) → I k → I (after k s)) (question : Known → X) (says : Stamped Step → Option X)
    (row : (k : Known) (s : Stamped Step) → I k → question (after k s) ≡ unwrap_or (says s) (question k)) where
  tells : Stamped Step → Bool
  tells s = is_some (says s)

  later : (x : Stamped Step) (o : Option X) (d e : X) → says x ≡ o → is_some (says x) ≡ true → unwrap_or (says x) d ≡ unwrap_or (says x) e
  later x (Some y) d e is some = ap (λ (o : Option X). unwrap_or o d) is ∙ sym (ap (λ (o : Option X). unwrap_or o e) is)
  later x None d e is some = absurd (let both : false ≡ true = sym (ap (λ (o : Option X). is_some o) is) ∙ some in cc)

  here : (s : Stamped Step) (k : Known) (o : Option X) → says s ≡ o → unwrap_or (says s) (question k) ≡ unwrap_or (option_and_then says (if is_some (says s) then Some s else None)) (question k)
  here s k (Some y) is =
      ap (λ (o : Option X). unwrap_or o (question k)) is
      ∙ sym (ap (λ (b : Bool). unwrap_or (option_and_then says (if b then Some s else None)) (question k)) (ap (λ (o : Option X). is_some o) is)
      ∙ ap (λ (o : Option X). unwrap_or o (question k)) is)
  here s k None is =
      ap (λ (o : Option X). unwrap_or o (question k)) is
      ∙ sym (ap (λ (b : Bool). unwrap_or (option_and_then says (if b then Some s else None)) (question k)) (ap (λ (o : Option X). is_some o) is))

  pub told_under : (k : Known) (past : List (Stamped Step)) → I k → question (fold after k past) ≡ last_told says (question k) past
  told_under k [] i = refl
  told_under k (s ∷ past) i = told_under (after k s) past (kept k s i) ∙ by (last_where (λ (s : Stamped Step). is_some (says s)) past) refl
    where
      by : (o : Option (Stamped Step)) → last_where (λ (s : Stamped Step). is_some (says s)) past ≡ o
          → unwrap_or (option_and_then says o) (question (after k s)) ≡ unwrap_or (option_and_then says (or_else o (if is_some (says s) then Some s else None))) (question k)
      by (Some x) is =
          let f = last_where-found (λ (s : Stamped Step). is_some (says s)) past x is in
          later x (says x) (question (after k s)) (question k) refl f.passes
      by None is = row k s i ∙ here s k (says s) refl

pub told : {X : Type 0} (question : Known → X) (says : Stamped Step → Option X) → ((k : Known) (s : Stamped Step) → question (after k s) ≡ unwrap_or (says s) (question k))
    → (k : Known) (past : List (Stamped Step)) → question (fold after k past) ≡ last_told says (question k) past
told question says row k past = told_under (λ k. Unit {0}) (λ k s i. tt) question says (λ k s i. row k s) k past tt

-- its home address is the same for ever
own-kept : (part : CorrespondentSeen) (at : ℕ) (step : Step) → (part_after part at step).identity.own ≡ part.identity.own
own-kept part at (Called call) = refl
own-kept part at _ = refl

pub home-kept : (k : Known) (s : Stamped Step) → home_of (after k s) ≡ home_of k
unfolding after
home-kept k s = own-kept k.part s.at s.step

-- the next sequence to an agent, after another
next-with : (agent to : Address) (next : ℕ) (ns : List Numbering) → next_to agent (with_next to next ns) ≡ unwrap_or (if to.0 == agent.0 then Some next else None) (next_to agent ns)
next-with agent to next [] = by (to.0 == agent.0)
  where
    by : (same : Bool) → (if same then next else 1) ≡ unwrap_or (if same then Some next else None) 1
    by true = refl
    by false = refl
next-with agent to next (n ∷ ns) = by (n.agent.0 == to.0) refl (next-with agent to next ns)
  where
    later : ℕ
    later = next_to agent (with_next to next ns)

    dropped : (a b : Bool) → (a ≡ true → b ≡ true) → later ≡ unwrap_or (if b then Some next else None) (next_to agent ns)
        → later ≡ unwrap_or (if b then Some next else None) (if a then n.next else next_to agent ns)
    dropped true true same is = is
    dropped true false same is = absurd (let both : false ≡ true = same refl in cc)
    dropped false true same is = is
    dropped false false same is = is

    kept : (a b : Bool) → (a ≡ true → b ≡ false) → later ≡ unwrap_or (if b then Some next else None) (next_to agent ns)
        → (if a then n.next else later) ≡ unwrap_or (if b then Some next else None) (if a then n.next else next_to agent ns)
    kept false b apart is = is
    kept true true apart is = absurd (let both : true ≡ false = apart refl in cc)
    kept true false apart is = refl

    differ : n.agent.0 == to.0 ≡ false → n.agent.0 == agent.0 ≡ true → (b : Bool) → to.0 == agent.0 ≡ b → b ≡ false
    differ apart same false is = refl
    differ apart same true is =
        let one : n.agent.0 ≡ to.0 = eqb-true n.agent.0 agent.0 same ∙ sym (eqb-true to.0 agent.0 is) in
        absurd (eqb-false n.agent.0 to.0 apart one)

    by : (same : Bool) → n.agent.0 == to.0 ≡ same → later ≡ unwrap_or (if to.0 == agent.0 then Some next else None) (next_to agent ns)
        → next_to agent ((if not same then n ∷ filter (λ m. not (m.agent.0 == to.0)) ns else filter (λ m. not (m.agent.0 == to.0)) ns) ++ record { agent = to; next = next } ∷ [])
        ≡ unwrap_or (if to.0 == agent.0 then Some next else None) (next_to agent (n ∷ ns))
    by true same is = dropped (n.agent.0 == agent.0) (to.0 == agent.0) (λ e. ap (λ (m : ℕ). m == agent.0) (sym (eqb-true n.agent.0 to.0 same)) ∙ e) is
    by false apart is = kept (n.agent.0 == agent.0) (to.0 == agent.0) (λ same. differ apart same (to.0 == agent.0) refl) is

next-row : (agent : Address) (o : Option (Option Next)) (ns : List Numbering) → next_to agent (renumbered o ns) ≡ unwrap_or (next_in agent o) (next_to agent ns)
next-row agent None ns = refl
next-row agent (Some None) ns = refl
next-row agent (Some (Some n)) ns = next-with agent n.agent n.next ns

-- how many were chosen since others were found
module _ (r p : Stamped Step → Bool) (question : Known → ℕ) (row : (k : Known) (s : Stamped Step) → question (after k s) ≡ (if r s then 0 else if p s then question k + 1 else question k)) where
  abbrev counted : Bool → ℕ → ℕ → List (Stamped Step) → ℕ
  counted any later before past = if any then later else before + length (filter p past)

  pub counts : (k : Known) (past : List (Stamped Step)) → question (fold after k past) ≡ counted (list_any r past) (length (filter p (since r past))) (question k) past
  counts k [] = omega arith
  counts k (s ∷ past) = counts (after k s) past ∙ by (list_any r past) (r s) (p s) (row k s)
    where
      by : (later here chosen : Bool) → question (after k s) ≡ (if here then 0 else if chosen then question k + 1 else question k)
          → counted later (length (filter p (since r past))) (question (after k s)) past
          ≡ (if here || later then length (filter p (if later then since r past else (if here then past else s ∷ past))) else question k + length (if chosen then s ∷ filter p past else filter p past))
      by true true chosen is = refl
      by true false chosen is = refl
      by false true chosen is = omega (arith, is)
      by false false true is = omega (arith, is)
      by false false false is = omega (arith, is)

module _ (home : Address) (declared : Option Address) (numbers : ℕ) (secrets : Life) (past : List (Stamped Step)) where
  abbrev first : Known
  first = fresh home declared numbers secrets

  pub registered-told : (known home declared numbers secrets past).registered ≡ last_told (λ s. registered_said s.step) None past
  unfolding known after
  registered-told = told (λ k. k.registered) (λ s. registered_said s.step) (λ k s. refl) first past

  pub latest-told : (known home declared numbers secrets past).latest ≡ last_told (λ s. latest_said s.at s.step) None past
  unfolding known after
  latest-told = told (λ k. k.latest) (λ s. latest_said s.at s.step) (λ k s. refl) first past

  pub agent-told : (known home declared numbers secrets past).agent ≡ last_told (λ s. agent_said s.step) None past
  unfolding known after
  agent-told = told (λ k. k.agent) (λ s. agent_said s.step) (λ k s. refl) first past

  pub owes-told : (known home declared numbers secrets past).owes ≡ last_told (λ s. owes_said s.step) false past
  unfolding known after
  owes-told = told (λ k. k.owes) (λ s. owes_said s.step) (λ k s. refl) first past

  pub found-told : (known home declared numbers secrets past).found ≡ last_told (λ s. found_said s.step) [] past
  unfolding known after
  found-told = told (λ k. k.found) (λ s. found_said s.step) (λ k s. refl) first past

  pub chosen-told : (known home declared numbers secrets past).chosen ≡ last_told (λ s. chosen_said s.step) None past
  unfolding known after
  chosen-told = told (λ k. k.chosen) (λ s. chosen_said s.step) (λ k s. refl) first past

  pub next-told : (agent : Address) → next_to agent (known home declared numbers secrets past).numberings ≡ last_told (λ s. next_in agent (next_said s.step)) 1 past
  unfolding known after
  next-told agent = told (λ k. next_to agent k.numberings) (λ s. next_in agent (next_said s.step)) (λ k s. next-row agent (next_said s.step) k.numberings) first past

  last-row : (b : Bool) (at : ℕ) (last : ℕ) → (let m : Moment = (if b then record { 0 = at } else record { 0 = last }) in m.0) ≡ unwrap_or (if b then Some at else None) last
  last-row true at last = refl
  last-row false at last = refl

  pub last-told : (known home declared numbers secrets past).last.0 ≡ last_told (λ s. if is_call s.step then Some s.at else None) 0 past
  unfolding known after
  last-told = told (λ k. k.last.0) (λ s. if is_call s.step then Some s.at else None) (λ k s. last-row (is_call s.step) s.at k.last.0) first past

  pub standing-told : (known home declared numbers secrets past).standing ≡ last_told (λ s. standing_said home s.step) AtHome past
  unfolding known after
  standing-told =
      told_under (λ k. home_of k ≡ home) (λ k s i. home-kept k s ∙ i) (λ k. k.standing) (λ s. standing_said home s.step)
      (λ k s i. ap (λ (a : Address). unwrap_or (standing_said a s.step) k.standing) i) first past refl

  pub tried-told : (known home declared numbers secrets past).tried ≡ length (filter (λ s. is_choice s.step) (since (λ s. is_some (found_said s.step)) past))
  unfolding known after
  tried-told =
      counts reply choice (λ k. k.tried) (λ k s. refl) first past ∙ by (list_any reply past) refl
    where
      reply : Stamped Step → Bool
      reply s = is_some (found_said s.step)

      choice : Stamped Step → Bool
      choice s = is_choice s.step

      by : (any : Bool) → list_any reply past ≡ any → counted reply choice (λ k. k.tried) (λ k s. refl) any (length (filter choice (since reply past))) 0 past ≡ length (filter choice (since reply past))
      by true is = refl
      by false is =
          let none : 0 + length (filter choice past) ≡ length (filter choice past) = omega arith in
          none ∙ ap (λ (l : List (Stamped Step)). length (filter choice l)) (sym (since-quiet reply [] past is))
