-- Rules of return routability, by what the context knows.
use Rattle.std.proofs.Common.{◌≡◌, ℕ, sym, ap, ◌∙◌}
use Rattle.std.specs.Prelude.{Option, Some, None}
use Rattle.mip_words.specs.declared.address.Address.{Address}
use Rattle.mip_bulist.specs.declared.made.Made.{Made}
use Rattle.mip_rules_mobile.specs.Known.{Known}
use Rattle.mip_rules_mobile.specs.HomeQuestions.{home_of}
use Rattle.mip_rules_mobile.specs.RowQuestions.{peer_of_row, trial_of, wait_of_row}
use Rattle.mip_rules_mobile.specs.Trials.{makes}
use Rattle.mip_rules_mobile.specs.Transitions.{Transition}
use Rattle.mip_rules_mobile.specs.TrialRules.{starts_with, starts_at, starts, source_for, sends_update, makes_with, makes_at, updates, resends_at, resends_row}

pub starts-to : (row : ℕ) (peer : Address) (t : Transition) (k : Known) → t.known ≡ k → peer_of_row k row ≡ Some peer → starts_with k.standing row peer t ≡ starts row t
unfolding starts
starts-to row peer t k known is =
    ap (λ (l : Known). starts_with l.standing row peer t) (sym known)
    ∙ ap (λ (o : Option Address). starts_at o row t) (sym is ∙ ap (λ (l : Known). peer_of_row l row) (sym known))

pub starts-nowhere : (row : ℕ) (t : Transition) (k : Known) → t.known ≡ k → peer_of_row k row ≡ None → t ≡ starts row t
unfolding starts
starts-nowhere row t k known is =
    ap (λ (o : Option Address). starts_at o row t) (sym is ∙ ap (λ (l : Known). peer_of_row l row) (sym known))

pub updates-to : (row wait : ℕ) (peer : Address) (t : Transition) (k : Known) (now : ℕ) → t.known ≡ k → t.now ≡ now → peer_of_row k row ≡ Some peer
    → makes_with (makes (record { 0 = now }) (trial_of k row)) row peer wait t ≡ updates row wait t
unfolding updates
updates-to row wait peer t k now known moment is =
    ap (λ (n : ℕ). makes_with (makes (record { 0 = n }) (trial_of k row)) row peer wait t) (sym moment)
    ∙ ap (λ (l : Known). makes_with (makes (record { 0 = t.now }) (trial_of l row)) row peer wait t) (sym known)
    ∙ ap (λ (o : Option Address). makes_at o row wait t) (sym is ∙ ap (λ (l : Known). peer_of_row l row) (sym known))

pub updates-nowhere : (row wait : ℕ) (t : Transition) (k : Known) → t.known ≡ k → peer_of_row k row ≡ None → t ≡ updates row wait t
unfolding updates
updates-nowhere row wait t k known is =
    ap (λ (o : Option Address). makes_at o row wait t) (sym is ∙ ap (λ (l : Known). peer_of_row l row) (sym known))

pub sends-made : (row wait : ℕ) (peer : Address) (made : Made) (t : Transition) (k : Known) → t.known ≡ k
    → sends_update (source_for k.standing (home_of k) made) row peer made wait t ≡ sends_update (source_for t.known.standing (home_of t.known) made) row peer made wait t
sends-made row wait peer made t k known = ap (λ (l : Known). sends_update (source_for l.standing (home_of l) made) row peer made wait t) (sym known)

pub resends-to : (row : ℕ) (peer : Address) (t : Transition) (k : Known) → t.known ≡ k → peer_of_row k row ≡ Some peer → resends_at (Some peer) row (wait_of_row k row) t ≡ resends_row row t
unfolding resends_row
resends-to row peer t k known is =
    ap (λ (l : Known). resends_at (Some peer) row (wait_of_row l row) t) (sym known)
    ∙ ap (λ (o : Option Address). resends_at o row (wait_of_row t.known row) t) (sym is ∙ ap (λ (l : Known). peer_of_row l row) (sym known))

pub resends-nowhere : (row : ℕ) (t : Transition) (k : Known) → t.known ≡ k → peer_of_row k row ≡ None → t ≡ resends_row row t
unfolding resends_row
resends-nowhere row t k known is =
    ap (λ (o : Option Address). resends_at o row (wait_of_row t.known row) t) (sym is ∙ ap (λ (l : Known). peer_of_row l row) (sym known))
