-- A rule that reads what is known, by what the code read of it.
use Rattle.std.proofs.Common.{◌≡◌, ℕ, sym, ap, ◌∙◌, subst}
use Rattle.std.specs.Prelude.{Result, OnOk}
use Rattle.mip_words.specs.declared.address.Address.{Address}
use Rattle.mip_rules_mobile.specs.Known.{Known}
use Rattle.mip_rules_mobile.specs.HomeQuestions.{home_of}
use Rattle.mip_rules_mobile.specs.Transitions.{Transition}
use Rattle.mip_afresh_mobile_state.specs.declared.turn.Turn.{Turn}
use Rattle.mip_afresh_mobile_state.specs.Mobiles.{MobileSeen, seen_of}
use Rattle.mip_afresh_mobile_state.specs.Turns.{Shows, Goes, home_in}

pub shown-known : (turn : Turn) (t : Transition) → Shows turn t → seen_of t.known ≡ turn.mobile
unfolding Shows
shown-known turn t shows = shows.1

pub shown-now : (turn : Turn) (t : Transition) → Shows turn t → t.now ≡ turn.now.0
unfolding Shows
shown-now turn t shows = shows.0

-- a question at the moment of a turn has the answer that it has of each transition that shows there
pub read : {X : Type 0} (turn : Turn) (q : Known → ℕ → X) (x : X) → ((k : Known) → seen_of k ≡ turn.mobile → x ≡ q k turn.now.0)
    → (t : Transition) → Shows turn t → x ≡ q t.known t.now
read turn q x answers t shows =
    answers t.known (shown-known turn t shows) ∙ ap (λ (n : ℕ). q t.known n) (sym (shown-now turn t shows))

-- so a rule may ask it
pub asked : {X R E : Type 0} (result : Result R E) (old new : Turn) (q : Known → ℕ → X) (x : X) (rule : X → Transition → Transition)
    → ((k : Known) → seen_of k ≡ old.mobile → x ≡ q k old.now.0) → Goes result (rule x) old new → Goes result (λ t. rule (q t.known t.now) t) old new
asked result old new q x rule answers goes = λ t shows.
    subst (λ y. OnOk result (Shows new (rule y t))) (read old q x answers t shows) (goes t shows)

-- the home address is known to each transition that shows
pub home-known : (turn : Turn) (k : Known) → seen_of k ≡ turn.mobile → home_in turn ≡ home_of k
home-known turn k same = ap (λ (m : MobileSeen). m.identity.own) (sym same)

pub home-here : (turn : Turn) (t : Transition) (home : Address) → Shows turn t → ((k : Known) → seen_of k ≡ turn.mobile → home ≡ home_of k) → home ≡ home_in turn
home-here turn t home shows is =
    is t.known (shown-known turn t shows) ∙ sym (home-known turn t.known (shown-known turn t shows))
