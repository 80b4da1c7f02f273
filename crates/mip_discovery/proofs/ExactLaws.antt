-- Of each address the list has the agent as it was last heard, while its life lasts.
use Rattle.std.proofs.Common.{◌≡◌, ◌≢◌, ℕ, suc, ◌+◌, ◌≤◌, List, [], ◌∷◌, Bool, true, false, length, map, refl, sym, ap, ◌∙◌, subst, arith}
use Rattle.std.specs.Prelude.{Option, Some, None, fold, nat_lt, not, ◌==◌, ◌&&◌, ◌||◌, if◌then◌else◌}
use Rattle.std.specs.List.{filter, list_any, AllByRecursion}
use Rattle.std.proofs.lemmas.Bool.Decides.{nat_tests}
use Rattle.std.proofs.lemmas.Bool.{or_parts}
use Rattle.mip_words.specs.Last.{or_else}
use Rattle.mip_discovery.specs.declared.agent.Agent.{Agent}
use Rattle.mip_discovery.specs.Heard.{Heard, agent_of, is_live, is_of, is_again, renewed, stays, placed_by, entered_by}
use Rattle.mip_discovery.specs.Listed.{Listed, Ledger, heard_by, ledger, listed, live_listed}
use Rattle.mip_discovery.specs.ListedLaws.{live_as, last_heard}
use Rattle.mip_discovery.proofs.ListLaws.{filter_alike, filter-filter}
use Rattle.mip_discovery.proofs.ViewLaws.{map-filter}

abbrev put : (Agent → Agent) → Listed → Listed
put f x = record { agent = f x.agent; arrived = x.arrived }

-- ---- one agent

-- an agent heard again is the one that is heard, but for the end of its life
renewed_of : (now a : ℕ) (heard x : Agent) → is_of a (renewed now heard x) ≡ is_of a x
renewed_of now a heard x = by (is_again now heard x) refl
  where
    by : (b : Bool) → is_again now heard x ≡ b → is_of a (if b then heard else x) ≡ is_of a x
    by true is = grind (arith, nat_tests)
    by false is = refl

-- what becomes of the agents of another address
other_stays : (at now a : ℕ) (heard x : Agent) → at ≤ now → a ≢ heard.address.0 → ((is_of a x && is_live now x) && stays at heard x) ≡ (is_of a x && is_live now x)
other_stays at now a heard x later other = grind (arith, nat_tests)

-- and of those of this address
own_stays : (at : ℕ) (heard x : Agent) → (is_of heard.address.0 x && stays at heard x) ≡ is_again at heard x
own_stays at heard x = by (is_of heard.address.0 x) (is_live at x) (x.preference == heard.preference)
  where
    by : (own live same : Bool) → (own && (live && not (own && not same))) ≡ (live && (own && same))
    by true true true = refl
    by true true false = refl
    by true false true = refl
    by true false false = refl
    by false true true = refl
    by false true false = refl
    by false false true = refl
    by false false false = refl

own_live : (at now : ℕ) (heard x : Agent) → ((is_of heard.address.0 x && is_live now x) && stays at heard x) ≡ (is_again at heard x && is_live now x)
own_live at now heard x = by (is_of heard.address.0 x) (is_live at x) (x.preference == heard.preference) (is_live now x)
  where
    by : (own live same later : Bool) → ((own && later) && (live && not (own && not same))) ≡ ((live && (own && same)) && later)
    by true true true true = refl
    by true true true false = refl
    by true true false true = refl
    by true true false false = refl
    by true false true true = refl
    by true false true false = refl
    by true false false true = refl
    by true false false false = refl
    by false true true true = refl
    by false true true false = refl
    by false true false true = refl
    by false true false false = refl
    by false false true true = refl
    by false false true false = refl
    by false false false true = refl
    by false false false false = refl

-- the agent that is heard, heard again
again_itself : (at now : ℕ) (heard : Agent) → at ≤ now → (is_again at heard heard && is_live now heard) ≡ is_live now heard
again_itself at now heard later = grind (arith, nat_tests)

again_renewed : (at now : ℕ) (heard x : Agent) → at ≤ now → (is_again at heard (renewed at heard x) && is_live now (renewed at heard x)) ≡ (is_again at heard x && is_live now heard)
again_renewed at now heard x later = by (is_again at heard x) refl
  where
    by : (b : Bool) → is_again at heard x ≡ b → (is_again at heard (if b then heard else x) && is_live now (if b then heard else x)) ≡ (b && is_live now heard)
    by true is = again_itself at now heard later
    by false is = ap (λ (b : Bool). b && is_live now x) is

again_of : (at : ℕ) (heard x : Agent) → is_again at heard x ≡ true → is_of heard.address.0 x ≡ true
again_of at heard x is = grind (arith, nat_tests)

-- ---- the agents of one address

abbrev own : ℕ → List Listed → List Listed
own a xs = filter (λ x. is_of a x.agent) xs

abbrev seen : ℕ → ℕ → List Listed → List Listed
seen a now xs = filter (λ x. is_of a x.agent && is_live now x.agent) xs

abbrev again : ℕ → Agent → List Listed → List Listed
again at heard xs = filter (λ x. is_again at heard x.agent) xs

-- an advertisement enters nothing of another address
placed_other : (p : Listed → Bool) (new : Listed) (xs : List Listed) → p new ≡ false → filter p (placed_by (λ x. x.agent.preference) new xs) ≡ filter p xs
placed_other p new [] fails = ap (λ (b : Bool). if b then new ∷ [] else []) fails
placed_other p new (x ∷ xs) fails = by (nat_lt x.agent.preference new.agent.preference) (placed_other p new xs fails)
  where
    by : (b : Bool) → filter p (placed_by (λ x. x.agent.preference) new xs) ≡ filter p xs → filter p (if b then new ∷ x ∷ xs else x ∷ placed_by (λ x. x.agent.preference) new xs) ≡ filter p (x ∷ xs)
    by true more = ap (λ (b : Bool). if b then new ∷ filter p (x ∷ xs) else filter p (x ∷ xs)) fails
    by false more = ap (λ (l : List Listed). if p x then x ∷ l else l) more

-- what is renewed of another address stays as it is
renewed_other : (at now a : ℕ) (heard : Agent) (xs : List Listed) → a ≢ heard.address.0 → seen a now (map (put (renewed at heard)) xs) ≡ seen a now xs
renewed_other at now a heard [] other = refl
renewed_other at now a heard (x ∷ xs) other = by (is_again at heard x.agent) refl (renewed_other at now a heard xs other)
  where
    by : (b : Bool) → is_again at heard x.agent ≡ b → seen a now (map (put (renewed at heard)) xs) ≡ seen a now xs
        → (if is_of a (if b then heard else x.agent) && is_live now (if b then heard else x.agent) then (record { agent = (if b then heard else x.agent); arrived = x.arrived }) ∷ seen a now (map (put (renewed at heard)) xs) else seen a now (map (put (renewed at heard)) xs)) ≡ seen a now (x ∷ xs)
    by true is more =
        let fails : is_of a heard ≡ false = grind (arith, nat_tests) in
        let none : is_of a x.agent ≡ false = grind (arith, nat_tests) in
        ap (λ (b : Bool). if b && is_live now heard then (record { agent = heard; arrived = x.arrived }) ∷ seen a now (map (put (renewed at heard)) xs) else seen a now (map (put (renewed at heard)) xs)) fails
        ∙ more
        ∙ sym (ap (λ (b : Bool). if b && is_live now x.agent then x ∷ seen a now xs else seen a now xs) none)
    by false is more = ap (λ (l : List Listed). if is_of a x.agent && is_live now x.agent then x ∷ l else l) more

-- ---- one advertisement

-- each address stands once
abbrev Once : Ledger → Type 0
Once l = (a : ℕ) → length (own a l.agents) ≤ 1

abbrev numbered : ℕ → Agent → Listed
numbered number heard = record { agent = heard; arrived = number }

abbrev enters : ℕ → ℕ → Agent → List Listed → List Listed
enters at number heard xs = entered_by (λ x. x.agent) (λ a x. record { agent = a; arrived = x.arrived }) at heard (numbered number heard) xs

keeps_other : (at now a number : ℕ) (heard : Agent) (xs : List Listed) → at ≤ now → a ≢ heard.address.0 → seen a now (filter (λ x. stays at heard x.agent) (enters at number heard xs)) ≡ seen a now xs
keeps_other at now a number heard xs later other =
    filter-filter (λ (x : Listed). is_of a x.agent && is_live now x.agent) (λ (x : Listed). stays at heard x.agent) (enters at number heard xs)
    ∙ filter_alike _ _ (λ (x : Listed). other_stays at now a heard x.agent later other) (enters at number heard xs)
    ∙ by (list_any (λ x. is_again at heard x.agent) xs)
  where
    fails : (is_of a heard && is_live now heard) ≡ false
    fails = grind (arith, nat_tests)

    by : (b : Bool) → seen a now (if b then map (put (renewed at heard)) xs else placed_by (λ x. x.agent.preference) (numbered number heard) xs) ≡ seen a now xs
    by true = renewed_other at now a heard xs other
    by false = placed_other (λ x. is_of a x.agent && is_live now x.agent) (numbered number heard) xs fails

abbrev shown_if : Bool → Agent → List Agent
shown_if b x = if b then x ∷ [] else []

-- none that is heard again
none_again : (at now : ℕ) (heard : Agent) (xs : List Listed) → list_any (λ x. is_again at heard x.agent) xs ≡ false → filter (λ x. is_again at heard x.agent && is_live now x.agent) xs ≡ []
none_again at now heard [] none = refl
none_again at now heard (x ∷ xs) none =
    let parts = or_parts (is_again at heard x.agent) (list_any (λ x. is_again at heard x.agent) xs) none in
    ap (λ (b : Bool). if b && is_live now x.agent then x ∷ filter (λ x. is_again at heard x.agent && is_live now x.agent) xs else filter (λ x. is_again at heard x.agent && is_live now x.agent) xs) parts.0
    ∙ none_again at now heard xs parts.1

shows : (number : ℕ) (heard : Agent) (c : Bool) → map (λ (x : Listed). x.agent) (if c then numbered number heard ∷ [] else []) ≡ shown_if c heard
shows number heard true = refl
shows number heard false = refl

abbrev lasting : ℕ → ℕ → Agent → Listed → Bool
lasting at now heard x = is_again at heard x.agent && is_live now x.agent

arrives : (at now number : ℕ) (heard : Agent) (xs : List Listed) → at ≤ now → list_any (λ x. is_again at heard x.agent) xs ≡ false
    → map (λ (x : Listed). x.agent) (filter (lasting at now heard) (placed_by (λ x. x.agent.preference) (numbered number heard) xs)) ≡ shown_if (is_live now heard) heard
arrives at now number heard [] later none =
    ap (λ (c : Bool). map (λ (x : Listed). x.agent) (if c then numbered number heard ∷ [] else [])) (again_itself at now heard later) ∙ shows number heard (is_live now heard)
arrives at now number heard (x ∷ xs) later none =
    by (nat_lt x.agent.preference heard.preference) (arrives at now number heard xs later (or_parts (is_again at heard x.agent) (list_any (λ x. is_again at heard x.agent) xs) none).1)
  where
    by : (b : Bool) → map (λ (x : Listed). x.agent) (filter (lasting at now heard) (placed_by (λ x. x.agent.preference) (numbered number heard) xs)) ≡ shown_if (is_live now heard) heard
        → map (λ (x : Listed). x.agent) (filter (lasting at now heard) (if b then numbered number heard ∷ x ∷ xs else x ∷ placed_by (λ x. x.agent.preference) (numbered number heard) xs)) ≡ shown_if (is_live now heard) heard
    by true more =
        ap (λ (l : List Listed). map (λ (x : Listed). x.agent) (if is_again at heard heard && is_live now heard then numbered number heard ∷ l else l)) (none_again at now heard (x ∷ xs) none)
        ∙ ap (λ (c : Bool). map (λ (x : Listed). x.agent) (if c then numbered number heard ∷ [] else [])) (again_itself at now heard later)
        ∙ shows number heard (is_live now heard)
    by false more =
        let rest = filter (lasting at now heard) (placed_by (λ x. x.agent.preference) (numbered number heard) xs) in
        ap (λ (c : Bool). map (λ (x : Listed). x.agent) (if c && is_live now x.agent then x ∷ rest else rest)) (or_parts (is_again at heard x.agent) (list_any (λ x. is_again at heard x.agent) xs) none).0 ∙ more

-- none of an address is none that is heard again
none_own : (at : ℕ) (heard : Agent) (xs : List Listed) → length (own heard.address.0 xs) ≤ 0 → list_any (λ x. is_again at heard x.agent) xs ≡ false
none_own at heard [] few = refl
none_own at heard (x ∷ xs) few = by (is_of heard.address.0 x.agent) refl few (none_own at heard xs)
  where
    by : (b : Bool) → is_of heard.address.0 x.agent ≡ b → length (if b then x ∷ own heard.address.0 xs else own heard.address.0 xs) ≤ 0
        → (length (own heard.address.0 xs) ≤ 0 → list_any (λ x. is_again at heard x.agent) xs ≡ false) → (is_again at heard x.agent || list_any (λ x. is_again at heard x.agent) xs) ≡ false
    by true is few more = absurd (omega (arith, few))
    by false is few more =
        let other : is_again at heard x.agent ≡ false = grind (arith, nat_tests) in
        ap (λ (b : Bool). b || list_any (λ x. is_again at heard x.agent) xs) other ∙ more few

none_renewed : (at now : ℕ) (heard : Agent) (xs : List Listed) → at ≤ now → list_any (λ x. is_again at heard x.agent) xs ≡ false → filter (lasting at now heard) (map (put (renewed at heard)) xs) ≡ []
none_renewed at now heard [] later none = refl
none_renewed at now heard (x ∷ xs) later none =
    let parts = or_parts (is_again at heard x.agent) (list_any (λ x. is_again at heard x.agent) xs) none in
    let rest = filter (lasting at now heard) (map (put (renewed at heard)) xs) in
    ap (λ (c : Bool). if c then put (renewed at heard) x ∷ rest else rest) (again_renewed at now heard x.agent later ∙ ap (λ (c : Bool). c && is_live now heard) parts.0)
    ∙ none_renewed at now heard xs later parts.1

renews : (at now : ℕ) (heard : Agent) (xs : List Listed) → at ≤ now → length (own heard.address.0 xs) ≤ 1 → list_any (λ x. is_again at heard x.agent) xs ≡ true
    → map (λ (x : Listed). x.agent) (filter (lasting at now heard) (map (put (renewed at heard)) xs)) ≡ shown_if (is_live now heard) heard
renews at now heard [] later few some = absurd cc
renews at now heard (x ∷ xs) later few some = by (is_again at heard x.agent) refl some (is_of heard.address.0 x.agent) refl few (renews at now heard xs later)
  where
    by : (b : Bool) → is_again at heard x.agent ≡ b → (b || list_any (λ x. is_again at heard x.agent) xs) ≡ true
        → (o : Bool) → is_of heard.address.0 x.agent ≡ o → length (if o then x ∷ own heard.address.0 xs else own heard.address.0 xs) ≤ 1
        → (length (own heard.address.0 xs) ≤ 1 → list_any (λ x. is_again at heard x.agent) xs ≡ true → map (λ (x : Listed). x.agent) (filter (lasting at now heard) (map (put (renewed at heard)) xs)) ≡ shown_if (is_live now heard) heard)
        → map (λ (x : Listed). x.agent) (filter (lasting at now heard) (map (put (renewed at heard)) (x ∷ xs))) ≡ shown_if (is_live now heard) heard
    by true is some false of few more = absurd (grind (arith, nat_tests))
    by true is some true of few more =
        let rest = none_renewed at now heard xs later (none_own at heard xs (omega (arith, few))) in
        let here : renewed at heard x.agent ≡ heard = ap (λ (c : Bool). if c then heard else x.agent) is in
        ap (λ (l : List Listed). map (λ (x : Listed). x.agent) (if lasting at now heard (put (renewed at heard) x) then put (renewed at heard) x ∷ l else l)) rest
        ∙ ap (λ (c : Bool). map (λ (x : Listed). x.agent) (if c then put (renewed at heard) x ∷ [] else [])) (again_renewed at now heard x.agent later ∙ ap (λ (c : Bool). c && is_live now heard) is)
        ∙ ap (λ (y : Agent). map (λ (x : Listed). x.agent) (if is_live now heard then (record { agent = y; arrived = x.arrived }) ∷ [] else [])) here
        ∙ shows x.arrived heard (is_live now heard)
    by false is some o of few more =
        let rest = filter (lasting at now heard) (map (put (renewed at heard)) xs) in
        ap (λ (c : Bool). map (λ (x : Listed). x.agent) (if c then put (renewed at heard) x ∷ rest else rest)) (again_renewed at now heard x.agent later ∙ ap (λ (c : Bool). c && is_live now heard) is)
        ∙ more (fewer o few) some
      where
        fewer : (o : Bool) → length (if o then x ∷ own heard.address.0 xs else own heard.address.0 xs) ≤ 1 → length (own heard.address.0 xs) ≤ 1
        fewer true few = omega (arith, few)
        fewer false few = few

-- what one advertisement makes of what is seen of an address
step : (a now : ℕ) (l : Ledger) (h : Heard) → Once l → h.at ≤ now
    → map (λ (x : Listed). x.agent) (seen a now (heard_by l h).agents) ≡ (if h.agent.0 == a then shown_if (is_live now (agent_of h)) (agent_of h) else map (λ (x : Listed). x.agent) (seen a now l.agents))
step a now l h once later = by (h.agent.0 == a) refl
  where
    heard : Agent
    heard = agent_of h

    whole : List Listed
    whole = enters h.at l.heard (agent_of h) l.agents

    own_is : map (λ (x : Listed). x.agent) (seen h.agent.0 now (heard_by l h).agents) ≡ shown_if (is_live now (agent_of h)) (agent_of h)
    own_is =
        ap (λ (xs : List Listed). map (λ (x : Listed). x.agent) xs) (
        filter-filter (λ (x : Listed). is_of h.agent.0 x.agent && is_live now x.agent) (λ (x : Listed). stays h.at (agent_of h) x.agent) (enters h.at l.heard (agent_of h) l.agents)
        ∙ filter_alike _ (lasting h.at now (agent_of h)) (λ (x : Listed). own_live h.at now (agent_of h) x.agent) (enters h.at l.heard (agent_of h) l.agents)
        )
        ∙ sorts (list_any (λ x. is_again h.at (agent_of h) x.agent) l.agents) refl
      where
        sorts : (b : Bool) → list_any (λ x. is_again h.at (agent_of h) x.agent) l.agents ≡ b
            → map (λ (x : Listed). x.agent) (filter (lasting h.at now (agent_of h)) (if b then map (put (renewed h.at (agent_of h))) l.agents else placed_by (λ x. x.agent.preference) (numbered l.heard (agent_of h)) l.agents)) ≡ shown_if (is_live now (agent_of h)) (agent_of h)
        sorts true is = renews h.at now (agent_of h) l.agents later (once h.agent.0) is
        sorts false is = arrives h.at now l.heard (agent_of h) l.agents later is

    by : (b : Bool) → (h.agent.0 == a) ≡ b → map (λ (x : Listed). x.agent) (seen a now (heard_by l h).agents) ≡ (if b then shown_if (is_live now (agent_of h)) (agent_of h) else map (λ (x : Listed). x.agent) (seen a now l.agents))
    by true is =
        let same : h.agent.0 ≡ a = grind (arith, nat_tests) in
        subst (λ (n : ℕ). map (λ (x : Listed). x.agent) (seen n now (heard_by l h).agents) ≡ shown_if (is_live now (agent_of h)) (agent_of h)) same own_is
    by false is =
        let other : a ≢ h.agent.0 = λ e. absurd (grind (arith, nat_tests)) in
        ap (λ (xs : List Listed). map (λ (x : Listed). x.agent) xs) (keeps_other h.at now a l.heard (agent_of h) l.agents later other)

-- ---- each address stands once

length_both : (p q : Listed → Bool) (xs : List Listed) → length (filter (λ (x : Listed). p x && q x) xs) ≤ length (filter p xs)
length_both p q [] = omega arith
length_both p q (x ∷ xs) = by (p x) (q x) (length_both p q xs)
  where
    by : (b c : Bool) → length (filter (λ (x : Listed). p x && q x) xs) ≤ length (filter p xs)
        → length (if b && c then x ∷ filter (λ (x : Listed). p x && q x) xs else filter (λ (x : Listed). p x && q x) xs) ≤ length (if b then x ∷ filter p xs else filter p xs)
    by true true more = omega (arith, more)
    by true false more = omega (arith, more)
    by false true more = more
    by false false more = more

length_placed : (p : Listed → Bool) (new : Listed) (xs : List Listed) → length (filter p (placed_by (λ x. x.agent.preference) new xs)) ≤ length (filter p xs) + 1
length_placed p new [] = by (p new)
  where
    by : (b : Bool) → length (if b then new ∷ [] else []) ≤ 0 + 1
    by true = omega arith
    by false = omega arith
length_placed p new (x ∷ xs) = by (nat_lt x.agent.preference new.agent.preference) (p new) refl (p x) refl (length_placed p new xs)
  where
    by : (b n : Bool) → p new ≡ n → (c : Bool) → p x ≡ c → length (filter p (placed_by (λ x. x.agent.preference) new xs)) ≤ length (filter p xs) + 1
        → length (filter p (if b then new ∷ x ∷ xs else x ∷ placed_by (λ x. x.agent.preference) new xs)) ≤ length (if c then x ∷ filter p xs else filter p xs) + 1
    by true n is c at more =
        subst (λ (t : Bool). length (if t then new ∷ filter p (x ∷ xs) else filter p (x ∷ xs)) ≤ length (if c then x ∷ filter p xs else filter p xs) + 1) (sym is)
        (subst (λ (t : Bool). length (if n then new ∷ (if t then x ∷ filter p xs else filter p xs) else (if t then x ∷ filter p xs else filter p xs)) ≤ length (if c then x ∷ filter p xs else filter p xs) + 1) (sym at) (one n))
      where
        one : (n : Bool) → length (if n then new ∷ (if c then x ∷ filter p xs else filter p xs) else (if c then x ∷ filter p xs else filter p xs)) ≤ length (if c then x ∷ filter p xs else filter p xs) + 1
        one true = omega arith
        one false = omega arith
    by false n is c at more =
        let rest = filter p (placed_by (λ x. x.agent.preference) new xs) in
        subst (λ (t : Bool). length (if t then x ∷ rest else rest) ≤ length (if c then x ∷ filter p xs else filter p xs) + 1) (sym at) (one c more)
      where
        one : (c : Bool) → length (filter p (placed_by (λ x. x.agent.preference) new xs)) ≤ length (filter p xs) + 1
            → length (if c then x ∷ filter p (placed_by (λ x. x.agent.preference) new xs) else filter p (placed_by (λ x. x.agent.preference) new xs)) ≤ length (if c then x ∷ filter p xs else filter p xs) + 1
        one true more = omega (arith, more)
        one false more = more

-- what an advertisement enters of an address was there, or is new
own_renewed : (a at : ℕ) (heard : Agent) (xs : List Listed) → length (own a (map (put (renewed at heard)) xs)) ≡ length (own a xs)
own_renewed a at heard [] = refl
own_renewed a at heard (x ∷ xs) = ap (λ (c : Bool). length (if c then put (renewed at heard) x ∷ rest else rest)) (renewed_of at a heard x.agent) ∙ by (is_of a x.agent) (own_renewed a at heard xs)
  where
    rest : List Listed
    rest = own a (map (put (renewed at heard)) xs)

    by : (c : Bool) → length (own a (map (put (renewed at heard)) xs)) ≡ length (own a xs)
        → length (if c then put (renewed at heard) x ∷ own a (map (put (renewed at heard)) xs) else own a (map (put (renewed at heard)) xs)) ≡ length (if c then x ∷ own a xs else own a xs)
    by true more = ap (λ n. suc n) more
    by false more = more

again_none : (at : ℕ) (heard : Agent) (xs : List Listed) → list_any (λ x. is_again at heard x.agent) xs ≡ false → again at heard xs ≡ []
again_none at heard [] none = refl
again_none at heard (x ∷ xs) none =
    let parts = or_parts (is_again at heard x.agent) (list_any (λ x. is_again at heard x.agent) xs) none in
    ap (λ (b : Bool). if b then x ∷ again at heard xs else again at heard xs) parts.0 ∙ again_none at heard xs parts.1

again_own : (at : ℕ) (heard : Agent) (xs : List Listed) → length (again at heard xs) ≤ length (own heard.address.0 xs)
again_own at heard [] = omega arith
again_own at heard (x ∷ xs) = by (is_again at heard x.agent) refl (is_of heard.address.0 x.agent) refl (again_own at heard xs)
  where
    by : (b : Bool) → is_again at heard x.agent ≡ b → (o : Bool) → is_of heard.address.0 x.agent ≡ o → length (again at heard xs) ≤ length (own heard.address.0 xs)
        → length (if b then x ∷ again at heard xs else again at heard xs) ≤ length (if o then x ∷ own heard.address.0 xs else own heard.address.0 xs)
    by true is true of more = omega (arith, more)
    by true is false of more = absurd (grind (arith, nat_tests))
    by false is true of more = omega (arith, more)
    by false is false of more = more

once_by : (l : Ledger) (h : Heard) → Once l → Once (heard_by l h)
once_by l h once a = by (a == h.agent.0) refl
  where
    heard : Agent
    heard = agent_of h

    own_once : length (own h.agent.0 (heard_by l h).agents) ≤ 1
    own_once =
        subst (λ (xs : List Listed). length xs ≤ 1)
        (sym (
        filter-filter (λ (x : Listed). is_of h.agent.0 x.agent) (λ (x : Listed). stays h.at (agent_of h) x.agent) (enters h.at l.heard (agent_of h) l.agents)
        ∙ filter_alike _ (λ (x : Listed). is_again h.at (agent_of h) x.agent) (λ (x : Listed). own_stays h.at (agent_of h) x.agent) (enters h.at l.heard (agent_of h) l.agents)
        ))
        (sorts (list_any (λ x. is_again h.at (agent_of h) x.agent) l.agents) refl)
      where
        sorts : (b : Bool) → list_any (λ x. is_again h.at (agent_of h) x.agent) l.agents ≡ b
            → length (again h.at (agent_of h) (if b then map (put (renewed h.at (agent_of h))) l.agents else placed_by (λ x. x.agent.preference) (numbered l.heard (agent_of h)) l.agents)) ≤ 1
        sorts true is =
            omega (
              arith,
              again_own h.at (agent_of h) (map (put (renewed h.at (agent_of h))) l.agents),
              own_renewed h.agent.0 h.at (agent_of h) l.agents,
              once h.agent.0,
            )
        sorts false is =
            let none : length (again h.at (agent_of h) l.agents) ≡ 0 = ap length (again_none h.at (agent_of h) l.agents is) in
            omega (arith, length_placed (λ (x : Listed). is_again h.at (agent_of h) x.agent) (numbered l.heard (agent_of h)) l.agents, none)

    other_once : (a == h.agent.0) ≡ false → length (own a (heard_by l h).agents) ≤ 1
    other_once is =
        subst (λ (xs : List Listed). length xs ≤ 1)
        (sym (filter-filter (λ (x : Listed). is_of a x.agent) (λ (x : Listed). stays h.at (agent_of h) x.agent) (enters h.at l.heard (agent_of h) l.agents)))
        (omega (
          arith,
          length_both (λ (x : Listed). is_of a x.agent) (λ (x : Listed). stays h.at (agent_of h) x.agent) (enters h.at l.heard (agent_of h) l.agents),
          sorts (list_any (λ x. is_again h.at (agent_of h) x.agent) l.agents),
        ))
      where
        fails : is_of a (agent_of h) ≡ false
        fails = grind (arith, nat_tests)

        sorts : (b : Bool) → length (own a (if b then map (put (renewed h.at (agent_of h))) l.agents else placed_by (λ x. x.agent.preference) (numbered l.heard (agent_of h)) l.agents)) ≤ 1
        sorts true = omega (arith, own_renewed a h.at (agent_of h) l.agents, once a)
        sorts false = subst (λ (xs : List Listed). length xs ≤ 1) (sym (placed_other (λ (x : Listed). is_of a x.agent) (numbered l.heard (agent_of h)) l.agents fails)) (once a)

    by : (b : Bool) → (a == h.agent.0) ≡ b → length (own a (heard_by l h).agents) ≤ 1
    by true is =
        let same : h.agent.0 ≡ a = grind (arith, nat_tests) in
        subst (λ (n : ℕ). length (own n (heard_by l h).agents) ≤ 1) same own_once
    by false is = other_once is

-- ---- every list of advertisements

abbrev shown : ℕ → ℕ → Ledger → Option Heard → List Agent
shown a now l None = map (λ (x : Listed). x.agent) (seen a now l.agents)
shown a now l (Some h) = live_as now (Some h)

exact : (a now : ℕ) (l : Ledger) (past : List Heard) → Once l → AllByRecursion (λ h. h.at ≤ now) past
    → map (λ (x : Listed). x.agent) (seen a now (fold heard_by l past).agents) ≡ shown a now l (last_heard a past)
exact a now l [] once before = refl
exact a now l (h ∷ past) once before = exact a now (heard_by l h) past (once_by l h once) before.1 ∙ by (last_heard a past)
  where
    one : (b : Bool) → (if b then shown_if (is_live now (agent_of h)) (agent_of h) else map (λ (x : Listed). x.agent) (seen a now l.agents)) ≡ shown a now l (if b then Some h else None)
    one true = refl
    one false = refl

    by : (o : Option Heard) → shown a now (heard_by l h) o ≡ shown a now l (or_else o (if h.agent.0 == a then Some h else None))
    by (Some later) = refl
    by None = step a now l h once before.0 ∙ one (h.agent.0 == a)

pub each_as_last_heard : (past : List Heard) (address now : ℕ) → AllByRecursion (λ h. h.at ≤ now) past
    → filter (is_of address) (map (λ (x : Listed). x.agent) (live_listed now past)) ≡ live_as now (last_heard address past)
unfolding listed
each_as_last_heard past address now before =
    sym (map-filter (is_of address) (live_listed now past))
    ∙ ap (λ (xs : List Listed). map (λ (x : Listed). x.agent) xs) (filter-filter (λ (x : Listed). is_of address x.agent) (λ (x : Listed). is_live now x.agent) (ledger past).agents)
    ∙ exact address now (record { heard = 0; agents = [] }) past (λ a. omega arith) before
    ∙ by (last_heard address past)
  where
    by : (o : Option Heard) → shown address now (record { heard = 0; agents = [] }) o ≡ live_as now o
    by None = refl
    by (Some h) = refl
