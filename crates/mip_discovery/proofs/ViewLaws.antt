-- The list in memory is the list of the advertisements without the numbers.
use Rattle.std.proofs.Common.{◌≡◌, ℕ, zero, suc, List, [], ◌∷◌, ◌++◌, Bool, true, false, map, refl, sym, ap, ◌∙◌}
use Rattle.std.specs.Prelude.{nat_lt, option_map, slice_get, ◌||◌, if◌then◌else◌}
use Rattle.std.specs.List.{filter, list_any}
use Rattle.std.proofs.lemmas.List.Sums.{fold-append}
use Rattle.mip_discovery.specs.declared.agent.Agent.{Agent}
use Rattle.mip_discovery.specs.Heard.{Heard, agent_of, is_live, is_again, renewed, stays, placed_by, after, after_by, live}
use Rattle.mip_discovery.specs.Listed.{Listed, Ledger, AgentsSeen, StandsFor, heard_by, ledger, listed, live_listed}

abbrev row : Listed → Agent
row x = x.agent

abbrev put : (Agent → Agent) → Listed → Listed
put f x = record { agent = f x.agent; arrived = x.arrived }

pub map-filter : (p : Agent → Bool) (xs : List Listed) → map (λ x. x.agent) (filter (λ x. p x.agent) xs) ≡ filter p (map (λ x. x.agent) xs)
map-filter p [] = refl
map-filter p (x ∷ xs) = by (p x.agent) (map-filter p xs)
  where
    by : (b : Bool) → map (λ x. x.agent) (filter (λ x. p x.agent) xs) ≡ filter p (map (λ x. x.agent) xs)
        → map (λ x. x.agent) (if b then x ∷ filter (λ x. p x.agent) xs else filter (λ x. p x.agent) xs) ≡ (if b then x.agent ∷ filter p (map (λ x. x.agent) xs) else filter p (map (λ x. x.agent) xs))
    by true more = ap (λ l. x.agent ∷ l) more
    by false more = more

any-map : (p : Agent → Bool) (xs : List Listed) → list_any (λ x. p x.agent) xs ≡ list_any p (map row xs)
any-map p [] = refl
any-map p (x ∷ xs) = ap (λ (b : Bool). p x.agent || b) (any-map p xs)

map-put : (f : Agent → Agent) (xs : List Listed) → map row (map (put f) xs) ≡ map f (map row xs)
map-put f [] = refl
map-put f (x ∷ xs) = ap (λ l. f x.agent ∷ l) (map-put f xs)

map-placed : (new : Listed) (xs : List Listed) → map row (placed_by (λ x. x.agent.preference) new xs) ≡ placed_by (λ x. x.preference) new.agent (map row xs)
map-placed new [] = refl
map-placed new (x ∷ xs) = by (nat_lt x.agent.preference new.agent.preference) (map-placed new xs)
  where
    by : (b : Bool) → map row (placed_by (λ x. x.agent.preference) new xs) ≡ placed_by (λ x. x.preference) new.agent (map row xs)
        → map row (if b then new ∷ x ∷ xs else x ∷ placed_by (λ x. x.agent.preference) new xs) ≡ (if b then new.agent ∷ x.agent ∷ map row xs else x.agent ∷ placed_by (λ x. x.preference) new.agent (map row xs))
    by true more = refl
    by false more = ap (λ l. x.agent ∷ l) more

forgotten : (now number : ℕ) (heard : Agent) (xs : List Listed)
    → map row (after_by row (λ a x. record { agent = a; arrived = x.arrived }) now heard (record { agent = heard; arrived = number }) xs) ≡ after now heard (map row xs)
unfolding after
forgotten now number heard xs =
    map-filter (stays now heard) _
    ∙ ap (filter (stays now heard)) (by (list_any (λ x. is_again now heard x.agent) xs) (any-map (is_again now heard) xs))
  where
    by : (b : Bool) → b ≡ list_any (is_again now heard) (map row xs)
        → map row (if b then map (put (renewed now heard)) xs else placed_by (λ x. x.agent.preference) (record { agent = heard; arrived = number }) xs)
        ≡ (if list_any (is_again now heard) (map row xs) then map (renewed now heard) (map row xs) else placed_by (λ x. x.preference) heard (map row xs))
    by true is = map-put (renewed now heard) xs ∙ ap (λ (c : Bool). if c then map (renewed now heard) (map row xs) else placed_by (λ x. x.preference) heard (map row xs)) is
    by false is = map-placed (record { agent = heard; arrived = number }) xs ∙ ap (λ (c : Bool). if c then map (renewed now heard) (map row xs) else placed_by (λ x. x.preference) heard (map row xs)) is

-- one advertisement more
pub stands_on : (seen : AgentsSeen) (past : List Heard) (h : Heard) → StandsFor seen past → StandsFor (record { last = h.at; agents = after h.at (agent_of h) seen.agents }) (past ++ h ∷ [])
unfolding StandsFor listed
stands_on seen past h stands =
    ap (after h.at (agent_of h)) stands
    ∙ sym (forgotten h.at (ledger past).heard (agent_of h) (ledger past).agents)
    ∙ ap (λ (l : Ledger). map row l.agents) (sym (fold-append heard_by (record { heard = 0; agents = [] }) past (h ∷ [])))

-- what stands at a place
get-map : (xs : List Listed) (place : ℕ) → option_map (λ x. x.address) (slice_get (map row xs) place) ≡ option_map (λ x. x.agent.address) (slice_get xs place)
get-map [] place = refl
get-map (x ∷ xs) zero = refl
get-map (x ∷ xs) (suc place) = get-map xs place

pub live_stands : (seen : AgentsSeen) (past : List Heard) (now place : ℕ) → StandsFor seen past
    → option_map (λ x. x.address) (slice_get (live now seen.agents) place) ≡ option_map (λ x. x.agent.address) (slice_get (live_listed now past) place)
unfolding StandsFor
live_stands seen past now place stands =
    ap (λ (xs : List Agent). option_map (λ x. x.address) (slice_get (filter (is_live now) xs) place)) stands
    ∙ ap (λ (xs : List Agent). option_map (λ x. x.address) (slice_get xs place)) (sym (map-filter (is_live now) (listed past)))
    ∙ get-map (live_listed now past) place
