-- Lines that were appended one after another are the lines of a configuration.
use Rattle.std.proofs.Common.{◌≡◌, ℕ, zero, suc, ◌+◌, ◌<◌, List, [], ◌∷◌, ◌++◌, length, take, sym, ap, ◌∙◌, append_assoc, arith}
use Rattle.std.specs.Prelude.{Option, Some, None, map, slice_get}
use Rattle.std.specs.Borrow.{Bor}
use Rattle.std.specs.Option.{option_copied}
use Rattle.std.proofs.lemmas.Grind.{flat_map-append}
use Rattle.std.proofs.lemmas.List.{map-append, take_more}
use Rattle.std.proofs.lemmas.Option.{get_or_from_slice_get, slice_get_within}
use Rattle.mip_frames.specs.declared.route.Route.{Route}
use Rattle.mip_lines.specs.Lines.{line_text, lines_text}
use Rattle.mip_schedule.proofs.WritingLaws.{line_more}
use Rattle.mip_config.specs.Configs.{Content}
use Rattle.mip_config_writing.specs.Spelling.{head_rows, route_text, default_rows, role_text, serve_text, payload_text, spelling}

-- the line of the route at i behind those of the routes before it
pub route_more : (routes : List Route) (i : ℕ) (o : Option (Bor Route)) (route : Bor Route) (front out new : List ℕ) → o ≡ Some route → option_copied o ≡ slice_get routes i
    → out ≡ front ++ lines_text (map route_text (take i routes)) → new ≡ out ++ line_text (route_text route.now) → new ≡ front ++ lines_text (map route_text (take (i + 1) routes))
route_more routes i o route front out new some at before line =
    let is : slice_get routes i ≡ Some route.now = sym at ∙ ap option_copied some in
    let here : take (i + 1) routes ≡ take i routes ++ route.now ∷ [] =
    take_more routes i route.now (slice_get_within routes i route.now is) ∙ ap (λ (r : Route). take i routes ++ r ∷ []) (get_or_from_slice_get routes i route.now route.now is) in
    line ∙ ap (λ (t : List ℕ). t ++ line_text (route_text route.now)) before
    ∙ line_more front (map route_text (take i routes)) (route_text route.now)
    ∙ ap (λ (rows : List (List (List ℕ))). front ++ lines_text rows) (sym (map-append route_text (take i routes) (route.now ∷ [])) ∙ ap (map route_text) (sym here))

none_past : {X : Type 0} (xs : List X) (i : ℕ) → i < length xs → slice_get xs i ≡ None → ⊥
none_past [] i inside e = omega arith
none_past (x ∷ xs) zero inside e = absurd cc
none_past (x ∷ xs) (suc i) inside e = none_past xs i (omega arith) e

-- there is a route at each place within
pub route_there : (routes : List Route) (i : ℕ) (o : Option (Bor Route)) → o ≡ None → option_copied o ≡ slice_get routes i → i < length routes → ⊥
route_there routes i o none at inside = none_past routes i inside (sym at ∙ ap option_copied none)

-- the parts of a configuration's text
pub parts_text : (c : Content) → ((((([] ++ lines_text (head_rows c.seed c.node c.port)) ++ lines_text (map route_text c.routes)) ++ lines_text (default_rows c.fallback)) ++ line_text (role_text c.role)) ++ lines_text (map serve_text c.serves)) ++ lines_text (map payload_text c.payloads) ≡ spelling c
unfolding spelling
parts_text c =
    joined (head_rows c.seed c.node c.port) (map route_text c.routes) (default_rows c.fallback) (role_text c.role) (map serve_text c.serves) (map payload_text c.payloads)
  where
    joined : (a b d : List (List (List ℕ))) (r : List (List ℕ)) (s p : List (List (List ℕ))) → (((((lines_text a) ++ lines_text b) ++ lines_text d) ++ line_text r) ++ lines_text s) ++ lines_text p ≡ lines_text (a ++ (b ++ (d ++ (r ∷ (s ++ p)))))
    joined a b d r s p =
        rw (flat_map-append line_text a (b ++ (d ++ (r ∷ (s ++ p)))), flat_map-append line_text b (d ++ (r ∷ (s ++ p))), flat_map-append line_text d (r ∷ (s ++ p)), flat_map-append line_text s p) (simp append_assoc)
