-- A declaration that may stand keeps links, nodes and outsiders few.
use Rattle.std.proofs.Common.{◌≡◌, ℕ, ◌+◌, ◌<◌, List, [], ◌∷◌, ◌++◌, length, Bool, true, false, cond, refl, sym, ap, ◌∙◌, arith, length-append}
use Rattle.std.specs.Prelude.{Option, Some, None, Result, Ok, Err}
use Rattle.std.specs.List.{filter}
use Rattle.std.proofs.lemmas.Bool.{or_parts, leb-false}
use Rattle.std.proofs.lemmas.List.Elements.{filter-append}
use Rattle.mip_words.specs.Steps.{◌>>=◌}
use Rattle.mip_words.proofs.StepLaws.{bind_ok}
use Rattle.mip_schedule.specs.DeclarationRows.{declaration_fields}
use Rattle.mip_schedule.specs.DeclarationTimes.{undeclared, judged, is_full, declaration_line}
use Rattle.mip_schedule.specs.Declarings.{next_of}
use Rattle.mip_symbols.specs.Places.{AreFew, members, counts}
use Rattle.mip_schedule.specs.Reading.{at_line, is_run}
use Rattle.mip_symbols.specs.declared.declaration.Declaration.{Declaration}
use Rattle.mip_symbols.specs.declared.declaration.Declaration.TheVariants as declare
use Rattle.mip_symbols.specs.declared.places.Sort.{Sort}
use Rattle.mip_symbols.specs.declared.places.Sort.TheVariants.{Link, Outsider, Node}
use Rattle.mip_symbols.specs.declared.reason.Reason.{Reason}

grown : (sort : Sort) (ds : List Declaration) (d : Declaration) → length (members sort (ds ++ d ∷ [])) ≡ length (members sort ds) + cond (counts sort d) 1 0
unfolding members
grown sort ds d = ap length (filter-append (counts sort) ds (d ∷ [])) ∙ length-append (filter (counts sort) ds) (filter (counts sort) (d ∷ [])) ∙ ap (λ (n : ℕ). length (filter (counts sort) ds) + n) (one (counts sort d))
  where
    one : (b : Bool) → length (cond b (d ∷ []) []) ≡ cond b 1 0
    one true = refl
    one false = refl

-- a test that would have refused
passed : (b : Bool) (why : Reason) (o : Option Reason) → cond b (Some why) o ≡ None → b ≡ false
passed true why o e = absurd cc
passed false why o e = refl

room_left : (most : ℕ) (ds : List Declaration) → is_full most ds ≡ false → length ds < most
room_left most ds e = leb-false most (length ds) e

pub few_more : (ds : List Declaration) (d : Declaration) → AreFew ds → undeclared ds d ≡ None → AreFew (ds ++ d ∷ [])
unfolding undeclared
few_more ds (declare.Link n p) few free =
    let left = room_left 32 (members Link ds) (passed _ _ _ free) in
    let d : Declaration = declare.Link n p in
    record { links = omega (arith, grown Link ds d, left, few.links); nodes = omega (arith, grown Node ds d, few.nodes); outsiders = omega (arith, grown Outsider ds d, few.outsiders) }
few_more ds (declare.Agent n l a p t r) few free =
    let left = room_left 32 (members Node ds) (passed _ _ _ free) in
    let d : Declaration = declare.Agent n l a p t r in
    record { links = omega (arith, grown Link ds d, few.links); nodes = omega (arith, grown Node ds d, left, few.nodes); outsiders = omega (arith, grown Outsider ds d, few.outsiders) }
few_more ds (declare.Correspondent n l a r) few free =
    let left = room_left 32 (members Node ds) (passed _ _ _ free) in
    let d : Declaration = declare.Correspondent n l a r in
    record { links = omega (arith, grown Link ds d, few.links); nodes = omega (arith, grown Node ds d, left, few.nodes); outsiders = omega (arith, grown Outsider ds d, few.outsiders) }
few_more ds (declare.Mobile n l a g) few free =
    let left = room_left 32 (members Node ds) (or_parts _ _ (passed _ _ _ free)).0 in
    let d : Declaration = declare.Mobile n l a g in
    record { links = omega (arith, grown Link ds d, few.links); nodes = omega (arith, grown Node ds d, left, few.nodes); outsiders = omega (arith, grown Outsider ds d, few.outsiders) }
few_more ds (declare.Serve g m) few free =
    let d : Declaration = declare.Serve g m in
    record { links = omega (arith, grown Link ds d, few.links); nodes = omega (arith, grown Node ds d, few.nodes); outsiders = omega (arith, grown Outsider ds d, few.outsiders) }
few_more ds (declare.Outsider n) few free =
    let left = room_left 8 (members Outsider ds) (passed _ _ _ free) in
    let d : Declaration = declare.Outsider n in
    record { links = omega (arith, grown Link ds d, few.links); nodes = omega (arith, grown Node ds d, few.nodes); outsiders = omega (arith, grown Outsider ds d, left, few.outsiders) }

free_of : (x y : Declaration) (o : Option Reason) → judged x o ≡ Ok y → (x ≡ y) × (o ≡ None)
free_of x y None e = (cc, refl)
free_of x y (Some why) e = absurd cc

pub line_free : (ds : List Declaration) (row : List (List ℕ)) (d : Declaration) → declaration_line ds row ≡ Ok d → (declaration_fields ds row ≡ Ok d) × (undeclared ds d ≡ None)
unfolding declaration_line
line_free ds row d e =
    let p = bind_ok (declaration_fields ds row) (λ d. judged d (undeclared ds d)) d e in
    let q = free_of p.0 d (undeclared ds p.0) p.2 in
    (p.1 ∙ ap (λ (x : Declaration). Ok x) q.0, ap (undeclared ds) (sym q.0) ∙ q.1)

line_of : (n : ℕ) (r : Result Declaration Reason) (d : Declaration) → (at_line n r >>= (λ x. Ok (Some x))) ≡ Ok (Some d) → r ≡ Ok d
line_of n (Ok x) d e = cc
line_of n (Err why) d e = absurd cc

-- the line of a declaration is not `run`
pub next_some : (ds : List Declaration) (n : ℕ) (row : List (List ℕ)) (d : Declaration) → next_of ds n row ≡ Ok (Some d) → (is_run row ≡ false) × (declaration_line ds row ≡ Ok d)
unfolding next_of
next_some ds n row d = by (is_run row)
  where
    by : (run : Bool) → cond run (Ok None) (at_line n (declaration_line ds row) >>= (λ x. Ok (Some x))) ≡ Ok (Some d) → (run ≡ false) × (declaration_line ds row ≡ Ok d)
    by true e = absurd cc
    by false e = (refl, line_of n (declaration_line ds row) d e)

pub next_few : (ds : List Declaration) (n : ℕ) (row : List (List ℕ)) (d : Declaration) → AreFew ds → next_of ds n row ≡ Ok (Some d) → AreFew (ds ++ d ∷ [])
next_few ds n row d few e = few_more ds d few (line_free ds row d (next_some ds n row d e).1).1

pub none_few : AreFew []
unfolding members
none_few = record { links = omega arith; nodes = omega arith; outsiders = omega arith }
