-- Lines that were appended one after another are the lines of a schedule.
use Rattle.std.proofs.Common.{◌≡◌, ℕ, ◌+◌, ◌<◌, List, [], ◌∷◌, ◌++◌, length, take, get_or, sym, ap, ◌∙◌, append_assoc}
use Rattle.std.specs.Prelude.{map}
use Rattle.std.proofs.lemmas.Grind.{flat_map-append}
use Rattle.std.proofs.lemmas.List.{append-nil, take_more}
use Rattle.mip_lines.specs.Lines.{line_text, lines_text}
use Rattle.mip_schedule.specs.Contents.{Content}
use Rattle.mip_schedule.specs.Spelling.{declaration_text, declaration_rows, event_text, head_rows, run_row, spelling}
use Rattle.mip_schedule.specs.Versions.{is_numbered}
use Rattle.mip_symbols.specs.declared.declaration.Declaration.{Declaration}

-- one declaration more
rows_more : (before ds : List Declaration) (d : Declaration) → declaration_rows before (ds ++ d ∷ []) ≡ declaration_rows before ds ++ declaration_text (before ++ ds) d ∷ []
rows_more before [] d = ap (λ (xs : List Declaration). declaration_text xs d ∷ []) (sym (append-nil before))
rows_more before (x ∷ ds) d =
    ap (λ (rows : List (List (List ℕ))). declaration_text before x ∷ rows)
    (rows_more (before ++ x ∷ []) ds d ∙ ap (λ (xs : List Declaration). declaration_rows (before ++ x ∷ []) ds ++ declaration_text xs d ∷ []) (append_assoc before (x ∷ []) ds))

-- one line more
pub line_more : (o : List ℕ) (rows : List (List (List ℕ))) (row : List (List ℕ)) → (o ++ lines_text rows) ++ line_text row ≡ o ++ lines_text (rows ++ row ∷ [])
line_more o rows row =
    append_assoc o (lines_text rows) (line_text row)
    ∙ ap (λ (t : List ℕ). o ++ t) (ap (λ (t : List ℕ). lines_text rows ++ t) (sym (append-nil (line_text row))) ∙ sym (flat_map-append line_text rows (row ∷ [])))

-- the line of the declaration at i behind those of the declarations before it
pub declaration_more : (ds : List Declaration) (i : ℕ) (d : Declaration) (o out new : List ℕ) → i < length ds → out ≡ o ++ lines_text (declaration_rows [] (take i ds))
    → new ≡ out ++ line_text (declaration_text (take i ds) (get_or ds i d)) → new ≡ o ++ lines_text (declaration_rows [] (take (i + 1) ds))
declaration_more ds i d o out new inside before line =
    line ∙ ap (λ (t : List ℕ). t ++ line_text (declaration_text (take i ds) (get_or ds i d))) before
    ∙ line_more o (declaration_rows [] (take i ds)) (declaration_text (take i ds) (get_or ds i d))
    ∙ ap (λ (rows : List (List (List ℕ))). o ++ lines_text rows) (sym (rows_more [] (take i ds) (get_or ds i d)) ∙ ap (declaration_rows []) (sym (take_more ds i d inside)))

-- the four parts of a schedule's text
pub parts_text : (c : Content) → (([] ++ lines_text (head_rows c.version c.seed c.start)) ++ lines_text (declaration_rows [] c.declarations)) ++ line_text run_row ++ lines_text (map (event_text (is_numbered c.version) c.declarations) c.events) ≡ spelling c
unfolding spelling
parts_text c =
    let head : List (List (List ℕ)) = head_rows c.version c.seed c.start in
    let declared : List (List (List ℕ)) = declaration_rows [] c.declarations in
    let events : List (List (List ℕ)) = map (event_text (is_numbered c.version) c.declarations) c.events in
    append_assoc (lines_text head ++ lines_text declared) (line_text run_row) (lines_text events)
    ∙ append_assoc (lines_text head) (lines_text declared) (lines_text (run_row ∷ events))
    ∙ ap (λ (t : List ℕ). lines_text head ++ t) (sym (flat_map-append line_text declared (run_row ∷ events)))
    ∙ sym (flat_map-append line_text head (declared ++ run_row ∷ events))
