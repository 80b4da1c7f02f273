-- The declarations of a text that is read are few, and their names are found.
use Rattle.std.proofs.Common.{◌≡◌, ℕ, ◌+◌, List, [], ◌∷◌, ◌++◌, length, Bool, true, false, cond, refl, subst}
use Rattle.std.specs.Prelude.{Some, None, Result, Ok, Err, codes, decimal, replicate, ◌-◌}
use Rattle.std.proofs.lemmas.Bool.{cond_both}
use Rattle.mip_words.specs.Steps.{◌>>=◌}
use Rattle.mip_words.proofs.StepLaws.{bind_ok, ok_is}
use Rattle.mip_lines.specs.Cutting.{rows_of}
use Rattle.mip_lines.specs.HexFields.{address_hex, number_hex}
use Rattle.mip_schedule.specs.Contents.{Content}
use Rattle.mip_schedule.specs.DeclarationRows.{u16, room, link_row, agent_row, correspondent_row, mobile_row, outsider_row, node_fields, declaration_fields}
use Rattle.mip_schedule.specs.DeclarationTimes.{declaration_line}
use Rattle.mip_schedule.specs.Faults.{Wrong}
use Rattle.mip_symbols.specs.Kinds as kinds
use Rattle.mip_symbols.specs.Kinds.{or_reason, new_name}
use Rattle.mip_symbols.specs.Names.{is_name, name_of}
use Rattle.mip_symbols.specs.Places.{AreFew, NamesFound, is_taken, declared_name}
use Rattle.mip_schedule.specs.Reading.{at_line, head_of, is_run, Declared, declarations_of, events_of, reading}
use Rattle.mip_schedule.specs.Schedules.{content}
use Rattle.mip_symbols.specs.Spelled.{link_text, node_text, or_word}
use Rattle.mip_schedule.specs.Spelling.{declaration_text, spelling}
use Rattle.mip_schedule.specs.Versions.{is_numbered}
use Rattle.mip_symbols.specs.declared.declaration.Declaration.{Declaration}
use Rattle.mip_symbols.specs.declared.declaration.Declaration.TheVariants as declare
use Rattle.mip_symbols.specs.declared.name.Name.{Name}
use Rattle.mip_symbols.specs.declared.places.Sort.TheVariants as sorts
use Rattle.mip_symbols.specs.declared.reason.Reason.{Reason}
use Rattle.mip_symbols.specs.declared.reason.Reason.TheVariants as reasons
use Rattle.mip_schedule.specs.declared.schedule.Schedule.{Schedule}
use Rattle.mip_schedule.proofs.AcceptedLaws.{accepted}
use Rattle.mip_schedule.proofs.DeclarationLaws.{declaration-spelled}
use Rattle.mip_schedule.proofs.FewLaws.{few_more, line_free, none_few}
use Rattle.mip_symbols.proofs.NameLaws.{IsFresh, MayStand, AreNamed, named_more, none_named, names_are_found}
use Rattle.mip_schedule.proofs.TextLaws.{at_line_ok}

tested : (b : Bool) (m n : Name) → or_reason reasons.Name (cond b (Some m) None) ≡ Ok n → b ≡ true
tested true m n e = refl
tested false m n e = absurd cc

name_tested : (f : List ℕ) (n : Name) → or_reason reasons.Name (name_of f) ≡ Ok n → is_name f ≡ true
unfolding name_of
name_tested f n = tested (is_name f) (record { length = length f; letters = f ++ replicate (8 - length f) 0 }) n

-- a name that is read is fresh
fresh_name : (ds : List Declaration) (f : List ℕ) (n : Name) → kinds.new_name ds f ≡ Ok n → (is_taken ds f ≡ false) × (is_name f ≡ true)
unfolding new_name
fresh_name ds f n = by (is_taken ds f)
  where
    by : (b : Bool) → cond b (Err reasons.Name) (or_reason reasons.Name (name_of f)) ≡ Ok n → (b ≡ false) × (is_name f ≡ true)
    by true e = absurd cc
    by false e = (refl, name_tested f n e)

-- a line that begins with a name that is read
fresh : {X : Type 0} (ds : List Declaration) (f : List ℕ) (k : Name → Result X Reason) (x : X) → (kinds.new_name ds f >>= k) ≡ Ok x → (is_taken ds f ≡ false) × (is_name f ≡ true)
fresh ds f k x e = let p = bind_ok (kinds.new_name ds f) k x e in fresh_name ds f p.0 p.1

fresh_link : {X : Type 0} (ds : List Declaration) (d : Declaration) (k : Name → Result X Reason) (x : X) → (kinds.new_name ds (declared_name d) >>= k) ≡ Ok x → IsFresh ds d
fresh_link ds d k x e = let p = fresh ds (declared_name d) k x e in record { free = p.0; named = p.1 }

-- a declaration whose line is read gives a fresh name, if it gives one
may_stand : (ds : List Declaration) (d : Declaration) → declaration_fields ds (declaration_text ds d) ≡ Ok d → MayStand ds d
unfolding declaration_fields node_fields link_row agent_row correspondent_row mobile_row outsider_row
may_stand ds (declare.Link n p) e sort c =
    fresh_link ds (declare.Link n p) (λ a. kinds.prefix (number_hex 8 p.0) >>= (λ b. Ok (declare.Link a b))) (declare.Link n p) e
may_stand ds (declare.Agent n l a p t r) e sort c =
    fresh_link ds (declare.Agent n l a p t r)
    (λ x1. kinds.link ds (link_text ds l) >>= (λ x2. kinds.address (address_hex a) >>= (λ x3. u16 (decimal p) >>= (λ x4. u16 (decimal t) >>= (λ x5. room (decimal r) >>= (λ x6. Ok (declare.Agent x1 x2 x3 x4 x5 x6)))))))
    (declare.Agent n l a p t r) e
may_stand ds (declare.Correspondent n l a r) e sort c =
    fresh_link ds (declare.Correspondent n l a r)
    (λ x1. kinds.link ds (link_text ds l) >>= (λ x2. kinds.address (address_hex a) >>= (λ x3. room (decimal r) >>= (λ x4. Ok (declare.Correspondent x1 x2 x3 x4)))))
    (declare.Correspondent n l a r) e
may_stand ds (declare.Mobile n l a g) e sort c =
    fresh_link ds (declare.Mobile n l a g)
    (λ x1. kinds.link ds (link_text ds l) >>= (λ x2. kinds.address (address_hex a) >>= (λ x3. kinds.some_agent ds (or_word (codes "find") (node_text ds) g) >>= (λ x4. Ok (declare.Mobile x1 x2 x3 x4)))))
    (declare.Mobile n l a g) e
may_stand ds (declare.Outsider n) e sort c = fresh_link ds (declare.Outsider n) (λ a. Ok (declare.Outsider a)) (declare.Outsider n) e
may_stand ds (declare.Serve g m) e sorts.Link c = absurd cc
may_stand ds (declare.Serve g m) e sorts.Outsider c = absurd cc
may_stand ds (declare.Serve g m) e sorts.Node c = absurd cc
may_stand ds (declare.Serve g m) e sorts.Agent c = absurd cc
may_stand ds (declare.Serve g m) e sorts.Mobile c = absurd cc
may_stand ds (declare.Serve g m) e sorts.Host c = absurd cc

line_stands : (ds : List Declaration) (row : List (List ℕ)) (d : Declaration) → declaration_line ds row ≡ Ok d → MayStand ds d
line_stands ds row d e =
    may_stand ds d (subst (λ (r : List (List ℕ)). declaration_fields ds r ≡ Ok d) (declaration-spelled ds row d e) (line_free ds row d e).0)

-- few, with names that are found
record IsStanding (ds : List Declaration) : Type 0 where
  few : AreFew ds
  named : AreNamed ds

stands_more : (ds : List Declaration) (row : List (List ℕ)) (d : Declaration) → declaration_line ds row ≡ Ok d → IsStanding ds → IsStanding (ds ++ d ∷ [])
stands_more ds row d e stands = record {
  few = few_more ds d stands.few (line_free ds row d e).1;
  named = named_more ds d (line_stands ds row d e) stands.named;
}

all_stand : (rows : List (List (List ℕ))) (ds : List Declaration) (n : ℕ) (out : Declared) → declarations_of ds n rows ≡ Ok out → IsStanding ds → IsStanding out.declarations
unfolding declarations_of
all_stand [] ds n out = λ e. absurd cc
all_stand (row ∷ []) ds n out = λ e. absurd cc
all_stand (row ∷ next ∷ rows) ds n out =
    cond_both (is_run row) _ _ (λ (r : Result Declared Wrong). r ≡ Ok out → IsStanding ds → IsStanding out.declarations)
    (λ _ e stands. subst (λ (d : Declared). IsStanding d.declarations) (ok_is (record { declarations = ds; line = n + 1; rows = next ∷ rows }) out e) stands)
    (λ _ e stands.
    let p = bind_ok (at_line n (declaration_line ds row)) (λ d. declarations_of (ds ++ d ∷ []) (n + 1) (next ∷ rows)) out e in
    all_stand (next ∷ rows) (ds ++ p.0 ∷ []) (n + 1) out p.2 (stands_more ds row p.0 (at_line_ok n (declaration_line ds row) p.0 p.1) stands))

-- the declarations of a text that is read
read_stands : (text : List ℕ) (s : Content) → reading text ≡ Ok s → IsStanding s.declarations
unfolding reading
read_stands text s e =
    let h = bind_ok (head_of (rows_of text)) (λ head. declarations_of [] 4 head.rows >>= (λ declared. events_of (is_numbered head.version) declared.declarations [] declared.line declared.rows >>= (λ events. Ok (record { version = head.version; seed = head.seed; start = head.start; declarations = declared.declarations; events = events })))) s e in
    let d = bind_ok (declarations_of [] 4 h.0.rows) (λ declared. events_of (is_numbered h.0.version) declared.declarations [] declared.line declared.rows >>= (λ events. Ok (record { version = h.0.version; seed = h.0.seed; start = h.0.start; declarations = declared.declarations; events = events }))) s h.2 in
    let es = bind_ok (events_of (is_numbered h.0.version) d.0.declarations [] d.0.line d.0.rows) (λ events. Ok (record { version = h.0.version; seed = h.0.seed; start = h.0.start; declarations = d.0.declarations; events = events })) s d.2 in
    subst (λ (x : Content). IsStanding x.declarations) (ok_is _ s es.2) (all_stand h.0.rows [] 4 d.0 d.1 (record { few = none_few; named = none_named }))

-- each schedule has few links, nodes and outsiders
pub few_declared : (s : Schedule) → AreFew s.declarations
few_declared s = (read_stands (spelling (content s)) (content s) (accepted s)).few

-- each name that a schedule declares is found at its number
pub names_declared : (s : Schedule) → NamesFound s.declarations
names_declared s = names_are_found s.declarations (read_stands (spelling (content s)) (content s) (accepted s)).named
