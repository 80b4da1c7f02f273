-- What the claims of a history are on a link, written piece by piece.
use Rattle.std.proofs.Common.{◌≡◌, ℕ, ◌+◌, ◌<◌, ◌≤◌, sym, ap, ◌∙◌, arith, List, [], ◌++◌, length, take, length-append, append_assoc, subst}
use Rattle.std.proofs.Math.Seq.{take-append-add}
use Rattle.std.proofs.lemmas.List.{take-append-le, take_all}
use Rattle.std.specs.Prelude.{Option, Result, Ok, Err, OnErr, IsErrOf}
use Rattle.std.specs.Io.KnownBytes.{append_known}
use Rattle.mip_words.specs.declared.address.Address.{Address}
use Rattle.mip_symbols.specs.declared.declaration.Declaration.{Declaration}
use Rattle.mip_entries.specs.declared.entry.Entry.{Entry}
use Rattle.mip_outside.proofs.Known.{append_more}
use Rattle.mip_printing.proofs.Parts.{part_of}
use Rattle.mip_proxynd.specs.Claims.{Rows, rows_in}
use Rattle.mip_proxynd.specs.Text.{adverts, end_text, claims_text}
use Rattle.mip_proxynd.proofs.TellingLaws.{adverts_more}
use Rattle.mip_proxynd.proofs.RowLaws.{rows_more}

-- a front of a text was written, of which so many bytes are within it
abbrev pub Front : Option (List ℕ) → Option (List ℕ) → List ℕ → Type 0
Front a b text = (count : ℕ) × (count ≤ length text) × (b ≡ append_known a (take count text))

-- a part of a text was written, and not all of it
abbrev pub Part : Option (List ℕ) → Option (List ℕ) → List ℕ → Type 0
Part a b text = (count : ℕ) × (count < length text) × (b ≡ append_known a (take count text))

-- the text of what a piece advertises, put into an empty one
pub piece_text : (ds own : List Declaration) (items : List Entry) (none full text : List ℕ) → own ≡ ds → none ≡ [] → full ≡ none ++ adverts own items → text ≡ full
    → text ≡ adverts ds items
piece_text ds own items none full text same empty put is =
    is ∙ put ∙ ap (λ (l : List ℕ). l ++ adverts own items) empty ∙ ap (λ (d : List Declaration). adverts d items) same

-- what a piece more advertises was written
pub adverts_on : (a b c : Option (List ℕ)) (ds : List Declaration) (next told items : List Entry) (text : List ℕ) → next ≡ told ++ items
    → b ≡ append_known a (adverts ds told) → text ≡ adverts ds items → c ≡ append_known b text → c ≡ append_known a (adverts ds next)
adverts_on a b c ds next told items text more first is put =
    append_more a b c _ _ first (put ∙ ap (append_known b) is) ∙ ap (append_known a) (sym (ap (adverts ds) more ∙ adverts_more ds told items))

-- a part of what a piece advertises was written
pub adverts_part : (a b c : Option (List ℕ)) (ds : List Declaration) (whole next told items rest : List Entry) (text : List ℕ) → whole ≡ next ++ rest
    → next ≡ told ++ items → b ≡ append_known a (adverts ds told) → text ≡ adverts ds items → Part b c text → Part a c (adverts ds whole)
adverts_part a b c ds whole next told items rest text is more first same part =
    let A = adverts ds told in
    let L = adverts ds items in
    let R = adverts ds rest in
    let split : adverts ds whole ≡ A ++ (L ++ R) =
    ap (adverts ds) is ∙ adverts_more ds next rest ∙ ap (λ (l : List Entry). adverts ds l ++ R) more
    ∙ ap (λ (t : List ℕ). t ++ R) (adverts_more ds told items) ∙ append_assoc A L R in
    subst (Part a c) (sym split)
    (part_of a b c A L R part.0 first (subst (λ (t : List ℕ). part.0 < length t) same part.1) (part.2 ∙ ap (λ (t : List ℕ). append_known b (take part.0 t)) same))

-- what was advertised is a front of all that is
pub adverts_front : (a b : Option (List ℕ)) (ds : List Declaration) (whole told rest : List Entry) → whole ≡ told ++ rest → b ≡ append_known a (adverts ds told)
    → Front a b (adverts ds whole)
adverts_front a b ds whole told rest is first =
    let T = adverts ds told in
    let R = adverts ds rest in
    let split : adverts ds whole ≡ T ++ R = ap (adverts ds) is ∙ adverts_more ds told rest in
    let le : length T ≤ length T = omega arith in
    let cut : take (length T) (T ++ R) ≡ T = take-append-le (length T) T R le ∙ take_all (length T) T le in
    subst (Front a b) (sym split) (length T, omega (arith, length-append T R), first ∙ ap (append_known a) (sym cut))

-- a front of the first of two texts is one of both
pub front_on : (a b : Option (List ℕ)) (A E : List ℕ) → Front a b A → (count : ℕ) × (b ≡ append_known a (take count (A ++ E)))
front_on a b A E front = (front.0, front.2 ∙ ap (append_known a) (sym (take-append-le front.0 A E front.1)))

pub part_on : (a b : Option (List ℕ)) (A E : List ℕ) → Part a b A → Part a b (A ++ E)
part_on a b A E part =
    let le : part.0 ≤ length A = omega (arith, part.1) in
    (part.0, omega (arith, part.1, length-append A E), part.2 ∙ ap (append_known a) (sym (take-append-le part.0 A E le)))

-- and a front of the second one, where the first was written
pub front_behind : (a b c : Option (List ℕ)) (A E : List ℕ) → b ≡ append_known a A → Front b c E → (count : ℕ) × (c ≡ append_known a (take count (A ++ E)))
front_behind a b c A E first front =
    (length A + front.0, append_more a b c A (take front.0 E) first front.2 ∙ ap (append_known a) (sym (take-append-add A E front.0)))

pub part_behind : (a b c : Option (List ℕ)) (A E : List ℕ) → b ≡ append_known a A → Part b c E → Part a c (A ++ E)
part_behind a b c A E first part =
    (length A + part.0, omega (arith, part.1, length-append A E), append_more a b c A (take part.0 E) first part.2 ∙ ap (append_known a) (sym (take-append-add A E part.0)))

-- the rows behind a piece more
pub rows_on : (before after : Rows) (next told items : List Entry) → next ≡ told ++ items → before ≡ rows_in [] told → after ≡ rows_in before items → after ≡ rows_in [] next
rows_on before after next told items more first put =
    put ∙ ap (λ (r : Rows). rows_in r items) first ∙ sym (ap (rows_in []) more ∙ rows_more [] told items)

pub part_front : (a b : Option (List ℕ)) (text : List ℕ) → Part a b text → Front a b text
part_front a b text part = (part.0, omega (arith, part.1), part.2)

-- a front of what stands at the end was written, behind all that is advertised
pub claims_front : (a b c : Option (List ℕ)) (ds own : List Declaration) (history : List Entry) (ask : Option Address) (rows : Rows) → own ≡ ds → rows ≡ rows_in [] history
    → b ≡ append_known a (adverts ds history) → Front b c (end_text own rows ask) → (count : ℕ) × (c ≡ append_known a (take count (claims_text ds history ask)))
claims_front a b c ds own history ask rows same stand first front =
    front_behind a b c (adverts ds history) (end_text ds (rows_in [] history) ask) first
    (subst (λ (r : Rows). Front b c (end_text ds r ask)) stand (subst (λ (d : List Declaration). Front b c (end_text d rows ask)) same front))

pub claims_part : (a b c : Option (List ℕ)) (ds own : List Declaration) (history : List Entry) (ask : Option Address) (rows : Rows) → own ≡ ds → rows ≡ rows_in [] history
    → b ≡ append_known a (adverts ds history) → Part b c (end_text own rows ask) → Part a c (claims_text ds history ask)
claims_part a b c ds own history ask rows same stand first part =
    part_behind a b c (adverts ds history) (end_text ds (rows_in [] history) ask) first
    (subst (λ (r : Rows). Part b c (end_text ds r ask)) stand (subst (λ (d : List Declaration). Part b c (end_text d rows ask)) same part))

-- what follows where a call failed
pub on_err : {X E : Type 0} (P Q : Type 0) (r : Result X E) → (P → Q) → OnErr r P → OnErr r Q
on_err P Q (Ok x) step is = tt
on_err P Q (Err e) step is = step is

abbrev err_or : {X E : Type 0} → E → Result X E → E
err_or e (Ok x) = e
err_or e (Err fault) = fault

-- the fault that a call is ended by is the fault that came
pub fault_on : {X Y E : Type 0} (r : Result Y E) (came given fault : E) → r ≡ Err given → given ≡ came → r ≡ Err fault → IsErrOf {T = X} {E = E} (Err came) fault
fault_on r came given fault is same ended = ap Err (sym same ∙ ap (err_or fault) (sym is ∙ ended))
