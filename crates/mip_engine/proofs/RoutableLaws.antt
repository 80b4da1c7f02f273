-- Each address that a schedule declares is routable.
use Rattle.std.proofs.Common.{◌≡◌, ℕ, List, [], ◌∷◌, true, subst}
use Rattle.std.proofs.lemmas.Bool.{cond_both}
use Rattle.std.specs.Prelude.{Option, Some, None, Result, Ok, codes}
use Rattle.std.specs.List.{AllByRecursion}
use Rattle.std.specs.Str.{bytes_eq}
use Rattle.mip_words.specs.Addresses.{is_routable}
use Rattle.mip_words.specs.Steps.{◌>>=◌}
use Rattle.mip_words.specs.declared.address.Address.{Address}
use Rattle.mip_words.proofs.StepLaws.{bind_ok, ok_is}
use Rattle.mip_lines.specs.HexFields.{address_in}
use Rattle.mip_schedule.specs.DeclarationRows.{room, u16, link_row, agent_row, correspondent_row, mobile_row, serve_row, outsider_row, node_fields, declaration_fields}
use Rattle.mip_schedule.specs.DeclarationTimes.{judged, undeclared, declaration_line}
use Rattle.mip_symbols.specs.Kinds as kinds
use Rattle.mip_symbols.specs.Kinds.{to_host}
use Rattle.mip_schedule.specs.Spelling.{declaration_text}
use Rattle.mip_symbols.specs.declared.declaration.Declaration.{Declaration}
use Rattle.mip_symbols.specs.declared.declaration.Declaration.TheVariants as declare
use Rattle.mip_symbols.specs.declared.places.Sort.TheVariants as sorts
use Rattle.mip_symbols.specs.declared.reason.Reason.{Reason}
use Rattle.mip_history.specs.Setup.{addresses_in}

-- a routable address
abbrev pub IsHost : Address → Type 0
IsHost a = is_routable a.0 ≡ true

host_of : (o : Option Address) (a : Address) → to_host o ≡ Ok a → IsHost a
host_of None a = λ e. absurd cc
host_of (Some b) a =
    cond_both (is_routable b.0) _ _ (λ (r : Result Address Reason). r ≡ Ok a → IsHost a)
    (λ test e. subst IsHost (ok_is b a e) test)
    (λ _ e. absurd cc)

address_read : (f : List ℕ) (a : Address) → kinds.address f ≡ Ok a → IsHost a
unfolding kinds.address
address_read f a e = host_of (address_in f) a e

abbrev AreHosts : Declaration → Type 0
AreHosts d = AllByRecursion IsHost (addresses_in (d ∷ []))

agent_read : (ds : List Declaration) (fields : List (List ℕ)) (d : Declaration) → agent_row ds fields ≡ Ok d → AreHosts d
unfolding agent_row
agent_read ds [] d e = absurd cc
agent_read ds (c1 ∷ []) d e = absurd cc
agent_read ds (c1 ∷ c2 ∷ []) d e = absurd cc
agent_read ds (c1 ∷ c2 ∷ c3 ∷ []) d e = absurd cc
agent_read ds (c1 ∷ c2 ∷ c3 ∷ c4 ∷ []) d e = absurd cc
agent_read ds (c1 ∷ c2 ∷ c3 ∷ c4 ∷ c5 ∷ []) d e = absurd cc
agent_read ds (c1 ∷ c2 ∷ c3 ∷ c4 ∷ c5 ∷ c6 ∷ c7 ∷ more) d e = absurd cc
agent_read ds (c1 ∷ c2 ∷ c3 ∷ c4 ∷ c5 ∷ c6 ∷ []) d e =
    let x1 = bind_ok (kinds.new_name ds c1) (λ n. (kinds.link ds c2 >>= (λ l. (kinds.address c3 >>= (λ a. (u16 c4 >>= (λ p. (u16 c5 >>= (λ t. (room c6 >>= (λ r. Ok (declare.Agent n l a p t r)))))))))))) d e in
    let x2 = bind_ok (kinds.link ds c2) (λ l. (kinds.address c3 >>= (λ a. (u16 c4 >>= (λ p. (u16 c5 >>= (λ t. (room c6 >>= (λ r. Ok (declare.Agent x1.0 l a p t r)))))))))) d x1.2 in
    let x3 = bind_ok (kinds.address c3) (λ a. (u16 c4 >>= (λ p. (u16 c5 >>= (λ t. (room c6 >>= (λ r. Ok (declare.Agent x1.0 x2.0 a p t r)))))))) d x2.2 in
    let x4 = bind_ok (u16 c4) (λ p. (u16 c5 >>= (λ t. (room c6 >>= (λ r. Ok (declare.Agent x1.0 x2.0 x3.0 p t r)))))) d x3.2 in
    let x5 = bind_ok (u16 c5) (λ t. (room c6 >>= (λ r. Ok (declare.Agent x1.0 x2.0 x3.0 x4.0 t r)))) d x4.2 in
    let x6 = bind_ok (room c6) (λ r. Ok (declare.Agent x1.0 x2.0 x3.0 x4.0 x5.0 r)) d x5.2 in
    let good : AreHosts (declare.Agent x1.0 x2.0 x3.0 x4.0 x5.0 x6.0) = (address_read c3 x3.0 x3.1, tt) in
    subst AreHosts (ok_is (declare.Agent x1.0 x2.0 x3.0 x4.0 x5.0 x6.0) d x6.2) good

correspondent_read : (ds : List Declaration) (fields : List (List ℕ)) (d : Declaration) → correspondent_row ds fields ≡ Ok d → AreHosts d
unfolding correspondent_row
correspondent_read ds [] d e = absurd cc
correspondent_read ds (c1 ∷ []) d e = absurd cc
correspondent_read ds (c1 ∷ c2 ∷ []) d e = absurd cc
correspondent_read ds (c1 ∷ c2 ∷ c3 ∷ []) d e = absurd cc
correspondent_read ds (c1 ∷ c2 ∷ c3 ∷ c4 ∷ c5 ∷ more) d e = absurd cc
correspondent_read ds (c1 ∷ c2 ∷ c3 ∷ c4 ∷ []) d e =
    let x1 = bind_ok (kinds.new_name ds c1) (λ n. (kinds.link ds c2 >>= (λ l. (kinds.address c3 >>= (λ a. (room c4 >>= (λ r. Ok (declare.Correspondent n l a r)))))))) d e in
    let x2 = bind_ok (kinds.link ds c2) (λ l. (kinds.address c3 >>= (λ a. (room c4 >>= (λ r. Ok (declare.Correspondent x1.0 l a r)))))) d x1.2 in
    let x3 = bind_ok (kinds.address c3) (λ a. (room c4 >>= (λ r. Ok (declare.Correspondent x1.0 x2.0 a r)))) d x2.2 in
    let x4 = bind_ok (room c4) (λ r. Ok (declare.Correspondent x1.0 x2.0 x3.0 r)) d x3.2 in
    let good : AreHosts (declare.Correspondent x1.0 x2.0 x3.0 x4.0) = (address_read c3 x3.0 x3.1, tt) in
    subst AreHosts (ok_is (declare.Correspondent x1.0 x2.0 x3.0 x4.0) d x4.2) good

mobile_read : (ds : List Declaration) (fields : List (List ℕ)) (d : Declaration) → mobile_row ds fields ≡ Ok d → AreHosts d
unfolding mobile_row
mobile_read ds [] d e = absurd cc
mobile_read ds (c1 ∷ []) d e = absurd cc
mobile_read ds (c1 ∷ c2 ∷ []) d e = absurd cc
mobile_read ds (c1 ∷ c2 ∷ c3 ∷ []) d e = absurd cc
mobile_read ds (c1 ∷ c2 ∷ c3 ∷ c4 ∷ c5 ∷ more) d e = absurd cc
mobile_read ds (c1 ∷ c2 ∷ c3 ∷ c4 ∷ []) d e =
    let x1 = bind_ok (kinds.new_name ds c1) (λ n. (kinds.link ds c2 >>= (λ l. (kinds.address c3 >>= (λ a. (kinds.some_agent ds c4 >>= (λ g. Ok (declare.Mobile n l a g)))))))) d e in
    let x2 = bind_ok (kinds.link ds c2) (λ l. (kinds.address c3 >>= (λ a. (kinds.some_agent ds c4 >>= (λ g. Ok (declare.Mobile x1.0 l a g)))))) d x1.2 in
    let x3 = bind_ok (kinds.address c3) (λ a. (kinds.some_agent ds c4 >>= (λ g. Ok (declare.Mobile x1.0 x2.0 a g)))) d x2.2 in
    let x4 = bind_ok (kinds.some_agent ds c4) (λ g. Ok (declare.Mobile x1.0 x2.0 x3.0 g)) d x3.2 in
    let good : AreHosts (declare.Mobile x1.0 x2.0 x3.0 x4.0) = (address_read c3 x3.0 x3.1, tt) in
    subst AreHosts (ok_is (declare.Mobile x1.0 x2.0 x3.0 x4.0) d x4.2) good

-- a declaration of no node
link_read : (ds : List Declaration) (fields : List (List ℕ)) (d : Declaration) → link_row ds fields ≡ Ok d → AreHosts d
unfolding link_row
link_read ds [] d e = absurd cc
link_read ds (c1 ∷ []) d e = absurd cc
link_read ds (c1 ∷ c2 ∷ c3 ∷ more) d e = absurd cc
link_read ds (c1 ∷ c2 ∷ []) d e =
    let x1 = bind_ok (kinds.new_name ds c1) (λ n. (kinds.prefix c2 >>= (λ p. Ok (declare.Link n p)))) d e in
    let x2 = bind_ok (kinds.prefix c2) (λ p. Ok (declare.Link x1.0 p)) d x1.2 in
    let good : AreHosts (declare.Link x1.0 x2.0) = tt in
    subst AreHosts (ok_is (declare.Link x1.0 x2.0) d x2.2) good

serve_read : (ds : List Declaration) (fields : List (List ℕ)) (d : Declaration) → serve_row ds fields ≡ Ok d → AreHosts d
unfolding serve_row
serve_read ds [] d e = absurd cc
serve_read ds (c1 ∷ []) d e = absurd cc
serve_read ds (c1 ∷ c2 ∷ c3 ∷ more) d e = absurd cc
serve_read ds (c1 ∷ c2 ∷ []) d e =
    let x1 = bind_ok (kinds.node sorts.Agent ds c1) (λ g. (kinds.node sorts.Mobile ds c2 >>= (λ m. Ok (declare.Serve g m)))) d e in
    let x2 = bind_ok (kinds.node sorts.Mobile ds c2) (λ m. Ok (declare.Serve x1.0 m)) d x1.2 in
    let good : AreHosts (declare.Serve x1.0 x2.0) = tt in
    subst AreHosts (ok_is (declare.Serve x1.0 x2.0) d x2.2) good

outsider_read : (ds : List Declaration) (fields : List (List ℕ)) (d : Declaration) → outsider_row ds fields ≡ Ok d → AreHosts d
unfolding outsider_row
outsider_read ds [] d e = absurd cc
outsider_read ds (c1 ∷ c2 ∷ more) d e = absurd cc
outsider_read ds (c1 ∷ []) d e =
    let x1 = bind_ok (kinds.new_name ds c1) (λ n. Ok (declare.Outsider n)) d e in
    let good : AreHosts (declare.Outsider x1.0) = tt in
    subst AreHosts (ok_is (declare.Outsider x1.0) d x1.2) good

abbrev Reads : Result Declaration Reason → Type 0
Reads r = (d : Declaration) → r ≡ Ok d → AreHosts d

node_read : (ds : List Declaration) (word : List ℕ) (fields : List (List ℕ)) → Reads (node_fields ds word fields)
unfolding node_fields
node_read ds word fields =
    cond_both (bytes_eq word (codes "agent")) _ _ Reads (λ _. agent_read ds fields)
    (λ _. cond_both (bytes_eq word (codes "correspondent")) _ _ Reads (λ _. correspondent_read ds fields)
    (λ _. cond_both (bytes_eq word (codes "mobile")) _ _ Reads (λ _. mobile_read ds fields) (λ _ d e. absurd cc)))

fields_read : (ds : List Declaration) (row : List (List ℕ)) → Reads (declaration_fields ds row)
unfolding declaration_fields
fields_read ds [] = λ d e. absurd cc
fields_read ds (word ∷ fields) =
    cond_both (bytes_eq word (codes "link")) _ _ Reads (λ _. link_read ds fields)
    (λ _. cond_both (bytes_eq word (codes "serve")) _ _ Reads (λ _. serve_read ds fields)
    (λ _. cond_both (bytes_eq word (codes "outsider")) _ _ Reads (λ _. outsider_read ds fields) (λ _. node_read ds word fields)))

judged_is : (x d : Declaration) (o : Option Reason) → judged x o ≡ Ok d → x ≡ d
judged_is x d None e = ok_is x d e
judged_is x d (Some why) e = absurd cc

pub read_routable : (before : List Declaration) (d : Declaration) → declaration_line before (declaration_text before d) ≡ Ok d → AreHosts d
unfolding declaration_line
read_routable before d e =
    let x = bind_ok (declaration_fields before (declaration_text before d)) (λ y. judged y (undeclared before y)) d e in
    subst AreHosts (judged_is x.0 d (undeclared before x.0) x.2) (fields_read before (declaration_text before d) x.0 x.1)
