-- The lines of a generated schedule before its events are read as they are.
use Rattle.std.proofs.Common.{◌≡◌, ℕ, ◌+◌, List, [], ◌∷◌, ◌++◌, length, true, false, refl, ap, ◌∙◌, arith}
use Rattle.std.specs.Prelude.{Result, Ok, codes, decimal}
use Rattle.std.specs.List.{list_all}
use Rattle.std.proofs.lemmas.Bool.{and_from, cond-false}
use Rattle.mip_words.specs.Hex.{hex_of}
use Rattle.mip_words.specs.Numbers.{IsBytes, number_at, number_bytes}
use Rattle.mip_words.specs.Addresses.{address_read}
use Rattle.mip_words.specs.Steps.{◌>>=◌}
use Rattle.mip_words.specs.declared.moment.Moment.{Moment}
use Rattle.mip_lines.specs.Decimals.{number_in}
use Rattle.mip_lines.specs.HexFields.{hex_number, address_in, address_hex}
use Rattle.mip_lines.specs.LinesLaws.{is_row}
use Rattle.mip_lines.proofs.LineLaws.{decimal_plain}
use Rattle.mip_lines.proofs.RowReadings.{row4-again, row6-again}
use Rattle.mip_schedule.specs.DeclarationRows.{link_row, agent_row, correspondent_row, mobile_row, serve_row, outsider_row, node_fields, declaration_fields}
use Rattle.mip_schedule.specs.DeclarationTimes.{declaration_line, judged, undeclared, misplaced, is_served, is_on_link, is_prefix_taken, is_interface_taken}
use Rattle.mip_schedule.specs.Faults.{Wrong}
use Rattle.mip_symbols.specs.Kinds as kinds
use Rattle.mip_symbols.specs.Kinds.{number, address, prefix, new_name, place, link, node, some_agent}
use Rattle.mip_symbols.specs.Names as names
use Rattle.mip_symbols.specs.Names.{is_name}
use Rattle.mip_symbols.specs.Places.{members, place_of, name_at}
use Rattle.mip_schedule.specs.Reading.{at_line, head_field, version_line, seed_line, start_line, head_of, is_run, declarations_of}
use Rattle.mip_symbols.specs.Spelled.{link_text}
use Rattle.mip_schedule.specs.Spelling.{declaration_rows, declaration_text, head_rows, run_row}
use Rattle.mip_symbols.specs.declared.declaration.Declaration.{Declaration}
use Rattle.mip_symbols.specs.declared.declaration.Declaration.TheVariants as declare
use Rattle.mip_symbols.specs.declared.reason.Reason.{Reason}
use Rattle.mip_symbols.specs.declared.reason.Reason.TheVariants as reasons
use Rattle.mip_make.specs.Network as networks
use Rattle.mip_make.specs.Network.{name_of, agent_address, correspondent_address, numbered, agent, correspondent, first_mobile, second_mobile, serves, outsider, network}
use Rattle.mip_make.proofs.FieldReads.{number_read, seed_read}

abbrev start : Moment
start = record { 0 = 0 }

version_read : (row : List (List ℕ)) (rows : List (List (List ℕ))) → version_line 2 ((codes "mip" ∷ decimal 1 ∷ []) ∷ row ∷ rows) ≡ Ok (1, row ∷ rows)
unfolding version_line head_field
version_read row rows = ap (λ (r : Result ℕ Reason). at_line 1 r >>= (λ x. Ok (x, row ∷ rows))) (number_read 1 2 1 (omega arith) (omega arith) (omega arith))

seed_is : (bs : List ℕ) (row : List (List ℕ)) (rows : List (List (List ℕ))) → length bs ≡ 32 → IsBytes bs → seed_line ((codes "seed" ∷ hex_of bs ∷ []) ∷ row ∷ rows) ≡ Ok (bs, row ∷ rows)
unfolding seed_line head_field
seed_is bs row rows size are = ap (λ (r : Result (List ℕ) Reason). at_line 2 r >>= (λ x. Ok (x, row ∷ rows))) (seed_read bs size are)

start_read : (row : List (List ℕ)) (rows : List (List (List ℕ))) → start_line ((codes "start" ∷ decimal 0 ∷ []) ∷ row ∷ rows) ≡ Ok (0, row ∷ rows)
unfolding start_line head_field
start_read row rows = ap (λ (r : Result ℕ Reason). at_line 3 r >>= (λ x. Ok (x, row ∷ rows))) (number_read 0 1099511627776 0 (omega arith) (omega arith) (omega arith))

pub head_read : (bs : List ℕ) (row : List (List ℕ)) (rows : List (List (List ℕ))) → length bs ≡ 32 → IsBytes bs
    → head_of (head_rows 1 bs start ++ row ∷ rows) ≡ Ok (record { version = 1; seed = bs; start = start; rows = row ∷ rows })
unfolding head_of
head_read bs row rows size are =
    let started : List (List ℕ) = codes "start" ∷ decimal 0 ∷ [] in
    let seeded : List (List ℕ) = codes "seed" ∷ hex_of bs ∷ [] in
    ap (λ (r : Result (ℕ × List (List (List ℕ))) Wrong). r >>= (λ version. seed_line version.1 >>= (λ seed. start_line seed.1 >>= (λ start. Ok (record { version = version.0; seed = seed.0; start = record { 0 = start.0 }; rows = start.1 }))))) (version_read seeded (started ∷ row ∷ rows))
    ∙ ap (λ (r : Result (List ℕ × List (List (List ℕ))) Wrong). r >>= (λ seed. start_line seed.1 >>= (λ start. Ok (record { version = 1; seed = seed.0; start = record { 0 = start.0 }; rows = start.1 })))) (seed_is bs started (row ∷ rows) size are)
    ∙ ap (λ (r : Result (ℕ × List (List (List ℕ))) Wrong). r >>= (λ start. Ok (record { version = 1; seed = bs; start = record { 0 = start.0 }; rows = start.1 }))) (start_read row rows)

-- a declaration is read from its own line, which has plain fields
record IsReadAs (before : List Declaration) (d : Declaration) : Type 0 where
  reads : declaration_line before (declaration_text before d) ≡ Ok d
  no_end : is_run (declaration_text before d) ≡ false
  plain : is_row (declaration_text before d) ≡ true

abbrev before1 : List Declaration
before1 = numbered 49 0x20010db800010000 ∷ []

abbrev before2 : List Declaration
before2 = before1 ++ numbered 50 0x20010db800020000 ∷ []

abbrev before3 : List Declaration
before3 = before2 ++ numbered 51 0x20010db800030000 ∷ []

abbrev before4 : List Declaration
before4 = before3 ++ agent ∷ []

abbrev before5 : List Declaration
before5 = before4 ++ correspondent ∷ []

abbrev before6 : List Declaration
before6 = before5 ++ first_mobile ∷ []

abbrev before7 : List Declaration
before7 = before6 ++ second_mobile ∷ []

abbrev before8 : List Declaration
before8 = before7 ++ serves (networks.node 2) ∷ []

abbrev before9 : List Declaration
before9 = before8 ++ serves (networks.node 3) ∷ []

abbrev before10 : List Declaration
before10 = before9 ++ outsider ∷ []

link1_read : IsReadAs [] (numbered 49 0x20010db800010000)
unfolding declaration_line declaration_fields node_fields link_row agent_row correspondent_row mobile_row serve_row outsider_row undeclared misplaced is_served is_on_link is_prefix_taken is_interface_taken number number_in address address_in address_read prefix new_name place link node some_agent is_name names.name_of hex_number number_at number_bytes members place_of name_at
link1_read = record { reads = refl; no_end = refl; plain = refl }

link2_read : IsReadAs before1 (numbered 50 0x20010db800020000)
unfolding declaration_line declaration_fields node_fields link_row agent_row correspondent_row mobile_row serve_row outsider_row undeclared misplaced is_served is_on_link is_prefix_taken is_interface_taken number number_in address address_in address_read prefix new_name place link node some_agent is_name names.name_of hex_number number_at number_bytes members place_of name_at
link2_read = record { reads = refl; no_end = refl; plain = refl }

link3_read : IsReadAs before2 (numbered 51 0x20010db800030000)
unfolding declaration_line declaration_fields node_fields link_row agent_row correspondent_row mobile_row serve_row outsider_row undeclared misplaced is_served is_on_link is_prefix_taken is_interface_taken number number_in address address_in address_read prefix new_name place link node some_agent is_name names.name_of hex_number number_at number_bytes members place_of name_at
link3_read = record { reads = refl; no_end = refl; plain = refl }

agent_read : IsReadAs before3 agent
unfolding declaration_line declaration_fields node_fields link_row agent_row correspondent_row mobile_row serve_row outsider_row undeclared misplaced is_served is_on_link is_prefix_taken is_interface_taken number number_in address address_in address_read prefix new_name place link node some_agent is_name names.name_of hex_number number_at number_bytes members place_of name_at
agent_read =
    let fields : agent_row before3 ((103 ∷ []) ∷ link_text before3 (networks.link 0) ∷ address_hex agent_address ∷ decimal 10 ∷ decimal 1800 ∷ decimal 16 ∷ []) ≡ Ok agent =
    row6-again reasons.Form (kinds.new_name before3) (kinds.link before3) kinds.address (kinds.number 0 65535) (kinds.number 0 65535) (kinds.number 1 64) (λ n l a p t r. declare.Agent n l a p t r)
    (103 ∷ []) (name_of 1 103 0) (link_text before3 (networks.link 0)) (networks.link 0) (address_hex agent_address) agent_address (decimal 10) 10 (decimal 1800) 1800 (decimal 16) 16
    refl refl refl (number_read 0 65535 10 (omega arith) (omega arith) (omega arith)) (number_read 0 65535 1800 (omega arith) (omega arith) (omega arith)) (number_read 1 64 16 (omega arith) (omega arith) (omega arith)) in
    record {
      reads = ap (λ (r : Result Declaration Reason). r >>= (λ d. judged d (undeclared before3 d))) fields;
      no_end = refl;
      plain = and_from _ _ refl (and_from _ _ refl (and_from _ _ refl (and_from _ _ refl (and_from _ _ (decimal_plain 10 (omega arith)) (and_from _ _ (decimal_plain 1800 (omega arith)) (and_from _ _ (decimal_plain 16 (omega arith)) refl))))));
    }

correspondent_read : IsReadAs before4 correspondent
unfolding declaration_line declaration_fields node_fields link_row agent_row correspondent_row mobile_row serve_row outsider_row undeclared misplaced is_served is_on_link is_prefix_taken is_interface_taken number number_in address address_in address_read prefix new_name place link node some_agent is_name names.name_of hex_number number_at number_bytes members place_of name_at
correspondent_read =
    let fields : correspondent_row before4 ((99 ∷ []) ∷ link_text before4 (networks.link 1) ∷ address_hex correspondent_address ∷ decimal 2 ∷ []) ≡ Ok correspondent =
    row4-again reasons.Form (kinds.new_name before4) (kinds.link before4) kinds.address (kinds.number 1 64) (λ n l a r. declare.Correspondent n l a r)
    (99 ∷ []) (name_of 1 99 0) (link_text before4 (networks.link 1)) (networks.link 1) (address_hex correspondent_address) correspondent_address (decimal 2) 2
    refl refl refl (number_read 1 64 2 (omega arith) (omega arith) (omega arith)) in
    record {
      reads = ap (λ (r : Result Declaration Reason). r >>= (λ d. judged d (undeclared before4 d))) fields;
      no_end = refl;
      plain = and_from _ _ refl (and_from _ _ refl (and_from _ _ refl (and_from _ _ refl (and_from _ _ (decimal_plain 2 (omega arith)) refl))));
    }

first_mobile_read : IsReadAs before5 first_mobile
unfolding declaration_line declaration_fields node_fields link_row agent_row correspondent_row mobile_row serve_row outsider_row undeclared misplaced is_served is_on_link is_prefix_taken is_interface_taken number number_in address address_in address_read prefix new_name place link node some_agent is_name names.name_of hex_number number_at number_bytes members place_of name_at
first_mobile_read = record { reads = refl; no_end = refl; plain = refl }

second_mobile_read : IsReadAs before6 second_mobile
unfolding declaration_line declaration_fields node_fields link_row agent_row correspondent_row mobile_row serve_row outsider_row undeclared misplaced is_served is_on_link is_prefix_taken is_interface_taken number number_in address address_in address_read prefix new_name place link node some_agent is_name names.name_of hex_number number_at number_bytes members place_of name_at
second_mobile_read = record { reads = refl; no_end = refl; plain = refl }

serves2_read : IsReadAs before7 (serves (networks.node 2))
unfolding declaration_line declaration_fields node_fields link_row agent_row correspondent_row mobile_row serve_row outsider_row undeclared misplaced is_served is_on_link is_prefix_taken is_interface_taken number number_in address address_in address_read prefix new_name place link node some_agent is_name names.name_of hex_number number_at number_bytes members place_of name_at
serves2_read = record { reads = refl; no_end = refl; plain = refl }

serves3_read : IsReadAs before8 (serves (networks.node 3))
unfolding declaration_line declaration_fields node_fields link_row agent_row correspondent_row mobile_row serve_row outsider_row undeclared misplaced is_served is_on_link is_prefix_taken is_interface_taken number number_in address address_in address_read prefix new_name place link node some_agent is_name names.name_of hex_number number_at number_bytes members place_of name_at
serves3_read = record { reads = refl; no_end = refl; plain = refl }

outsider_read : IsReadAs before9 outsider
unfolding declaration_line declaration_fields node_fields link_row agent_row correspondent_row mobile_row serve_row outsider_row undeclared misplaced is_served is_on_link is_prefix_taken is_interface_taken number number_in address address_in address_read prefix new_name place link node some_agent is_name names.name_of hex_number number_at number_bytes members place_of name_at
outsider_read = record { reads = refl; no_end = refl; plain = refl }

-- one declaration more is read
read_more : (before : List Declaration) (n : ℕ) (d : Declaration) (row : List (List ℕ)) (rows : List (List (List ℕ))) → IsReadAs before d
    → declarations_of before n (declaration_text before d ∷ row ∷ rows) ≡ declarations_of (before ++ d ∷ []) (n + 1) (row ∷ rows)
unfolding declarations_of
read_more before n d row rows is =
    cond-false _ _ _ is.no_end ∙ ap (λ (r : Result Declaration Reason). at_line n r >>= (λ x. declarations_of (before ++ x ∷ []) (n + 1) (row ∷ rows))) is.reads

run_read : (ds : List Declaration) (n : ℕ) (row : List (List ℕ)) (rows : List (List (List ℕ))) → declarations_of ds n (run_row ∷ row ∷ rows) ≡ Ok (record { declarations = ds; line = n + 1; rows = row ∷ rows })
unfolding declarations_of
run_read ds n row rows = refl

pub declared_read : (row : List (List ℕ)) (rows : List (List (List ℕ)))
    → declarations_of [] 4 (declaration_rows [] network ++ run_row ∷ row ∷ rows) ≡ Ok (record { declarations = network; line = 15; rows = row ∷ rows })
unfolding network
declared_read row rows =
    read_more [] 4 (numbered 49 0x20010db800010000) _ _ link1_read
    ∙ read_more before1 5 (numbered 50 0x20010db800020000) _ _ link2_read
    ∙ read_more before2 6 (numbered 51 0x20010db800030000) _ _ link3_read
    ∙ read_more before3 7 agent _ _ agent_read
    ∙ read_more before4 8 correspondent _ _ correspondent_read
    ∙ read_more before5 9 first_mobile _ _ first_mobile_read
    ∙ read_more before6 10 second_mobile _ _ second_mobile_read
    ∙ read_more before7 11 (serves (networks.node 2)) _ _ serves2_read
    ∙ read_more before8 12 (serves (networks.node 3)) _ _ serves3_read
    ∙ read_more before9 13 outsider _ _ outsider_read
    ∙ run_read network 14 row rows

pub declared_plain : list_all is_row (declaration_rows [] network) ≡ true
unfolding network
declared_plain =
    and_from _ _ link1_read.plain
    (and_from _ _ link2_read.plain
    (and_from _ _ link3_read.plain
    (and_from _ _ agent_read.plain
    (and_from _ _ correspondent_read.plain
    (and_from _ _ first_mobile_read.plain
    (and_from _ _ second_mobile_read.plain
    (and_from _ _ serves2_read.plain
    (and_from _ _ serves3_read.plain
    (and_from _ _ outsider_read.plain
    refl)))))))))
