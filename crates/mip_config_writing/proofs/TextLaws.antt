-- A text that is read as a configuration is the configuration's spelling.
use Rattle.std.proofs.Common.{◌≡◌, ℕ, List, [], ◌∷◌, ◌++◌, refl, sym, ap, ◌∙◌, subst, arith}
use Rattle.std.specs.Prelude.{Option, Some, None, Result, Ok, codes, decimal}
use Rattle.std.specs.Str.{bytes_eq}
use Rattle.std.proofs.lemmas.Bool.{cond_both}
use Rattle.std.proofs.lemmas.Fmt.{decimal_digit}
use Rattle.mip_words.specs.Hex.{hex_of}
use Rattle.mip_words.specs.Steps.{◌>>=◌}
use Rattle.mip_words.proofs.StepLaws.{bind_ok, ok_is}
use Rattle.mip_lines.specs.Cutting.{rows_of}
use Rattle.mip_lines.proofs.LineLaws.{text-spelled}
use Rattle.mip_symbols.specs.Kinds as kinds
use Rattle.mip_symbols.specs.declared.reason.Reason.{Reason}
use Rattle.mip_symbols.proofs.KindLaws.{number-spells, number-within, seed-spells, worded}
use Rattle.mip_schedule.specs.Reading.{at_line, headed, head_field, head_line, version_line, seed_line}
use Rattle.mip_schedule.proofs.TextLaws.{at_line_ok}
use Rattle.mip_drafts.specs.Walk.{Walked, walk}
use Rattle.mip_config.specs.Configs.{Content}
use Rattle.mip_config.specs.Drafts.{nothing, line_onto}
use Rattle.mip_config.specs.Reading.{self_line, port_line, Head, head_of, configured, reading}
use Rattle.mip_config.specs.declared.config_draft.ConfigDraft.{ConfigDraft}
use Rattle.mip_config.specs.declared.role.Role.{Role}
use Rattle.mip_config_writing.specs.Spelling.{head_rows, config_rows, spelling}
use Rattle.mip_config_writing.proofs.DraftLaws.{end_row, draft_rows, walk_spelled}

headed_spelled : (word : List ℕ) (row : List (List ℕ)) (f : List ℕ) → headed word row ≡ Ok f → row ≡ word ∷ f ∷ []
headed_spelled word [] f = λ e. absurd cc
headed_spelled word (w ∷ []) f = λ e. absurd cc
headed_spelled word (w ∷ g ∷ []) f =
    cond_both (bytes_eq w word) _ _ (λ (r : Result (List ℕ) Reason). r ≡ Ok f → w ∷ g ∷ [] ≡ word ∷ f ∷ [])
    (λ test e. worded w word (g ∷ []) (word ∷ f ∷ []) test (ap (λ (x : List ℕ). word ∷ x ∷ []) (ok_is g f e)))
    (λ _ e. absurd cc)
headed_spelled word (w ∷ g ∷ h ∷ more) f = λ e. absurd cc

head_field_spelled : (word : List ℕ) (n : ℕ) (rows : List (List (List ℕ))) (p : List ℕ × List (List (List ℕ))) → head_field word n rows ≡ Ok p → rows ≡ (word ∷ p.0 ∷ []) ∷ p.1
unfolding head_field
head_field_spelled word n [] p e = absurd cc
head_field_spelled word n (row ∷ []) p e = absurd cc
head_field_spelled word n (row ∷ next ∷ rows) p e =
    let q = bind_ok (at_line n (headed word row)) (λ field. Ok (field, next ∷ rows)) p e in
    let line : row ≡ word ∷ q.0 ∷ [] = headed_spelled word row q.0 (at_line_ok n (headed word row) q.0 q.1) in
    subst (λ (x : List ℕ × List (List (List ℕ))). row ∷ next ∷ rows ≡ (word ∷ x.0 ∷ []) ∷ x.1) (ok_is (q.0, next ∷ rows) p q.2) (ap (λ (r : List (List ℕ)). r ∷ next ∷ rows) line)

-- a line of the head was read so
pub record IsHeadLine {A : Type 0} (word : List ℕ) (read : List ℕ → Result A Reason) (rows : List (List (List ℕ))) (out : A × List (List (List ℕ))) : Type 0 where
  pub field : List ℕ
  pub value : read field ≡ Ok out.0
  pub spelled : rows ≡ (word ∷ field ∷ []) ∷ out.1

pub head_line_spelled : {A : Type 0} (word : List ℕ) (read : List ℕ → Result A Reason) (n : ℕ) (rows : List (List (List ℕ))) (out : A × List (List (List ℕ)))
    → head_line word read n rows ≡ Ok out → IsHeadLine word read rows out
head_line_spelled {A} word read n rows out e =
    let p = bind_ok (head_field word n rows) (λ field. at_line n (read field.0) >>= (λ x. Ok (x, field.1))) out e in
    let q = bind_ok (at_line n (read p.0.0)) (λ x. Ok (x, p.0.1)) out p.2 in
    subst (λ (o : A × List (List (List ℕ))). IsHeadLine word read rows o) (ok_is (q.0, p.0.1) out q.2)
    (record { field = p.0.0; value = at_line_ok n (read p.0.0) q.0 q.1; spelled = head_field_spelled word n rows p.0 p.1 })

-- a line of the head that holds a number
number_spelled : (word : List ℕ) (low high n : ℕ) (rows : List (List (List ℕ))) (out : ℕ × List (List (List ℕ))) → head_line word (kinds.number low high) n rows ≡ Ok out → rows ≡ (word ∷ decimal out.0 ∷ []) ∷ out.1
number_spelled word low high n rows out e =
    let h = head_line_spelled word (kinds.number low high) n rows out e in
    h.spelled ∙ ap (λ (f : List ℕ). (word ∷ f ∷ []) ∷ out.1) (number-spells low high h.field out.0 h.value)

version_spelled : (rows : List (List (List ℕ))) (out : ℕ × List (List (List ℕ))) → version_line 1 rows ≡ Ok out → rows ≡ (codes "mip" ∷ codes "1" ∷ []) ∷ out.1
unfolding version_line
version_spelled rows out e =
    let h = head_line_spelled (codes "mip") (kinds.number 1 1) 1 rows out e in
    let within = number-within 1 1 h.field out.0 h.value in
    let one : out.0 ≡ 1 = omega arith in
    number_spelled (codes "mip") 1 1 1 rows out e ∙ ap (λ (f : List ℕ). (codes "mip" ∷ f ∷ []) ∷ out.1) (ap decimal one ∙ decimal_digit 1 (omega arith))

seed_spelled : (rows : List (List (List ℕ))) (out : List ℕ × List (List (List ℕ))) → seed_line rows ≡ Ok out → rows ≡ (codes "seed" ∷ hex_of out.0 ∷ []) ∷ out.1
unfolding seed_line
seed_spelled rows out e =
    let h = head_line_spelled (codes "seed") kinds.seed 2 rows out e in
    h.spelled ∙ ap (λ (f : List ℕ). (codes "seed" ∷ f ∷ []) ∷ out.1) (seed-spells h.field out.0 h.value)

self_spelled : (rows : List (List (List ℕ))) (out : ℕ × List (List (List ℕ))) → self_line rows ≡ Ok out → rows ≡ (codes "self" ∷ decimal out.0 ∷ []) ∷ out.1
unfolding self_line
self_spelled rows out e = number_spelled (codes "self") 0 31 3 rows out e

port_spelled : (rows : List (List (List ℕ))) (out : ℕ × List (List (List ℕ))) → port_line 4 rows ≡ Ok out → rows ≡ (codes "port" ∷ decimal out.0 ∷ []) ∷ out.1
unfolding port_line
port_spelled rows out e = number_spelled (codes "port") 1 65535 4 rows out e

four : (r v s n p : List (List (List ℕ))) (a b c d : List (List ℕ)) → r ≡ a ∷ v → v ≡ b ∷ s → s ≡ c ∷ n → n ≡ d ∷ p → r ≡ a ∷ b ∷ c ∷ d ∷ p
four r v s n p a b c d e1 e2 e3 e4 = rw (e1, e2, e3, e4) refl

abbrev pub made_head : List ℕ → ℕ → ℕ × List (List (List ℕ)) → Head
made_head seed node port = record { seed = seed; node = record { 0 = node }; port = port.0; rows = port.1 }

head_spelled : (rows : List (List (List ℕ))) (h : Head) → head_of rows ≡ Ok h → rows ≡ head_rows h.seed h.node h.port ++ h.rows
unfolding head_of
head_spelled rows h e =
    let v = bind_ok (version_line 1 rows) (λ version. seed_line version.1 >>= (λ seed. self_line seed.1 >>= (λ node. port_line 4 node.1 >>= (λ port. Ok (made_head seed.0 node.0 port))))) h e in
    let s = bind_ok (seed_line v.0.1) (λ seed. self_line seed.1 >>= (λ node. port_line 4 node.1 >>= (λ port. Ok (made_head seed.0 node.0 port)))) h v.2 in
    let n = bind_ok (self_line s.0.1) (λ node. port_line 4 node.1 >>= (λ port. Ok (made_head s.0.0 node.0 port))) h s.2 in
    let p = bind_ok (port_line 4 n.0.1) (λ port. Ok (made_head s.0.0 n.0.0 port)) h n.2 in
    let is : rows ≡ head_rows s.0.0 (record { 0 = n.0.0 }) p.0.0 ++ p.0.1 =
    four rows v.0.1 s.0.1 n.0.1 p.0.1 (codes "mip" ∷ codes "1" ∷ []) (codes "seed" ∷ hex_of s.0.0 ∷ []) (codes "self" ∷ decimal n.0.0 ∷ []) (codes "port" ∷ decimal p.0.0 ∷ [])
    (version_spelled rows v.0 v.1) (seed_spelled v.0.1 s.0 s.1) (self_spelled s.0.1 n.0 n.1) (port_spelled n.0.1 p.0 p.1) in
    subst (λ (x : Head). rows ≡ head_rows x.seed x.node x.port ++ x.rows) {x = made_head s.0.0 n.0.0 p.0} (ok_is (made_head s.0.0 n.0.0 p.0) h p.2) is

configured_spelled : (h : Head) (w : Walked ConfigDraft) (role : Option Role) (c : Content) → w.draft.role ≡ role → configured h w role ≡ Ok c
    → head_rows h.seed h.node h.port ++ draft_rows w.draft ≡ config_rows c
configured_spelled h w None c is e = absurd cc
configured_spelled h w (Some role) c is e =
    subst (λ (x : Content). head_rows h.seed h.node h.port ++ draft_rows w.draft ≡ config_rows x) (ok_is _ c e)
    (ap (λ (r : Option Role). head_rows h.seed h.node h.port ++ draft_rows (record { routes = w.draft.routes; fallback = w.draft.fallback; role = r; serves = w.draft.serves; payloads = w.draft.payloads })) is)

-- a text that is read as a configuration has the configuration's rows
rows_spelled : (text : List ℕ) (c : Content) → reading text ≡ Ok c → rows_of text ≡ config_rows c ++ end_row ∷ []
unfolding reading
rows_spelled text c e =
    let h = bind_ok (head_of (rows_of text)) (λ head. walk line_onto nothing 5 head.rows >>= (λ walked. configured head walked walked.draft.role)) c e in
    let w = bind_ok (walk line_onto nothing 5 h.0.rows) (λ walked. configured h.0 walked walked.draft.role) c h.2 in
    let body : h.0.rows ≡ draft_rows w.0.draft ++ end_row ∷ [] = walk_spelled 5 h.0.rows w.0 w.1 in
    head_spelled (rows_of text) h.0 h.1
    ∙ ap (λ (r : List (List (List ℕ))). head_rows h.0.seed h.0.node h.0.port ++ r) body
    ∙ ap (λ (r : List (List (List ℕ))). r ++ end_row ∷ []) (configured_spelled h.0 w.0 w.0.draft.role c refl w.2)

-- a text that is read as a configuration is the configuration's spelling
pub text_spelled : (text : List ℕ) (c : Content) → reading text ≡ Ok c → text ≡ spelling c
unfolding spelling
text_spelled text c e = text-spelled text (config_rows c) (rows_spelled text c e)

-- so the spelling is read as the configuration
pub spelling_again : (text : List ℕ) (c : Content) → reading text ≡ Ok c → reading (spelling c) ≡ Ok c
spelling_again text c e = ap reading (sym (text_spelled text c e)) ∙ e
