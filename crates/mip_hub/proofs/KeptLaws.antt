-- What is read has 1,000 lines at most.
use Rattle.std.proofs.Common.{◌≡◌, ℕ, ◌≤◌, List, [], ◌∷◌, ◌++◌, length, cond, subst, arith, length-append}
use Rattle.std.specs.Prelude.{Ok, Err, nat_le}
use Rattle.std.proofs.lemmas.Bool.{leb-false}
use Rattle.mip_words.specs.Steps.{◌>>=◌}
use Rattle.mip_words.proofs.StepLaws.{bind_ok, ok_is}
use Rattle.mip_lines.specs.Cutting.{rows_of}
use Rattle.mip_symbols.specs.declared.reason.Reason.TheVariants as reasons
use Rattle.mip_schedule.specs.Reading.{version_line}
use Rattle.mip_drafts.specs.Walk.{walk}
use Rattle.mip_drafts.proofs.WalkLaws.{walk_keeps}
use Rattle.mip_config.specs.Reading.{port_line}
use Rattle.mip_config.proofs.LineLaws.{unrefused}
use Rattle.mip_hub.specs.Rows.{line_fields}
use Rattle.mip_hub.specs.Reading.{Content, is_told, judged, line_onto, reading}
use Rattle.mip_hub.specs.declared.hub_line.HubLine.{HubLine}

abbrev AreFew : List HubLine → Type 0
AreFew lines = length lines ≤ 1000

few_more : (lines : List HubLine) (row : List (List ℕ)) (more : List HubLine) → line_onto lines row ≡ Ok more → AreFew lines → AreFew more
unfolding line_onto judged
few_more lines row more e few =
    let x = bind_ok (line_fields row) (judged lines) more e in
    let y = unrefused (nat_le 1000 (length lines)) reasons.Limit (cond (is_told lines x.0) (Err reasons.Clash) (Ok (lines ++ x.0 ∷ []))) more x.2 in
    let z = unrefused (is_told lines x.0) reasons.Clash (Ok (lines ++ x.0 ∷ [])) more y.1 in
    subst AreFew (ok_is (lines ++ x.0 ∷ []) more z.1) (omega (arith, length-append lines (x.0 ∷ []), leb-false 1000 (length lines) y.0))

pub few_read : (text : List ℕ) (c : Content) → reading text ≡ Ok c → length c.lines ≤ 1000
unfolding reading
few_read text c e =
    let v = bind_ok (version_line 1 (rows_of text)) (λ version. port_line 2 version.1 >>= (λ port. walk line_onto [] 3 port.1 >>= (λ walked. Ok (record { port = port.0; lines = walked.draft })))) c e in
    let p = bind_ok (port_line 2 v.0.1) (λ port. walk line_onto [] 3 port.1 >>= (λ walked. Ok (record { port = port.0; lines = walked.draft }))) c v.2 in
    let w = bind_ok (walk line_onto [] 3 p.0.1) (λ walked. Ok (record { port = p.0.0; lines = walked.draft })) c p.2 in
    subst (λ (d : Content). length d.lines ≤ 1000) (ok_is _ c w.2) (walk_keeps line_onto AreFew few_more [] 3 p.0.1 w.0 w.1 (omega arith))
