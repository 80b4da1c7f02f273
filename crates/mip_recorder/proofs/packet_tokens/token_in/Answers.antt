use Rattle.std.proofs.Common.{rules, ap, refl, sym, ◌∙◌}
use Rattle.std.specs.Prelude.{option_map, nat_lt}
use Rattle.std.proofs.lemmas.Fn.{always_returns_same}
use Rattle.std.proofs.lemmas.Bool.{ltb-true, ltb-false}
use Rattle.std.proofs.lemmas.Option.{slice_get_read}
use Rattle.mip_words.specs.declared.token.Token.{Token}
use Rattle.mip_recorder.specs.declared.kept_token.KeptToken.{KeptToken}
use Rattle.mip_recorder.proofs.KeptLaws.{is_split, first_asked, none_asked}
use Rattle.mip_recorder.proofs.packet_tokens.token_in.Goals as goal

pub returns-in_err-get : goal.returns-in_err-get
returns-in_err-get c = λ posted tokens is.
    let older = λ (row : KeptToken). nat_lt row.number c.args.number in
    let split = c.partition_point-at.ensures.partitioned older (always_returns_same _ _ _ (λ a r g called. search rules)) (is_split posted _ tokens is c.args.number) in
    ap (option_map (λ (t : Token). t.0)) c.from_residual-in_err-get.ensures
    ∙ sym (none_asked posted _ tokens is c.args.number _ split (ltb-false _ _ (sym c.in_err-get.ensures.lookup.0)))

pub returns : goal.returns
returns c = λ posted tokens is.
    let older = λ (row : KeptToken). nat_lt row.number c.args.number in
    let split = c.partition_point-at.ensures.partitioned older (always_returns_same _ _ _ (λ a r g called. search rules)) (is_split posted _ tokens is c.args.number) in
    let inside = ltb-true _ _ (sym c.in_ok-get.ensures.lookup.0) in
    c.token_of-2.ensures
    ∙ first_asked posted _ tokens is c.args.number _ split c.in_ok-get.field-0.now (slice_get_read _ _ _ _ refl inside c.in_ok-get.ensures.lookup.1)
