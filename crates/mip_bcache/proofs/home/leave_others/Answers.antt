use Rattle.std.proofs.Common.{◌≡◌, List, ◌++◌, [], ◌∷◌, Bool, true, false, length, length-append, vec_len, vec_capacity, not, ◌≤◌, ap, sym, ◌∙◌, arith, rules, if◌then◌else◌}
use Rattle.std.specs.Prelude.{◌==◌}
use Rattle.std.proofs.lemmas.Fn.{filter_same}
use Rattle.std.proofs.lemmas.Bool.Decides.{nat_tests}
use Rattle.mip_binding.specs.Rows.{others_by}
use Rattle.mip_bcache.specs.declared.row.Row.{Row}
use Rattle.mip_bcache.specs.Seen.{number_of}
use Rattle.mip_bcache.proofs.Homes.{others_push}
use Rattle.mip_bcache.proofs.home.leave_others.Goals.{After-push}
use Rattle.mip_bcache.proofs.home.leave_others.Goals as goal

pub returns-then-last-number-clause-items : goal.returns-then-last-number-clause-items
returns-then-last-number-clause-items c =
    let old = c.args.rows.now.items in
    let same : (c.args.last.number == c.args.number) ≡ true = grind (arith, nat_tests, c.if-last-number.true) in
    filter_same _ (λ (r : Row). not (r.number == c.args.number)) _ (λ x b f called. search rules) _ _ c.retain.ensures.filtered
    ∙ ap (λ (b : Bool). if b then others_by number_of c.args.number old else others_by number_of c.args.number old ++ c.args.last ∷ []) (sym same)
    ∙ sym (others_push c.args.number old c.args.last)

-- the rows of other numbers, where the last is one of them
left : (c : After-push) → c.retain.new.self.items ++ c.args.last ∷ [] ≡ others_by number_of c.args.number (c.args.rows.now.items ++ c.args.last ∷ [])
left c =
    let old = c.args.rows.now.items in
    let other : (c.args.last.number == c.args.number) ≡ false = grind (arith, nat_tests, c.if-last-number.false) in
    ap (λ (rs : List Row). rs ++ c.args.last ∷ []) (filter_same _ (λ (r : Row). not (r.number == c.args.number)) _ (λ x b f called. search rules) _ _ c.retain.ensures.filtered)
    ∙ ap (λ (b : Bool). if b then others_by number_of c.args.number old else others_by number_of c.args.number old ++ c.args.last ∷ []) (sym other)
    ∙ sym (others_push c.args.number old c.args.last)

pub unreachable-requires : goal.unreachable-requires
unreachable-requires c =
    let many = ap (λ (rs : List Row). length rs) (left c.before) in
    let one = length-append c.retain.new.self.items (c.args.last ∷ []) in
    let room = c.requires in
    let full : vec_capacity c.retain.new.self ≤ vec_len c.retain.new.self = c.in-Err.ensures.full in
    let long = c.retain.new.self.ok.0 in
    let same = c.retain.ensures.capacity in
    omega arith

pub returns-clause-items : goal.returns-clause-items
returns-clause-items c = c.in-Ok.ensures.items ∙ left c.before
