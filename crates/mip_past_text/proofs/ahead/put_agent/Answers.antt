use Rattle.std.proofs.Common.{◌≡◌, ◌++◌, ◌∷◌, [], OnOk, codes, decimal, ℕ, subst}
use Rattle.mip_lines.specs.HexFields.{address_hex}
use Rattle.mip_lines.specs.Lines.{line_text}
use Rattle.mip_past_text.proofs.ahead.put_agent.Goals as goal

pub returns : goal.returns
returns c = subst (λ (next : ℕ). OnOk c.put_number_of.result (c.put_number_of.new.out ≡ c.args.out.now
    ++ line_text (codes "next-registration" ∷ c.args.node.now ∷ address_hex c.args.agent ∷ decimal next ∷ []))) c.next_to_agent.ensures c.put_number_of.ensures
