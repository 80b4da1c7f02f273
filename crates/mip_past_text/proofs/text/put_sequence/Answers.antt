use Rattle.std.proofs.Common.{◌≡◌, ◌++◌, ◌∷◌, [], OnOk, codes, ℕ, List, subst}
use Rattle.std.specs.Prelude.{Option, option_map}
use Rattle.mip_lines.specs.HexFields.{address_hex}
use Rattle.mip_lines.specs.Lines.{line_text}
use Rattle.mip_symbols.specs.Spelled.{node_text}
use Rattle.mip_history.specs.Registered.{last_registration}
use Rattle.mip_past_text.specs.Answers.{number_answer}
use Rattle.mip_past_text.proofs.text.put_sequence.Goals as goal

pub returns : goal.returns
returns c =
    let name : c.node_name-name.result.now ≡ node_text c.args.asked.scene.declarations.now c.args.asked.node = c.node_name-name.ensures in
    let same : c.registered_sequence-sequence.result ≡ option_map (λ b. b.sequence) (last_registration c.args.asked.scene.past.entries.now c.args.asked.node.0 c.args.home) = c.registered_sequence-sequence.ensures in
    subst (λ (a : Option ℕ). OnOk c.put_number_of.result (c.put_number_of.new.out ≡ c.args.out.now
    ++ line_text (codes "sequence" ∷ node_text c.args.asked.scene.declarations.now c.args.asked.node ∷ address_hex c.args.home ∷ number_answer a ∷ []))) same
    (subst (λ (t : List ℕ). OnOk c.put_number_of.result (c.put_number_of.new.out ≡ c.args.out.now
    ++ line_text (codes "sequence" ∷ t ∷ address_hex c.args.home ∷ number_answer c.registered_sequence-sequence.result ∷ []))) name c.put_number_of.ensures)
