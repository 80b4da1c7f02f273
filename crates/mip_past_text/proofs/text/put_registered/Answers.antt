use Rattle.std.proofs.Common.{◌≡◌, ◌++◌, ◌∷◌, [], OnOk, codes, ℕ, List, subst}
use Rattle.std.specs.Prelude.{Option}
use Rattle.mip_words.specs.declared.address.Address.{Address}
use Rattle.mip_lines.specs.HexFields.{address_hex}
use Rattle.mip_lines.specs.Lines.{line_text}
use Rattle.mip_symbols.specs.Spelled.{node_text}
use Rattle.mip_history.specs.Told.{careof_in}
use Rattle.mip_past_text.specs.Fronts.{front_of}
use Rattle.mip_past_text.specs.Answers.{address_answer}
use Rattle.mip_past_text.specs.Text.{now_of}
use Rattle.mip_past_text.proofs.text.put_registered.Goals as goal

pub returns : goal.returns
returns c =
    let name : c.node_name-name.result.now ≡ node_text c.args.asked.scene.declarations.now c.args.asked.node = c.node_name-name.ensures in
    let same : c.registered_careof-careof.result ≡ careof_in (now_of (front_of c.args.asked.scene)) c.args.asked.scene.past.entries.now c.args.asked.node.0 c.args.home = c.registered_careof-careof.ensures in
    subst (λ (a : Option Address). OnOk c.put_address_of.result (c.put_address_of.new.out ≡ c.args.out.now
    ++ line_text (codes "registered" ∷ node_text c.args.asked.scene.declarations.now c.args.asked.node ∷ address_hex c.args.home ∷ address_answer a ∷ []))) same
    (subst (λ (t : List ℕ). OnOk c.put_address_of.result (c.put_address_of.new.out ≡ c.args.out.now
    ++ line_text (codes "registered" ∷ t ∷ address_hex c.args.home ∷ address_answer c.registered_careof-careof.result ∷ []))) name c.put_address_of.ensures)
