use Rattle.std.proofs.Common.{◌≡◌, ◌∙◌, ap, ap₂, codes, Option, Some, None, option_map, List}
use Rattle.clap.specs.Words.{Row, Text, found_of, rows_of, subcommand_rows_of}
use Rattle.clap.proofs.WalkLemmas.{first_value-rows}
use Rattle.mip_commands.specs.Forms as forms
use Rattle.mip_commands.proofs.parsing.asked.Goals as goal

abbrev pair : Text → List Row → Text × List Row
pair name rows = (name, rows)

-- the name and the rows of what a parse met, where it met something
met : {X : Type 0} (name : X → Text) (rows : X → List Row) (o : Option X) (n : Text) (r : List Row) → Some n ≡ option_map name o
    → Some r ≡ option_map (λ (p : Text × List Row). p.1) (option_map (λ b. pair (name b) (rows b)) o) → Some (pair n r) ≡ option_map (λ b. pair (name b) (rows b)) o
met name rows None n r is has = cc
met name rows (Some b) n r is has =
    let same_name : n ≡ name b = cc in
    let same_rows : r ≡ rows b = cc in
    ap₂ (λ x y. Some (pair x y)) same_name same_rows

same_named : (n : Text) (a x s y k z t w : Option Text) → a ≡ x → s ≡ y → k ≡ z → t ≡ w → forms.named n a s k t ≡ forms.named n x y z w
same_named n a x s y k z t w one two three four = ap₂ (λ i j. forms.named n i j k t) one two ∙ ap₂ (λ i j. forms.named n x y i j) three four

pub returns-clause-command : goal.returns-clause-command
returns-clause-command c =
    let found = found_of c.in_ok-name.given.now in
    let address = c.get_str.ensures ∙ first_value-rows found (codes "address") in
    let seed = c.get_str-2.ensures ∙ first_value-rows found (codes "seed") in
    let count = c.get_str-3.ensures ∙ first_value-rows found (codes "count") in
    let turns = c.get_str-4.ensures ∙ first_value-rows found (codes "turns") in
    let whole : Some (pair c.in_ok-name.name.now (rows_of found)) ≡ subcommand_rows_of c.args.matches.now =
    met _ _ _ _ _ c.in_ok-name.ensures.name c.in_ok-name.ensures.rows in
    let n = c.in_ok-name.name.now in
    c.named.ensures.command ∙ same_named n _ _ _ _ _ _ _ _ address seed count turns ∙ ap forms.asked whole
