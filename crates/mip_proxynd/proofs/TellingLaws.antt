-- The text of a history in two pieces.
use Rattle.std.proofs.Common.{◌≡◌, ℕ, List, [], ◌∷◌, ◌++◌, refl, sym, ap, ◌∙◌}
use Rattle.std.proofs.lemmas.List.{append_assoc}
use Rattle.mip_symbols.specs.declared.declaration.Declaration.{Declaration}
use Rattle.mip_entries.specs.declared.entry.Entry.{Entry}
use Rattle.mip_proxynd.specs.Text.{advert_of, adverts}

pub adverts_more : (ds : List Declaration) (xs ys : List Entry) → adverts ds (xs ++ ys) ≡ adverts ds xs ++ adverts ds ys
adverts_more ds [] ys = refl
adverts_more ds (x ∷ xs) ys = ap (λ (l : List ℕ). advert_of ds x ++ l) (adverts_more ds xs ys) ∙ sym (append_assoc (advert_of ds x) (adverts ds xs) (adverts ds ys))
