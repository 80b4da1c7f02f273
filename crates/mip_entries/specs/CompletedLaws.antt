-- Laws and invariants of Completed: only proofs stand on them.
use Rattle.std.specs.Prelude.{ℕ, ◌+◌, List, [], ◌∷◌, is_some}
use Rattle.std.specs.Option.{option_map_or}
use Rattle.mip_entries.specs.declared.entry.Entry.{Entry}
use Rattle.mip_entries.specs.declared.entry.Entry.TheVariants.{Sent}
use Rattle.mip_entries.specs.declared.answer.Answer.{Answer}
use Rattle.mip_entries.specs.declared.answer.Answer.TheVariants.{Send, Note}
use Rattle.mip_entries.specs.Completed.{node_id, claim_in, named}

-- the link of the address that an entry claims; 0 where it claims none
abbrev pub link_for : (ℕ → ℕ) → Entry → ℕ
link_for link entry = option_map_or (λ address. link address.0) (claim_in entry) 0

-- the entries of a node's answers, of which the first packet sent takes the next number
abbrev pub completed : ℕ → (ℕ → ℕ) → ℕ → List Answer → List Entry
completed n link next [] = []
completed n link next (Note entry ∷ answers) = named n (link_for link entry) next entry ∷ completed n link next answers
completed n link next (Send shield packet ∷ answers) = Sent next (node_id n) (is_some shield) packet ∷ completed n link (next + 1) answers
