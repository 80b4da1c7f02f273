use Rattle.std.proofs.Common.{List, ℕ, ◌++◌, ap, ◌∙◌}
use Rattle.mip_words.specs.Addresses.{address_bytes}
use Rattle.mip_tokens.proofs.Pieces.{put_behind}
use Rattle.mip_tokens.proofs.authorization.both_bytes.Goals as goal

pub returns : goal.returns
returns c =
    put_behind c.copy_from_slice.new.self c.copy_from_slice-2.new.self c.copy_from_slice.ensures.len
    ∙ ap (λ (l : List ℕ). l ++ c.copy_from_slice-2.new.self) (c.copy_from_slice.ensures.after ∙ c.bytes.ensures)
    ∙ ap (λ (l : List ℕ). address_bytes c.args.careof ++ l) (c.copy_from_slice-2.ensures.after ∙ c.bytes-2.ensures)
