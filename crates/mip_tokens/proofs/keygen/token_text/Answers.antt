use Rattle.std.proofs.Common.{List, ℕ, [], ◌∷◌, ◌++◌, length, take, ap, ◌∙◌}
use lib.Seq.{drop_at}
use Rattle.mip_words.specs.Addresses.{address_bytes}
use Rattle.mip_tokens.proofs.Pieces.{put_together}
use Rattle.mip_tokens.proofs.keygen.token_text.Goals as goal

pub returns : goal.returns
returns c =
    put_together c.copy_from_slice.new.self c.copy_from_slice-2.new.self c.args.kind c.copy_from_slice.ensures.len
    (c.copy_from_slice-2.ensures.len ∙ ap (λ (l : List ℕ). length (take 8 l)) (drop_at c.copy_from_slice.new.self _ 16 c.copy_from_slice.ensures.len))
    ∙ ap (λ (l : List ℕ). l ++ (c.copy_from_slice-2.new.self ++ c.args.kind ∷ [])) (c.copy_from_slice.ensures.after ∙ c.bytes.ensures)
    ∙ ap (λ (l : List ℕ). address_bytes c.args.address ++ (l ++ c.args.kind ∷ [])) c.copy_from_slice-2.ensures.after
