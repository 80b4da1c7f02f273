use Rattle.std.proofs.Common.{List, ℕ, ◌++◌, ap, ◌∙◌}
use Rattle.mip_words.proofs.AddressLaws.{put_halves}
use Rattle.mip_words.proofs.address.joined.Goals as goal

pub returns : goal.returns
returns c =
    put_halves c.copy_from_slice.new.self c.copy_from_slice-2.new.self c.copy_from_slice.ensures.len
    ∙ ap (λ (l : List ℕ). l ++ c.copy_from_slice-2.new.self) c.copy_from_slice.ensures.after
    ∙ ap (λ (l : List ℕ). c.args.high ++ l) c.copy_from_slice-2.ensures.after
