use Rattle.std.proofs.Common.{refl}
use Rattle.std.proofs.lemmas.List.{drop-replicate}
use Rattle.mip_tokens.proofs.keyed.zero_padded.Goals as goal

-- src/keyed.rt:50:1
pub returns : goal.returns
returns c = rw (drop-replicate, c.copy_from_slice.ensures.after) refl
