use Rattle.std.proofs.Common.{◌∙◌, List, ℕ, ◌+◌, set, ap}
use Rattle.std.specs.Prelude.{slice_index}
use Rattle.mip_words.proofs.Fields.{number_set}
use Rattle.mip_mobhdr.proofs.message_bytes.MessageBytes.set_u16.Goals as goal

pub returns : goal.returns
returns c =
    let place = c.args.place in
    c.set-2.ensures
    ∙ ap (λ (l : List ℕ). set l (place + 1) (slice_index c.u16_bytes.result 1)) c.set.ensures
    ∙ ap (λ (pair : List ℕ). set (set c.args.self.now place (slice_index pair 0)) (place + 1) (slice_index pair 1)) c.u16_bytes.ensures
    ∙ number_set c.args.self.now place c.args.number c.requires.within
