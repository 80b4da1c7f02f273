use Rattle.std.proofs.Common.{arith, ◌∙◌}
use Rattle.mip_frames.proofs.FrameLaws.{found_if, frame_back}
use Rattle.mip_frames.proofs.reading.read_frame.Goals as goal

pub returns-clause-found : goal.returns-clause-found
returns-clause-found c = found_if c.args.datagram.now c.carried.result (λ i. omega (arith, c.type_inv.datagram i)) c.carried.ensures

pub returns-clause-only : goal.returns-clause-only
returns-clause-only c = λ shield packet fits short is. c.carried.ensures ∙ frame_back shield packet c.args.datagram.now fits is short
