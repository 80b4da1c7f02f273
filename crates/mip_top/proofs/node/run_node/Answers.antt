use Rattle.std.proofs.Common.{inl, inr, refl}
use Rattle.std.specs.Prelude.{Some}
use Rattle.mip_commands.specs.declared.command.Command.TheVariants.{Node}
use Rattle.mip_top.proofs.ObeyedLaws.{idle, unread, read_through}
use Rattle.mip_top.proofs.node.run_node.Goals as goal

pub returns-in-Err-Failed-clause-obeyed : goal.returns-in-Err-Failed-clause-obeyed
returns-in-Err-Failed-clause-obeyed g c =
    unread (Some (Node c.args.turns)) _ _ _ _ _ (record { fault = inl refl; unwritten = refl; idle = idle _ _ }) c.in-Err-Failed.ensures.some

pub returns-in-Err-Memory-clause-obeyed : goal.returns-in-Err-Memory-clause-obeyed
returns-in-Err-Memory-clause-obeyed g c =
    unread (Some (Node c.args.turns)) _ _ _ _ _ (record { fault = inr refl; unwritten = refl; idle = idle _ _ }) c.in-Err-Memory.ensures.some

pub returns-clause-obeyed : goal.returns-clause-obeyed
returns-clause-obeyed g c =
    read_through (Some (Node c.args.turns)) c.in-Ok.bytes _ _ _ _ _ c.in-Ok.ensures.limit c.in-Ok.ensures.read c.in-Ok.ensures.end
    (rw c.as_slice.ensures at (c.serve_text.ensures.obeys))
