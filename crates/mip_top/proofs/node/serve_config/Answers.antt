use Rattle.std.proofs.Common.{arith, inl, inr, refl, rules}
use Rattle.mip_top.proofs.node.serve_config.Goals as goal

pub returns-in-Memory-clause-served : goal.returns-in-Memory-clause-served
returns-in-Memory-clause-served g c = record {
  statuses = inr (inr (inl refl));
  done = λ zero. absurd (omega (arith, zero));
  port = λ zero. absurd (omega (arith, zero));
  link_fault = λ seven. absurd (omega (arith, seven));
  write_fault = λ four. absurd (omega (arith, four));
  memory = λ five. c.serve.ensures.memory (search rules);
  front = c.serve.ensures.front;
  calls = record {
    whole = λ zero. absurd (omega (arith, zero));
    unwritten = λ four. absurd (omega (arith, four));
    cut = λ seven. absurd (omega (arith, seven));
    lost = λ five. c.serve.ensures.calls.lost (search rules);
  };
}
