-- A Parameter Problem points to the field that is at fault.
use Rattle.std.proofs.Common.{◌≡◌, ℕ}
use Rattle.std.specs.Prelude.{Option, Some, ◌↔◌}
use Rattle.mip_words.specs.declared.address.Address.{Address}
use Rattle.mip_mobhdr.specs.declared.fault.Fault.{Fault}
use Rattle.mip_mobhdr.specs.declared.fault.Fault.TheVariants as faults
use Rattle.mip_mobhdr.specs.Pointer.{pointer_of}
use Rattle.mip_reception.specs.declared.reply.Reply.TheVariants.{ParameterProblem}
use Rattle.mip_reception.specs.Checks.{fault_reply}

pub points : (place n : ℕ) (home : Option Address) (fault : Fault) → (fault_reply place home fault ≡ ParameterProblem n) ↔ (pointer_of place fault ≡ Some n)
points place n home faults.Size = (λ e. absurd cc, λ e. absurd cc)
points place n home faults.Checksum = (λ e. absurd cc, λ e. absurd cc)
points place n home (faults.Unknown type) = (λ e. absurd cc, λ e. absurd cc)
points place n home faults.Proto = (λ e. cc, λ e. cc)
points place n home faults.HeaderLen = (λ e. cc, λ e. cc)
points place n home (faults.Option at) = (λ e. absurd cc, λ e. absurd cc)
