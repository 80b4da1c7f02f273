-- Why a line is bad, as it is told.
use Rattle.std.specs.Prelude.{ℕ, List, codes}
use Rattle.mip_symbols.specs.declared.reason.Reason.{Reason}
use Rattle.mip_symbols.specs.declared.reason.Reason.TheVariants as reasons

abbrev pub reason_word : Reason → List ℕ
reason_word reasons.Form = codes "form"
reason_word reasons.Name = codes "name"
reason_word reasons.Number = codes "number"
reason_word reasons.Address = codes "address"
reason_word reasons.Hex = codes "hex"
reason_word reasons.Limit = codes "limit"
reason_word reasons.Clash = codes "clash"
reason_word reasons.Packet = codes "packet"
reason_word reasons.Time = codes "time"
reason_word reasons.Carry = codes "carry"
