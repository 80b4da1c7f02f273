use Rattle.std.proofs.Common.{◌≡◌, take, if◌then◌else◌}
use Rattle.std.specs.List.{list_all}
use Rattle.mip_words.specs.Hex.{is_hex_digit}
use Rattle.mip_words.proofs.hex.are_hex_digits.Given as goal

abbrev pub invariant-loop-c : goal.invariant-loop-c
invariant-loop-c l = l.others ≡ (if list_all is_hex_digit (take l.c-index l.field) then 0 else 1)
