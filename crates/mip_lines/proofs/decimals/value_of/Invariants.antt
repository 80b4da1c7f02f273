use Rattle.std.proofs.Common.{◌≡◌, ◌<◌, ◌^◌, drop}
use Rattle.std.specs.Str.Parse.{AllDigits, digits_value, digits_value_after}
use Rattle.mip_lines.proofs.decimals.value_of.Given as goal

abbrev pub invariant-loop-c : goal.invariant-loop-c
invariant-loop-c l = record {
  value : digits_value_after 10 l.number (drop l.c-index l.field) ≡ digits_value 10 l.field;
  digits : AllDigits 10 (drop l.c-index l.field) → AllDigits 10 l.field;
  fits : l.number < 2 ^ 64;
}
