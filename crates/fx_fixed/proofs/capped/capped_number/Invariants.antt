use Rattle.std.proofs.Common.{◌≡◌, take, drop, min}
use Rattle.std.specs.Str.{all_ascii_digits}
use Rattle.std.specs.Str.Parse.{digits_value}
use Rattle.fx_fixed.proofs.capped.capped_number.Given as goal

abbrev pub invariant-loop-byte : goal.invariant-loop-byte
invariant-loop-byte l = record {
  digits : all_ascii_digits (drop l.byte-index l.text) ≡ all_ascii_digits l.text;
  value : l.number ≡ min (digits_value 10 (take l.byte-index l.text)) l.cap;
}
