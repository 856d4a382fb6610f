use Rattle.std.proofs.Common.{◌≡◌, ◌+◌, ◌*◌, ◌^◌, ◌≤◌, length, sum_by}
use Rattle.std.specs.List.{list_all}
use Rattle.std.specs.Option.{option_or}
use Rattle.fx_fixed.specs.Decimals.{unsigned}
use Rattle.fx_fixed.specs.Later.{BeginsSigned}
use Rattle.fx_fixed.specs.Times.{added_by, fault_in, is_term, later_terms, taken_by}
use Rattle.fx_fixed.proofs.terms.read_later.Given as goal

abbrev pub invariant-loop-is_taken : goal.invariant-loop-is_taken
invariant-loop-is_taken l = record {
  begins : BeginsSigned l.rest;
  size : length l.rest ≤ length l.text;
  form : list_all (λ term. is_term (unsigned term)) (later_terms l.rest) ≡ list_all (λ term. is_term (unsigned term)) (later_terms l.text);
  fault : option_or l.later.fault (fault_in l.rate (later_terms l.rest)) ≡ fault_in l.rate (later_terms l.text);
  added : l.later.added + sum_by (added_by l.rate) (later_terms l.rest) ≡ sum_by (added_by l.rate) (later_terms l.text);
  taken : l.later.taken + sum_by (taken_by l.rate) (later_terms l.rest) ≡ sum_by (taken_by l.rate) (later_terms l.text);
  added_bound : l.later.added + 2 ^ 40 * length l.rest ≤ 2 ^ 40 * length l.text;
  taken_bound : l.later.taken + 2 ^ 40 * length l.rest ≤ 2 ^ 40 * length l.text;
}

abbrev pub decreases-loop-is_taken : goal.decreases-loop-is_taken
decreases-loop-is_taken l = length l.rest
