-- After just so many frames as the line of an effect with positions holds nothing is due.
use Rattle.std.proofs.Common.{◌≡◌, ◌∙◌, ◌+◌, ◌-◌, ℕ, zero, suc, List, Option, Some, None, ap, arith, filter, map, refl, sum_by, zero-add, count_by, nat_lt}
use Rattle.fx_cut.proofs.PadThaw.{no-pads}
use Rattle.std.specs.List.{range_with_len}
use Rattle.fx_fixed.specs.Extents.{end_distance, largest}
use Rattle.fx_cut.specs.PadExtents.{pad_distance}
use Rattle.fx_cut.specs.FadeExtents.{effective, stop_line}
use Rattle.fx_fixed.specs.Positions.{places_of}
use Rattle.fx_fixed.specs.declared.positions.At.{At}
use Rattle.fx_fixed.specs.declared.positions.At.TheVariants.{Start, End}
use Rattle.fx_cut.specs.Fade.{due_by}
use Rattle.fx_cut.specs.Pad.{pad_due, pads_from_start}
use Rattle.fx_cut.specs.Trim.{keeps, starts, trim_due}

pub trim-waits : (ps : List At) → trim_due ps (largest (map end_distance ps)) ≡ 0
trim-waits ps =
    let line : ℕ = largest (map end_distance ps) in
    let none : line - line ≡ 0 = omega arith in
    ap (λ n. count_by (keeps (places_of 0 (starts ps))) (range_with_len 0 n)) none

pub pad-waits : (pads : List (ℕ × At)) → pad_due pads (largest (map pad_distance pads)) ≡ 0
pad-waits pads =
    let line : ℕ = largest (map pad_distance pads) in
    let none : line - line ≡ 0 = omega arith in
    ap (λ n. n + sum_by (λ p. p.0) (filter (λ p. nat_lt p.1 n) (pads_from_start pads))) none ∙ zero-add _ ∙ no-pads (pads_from_start pads)

pub fade-waits : (stop : Option At) (fade_out : ℕ) → due_by (effective stop) fade_out (stop_line (effective stop) fade_out) ≡ 0
fade-waits None fade_out = refl
fade-waits (Some (Start zero)) fade_out = omega arith
fade-waits (Some (Start (suc frames))) fade_out = omega arith
fade-waits (Some (End frames)) fade_out = omega arith
