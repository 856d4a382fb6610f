use Rattle.std.proofs.Common.{rules, ◌≡◌, ◌≤◌, ◌^◌, ◌∙◌, ap, refl, ℕ, ℤ, pos, ◌+ℤ◌, length, arith, set, slice_index_or, unsigned_abs, FitsSigned, to_z, of_z, w32, w64}
use Rattle.std.proofs.lemmas.Int.{ints, fits_signed_from_abs}
use Rattle.fx_frame.proofs.DelayLaws.{channel-set}
use Rattle.fx_frame_base.proofs.Tabulate.{take-tabulate, length-tabulate}
use Rattle.fx_tap_sums.proofs.Magnitudes.{added-bound}
use Rattle.fx_frame_base.proofs.ListPlaces.{zeros-rest}
use Rattle.fx_tap_sums.proofs.SmallSums.{held-in-64, wide-two}
use Rattle.fx_tap_delays.proofs.echos.fed_frame.Goals as goal

pub overflow_add-sums : goal.overflow_add-sums
overflow_add-sums c =
    let i : ℕ = c.channels.channel in
    let a : ℤ = slice_index_or c.places-samples.result i (pos 0) in
    let b : ℤ = slice_index_or c.places-passed.result i (pos 0) in
    let fits : FitsSigned w32 a = search rules in
    let small : unsigned_abs a ≤ 2 ^ 31 = omega (arith, ints) in
    let from : b ≡ slice_index_or c.args.before i (pos 0) = ap (λ l. slice_index_or l i (pos 0)) c.places-passed.ensures.places ∙ zeros-rest c.args.before _ i in
    let wide : unsigned_abs b ≤ 2 ^ 34 = rw from (c.requires.small i) in
    let f : c.from.result ≡ a = c.from.ensures ∙ search rules in
    let maximum = added-bound a b (2 ^ 31) (2 ^ 34) small wide in
    rw (wide-two a b c.from.result b f refl small wide) (fits_signed_from_abs w64 (a +ℤ b) (omega (arith, maximum)))

pub channels-preserved : goal.channels-preserved
channels-preserved c =
    let i : ℕ = c.channels.channel in
    let a : ℤ = slice_index_or c.places-samples.result i (pos 0) in
    let b : ℤ = slice_index_or c.places-passed.result i (pos 0) in
    let F : ℕ → ℤ = λ k. slice_index_or c.args.frame k (pos 0) +ℤ slice_index_or c.args.before k (pos 0) in
    let fits : FitsSigned w32 a = search rules in
    let small : unsigned_abs a ≤ 2 ^ 31 = omega (arith, ints) in
    let first : a ≡ slice_index_or c.args.frame i (pos 0) = ap (λ l. slice_index_or l i (pos 0)) c.places-samples.ensures.places ∙ zeros-rest c.args.frame _ i in
    let from : b ≡ slice_index_or c.args.before i (pos 0) = ap (λ l. slice_index_or l i (pos 0)) c.places-passed.ensures.places ∙ zeros-rest c.args.before _ i in
    let wide : unsigned_abs b ≤ 2 ^ 34 = rw from (c.requires.small i) in
    let f : c.from.result ≡ a = c.from.ensures ∙ search rules in
    let maximum = added-bound a b (2 ^ 31) (2 ^ 34) small wide in
    let value : to_z w64 (of_z w64 (to_z w64 (of_z w64 c.from.result) +ℤ to_z w64 (of_z w64 b))) ≡ F i =
    ap (λ z. to_z w64 (of_z w64 z)) (wide-two a b c.from.result b f refl small wide) ∙ held-in-64 (a +ℤ b) (omega (arith, maximum)) ∙ rw (first, from) refl in
    ap (λ v. set c.channels.sums i v) value ∙ ap (λ o. set o i (F i)) c.channels.invariant ∙ channel-set F 16 i (omega arith)

pub returns-clause-value : goal.returns-clause-value
returns-clause-value c =
    let e : c.channels.channel ≡ c.args.channels = omega arith in
    rw (c.of_first.ensures, c.channels.invariant, e) (take-tabulate _ _ 0 c.args.channels)

pub returns-clause-count : goal.returns-clause-count
returns-clause-count c = ap length (returns-clause-value c) ∙ length-tabulate _ 0 c.args.channels
