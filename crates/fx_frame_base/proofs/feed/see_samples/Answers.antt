use Rattle.std.proofs.Common.{rules, arith, ◌<◌, FitsSigned, get_or, length, ℕ, List, ℤ, pos}
use Rattle.std.specs.Int.{w32}
use Rattle.std.proofs.lemmas.List.{take_all}
use Rattle.std.proofs.lemmas.List.Elements.{All-more}
use Rattle.fx_frame_base.proofs.feed.see_samples.Goals as goal

pub samples-preserved : goal.samples-preserved
samples-preserved c =
    let k : ℕ = c.samples.place in
    let xs : List ℤ = c.args.samples.now in
    let h : k < length xs = omega (arith, c.samples-test.true) in
    let fits : FitsSigned w32 (get_or xs k (pos 0)) = search rules in
    record { seen = All-more (FitsSigned w32) xs k (pos 0) h c.samples.invariant.seen fits }

pub returns : goal.returns
returns c = rw (take_all c.samples.place c.args.samples.now (omega (arith, c.samples-test.false))) at c.samples.invariant.seen
