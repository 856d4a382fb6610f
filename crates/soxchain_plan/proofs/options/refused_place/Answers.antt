use Rattle.std.proofs.Common.{◌≡◌, ◌+◌, ◌-◌, ◌<◌, length, arith}
use Rattle.soxchain_plan.proofs.Refusing.{refused-there, shorter-refused}
use Rattle.soxchain_plan.proofs.options.refused_place.Goals as goal

pub returns-then-not-are_refused : goal.returns-then-not-are_refused
returns-then-not-are_refused c =
    let left = c.loop-word.invariant.left in
    let next : c.loop-word.place ≡ c.loop-word.place - 1 + 1 = omega (arith, left, c.loop-word-test.true) in
    let there : c.loop-word.place - 1 < length c.args.words.now = omega (arith, left, c.loop-word-test.true) in
    refused-there c.args.words.now c.loop-word.place (c.loop-word.place - 1) next there (c.are_refused.ensures.other c.if-not-are_refused.true) c.loop-word.invariant.refused

pub loop-word-preserved : goal.loop-word-preserved
loop-word-preserved c =
    let left = c.loop-word.invariant.left in
    let next : c.loop-word.place ≡ c.loop-word.place - 1 + 1 = omega (arith, left, c.loop-word-test.true) in
    record {
      left = omega (arith, left, next);
      refused = shorter-refused c.args.words.now c.loop-word.place (c.loop-word.place - 1) next (c.are_refused.ensures.refused c.if-not-are_refused.false) c.loop-word.invariant.refused;
    }
