use Rattle.std.proofs.Common.{arith}
use Rattle.fx_tap_sums.proofs.transforms.prepared.convolve_upper_modulo.Goals as goal

pub returns-clause-sums : goal.returns-clause-sums
returns-clause-sums g c = λ upper ws are prepared i max lt.
    c.multiply_loaded.ensures.sums ws upper prepared (omega (arith, are.long, c.load_upper.auto.values, c.requires.window), c.load_upper.ensures.same upper are) i max lt
