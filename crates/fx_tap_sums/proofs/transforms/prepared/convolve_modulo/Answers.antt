use Rattle.std.proofs.Common.{arith}
use Rattle.fx_tap_sums.proofs.transforms.prepared.convolve_modulo.Goals as goal

pub returns-clause-sums : goal.returns-clause-sums
returns-clause-sums g c = λ ws prepared i max lt.
    c.multiply_loaded.ensures.sums ws c.args.window.now prepared (omega (arith, c.load.auto.values, c.requires.window), c.load.ensures.same) i max lt
