use Rattle.std.proofs.Common.{◌≡◌, length, arith}
use Rattle.std.proofs.lemmas.Grind.{common_steps}
use Rattle.fx_frame_line.proofs.ManyFrames.{ring-filled, ring-whole}
use Rattle.fx_frame_line.proofs.ring.Ring.is_full.Goals as goal

pub returns : goal.returns
returns g c = (
  λ is.
      let e = c.is_full.ensures in
      let full : length c.self.inside.samples.items ≡ c.self.inside.samples.capacity = grind (arith, common_steps) in
      ring-whole _ _ _ _ _ c.self.view_is c.self.invariant full,
  λ whole.
      let filled : length c.self.inside.samples.items ≡ c.self.inside.samples.capacity = ring-filled _ _ _ _ _ c.self.view_is c.self.invariant whole in
      let e = c.is_full.ensures in
      grind (arith, common_steps),
)
