use Rattle.std.proofs.Common.{◌≡◌, ◌≤◌, length, refl, arith}
use Rattle.std.proofs.lemmas.Grind.{common_steps}
use Rattle.fx_frame_line.proofs.RingLaws.{ring-len}
use Rattle.fx_frame_line.proofs.ManyFrames.{ring-push_frames, ring-enough, ring-exchanged, ring-filled, ring-level_many}
use Rattle.fx_frame_line.proofs.ring.Ring.exchange_frames.Goals as goal

pub exchange_oldest-requires-clause-full : goal.exchange_oldest-requires-clause-full
exchange_oldest-requires-clause-full g c =
    let whole : length c.args.self.now.items ≡ c.args.self.now.capacity = c.is_full.ensures.0 (grind (arith, common_steps)) in
    ring-filled _ _ _ _ _ c.self.view_is c.self.invariant whole

pub exchange_oldest-requires-clause-bound : goal.exchange_oldest-requires-clause-bound
exchange_oldest-requires-clause-bound g c =
    let bound : c.args.count ≤ c.self.inside.len = omega arith in
    ring-enough _ _ _ _ _ c.self.view_is c.self.invariant _ _ c.requires.frames bound

pub invariant_of-self : goal.invariant_of-self
invariant_of-self g c =
    let whole : length c.args.self.now.items ≡ c.args.self.now.capacity = c.is_full.ensures.0 (grind (arith, common_steps)) in
    let full : length c.self.inside.samples.items ≡ c.self.inside.samples.capacity = ring-filled _ _ _ _ _ c.self.view_is c.self.invariant whole in
    (ring-push_frames _ _ _ _ _ c.self.view_is c.self.invariant _ _ _ _ c.requires.frames (ring-level_many _ _ _ _ _ c.self.view_is c.self.invariant _ full) c.exchange_oldest.ensures.items).0

pub returns-clause-items : goal.returns-clause-items
returns-clause-items g c = λ is.
    let whole : length c.args.self.now.items ≡ c.args.self.now.capacity = c.is_full.ensures.0 (grind (arith, common_steps)) in
    let full : length c.self.inside.samples.items ≡ c.self.inside.samples.capacity = ring-filled _ _ _ _ _ c.self.view_is c.self.invariant whole in
    (ring-push_frames _ _ _ _ _ c.self.view_is c.self.invariant _ _ _ _ c.requires.frames (ring-level_many _ _ _ _ _ c.self.view_is c.self.invariant _ full) c.exchange_oldest.ensures.items).1

pub returns-clause-oldest : goal.returns-clause-oldest
returns-clause-oldest g c = λ is.
    let bound : c.args.count ≤ c.self.inside.len = omega arith in
    ring-exchanged _ _ _ _ _ c.self.view_is c.self.invariant _ _ _ c.requires.frames bound c.exchange_oldest.ensures.oldest

pub returns-then-count-self-clause-when : goal.returns-then-count-self-clause-when
returns-then-count-self-clause-when g c = (
  λ e. absurd (cc (e)),
  λ both.
      let held = ring-len _ _ _ _ _ c.self.view_is c.self.invariant in
      absurd (omega (arith, both.1)),
)

pub returns-clause-when : goal.returns-clause-when
returns-clause-when g c = (
  λ is.
      let whole : length c.args.self.now.items ≡ c.args.self.now.capacity = c.is_full.ensures.0 (grind (arith, common_steps)) in
      let held = ring-len _ _ _ _ _ c.self.view_is c.self.invariant in
      (whole, omega arith),
  λ both. refl,
)
