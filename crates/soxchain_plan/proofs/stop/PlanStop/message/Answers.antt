use Rattle.std.proofs.Common.{◌≡◌, ℕ, Global, Some, Vec, refl, rules}
use Rattle.fx_frame_base.specs.Counted.{counted_writes}
use Rattle.soxchain_plan.proofs.Kept.{whole-said}
use Rattle.soxchain_plan.proofs.stop.PlanStop.message.Goals as goal

pub returns : goal.returns
returns c =
    let kept : c.into_inner.result ≡ c.tell_message.new.message_writer.messages.now.inner = search rules in
    whole-said (counted_writes (λ (v : Vec ℕ Global). Some v.items)) _ _ _ _ c.into_inner.result.items c.new-keeping.ensures (rw (c.new-message.ensures.inner, c.new.ensures.items) refl) (rw kept refl) c.if-keeping.false c.tell_message.ensures
