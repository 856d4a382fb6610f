use Rattle.std.proofs.Common.{inl, refl}
use Rattle.soxchain_c.proofs.new_call.make.Goals as goal

pub returns-in-Ok-stream_for : goal.returns-in-Ok-stream_for
returns-in-Ok-stream_for g c = rw c.in-Ok.is (inl (refl, c.in-Ok-stream_for.ensures.silent, (c.in-Ok-stream_for.stream.value, c.put_back.ensures, c.in-Ok-stream_for.ensures.made)))
