use Rattle.fx_chain_stages.proofs.stage.EffectStagePassesEarly.pass_early.Goals as goal

pub pass_early-requires : goal.pass_early-requires
pass_early-requires g c =
    let m = rw c.in-Trim.is at c.requires in
    record { some = m.some; dry = m.dry; not_ended = m.not_ended; one_to_one = m.one_to_one; ahead = m.ahead; frame = m.frame; same_channels = m.same_channels; below_limit = m.below_limit; lined = m.lined; long = m.long; free = m.free; ready = m.ready; keep = m.keep; rest_one_to_one = m.rest_one_to_one; rest_ahead = m.rest_ahead }

pub pass_early-requires-in-Fade : goal.pass_early-requires-in-Fade
pass_early-requires-in-Fade g c =
    let m = rw c.in-Fade.is at c.requires in
    record { some = m.some; dry = m.dry; not_ended = m.not_ended; one_to_one = m.one_to_one; ahead = m.ahead; frame = m.frame; same_channels = m.same_channels; below_limit = m.below_limit; lined = m.lined; long = m.long; free = m.free; ready = m.ready; keep = m.keep; rest_one_to_one = m.rest_one_to_one; rest_ahead = m.rest_ahead }
