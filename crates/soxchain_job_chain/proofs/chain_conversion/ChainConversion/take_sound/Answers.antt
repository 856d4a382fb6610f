use Rattle.soxchain_job_chain.proofs.SoundParts.{sound-open, sound-sized}
use Rattle.soxchain_job_chain.proofs.chain_conversion.ChainConversion.take_sound.Goals as goal

pub returns-in_default-clause-sound : goal.returns-in_default-clause-sound
returns-in_default-clause-sound c = λ input. rw (← c.self.view_is, c.in_default.is) (sound-open c.self.inside.skip c.min-skipped.result c.args.piece.now input c.min-skipped.ensures)

pub returns-clause-sound : goal.returns-clause-sound
returns-clause-sound c = λ input. rw (← c.self.view_is, c.in-Some.is) (sound-sized c.in-Some.left c.min-count.result c.self.inside.skip c.min-skipped.result c.args.piece.now input c.min-skipped.ensures c.min-count.ensures)
