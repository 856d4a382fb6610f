use Rattle.std.proofs.Common.{◌≡◌, ◌∷◌}
use Rattle.fx_chain_flow.specs.Parts.{taken_of}
use Rattle.fx_frame_base.specs.Lists.{tabulate}
use Rattle.soxchain_job_chain.specs.FrozenConversion.{clips_by, missing_of, stray_of}
use Rattle.soxchain_job_chain.proofs.chain_conversion.ChainConversion.summary_words.Given as goal

abbrev pub invariant-loop-place : goal.invariant-loop-place
invariant-loop-place l =
    l.words.items ≡ taken_of l.fn.self.coded.chain.flow ∷ l.fn.self.coded.frames_out ∷ missing_of l.fn.self ∷ stray_of l.fn.self ∷ l.fn.self.coded.out_clips ∷ tabulate (clips_by l.fn.self.coded.chain) 1 l.place
