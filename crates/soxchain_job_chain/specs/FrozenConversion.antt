-- A conversion as bytes, and what is recorded of it at its end (this project's profile).
use Rattle.std.specs.Prelude.{ℕ, ◌-◌, ◌<◌, ◌≡◌, ◌||◌, nat_eq, nat_lt, if◌then◌else◌, slice_index, cond, List, [], ◌∷◌, ◌++◌, Option, Some, None, flat_map, length, map, unwrap_or}
use Rattle.std.specs.List.{All}
use Rattle.fx_chain.specs.Chain.{ChainParts}
use Rattle.fx_chain.specs.Snapshot.{IsSoundChain}
use Rattle.fx_chain_flow.specs.Parts.{any_spent, taken_of}
use Rattle.fx_chain_stages.specs.Stages.{effect_acts}
use Rattle.fx_frame_base.specs.Lists.{tabulate}
use Rattle.soxchain_job.specs.Conversion.{ConversionModel}
use Rattle.soxchain_job_chain.specs.declared.counts.Counts.{Counts}
use Rattle.soxchain_job_chain.specs.CodedChain.{CodedParts, IsCounted}
use Rattle.soxchain_job_chain.specs.JobOutput.{ConversionParts, JobPlan, input_frame, job_plan, output_to_come}
use Rattle.soxchain_stream.specs.Frozen.{IsWord, word}
use Rattle.soxchain_stream.specs.Snapshots.{IsFrozenAs}

-- 1 and the announced bytes of the sound that are still to come, or 0 and 0 where none were announced
abbrev pub left_words : Option ℕ → List ℕ
left_words None = 0 ∷ 0 ∷ []
left_words (Some left) = 1 ∷ left ∷ []

-- counts as nine words
abbrev pub count_words : Counts → List ℕ
count_words c = c.announced ∷ c.frames_out ∷ c.sound_bytes ∷ c.out_clips ∷ cond c.has_head 1 0 ∷ c.skip ∷ left_words c.left ++ c.pending ∷ []

-- the counts of a conversion
abbrev pub counts_of : ConversionParts → Counts
counts_of c = record {
  announced = c.coded.announced;
  frames_out = c.coded.frames_out;
  sound_bytes = c.coded.sound_bytes;
  out_clips = c.coded.out_clips;
  has_head = c.has_head;
  skip = c.skip;
  left = c.left;
  pending = length c.pending;
}

-- a chain with these counts
abbrev pub with_counts : Counts → CodedParts → CodedParts
with_counts counts c = record c { frames_out = counts.frames_out; sound_bytes = counts.sound_bytes; out_clips = counts.out_clips }

-- these bytes follow the counts: the first bytes of a frame, and the frozen chain
pub record FollowsCounts (c : ConversionParts) (bytes : List ℕ) : Type 0 where
  pub chain_bytes : List ℕ
  pub chain : IsFrozenAs c.coded.chain chain_bytes
  pub sound : IsSoundChain c.coded.chain
  pub counted : IsCounted c.coded
  pub part : length c.pending < input_frame c
  pub bytes_are : bytes ≡ c.pending ++ chain_bytes

-- these are the bytes of a conversion: its counts, each of 64 bits, and what follows them
pub record IsFrozenConversion (c : ConversionParts) (bytes : List ℕ) : Type 0 where
  pub after_counts : List ℕ
  pub follows : FollowsCounts c after_counts
  pub fits : All IsWord (count_words (counts_of c))
  pub bytes_are : bytes ≡ flat_map word (count_words (counts_of c)) ++ after_counts

-- the announced bytes that did not come, and those of an incomplete last frame; not counted where some effect had enough
abbrev pub missing_of : ConversionParts → ℕ
missing_of c = cond (any_spent effect_acts c.coded.chain.flow.stages) 0 (unwrap_or c.left 0)

abbrev pub stray_of : ConversionParts → ℕ
stray_of c = cond (any_spent effect_acts c.coded.chain.flow.stages) 0 (length c.pending)

-- the samples that effect `number`, counted from 1, clipped; none where there is no such effect
abbrev pub clips_by : ChainParts → ℕ → ℕ
clips_by c number =
    if nat_eq number 0 || nat_lt (length c.plan.acts) number then 0
    else slice_index (map (λ s. (effect_acts.counts s).clips) c.flow.stages) (number - 1)

-- frames in, frames out, missing and stray bytes, samples clipped when they were encoded, and those that each effect clipped
abbrev pub summary_words : ConversionParts → List ℕ
summary_words c =
    taken_of c.coded.chain.flow ∷ c.coded.frames_out ∷ missing_of c ∷ stray_of c ∷ c.coded.out_clips
    ∷ tabulate (clips_by c.coded.chain) 1 (length c.coded.chain.plan.acts)

abbrev pub IsSummary : ConversionParts → List ℕ → Type 0
IsSummary c bytes = bytes ≡ flat_map word (summary_words c)

abbrev pub chain_model : ConversionModel ConversionParts
chain_model = record { remaining = output_to_come; frozen_as = IsFrozenConversion; Plan = JobPlan; plan = job_plan; summarised = IsSummary }
