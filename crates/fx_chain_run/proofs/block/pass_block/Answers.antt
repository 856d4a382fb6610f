use Rattle.std.proofs.Common.{◌≡◌, ℕ, ◌+◌, ◌*◌, ◌≤◌, inl, inr, List, ◌++◌, length, take, refl, subst, sym, ap, ◌∙◌, arith}
use Rattle.std.proofs.Math.Nat.{mul-le-mul_left, mul-le-mul_right}
use Rattle.std.proofs.lemmas.Bool.{cases_lt}
use Rattle.std.proofs.lemmas.List.{length-take-le}
use Rattle.fx_frame_base.specs.Frame.{Samples}
use Rattle.fx_frame_base.specs.Lists.{pieces}
use Rattle.fx_sound.proofs.ManyBytes.{encoded-clips, encoded-frames}
use Rattle.fx_frame_base.proofs.Pieces.{length-pieces}
use Rattle.fx_chain_flow.proofs.Feeding.{FlowFed-wants}
use Rattle.fx_chain_flow.specs.Feed.{FlowFed, FlowGave}
use Rattle.fx_sound.proofs.Sounds.{AreHeld-fewer, first_frames-fewer}
use Rattle.fx_chain_run.proofs.Blocks.{Blocked-none}
use Rattle.fx_chain_run.proofs.Draining.{given_by-bound}
use Rattle.fx_chain_run.proofs.block.pass_block.Given as given
use Rattle.fx_chain_run.proofs.block.pass_block.Goals as goal
use Rattle.fx_chain_run.proofs.block.pass_block.Goals.{After-decode_held}

-- as many frames as lie in so many samples
frames-fit : (n m channels samples : ℕ) → 1 ≤ channels → n * channels ≤ samples → samples ≡ m * channels → n ≤ m
frames-fit n m channels samples some h e = elim (cases_lt m n) [
  | inl more ↦
      let wide : (m + 1) * channels ≤ n * channels = mul-le-mul_right channels (omega arith) in
      let next : (m + 1) * channels ≡ m * channels + channels = omega arith in
      absurd (omega arith)
  | inr fits ↦ fits
]

-- samples of so many frames in places of a buffer
frames-free : (n maximum channels buffer : ℕ) → n ≤ maximum → maximum * channels ≤ 4096 → buffer ≡ 4096 → n * channels ≤ buffer
frames-free n maximum channels buffer h k e = omega (arith, mul-le-mul_right channels h)

pub returns-then-outputs-eq0-clause-blocked : goal.returns-then-outputs-eq0-clause-blocked
returns-then-outputs-eq0-clause-blocked g c = Blocked-none g.S.Stage.acts _ _ _ _ _ _ (omega (arith, c.stages-stages.ensures.sound.bound, c.requires.taken))

pub slice_bounds-input-end-2 : goal.slice_bounds-input-end-2
slice_bounds-input-end-2 g c = sym (length-take-le _ c.args.input.now (frames-free c.held_frames-count.result _ c.channels-channels.result _ c.held_frames-count.ensures.maximum c.tried.ensures c.requires.input))

pub decode_held-requires-clause-free : goal.decode_held-requires-clause-free
decode_held-requires-clause-free g c =
    length-take-le _ c.args.input.now (frames-free c.held_frames-count.result _ c.channels-channels.result _ c.held_frames-count.ensures.maximum c.tried.ensures c.requires.input)
    ∙ ap (λ n. c.held_frames-count.result * n) c.channels-channels.ensures.value

-- no more frames lie in the samples than are held
held : (g : given.Over) (c : After-decode_held g) (n : ℕ) → n * c.args.flow.now.channels ≤ length c.decode_held.new.samples → n ≤ c.held_frames-count.result
held g c n h =
    let channels : ℕ = c.channels-channels.result in
    let same : c.args.flow.now.channels ≡ channels = c.requires.width ∙ sym c.channels-channels.ensures.value in
    let free = frames-free c.held_frames-count.result _ channels _ c.held_frames-count.ensures.maximum c.tried.ensures c.requires.input in
    frames-fit n _ channels (length c.decode_held.new.samples) c.channels-channels.ensures.some (rw same at h) (c.decode_held.auto.samples ∙ length-take-le _ c.args.input.now free)

pub feed-passed-requires-clause-bound : goal.feed-passed-requires-clause-bound
feed-passed-requires-clause-bound g c n h = omega (arith, held g (goal.at.feed-passed-requires-clause-bound g c).After-decode_held n h, c.held_frames-count.ensures.held.bound, c.requires.taken)

pub pass_held-requires : goal.pass_held-requires
pass_held-requires g c =
    AreHeld-fewer _ _ _ c.held_frames-count.result (held g (goal.at.pass_held-requires g c).After-decode_held c.feed-passed.result.taken c.feed-passed.ensures.placed.read) c.held_frames-count.ensures.held

pub put-requires-clause-count : goal.put-requires-clause-count
put-requires-clause-count g c =
    omega (arith, given_by-bound g.S.Stage.acts g.met.S.Stage.rises c.args.flow.now c.args.flow.now refl c.requires.fits c.stages-stages.ensures.maximum c.stages-stages.ensures.sound.bound, c.requires.free)

pub put-requires-clause-bound : goal.put-requires-clause-bound
put-requires-clause-bound g c =
    omega (arith, given_by-bound g.S.Stage.acts g.met.S.Stage.rises c.args.flow.now c.args.flow.now refl c.requires.fits c.stages-stages.ensures.maximum c.stages-stages.ensures.sound.bound, c.requires.bound)

-- sixteen samples a frame at the most
sixteen : (given outputs : ℕ) → outputs ≤ 16 → given * outputs ≤ 16 * given
sixteen given outputs h = omega (arith, mul-le-mul_left given h)

pub returns : goal.returns
returns g c =
    let acts = g.S.Stage.acts in
    let coding = c.args.frame_writer.now.coding in
    let outputs : ℕ = c.out_channels-outputs.result in
    let taken : ℕ = c.feed-passed.result.taken in
    let given : ℕ = c.feed-passed.result.given in
    let samples : Samples = c.decode_held.new.samples in
    let out : Samples = c.feed-passed.new.output in
    let bound : taken ≤ c.held_frames-count.result = held g (goal.at.returns g c).After-decode_held taken c.feed-passed.ensures.placed.read in
    let In : List Samples → Type 0 = λ xs. FlowGave acts c.args.flow.now xs (pieces outputs given out) c.feed-passed.new.self in
    let Fed : List Samples → Type 0 = λ xs. FlowFed acts c.args.flow.now xs (pieces outputs given out) c.feed-passed.new.self in
    let same_frames = ap (λ n. pieces n taken samples) c.requires.width ∙ first_frames-fewer c.args.progress.now.coding c.args.progress.now.channels taken c.held_frames-count.result samples c.args.source.now.bytes bound c.decode_held.ensures in
    let many : length (take (given * outputs) out) ≡ given * outputs = length-take-le _ _ (rw (← c.out_channels-outputs.ensures) at c.feed-passed.ensures.placed.written) in
    let all = rw length-pieces at c.feed-passed.ensures.gave.given in
    record {
      blocked = record {
        count = taken;
        given = pieces outputs given out;
        held = AreHeld-fewer _ _ taken c.held_frames-count.result bound c.held_frames-count.ensures.held;
        bytes = c.pass_held.ensures.bytes;
        reader = c.pass_held.ensures.reader;
        short = c.pass_held.ensures.short;
        counted = c.pass_held.ensures.counted;
        fed = subst Fed same_frames (rw (← c.out_channels-outputs.ensures) at c.feed-passed.ensures.fed);
        gave = subst In same_frames (rw (← c.out_channels-outputs.ensures) at c.feed-passed.ensures.gave);
        wants = λ m h. FlowFed-wants acts c.args.flow.now c.feed-passed.new.self _ _ c.feed-passed.ensures.fed m (rw (length-pieces c.args.flow.now.channels taken samples) h);
        clipped = c.put.ensures.clips ∙ ap (λ n. c.args.frame_writer.now.clips + n) (sym (encoded-clips coding outputs given out));
        put = c.put.ensures.bytes ∙ ap (λ bs. c.args.frame_writer.now.output.bytes ++ bs) (sym (encoded-frames coding outputs given out));
        written = c.put.ensures.written;
      };
      free = omega (arith, c.put.ensures.count, many, sixteen given outputs c.if-outputs-gt-MAX_CHANNELS.false, c.requires.free, all);
      bound = omega (arith, c.put.ensures.bound, many, sixteen given outputs c.if-outputs-gt-MAX_CHANNELS.false, c.requires.bound, all);
      coding = c.put.ensures.coding;
    }
