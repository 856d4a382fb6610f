use Rattle.std.proofs.Common.{ℕ, ℤ, List, ◌≡◌, ◌<◌, ◌≤◌, ◌∙◌, ◌⊎◌, refl, inl, inr, [], ◌∷◌, add-zero, map, sym, get_or, length, ap, pos, ◌^◌, arith, replicate, slice_index_or, unsigned_abs}
use Rattle.std.proofs.lemmas.Bool.{cases_lt}
use Rattle.std.proofs.lemmas.List.{get_or_past, take_all}
use Rattle.fx_frame_base.specs.Frame.{Samples}
use Rattle.fx_frame_base.specs.Holds.{total}
use Rattle.fx_frame_base.specs.Lists.{pieces}
use Rattle.fx_frame_base.specs.Stage.{Given}
use Rattle.fx_tap_delays.specs.Echo.{EchoArguments, echo_with}
use Rattle.fx_tap_delays.specs.EchosState.{frame_of_lines, line_outputs, series_lines_after, through_lines}
use Rattle.fx_tap_delays.specs.EchoWeights.{Suits}
use Rattle.fx_tap_delays.proofs.echos.echo_over.Goals as goal

-- no sample is greater than a sample may be
small : (xs : List ℤ) → ((k : ℕ) → k < length xs → unsigned_abs (slice_index_or xs k (pos 0)) ≤ 2 ^ 31) → (k : ℕ) → unsigned_abs (slice_index_or xs k (pos 0)) ≤ 2 ^ 31
small xs h k = go (cases_lt k (length xs))
  where
    go : (k < length xs) ⊎ (length xs ≤ k) → unsigned_abs (slice_index_or xs k (pos 0)) ≤ 2 ^ 31
    go (inl l) = h k l
    go (inr g) = rw (get_or_past xs k (pos 0) g) (omega arith)

pub returns-in-Some : goal.returns-in-Some
returns-in-Some c =
    let a : EchoArguments = echo_with c.args.channels c.args.gains.0 c.args.gains.1 c.args.taps.now in
    let x : Samples = c.args.samples.now in
    let ensured = c.echo_batch.ensures in
    let suits : Suits a c.in-Some.small = rw c.in-Some.is at c.requires.small in
    let many = sym c.requires.count in
    let all : pieces c.args.channels 1 x ≡ x ∷ [] = ap (λ xs. xs ∷ []) (take_all c.args.channels x (omega (arith, c.requires.frame))) in
    let made : pieces c.args.channels 1 c.echo_batch.new.samples ≡ (frame_of_lines a x (line_outputs c.args.channels c.args.lines.now x (replicate c.args.channels (pos 0)))).samples ∷ [] =
    ensured.frames a suits refl many ∙ ap (λ xs. map (λ (g : Given). g.samples) (through_lines a c.args.lines.now xs)) all in
    let side : length c.echo_batch.new.samples ≡ c.args.channels = c.echo_batch.auto.samples ∙ c.requires.frame in
    record {
      lines = ensured.lines ∙ ap (series_lines_after c.args.channels c.args.lines.now) all;
      frame = sym (take_all c.args.channels c.echo_batch.new.samples (omega (arith, side))) ∙ ap (λ ps. get_or ps 0 []) made;
      clips = ensured.clips a suits refl many ∙ ap (λ xs. total (λ (g : Given). g.clips) (through_lines a c.args.lines.now xs)) all ∙ add-zero _;
      bound = omega (arith, ensured.bound);
      small = small x ensured.small;
    }
