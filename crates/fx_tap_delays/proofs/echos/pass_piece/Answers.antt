use Rattle.std.proofs.Common.{rules, ◌≡◌, ◌<◌, ◌≤◌, ◌+◌, ◌*◌, ◌^◌, ◌∙◌, [], List, ℕ, ℤ, pos, ◌+ℤ◌, ◌*ℤ◌, length, get_or, take, drop, replicate, sym, ap, refl, arith, unsigned_abs, slice_index_or}
use Rattle.std.specs.List.{All}
use Rattle.std.proofs.lemmas.Int.{ints}
use Rattle.std.proofs.lemmas.List.{append-nil, drop_all, length-replicate, length-set, length-take-le, take-replicate, take_all}
use Rattle.fx_frame_base.specs.Frame.{Samples}
use Rattle.fx_frame_line.specs.Line.{Frames, channel_of, empty, latest_frames, pushed_all}
use Rattle.fx_frame_base.specs.Lists.{pieces}
use Rattle.fx_frame_line.proofs.ManyFrames.{pieces-replicate}
use Rattle.fx_frame_base.proofs.Pieces.{get_or-piece, length-pieces}
use Rattle.fx_tap_delays.specs.EchosState.{line_at}
use Rattle.fx_tap_sums.specs.Products.{sum_of_products}
use Rattle.fx_frame_base.proofs.ListPlaces.{zeros-part, any-default}
use Rattle.fx_tap_delays.proofs.EchoLaws.{echo-first}
use Rattle.fx_tap_delays.proofs.EchoWeights.{held-weight}
use Rattle.fx_tap_delays.proofs.EchosSeries.{left-step, same-line}
use Rattle.fx_tap_delays.proofs.EchosPieces.{column, column-is, fed-pieces, fed_all, let_out, after_all, pushed-is, series_lines-step, sums-step, flat-fits, flat-small, latest-small, let_out-is, series_after, series_after-is, series_outputs}
use Rattle.fx_frame_base.proofs.ChannelPlaces.{within-frames}
use Rattle.fx_tap_sums.proofs.Cyclic.{nothing}
use Rattle.fx_tap_delays.proofs.echos.pass_piece.Given as given
use Rattle.fx_tap_delays.proofs.echos.pass_piece.Goals.{After-before_into, After-capacity}
use Rattle.fx_tap_delays.proofs.echos.pass_piece.Goals as goal

pub lines-init : goal.lines-init
lines-init g c =
    let n : ℕ = c.args.count in
    let ch : ℕ = c.args.channels in
    let ws : List ℤ = c.small.inside.weights in
    let old : List (Frames ℤ) = c.args.lines.now in
    let xs : List Samples = pieces ch n c.args.frames.now in
    let start : List ℤ = take (length c.args.frames.now) (replicate g.row.N (pos 0)) in
    let weight = held-weight ws 0 c.small.invariant in
    let silent_frame : pieces ch n start ≡ replicate n (replicate ch (pos 0)) =
    ap (pieces ch n) (ap (λ m. take m (replicate g.row.N (pos 0))) c.requires.frames ∙ take-replicate (n * ch) g.row.N (pos 0) c.requires.free) ∙ pieces-replicate ch n (pos 0) in
    rw (← c.small.view_is)
    record {
      many = refl;
      left = refl;
      lines = ap (series_after ch old xs) silent_frame;
      before = λ k. rw (zeros-part (length c.args.frames.now) g.row.N k) (omega arith);
      sums = λ i k lt within.
          let at : i * ch + k < length c.args.sums.now = omega (arith, within-frames ch k i n within lt, c.requires.sums) in
          echo-first _ _ _ _ (sum_of_products (drop 1 ws) (channel_of (column i (series_outputs ch old xs (pieces ch n start))) k (pos 0))) (rw weight at c.add_products.ensures.added (i * ch + k) at) (c.requires.empty (i * ch + k)) refl
          ∙ ap (λ bs. (slice_index_or ws 0 (pos 0) *ℤ slice_index_or c.args.frames.now (i * ch + k) (pos 0)) +ℤ sum_of_products (drop 1 ws) (channel_of (column i (series_outputs ch old xs bs)) k (pos 0))) silent_frame;
      bound = λ k. omega (arith, rw (c.requires.empty k) at (c.add_products.ensures.bound k));
    }

-- the line at the place is as it was, and a piece has the samples of the frames
line : (g : given.Over) (c : After-capacity g) →
    (get_or c.lines.lines c.lines.place c.index-lines-place.result ≡ line_at c.args.lines.now c.lines.place) × (length (take (length c.args.frames.now) (replicate g.row.N (pos 0))) ≡ c.args.count * c.args.channels)
line g c = (
  any-default c.lines.lines c.lines.place c.index-lines-place.result (empty 0 0) (omega arith) ∙ same-line c.lines.place c.args.lines.now c.lines.lines c.lines.invariant.left,
  length-take-le (length c.args.frames.now) (replicate g.row.N (pos 0)) (omega (arith, length-replicate g.row.N (pos 0), c.requires.frames, c.requires.free)) ∙ c.requires.frames,
)

pub before_into-requires : goal.before_into-requires
before_into-requires g c =
    let (read, none) = line g (goal.at.before_into-requires g c).After-capacity in
    let late = rw read at c.capacity.ensures.capacity in
    record {
      late = omega (arith, late, c.requires.late c.lines.place c.lines-test.true);
      len = rw (read, (c.requires.lines c.lines.place c.lines-test.true).channels_are) (c.lines.auto.before ∙ none);
    }

pub push_frames-requires-clause-len : goal.push_frames-requires-clause-len
push_frames-requires-clause-len g c =
    let (read, none) = line g (goal.at.push_frames-requires-clause-len g c).After-capacity in
    rw (read, (c.requires.lines c.lines.place c.lines-test.true).channels_are) (c.add_samples.auto.out ∙ c.lines.auto.fed ∙ none)

pub push_frames-requires-clause-fits : goal.push_frames-requires-clause-fits
push_frames-requires-clause-fits g c =
    flat-fits c.add_samples.new.out (λ k l. omega (arith, c.add_samples.ensures.bound k (omega (arith, l, c.add_samples.auto.out)), c.lines.invariant.before k, c.lines-test.true, c.requires.bound))

-- what fell out of the line, and its samples are small
line_output : (g : given.Over) (c : After-before_into g) → length c.lines.before ≡ c.args.count * c.args.channels →
    let l = line_at c.args.lines.now c.lines.place in
    (pieces c.args.channels c.args.count c.before_into.new.out ≡ take c.args.count (latest_frames (pos 0) l.capacity l)) × ((k : ℕ) → unsigned_abs (slice_index_or c.before_into.new.out k (pos 0)) ≤ (c.lines.place + 1) * 2 ^ 31)
line_output g c long =
    let n : ℕ = c.args.count in
    let l : Frames ℤ = line_at c.args.lines.now c.lines.place in
    let is = c.requires.lines c.lines.place c.lines-test.true in
    let read : get_or c.lines.lines c.lines.place c.index-lines-place.result ≡ l = any-default c.lines.lines c.lines.place c.index-lines-place.result (empty 0 0) (omega arith) ∙ same-line c.lines.place c.args.lines.now c.lines.lines c.lines.invariant.left in
    let late = rw read at c.capacity.ensures.capacity in
    let copied = ap (λ m. pieces m n c.before_into.new.out) (sym is.channels_are) ∙ (rw (read, late) at c.before_into.ensures) in
    let frames : All (All (λ x. unsigned_abs x ≤ (c.lines.place + 1) * 2 ^ 31)) (pieces c.args.channels n c.before_into.new.out) = rw copied (latest-small ((c.lines.place + 1) * 2 ^ 31) n l.capacity l is.small) in
    (copied, flat-small c.args.channels n ((c.lines.place + 1) * 2 ^ 31) c.before_into.new.out (c.before_into.auto.out ∙ long) frames)

pub add_wide_products-requires-clause-samples : goal.add_wide_products-requires-clause-samples
add_wide_products-requires-clause-samples g c k =
    let at = goal.at.add_wide_products-requires-clause-samples g c in
    let (copied, small) = line_output g at.After-before_into (c.lines.auto.before ∙ (line g at.After-capacity).1) in
    omega (arith, small k, c.lines-test.true, c.requires.bound)

pub lines-preserved : goal.lines-preserved
lines-preserved g c =
    let n : ℕ = c.args.count in
    let ch : ℕ = c.args.channels in
    let p : ℕ = c.lines.place in
    let old : List (Frames ℤ) = c.args.lines.now in
    let lt : p < length old = c.lines-test.true in
    let l : Frames ℤ = line_at old p in
    let is = c.requires.lines p lt in
    let (read, none) = line g (goal.at.lines-preserved g c).After-capacity in
    let (copied, small) = line_output g (goal.at.lines-preserved g c).After-before_into (c.lines.auto.before ∙ none) in
    let xs : List Samples = pieces ch n c.args.frames.now in
    let bs : List Samples = pieces ch n c.lines.before in
    let ws : List ℤ = c.small.inside.weights in
    let lined = rw read at c.capacity.ensures.line in
    let long : length c.add_samples.new.out ≡ n * ch = c.add_samples.auto.out ∙ c.lines.auto.fed ∙ none in
    let many : length c.lines.fed ≡ n * ch = c.lines.auto.fed ∙ none in
    let fed_is : pieces ch n c.add_samples.new.out ≡ fed_all ch xs bs = fed-pieces ch n c.add_samples.new.out c.args.frames.now c.lines.before (omega arith) (λ k h. c.add_samples.ensures.added k (omega arith)) in
    let count : length (fed_all ch xs bs) ≡ n = sym (ap length fed_is) ∙ length-pieces ch n c.add_samples.new.out in
    let gave : pieces ch n c.before_into.new.out ≡ let_out ch l (fed_all ch xs bs) = copied ∙ ap (λ m. take m (latest_frames (pos 0) l.capacity l)) (sym count) ∙ sym (let_out-is ch l (fed_all ch xs bs) is.channels_are lined.within (omega (arith, count, c.requires.late p lt))) in
    let pushed = rw read at c.push_frames.ensures in
    let all : pushed_all l (pieces l.channels n c.add_samples.new.out) ≡ pushed_all l (fed_all ch xs bs) = ap (λ m. pushed_all l (pieces m n c.add_samples.new.out)) is.channels_are ∙ ap (pushed_all l) fed_is in
    let now : c.push_frames.new.self ≡ after_all l (fed_all ch xs bs) = pushed-is l c.push_frames.new.self (fed_all ch xs bs) lined.within (pushed.items ∙ all) pushed.capacity pushed.channels in
    let weight = held-weight ws (p + 1) c.small.invariant in
    let sums : length c.lines.sums ≡ n * ch = c.lines.auto.sums ∙ c.add_products.auto.sums ∙ c.requires.sums in
    let sums_inv = rw (← c.small.view_is) at c.lines.invariant.sums in
    rw (← c.small.view_is)
    record {
      many = length-set c.lines.lines p c.push_frames.new.self ∙ c.lines.invariant.many;
      left = left-step p old c.lines.lines c.push_frames.new.self c.lines.invariant.left;
      lines = series_lines-step ch p old c.lines.lines c.push_frames.new.self xs bs (pieces ch n c.before_into.new.out) _ lt c.lines.invariant.many now gave c.lines.invariant.lines;
      before = small;
      sums = λ i k lt_i within.
          let at : i * ch + k < length c.lines.sums = omega (arith, within-frames ch k i n within lt_i, sums) in
          let value = (rw weight at c.add_wide_products.ensures.added (i * ch + k) at) ∙ ap (λ z. slice_index_or c.lines.sums (i * ch + k) (pos 0) +ℤ (slice_index_or ws (p + 1) (pos 0) *ℤ z)) (sym (get_or-piece ch n c.before_into.new.out i k (pos 0) lt_i within)) in
          sums-step ch p i k old ws xs bs (pieces ch n c.before_into.new.out) (slice_index_or c.lines.sums (i * ch + k) (pos 0)) (slice_index_or c.add_wide_products.new.sums (i * ch + k) (pos 0)) _ lt gave value (sums_inv i k lt_i within);
      bound = λ k. omega (arith, c.add_wide_products.ensures.bound k, c.lines.invariant.bound k);
    }

pub returns : goal.returns
returns g c =
    let n : ℕ = c.args.count in
    let ch : ℕ = c.args.channels in
    let p : ℕ = c.lines.place in
    let old : List (Frames ℤ) = c.args.lines.now in
    let ws : List ℤ = c.args.small.now.weights in
    let xs : List Samples = pieces ch n c.args.frames.now in
    let none : drop p old ≡ [] = drop_all p old (omega (arith, c.lines-test.false)) in
    let whole : take p c.lines.lines ≡ c.lines.lines = take_all p c.lines.lines (omega (arith, c.lines.invariant.many, c.lines-test.false)) in
    let many : length xs ≡ n = length-pieces ch n c.args.frames.now in
    let lines = rw (none, whole, append-nil) at c.lines.invariant.lines in
    record {
      lines = lines ∙ ap (λ m. series_after ch old xs (replicate m (replicate ch (pos 0)))) (sym many) ∙ series_after-is ch old xs;
      value = λ i k lt within.
          let inside : i < length xs = omega arith in
          let sums = rw (none, nothing (drop (p + 1) ws)) at c.lines.invariant.sums i k lt within in
          let first : slice_index_or c.lines.sums (i * ch + k) (pos 0) ≡ slice_index_or c.lines.sums (i * ch + k) (pos 0) +ℤ pos 0 = omega (arith, ints) in
          first ∙ sums ∙ ap (λ gs. (slice_index_or ws 0 (pos 0) *ℤ slice_index_or c.args.frames.now (i * ch + k) (pos 0)) +ℤ sum_of_products (drop 1 ws) (channel_of gs k (pos 0)))
          (ap (λ m. column i (series_outputs ch old xs (replicate m (replicate ch (pos 0))))) (sym many) ∙ column-is ch i old xs inside);
      small = λ k. omega (arith, c.lines.invariant.bound k);
      frames = search rules;
    }
