use Rattle.std.proofs.Common.{◌≡◌, ◌+◌, ◌-◌, ◌*◌, ◌/◌, ℕ, length, take, drop, ap, ◌∙◌, sym, arith}
use Rattle.std.proofs.lemmas.List.{append-nil, drop_all, length-take, take_all}
use Rattle.std.proofs.lemmas.List.Sums.{count_by-le-length}
use Rattle.fx_frame_base.specs.Coding.{clips_written, width_of}
use Rattle.fx_frame_base.specs.Frame.{Samples}
use Rattle.fx_sound.specs.FrameCoding.{bytes_of, clips_of}
use Rattle.fx_sound.proofs.FrameBytes.{bytes_of-piece, clips_of-part}
use Rattle.fx_sound.proofs.bulk.encode_by_fours.Goals as goal

pub fours-preserved : goal.fours-preserved
fours-preserved c =
    let coding = c.args.coding in
    let xs : Samples = c.args.samples.now in
    let k : ℕ = c.fours.k in
    let next : 4 * (k + 1) ≡ 4 * k + 4 = omega arith in
    let cut : 4 * k + 4 - 4 * k ≡ 4 = omega arith in
    let at : 12 * k ≡ 4 * k * width_of coding = rw c.requires.width (omega arith) in
    let size : 12 * k + 12 - 12 * k ≡ 4 * width_of coding = rw c.requires.width (omega arith) in
    let clips : c.from-clips.result ≡ clips_of coding (take 4 (drop (4 * k) xs)) = c.from-clips.ensures ∙ c.write_four-four.ensures.clips ∙ ap (λ m. clips_of coding (take m (drop (4 * k) xs))) cut in
    rw next record {
      written = bytes_of-piece coding xs c.args.out.now c.fours.out c.write_four-four.new.out (4 * k) 4 _ _ (omega arith) at size c.fours.invariant.written
          (c.write_four-four.ensures.bytes ∙ ap (λ m. bytes_of coding (take m (drop (4 * k) xs))) cut);
      counted = ap (λ m. m + c.from-clips.result) c.fours.invariant.counted ∙ ap (λ m. clips_of coding (take (4 * k) xs) + m) clips ∙ sym (clips_of-part coding xs (4 * k) 4);
      bound = omega (arith, c.fours.invariant.bound, clips, count_by-le-length (clips_written coding) (take 4 (drop (4 * k) xs)), length-take 4 (drop (4 * k) xs));
    }

pub returns-clause-bytes : goal.returns-clause-bytes
returns-clause-bytes c =
    let coding = c.args.coding in
    let xs : Samples = c.args.samples.now in
    let done : ℕ = 4 * (length xs / 4) in
    let left : ℕ = length xs - done in
    let end : 4 * c.fours.k ≡ done = omega arith in
    let whole : done + left ≡ length xs = omega arith in
    let all : length c.args.out.now ≡ length xs * 3 = c.requires.bytes ∙ ap (λ w. length xs * w) c.requires.width in
    let at : 3 * done ≡ done * width_of coding = rw c.requires.width (omega arith) in
    let size : length c.fours.out - 3 * done ≡ left * width_of coding = rw c.requires.width (omega (arith, all)) in
    let none : drop (length xs * width_of coding) c.args.out.now ≡ drop (length c.args.out.now) c.args.out.now = ap (λ m. drop m c.args.out.now) (sym c.requires.bytes) in
    bytes_of-piece coding xs c.args.out.now c.fours.out c.encode_batch-left.new.out done left _ _ (omega arith) at size (rw end at c.fours.invariant.written) c.encode_batch-left.ensures.bytes
    ∙ rw (whole, none, drop_all (length c.args.out.now) c.args.out.now (omega arith), take_all (length xs) xs (omega arith)) (append-nil (bytes_of coding xs))

pub returns-clause-clips : goal.returns-clause-clips
returns-clause-clips c =
    let coding = c.args.coding in
    let xs : Samples = c.args.samples.now in
    let done : ℕ = 4 * (length xs / 4) in
    let left : ℕ = length xs - done in
    let end : 4 * c.fours.k ≡ done = omega arith in
    let whole : take (done + left) xs ≡ xs = take_all (done + left) xs (omega arith) in
    ap (λ m. m + c.from.result) (rw end at c.fours.invariant.counted) ∙ ap (λ m. clips_of coding (take done xs) + m) (c.from.ensures ∙ c.encode_batch-left.ensures.clips)
    ∙ sym (clips_of-part coding xs done left) ∙ ap (clips_of coding) whole
