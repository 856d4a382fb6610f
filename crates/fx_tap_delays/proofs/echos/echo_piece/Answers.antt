use Rattle.std.proofs.Common.{rules, ◌≡◌, ◌≤◌, ◌*◌, ◌∙◌, arith, length, replicate, pos}
use Rattle.std.proofs.lemmas.Grind.{common_steps}
use Rattle.std.proofs.lemmas.List.{length-replicate, length-take-le}
use Rattle.fx_tap_sums.specs.Weights.{Weights}
use Rattle.fx_frame_base.proofs.ListPlaces.{zeros-part}
use Rattle.fx_tap_delays.proofs.EchosGiven.{given-clips, given-frames}
use Rattle.fx_tap_delays.proofs.echos.echo_piece.Goals as goal

pub pass_piece-requires-clause-empty : goal.pass_piece-requires-clause-empty
pass_piece-requires-clause-empty g c = λ k. zeros-part (length c.args.frames.now) g.row.N k

pub returns : goal.returns
returns g c =
    let w : Weights = record { weights = c.small.inside.weights; denominator = c.small.inside.denominator } in
    let free : length c.args.frames.now ≤ length (replicate g.row.N (pos 0)) = omega (arith, length-replicate g.row.N (pos 0), c.requires.frames, c.requires.free) in
    let long : length c.pass_piece.new.sums ≡ c.args.count * c.args.channels = c.pass_piece.auto.sums ∙ length-take-le (length c.args.frames.now) (replicate g.row.N (pos 0)) free ∙ c.requires.frames in
    record {
      frames = λ a suits width many. rw (← width) (given-frames a w (rw (← c.small.view_is) at suits) c.args.lines.now c.args.frames.now c.args.count c.pass_piece.new.sums many (rw (← width) at long) (rw (← c.small.view_is, ← width) at c.pass_piece.ensures.value) c.round_sums.new.out c.round_sums.ensures.samples);
      clips = λ a suits width many. rw (← width) (given-clips a w (rw (← c.small.view_is) at suits) c.args.lines.now c.args.frames.now c.args.count c.pass_piece.new.sums many (rw (← width) at long) (rw (← c.small.view_is, ← width) at c.pass_piece.ensures.value) c.round_sums.result c.round_sums.ensures.clips);
      lines = first_of (search rules, grind (arith, common_steps));
      bound = first_of (search rules, grind (arith, common_steps));
      samples = first_of (search rules, grind (arith, common_steps));
    }
