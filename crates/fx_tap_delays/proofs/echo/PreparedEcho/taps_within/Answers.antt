use Rattle.std.proofs.Common.{rules, ◌≡◌, ◌≤◌, ◌*◌, ◌∙◌, arith, length, replicate, List, ℤ, pos}
use Rattle.std.proofs.lemmas.Grind.{common_steps}
use Rattle.std.proofs.lemmas.List.{length-replicate, length-take-le}
use Rattle.fx_frame_base.specs.Lists.{pieces}
use Rattle.fx_frame_base.proofs.Pieces.{length-pieces}
use Rattle.fx_tap_delays.specs.Echo.{EchoArguments}
use Rattle.fx_tap_sums.specs.Weights.{Weights}
use Rattle.fx_tap_delays.proofs.EchoPieces.{piece-clips, piece-frames}
use Rattle.fx_tap_delays.specs.EchoWeights.{SoundsAsEcho}
use Rattle.fx_frame_base.proofs.ListPlaces.{zeros-part}
use Rattle.fx_tap_delays.proofs.echo.PreparedEcho.taps_within.Goals as goal

pub add_piece-requires-clause-empty : goal.add_piece-requires-clause-empty
add_piece-requires-clause-empty g c = λ k. zeros-part (length c.args.samples.now) g.row.PLACES k

pub returns : goal.returns
returns g c =
    let a : EchoArguments = c.args.self.now in
    let w : Weights = record { weights = c.small.inside.weights; denominator = c.small.inside.denominator } in
    let sounds : SoundsAsEcho a.echo w = rw (← c.small.view_is) at c.requires.sounds in
    let value = rw (← c.small.view_is) at c.add_piece.ensures.value in
    let coming : List (List ℤ) = pieces a.channels c.args.count c.args.samples.now in
    let many = length-pieces a.channels c.args.count c.args.samples.now in
    let free : length c.args.samples.now ≤ length (replicate g.row.PLACES (pos 0)) = omega (arith, length-replicate g.row.PLACES (pos 0), c.requires.group.0) in
    let long : length c.add_piece.new.sums ≡ c.args.count * a.channels = c.add_piece.auto.sums ∙ length-take-le (length c.args.samples.now) (replicate g.row.PLACES (pos 0)) free ∙ c.requires.samples in
    record {
      frames = piece-frames a w sounds c.args.line.now.items coming c.args.count c.add_piece.new.sums many long value c.round_sums.new.out c.round_sums.ensures.samples;
      clips = record {
        counted = piece-clips a w sounds c.args.line.now.items coming c.args.count c.add_piece.new.sums many long value c.round_sums.result c.round_sums.ensures.clips;
        bound = first_of (search rules, grind (arith, common_steps));
        small = first_of (search rules, grind (arith, common_steps));
      };
      line = first_of (search rules, grind (arith, common_steps));
    }
