use Rattle.std.proofs.Common.{get_or, pos, w32, rules}
use Rattle.fx_frame_base.specs.Frame.{Samples}
use Rattle.fx_sound.proofs.Threes.{clipped-lane, clipped-lanes, limited-below, limited-bytes, limited-lane}
use Rattle.fx_sound.proofs.fours.limited_four.Goals as goal
use mir.Val.{SFits}

pub returns-clause-lanes : goal.returns-clause-lanes
returns-clause-lanes c =
    let xs : Samples = c.args.samples.now in
    let first : SFits w32 (get_or xs 0 (pos 0)) = search rules in
    let second : SFits w32 (get_or xs 1 (pos 0)) = search rules in
    let third : SFits w32 (get_or xs 2 (pos 0)) = search rules in
    let fourth : SFits w32 (get_or xs 3 (pos 0)) = search rules in
    limited-bytes xs _ _ _ _ c.requires (limited-below _ first) (limited-below _ second) (limited-below _ third) (limited-below _ fourth) (limited-lane _ first) (limited-lane _ second) (limited-lane _ third) (limited-lane _ fourth)

pub returns-clause-clips : goal.returns-clause-clips
returns-clause-clips c =
    let xs : Samples = c.args.samples.now in
    let first : SFits w32 (get_or xs 0 (pos 0)) = search rules in
    let second : SFits w32 (get_or xs 1 (pos 0)) = search rules in
    let third : SFits w32 (get_or xs 2 (pos 0)) = search rules in
    let fourth : SFits w32 (get_or xs 3 (pos 0)) = search rules in
    clipped-lanes xs c.requires _ _ _ _ (clipped-lane _ first) (clipped-lane _ second) (clipped-lane _ third) (clipped-lane _ fourth)
