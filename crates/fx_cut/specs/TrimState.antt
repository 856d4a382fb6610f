-- The stage of `trim`: how many frames it keeps, and how it selects frames of a sound (this project's profile).
use Rattle.std.specs.Prelude.{ℕ, List, count_by, map}
use Rattle.std.specs.List.{range_with_len}
use Rattle.fx_fixed.specs.Extents.{end_distance, largest}
use Rattle.fx_fixed.specs.Positions.{places_of}
use Rattle.fx_fixed.specs.declared.positions.At.{At}
use Rattle.fx_frame_base.specs.Stage.{Acts}
use Rattle.fx_frame_base.specs.Given.{plain}
use Rattle.fx_cut.specs.Selected.{Selects, SelectedState, selected_acts}
use Rattle.fx_cut.specs.Trim.{keeps, trim_due, trim_enough, TrimArguments, trim_meaning}

-- how many of the frames before place n are kept, in a sound of `frames` frames
abbrev pub kept_count : List At → ℕ → ℕ → ℕ
kept_count ps frames n = count_by (keeps (places_of frames ps)) (range_with_len 0 n)

-- which frames `trim` gives: those that are kept, unchanged
abbrev pub trim_selects : Selects TrimArguments
trim_selects = record {
  channels = λ r. r.channels;
  reach = λ r. largest (map end_distance r.positions);
  due = λ r. trim_due r.positions;
  enough = λ r. trim_enough r.positions;
  gives = λ r frames. keeps (places_of frames r.positions);
  made = λ r frames place. plain;
  meaning = trim_meaning;
}

-- how the stages of `trim` behave
abbrev pub trim_acts : Acts (SelectedState TrimArguments) TrimArguments
trim_acts = selected_acts trim_selects
