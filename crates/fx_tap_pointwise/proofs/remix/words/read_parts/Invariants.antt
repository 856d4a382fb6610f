use Rattle.std.proofs.Common.{◌≡◌, ◌++◌, length, true}
use Rattle.std.specs.List.{list_all, slice_split}
use denote.Shadow.{shadow}
use denote.Text.{Utf8}
use Rattle.fx_tap_pointwise.specs.RemixWords.{contributions, is_comma, is_there, part_faults}
use Rattle.fx_tap_pointwise.proofs.remix.words.read_parts.Given as goal

abbrev pub decreases-loop-part : goal.decreases-loop-part
decreases-loop-part l = length l.text

abbrev pub invariant-loop-part : goal.invariant-loop-part
invariant-loop-part l = record {
  faults : part_faults l.channels l.number (slice_split is_comma l.text) ≡ part_faults l.channels l.number (slice_split is_comma l.word);
  values : l.sum.items ++ contributions l.channels (slice_split is_comma l.text) ≡ contributions l.channels (slice_split is_comma l.word);
  there : list_all (is_there l.channels) l.sum.items ≡ true;
  utf8 : shadow (Utf8 l.text);
}
