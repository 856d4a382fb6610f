use Rattle.std.proofs.Common.{◌≡◌, ◌≤◌, ◌-◌, ◌*◌, ◌++◌, drop, take}
use Rattle.fx_frame_base.specs.Lists.{pieces}
use Rattle.fx_frame_line.specs.Line.{pushed_all}
use Rattle.fx_cut.proofs.lines.exchange_groups.Given as goal

abbrev pub invariant-groups : goal.invariant-groups
invariant-groups l = record {
  within : l.done ≤ l.count;
  fallen : pieces l.channels l.done l.samples ≡ take l.done (l.fn.line.items ++ pieces l.channels l.done l.fn.samples);
  rest_unchanged : drop (l.done * l.channels) l.samples ≡ drop (l.done * l.channels) l.fn.samples;
  items : l.line.items ≡ pushed_all l.fn.line (pieces l.channels l.done l.fn.samples);
  line_capacity : l.line.capacity ≡ l.fn.line.capacity;
  line_channels : l.line.channels ≡ l.fn.line.channels;
}

abbrev pub decreases-groups : goal.decreases-groups
decreases-groups l = l.count - l.done
