use Rattle.std.proofs.Common.{◌≡◌, ◌≤◌, ◌-◌, [], length}
use Rattle.std.specs.Int.{w32}
use Rattle.fx_frame_line.specs.Line.{IsLine}
use Rattle.fx_cut.specs.Selected.{given_before, selected_after}
use Rattle.fx_cut.proofs.selected.next_selected.Given as goal

abbrev pub invariant-frames : goal.invariant-frames
invariant-frames g l =
    let selects = g.S.Selection.selects in
    record {
      rest : selected_after selects l.selection l.fn.frames l.fn.line.items [] ≡ selected_after selects l.selection l.fn.frames l.line.items [];
      given : given_before selects l.selection l.fn.frames (l.fn.frames - length l.fn.line.items) ≡ given_before selects l.selection l.fn.frames (l.fn.frames - length l.line.items);
      counted : l.left ≡ length l.line.items;
      bound : length l.line.items ≤ length l.fn.line.items;
      lined : IsLine w32 l.line;
      capacity : l.line.capacity ≡ l.fn.line.capacity;
      channels : l.line.channels ≡ l.fn.line.channels;
    }

abbrev pub decreases-frames : goal.decreases-frames
decreases-frames g l = length l.line.items
