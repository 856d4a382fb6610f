-- The oldest frame leaves the line.
use Rattle.std.proofs.Common.{◌≡◌, ◌≤◌, ◌+◌, ◌-◌, ◌∙◌, ◌++◌, [], ap, sym, arith, length, length-drop, map, option_to_list}
use Rattle.fx_frame_base.proofs.Flags.{none-of}
use Rattle.fx_frame_base.specs.Given.{plain}
use Rattle.fx_cut.specs.Selected.{selected_after}
use Rattle.fx_cut.proofs.SelectSteps.{drained, given-popped}
use Rattle.fx_cut.proofs.selected.next_selected.Goals as goal

pub returns-then-is_some-clause-given : goal.returns-then-is_some-clause-given
returns-then-is_some-clause-given g c =
    let selects = g.S.Selection.selects in
    let n = c.frames.invariant.counted in
    let h : length c.frames.line.items ≤ c.args.frames = let a = c.frames.invariant.bound in let b = c.requires in omega arith in
    let value = rw n at c.selected_in-selected.ensures.value in
    ap (λ m. m + length (option_to_list c.selected_in-selected.result)) c.frames.invariant.given
    ∙ given-popped selects c.args.selection.now c.args.frames c.frames.line.items c.pop_front.new.self.items c.in-Some.oldest c.selected_in-selected.result c.in-Some.ensures.oldest c.in-Some.ensures.items h value

pub frames-preserved : goal.frames-preserved
frames-preserved g c =
    let selects = g.S.Selection.selects in
    let n = c.frames.invariant.counted in
    let f = c.frames.invariant.bound in
    let h : length c.frames.line.items ≤ c.args.frames = let b = c.requires in omega arith in
    let value = rw n at c.selected_in-selected.ensures.value in
    let none = none-of c.selected_in-selected.result (sym c.if-is_some.ensures) in
    let d = drained selects c.args.selection.now c.args.frames c.frames.line.items c.pop_front.new.self.items c.in-Some.oldest c.in-Some.ensures.oldest c.in-Some.ensures.items h in
    let k = given-popped selects c.args.selection.now c.args.frames c.frames.line.items c.pop_front.new.self.items c.in-Some.oldest c.selected_in-selected.result c.in-Some.ensures.oldest c.in-Some.ensures.items h value in
    let nothing : length (option_to_list c.selected_in-selected.result) ≡ 0 = ap (λ o. length (option_to_list o)) none in
    let long : length c.pop_front.new.self.items ≡ length c.frames.line.items - 1 = ap length c.in-Some.ensures.items ∙ length-drop 1 c.frames.line.items in
    record {
      rest =
          c.frames.invariant.rest ∙ d ∙ ap (λ l. l ++ selected_after selects c.args.selection.now c.args.frames c.pop_front.new.self.items []) (sym value)
          ∙ ap (λ o. map plain (option_to_list o) ++ selected_after selects c.args.selection.now c.args.frames c.pop_front.new.self.items []) none;
      given = c.frames.invariant.given ∙ omega (arith, k, nothing);
      counted = omega arith;
      bound = omega arith;
      lined = c.len-held.ensures.line;
      capacity = c.in-Some.ensures.capacity ∙ c.frames.invariant.capacity;
      channels = c.in-Some.ensures.channels ∙ c.frames.invariant.channels;
    }
