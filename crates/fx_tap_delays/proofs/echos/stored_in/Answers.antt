use Rattle.std.proofs.Common.{◌<◌, ◌+◌, ◌-◌, ◌≤◌, ◌++◌, drop, length, arith, sym, ap, ◌∙◌, slice_get}
use Rattle.std.proofs.lemmas.List.{drop_more}
use Rattle.fx_tap_delays.specs.EchosState.{frames_of_lines}
use Rattle.fx_tap_delays.proofs.EchosSeries.{get-left, get-right}
use Rattle.fx_tap_delays.proofs.echos.stored_in.Goals as goal

pub returns-then-place-count : goal.returns-then-place-count
returns-then-place-count c =
    let lines = c.args.lines.now in
    let more = drop_more lines c.lines.line-index c.line-item.result c.lines-test.true in
    let inside : c.lines.place < length c.line-item.result.items = omega arith in
    c.get.ensures ∙ sym (get-left c.line-item.result.items (frames_of_lines (drop (c.lines.line-index + 1) lines)) c.lines.place inside)
    ∙ ap (λ l. slice_get (l.items ++ frames_of_lines (drop (c.lines.line-index + 1) lines)) c.lines.place) c.line-item.is
    ∙ ap (λ ls. slice_get (frames_of_lines ls) c.lines.place) (sym more) ∙ c.lines.invariant

pub lines-preserved : goal.lines-preserved
lines-preserved c =
    let lines = c.args.lines.now in
    let more = drop_more lines c.lines.line-index c.line-item.result c.lines-test.true in
    let history : length c.line-item.result.items ≤ c.lines.place = omega arith in
    ap (λ n. slice_get (frames_of_lines (drop (c.lines.line-index + 1) lines)) (c.lines.place - n)) c.len-count.ensures.count
    ∙ sym (get-right c.line-item.result.items (frames_of_lines (drop (c.lines.line-index + 1) lines)) c.lines.place history)
    ∙ ap (λ l. slice_get (l.items ++ frames_of_lines (drop (c.lines.line-index + 1) lines)) c.lines.place) c.line-item.is
    ∙ ap (λ ls. slice_get (frames_of_lines ls) c.lines.place) (sym more) ∙ c.lines.invariant
