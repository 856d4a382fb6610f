use Rattle.std.proofs.Common.{◌≡◌, ◌≤◌, length, arith, string_bytes, true}
use Rattle.std.proofs.lemmas.List.{length-map}
use Rattle.fx_tap_delays.specs.EchoWords.{are_taps, echo_value}
use Rattle.fx_plan_words.specs.Faults.{word_texts}
use Rattle.fx_tap_delays.proofs.EchoWords.{echoing_fits}
use Rattle.fx_plan_words.proofs.Reading.{IfOk-reads}
use Rattle.fx_tap_delays.proofs.echo.words.read_echo.Goals as goal

pub returns-clause-fit : goal.returns-clause-fit
returns-clause-fit c =
    let words = word_texts c.args.words.now in
    let count : length words ≡ length c.args.words.now = length-map c.args.words.now string_bytes in
    let minimum : 4 ≤ length words = omega (arith, count) in
    let maximum : length words ≤ 16 = omega (arith, count) in
    IfOk-reads echo_value (λ echo. are_taps echo ≡ true) c.read_words.result _ _ c.read_words.ensures (λ none. echoing_fits c.args.rate words none minimum maximum)
