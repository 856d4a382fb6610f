use Rattle.std.proofs.Common.{refl, arith, ◌≤◌, pos}
use Rattle.std.proofs.lemmas.List.Elements.{All-get_or}
use Rattle.fx_tap_delays.specs.Echo.{EchoArguments, echo_with}
use Rattle.fx_tap_delays.proofs.EchoWeights.{suits-of}
use Rattle.fx_tap_delays.proofs.EchosLaws.{IsEchos-new, frames-none, late-each}
use Rattle.fx_tap_delays.proofs.EchosMeaning.{through-all}
use Rattle.fx_tap_delays.proofs.echos.Echos.new.Goals as goal

pub empty_lines-requires-clause-delays : goal.empty_lines-requires-clause-delays
empty_lines-requires-clause-delays c k d lt = let maximum = late-each c.args.taps.now k d lt in let whole = c.requires.lines in omega (arith, maximum, whole)

pub invariant_of-result : goal.invariant_of-result
invariant_of-result c =
    let a : EchoArguments = echo_with c.args.channels c.args.gain_in c.args.gain_out c.args.taps.now in
    rw (c.in_ok-lines.ensures, c.in_ok-taps.ensures, c.new.ensures) (IsEchos-new a c.requires.arguments c.requires.lines, suits-of a c.small_of-small.result c.small_of-small.ensures.sounds c.small_of-small.ensures.small)

pub returns : goal.returns
returns c =
    let a : EchoArguments = echo_with c.args.channels c.args.gain_in c.args.gain_out c.args.taps.now in
    rw (c.in_ok-lines.ensures, c.in_ok-taps.ensures, c.new.ensures)
    (record { recipe = refl; rest = λ z. through-all a z (λ i lt. All-get_or (λ e. 1 ≤ e.0) c.args.taps.now i (0, pos 0) lt c.requires.arguments.delays); counts = refl; dry = refl; stored = frames-none c.args.channels c.args.taps.now; state_counters = refl })
