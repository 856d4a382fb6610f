use Rattle.std.proofs.Common.{◌≡◌, ◌≤◌, length, ap, ◌∙◌, arith, rules}
use Rattle.std.proofs.lemmas.Grind.{common_steps}
use Rattle.fx_sound.specs.FrameCoding.{coded_samples}
use Rattle.fx_sound.specs.Sound.{size_of}
use Rattle.fx_sound.proofs.Sounds.{TakesFrame-held}
use Rattle.fx_sound.proofs.progress.take_frame.Goals as goal

pub returns-clause-frame : goal.returns-clause-frame
returns-clause-frame g c =
    let size : c.progress.inside.size ≡ size_of c.args.progress.now = c.progress.invariant.2 ∙ ap size_of c.progress.view_is in
    let samples = c.decoded-frame.ensures.samples ∙ ap (λ p. coded_samples p.coding p.channels c.peek.result.now) c.progress.view_is in
    let there : c.progress.inside.size ≤ length c.args.source.now.bytes = omega arith in
    record {
      value = TakesFrame-held g.R.ReadBeside.reads.rest c.args.progress.now c.args.source.now c.args.source.now c.consume-2.new.self c.wanted.result c.progress.inside.size _ _
          (λ bytes known. known) size c.wanted.ensures.value (omega arith) there c.peek.ensures samples c.consume-2.ensures.bytes c.consume-2.ensures.reader;
      channels = first_of (search rules, grind (arith, common_steps));
      delivered = first_of (search rules, grind (arith, common_steps));
      counted = first_of (search rules, grind (arith, common_steps));
      begun = c.requires.begun;
      below = first_of (search rules, grind (arith, common_steps));
    }
