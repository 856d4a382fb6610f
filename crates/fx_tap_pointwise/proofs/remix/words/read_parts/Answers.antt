use Rattle.std.proofs.Common.{◌≡◌, ◌++◌, sym, ap, ◌∙◌, arith, rules, append_assoc}
use Rattle.std.specs.List.{slice_split}
use Rattle.std.proofs.lemmas.Grind.{common_steps}
use Rattle.fx_tap_pointwise.specs.InSpecs.{channels_from}
use Rattle.fx_tap_pointwise.specs.RemixWords.{contributions, is_comma, part_faults}
use Rattle.fx_tap_pointwise.proofs.RemixWords.{channels_join, channels_within}
use Rattle.fx_tap_pointwise.proofs.RemixParts.{part_faults-step, contributions-step}
use Rattle.fx_tap_pointwise.proofs.remix.words.read_parts.Goals as goal

pub loop-part-preserved : goal.loop-part-preserved
loop-part-preserved c =
    let part = c.in-Some.part.now in
    let parts = slice_split is_comma c.in-Some.rest.now in
    let found = c.in-Ok.found in
    let channels = c.args.channels in
    let cut = c.in-Some.ensures.parts in
    let read = c.in-Ok.ensures.value in
    let added : c.add_channels.new.sum.items ≡ c.loop-part.sum.items ++ channels_from found = grind (arith, common_steps) in
    record {
      faults = sym (part_faults-step channels c.args.number part parts found read) ∙ ap (part_faults channels c.args.number) (sym cut) ∙ c.loop-part.invariant.faults;
      values =
          ap (λ xs. xs ++ contributions channels parts) added
          ∙ append_assoc c.loop-part.sum.items (channels_from found) (contributions channels parts)
          ∙ ap (λ xs. c.loop-part.sum.items ++ xs) (sym (contributions-step channels part parts found read) ∙ ap (contributions channels) (sym cut))
          ∙ c.loop-part.invariant.values;
      there = channels_join channels c.loop-part.sum.items (channels_from found) c.add_channels.new.sum.items added c.loop-part.invariant.there
          (channels_within channels found c.in-Ok.ensures.counted c.in-Ok.ensures.order c.in-Ok.ensures.range);
      utf8 = search rules;
    }

pub returns-clause-there : goal.returns-clause-there
returns-clause-there c =
    let found = c.in-Ok-read_in_spec.found in
    let sum = c.loop-part.sum.items in
    let channels = c.args.channels in
    let added : c.add_channels-2.new.sum.items ≡ sum ++ channels_from found = grind (arith, common_steps) in
    let within = c.in-Ok-read_in_spec.ensures in
    channels_join channels sum (channels_from found) c.add_channels-2.new.sum.items added c.loop-part.invariant.there
    (channels_within channels found within.counted within.order within.range)
