use Rattle.std.proofs.Common.{rules, ◌≡◌, ◌++◌, refl, arith, option_to_list}
use Rattle.std.proofs.lemmas.List.{length-append}
use Rattle.fx_chain_flow.specs.Frozen.{inlet_numbers, stored_all, numbers_all}
use Rattle.fx_chain_flow.proofs.Thawing.{length-stored, length-numbers}
use Rattle.fx_chain_flow.proofs.flow.Flow.freeze.Goals as goal

pub returns-clause-frames : goal.returns-clause-frames
returns-clause-frames g c =
    let s : c.append_frames.new.out.items ≡ option_to_list c.args.self.now.inlet ++ stored_all g.S.Stage.acts c.args.self.now.stages = search rules in
    rw (s, length-append, length-stored) refl

pub returns-clause-numbers : goal.returns-clause-numbers
returns-clause-numbers g c =
    let s : c.append_numbers.new.out.items ≡ inlet_numbers c.args.self.now.left c.args.self.now.inlet c.args.self.now.ended ++ numbers_all g.S.Stage.acts c.args.self.now.stages = search rules in
    let n = length-numbers g.S.Stage.acts c.args.self.now.stages in
    rw s (omega arith)
