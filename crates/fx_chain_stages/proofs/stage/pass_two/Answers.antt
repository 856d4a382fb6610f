-- What two stages that round each sample alone passed on, the stages of any effects passed on.
use Rattle.std.proofs.Common.{◌≡◌, ap, refl, sym}
use Rattle.fx_frame_base.specs.Lists.{pieces}
use Rattle.fx_chain_stages.proofs.Joining.{through}
use Rattle.fx_chain_stages.proofs.Registered.{dcshift-joins, vol-joins}
use Rattle.fx_chain_stages.proofs.stage.pass_two.Goals as goal

pub returns-in-Vol-second-clause-through : goal.returns-in-Vol-second-clause-through
returns-in-Vol-second-clause-through c =
    let went = c.pass_both.ensures.through in
    let width : c.in-Vol-second.second.mapping.channels ≡ c.in-Vol.first.mapping.channels = rw (c.in-Vol.is, c.in-Vol-second.is) at c.requires.channels in
    let size : pieces c.in-Vol.first.mapping.channels c.args.count c.pass_both.new.output ≡ pieces c.in-Vol-second.second.mapping.channels c.args.count c.pass_both.new.output = ap (λ n. pieces n c.args.count c.pass_both.new.output) (sym width) in
    rw (c.in-Vol.is, c.in-Vol-second.is) (went.0, through vol-joins _ _ _ _ _ _ refl refl went.1, rw size at (through vol-joins _ _ _ _ _ _ refl refl went.2))

pub returns-in-DcShift-second-clause-through : goal.returns-in-DcShift-second-clause-through
returns-in-DcShift-second-clause-through c =
    let went = c.pass_both-in-DcShift-second.ensures.through in
    let width : c.in-DcShift-second.second.mapping.channels ≡ c.in-Vol.first.mapping.channels = rw (c.in-Vol.is, c.in-DcShift-second.is) at c.requires.channels in
    let size : pieces c.in-Vol.first.mapping.channels c.args.count c.pass_both-in-DcShift-second.new.output ≡ pieces c.in-DcShift-second.second.mapping.channels c.args.count c.pass_both-in-DcShift-second.new.output = ap (λ n. pieces n c.args.count c.pass_both-in-DcShift-second.new.output) (sym width) in
    rw (c.in-Vol.is, c.in-DcShift-second.is) (went.0, through vol-joins _ _ _ _ _ _ refl refl went.1, rw size at (through dcshift-joins _ _ _ _ _ _ refl refl went.2))

pub returns-in-Vol-second-2-clause-through : goal.returns-in-Vol-second-2-clause-through
returns-in-Vol-second-2-clause-through c =
    let went = c.pass_both-in-Vol-second-2.ensures.through in
    let width : c.in-Vol-second-2.second.mapping.channels ≡ c.in-DcShift.first.mapping.channels = rw (c.in-DcShift.is, c.in-Vol-second-2.is) at c.requires.channels in
    let size : pieces c.in-DcShift.first.mapping.channels c.args.count c.pass_both-in-Vol-second-2.new.output ≡ pieces c.in-Vol-second-2.second.mapping.channels c.args.count c.pass_both-in-Vol-second-2.new.output = ap (λ n. pieces n c.args.count c.pass_both-in-Vol-second-2.new.output) (sym width) in
    rw (c.in-DcShift.is, c.in-Vol-second-2.is) (went.0, through dcshift-joins _ _ _ _ _ _ refl refl went.1, rw size at (through vol-joins _ _ _ _ _ _ refl refl went.2))

pub returns-in-DcShift-second-2-clause-through : goal.returns-in-DcShift-second-2-clause-through
returns-in-DcShift-second-2-clause-through c =
    let went = c.pass_both-in-DcShift-second-2.ensures.through in
    let width : c.in-DcShift-second-2.second.mapping.channels ≡ c.in-DcShift.first.mapping.channels = rw (c.in-DcShift.is, c.in-DcShift-second-2.is) at c.requires.channels in
    let size : pieces c.in-DcShift.first.mapping.channels c.args.count c.pass_both-in-DcShift-second-2.new.output ≡ pieces c.in-DcShift-second-2.second.mapping.channels c.args.count c.pass_both-in-DcShift-second-2.new.output = ap (λ n. pieces n c.args.count c.pass_both-in-DcShift-second-2.new.output) (sym width) in
    rw (c.in-DcShift.is, c.in-DcShift-second-2.is) (went.0, through dcshift-joins _ _ _ _ _ _ refl refl went.1, rw size at (through dcshift-joins _ _ _ _ _ _ refl refl went.2))
