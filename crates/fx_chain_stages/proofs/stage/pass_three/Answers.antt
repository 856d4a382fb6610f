-- What went through a `remix` between two stages that round each sample alone, went through the stages of any effects.
use Rattle.std.proofs.Common.{◌≡◌, ◌*◌, ℕ, ℤ, [], List, FitsSigned, length, take, ap, refl, sym, arith}
use Rattle.std.specs.Int.{w32}
use Rattle.std.specs.List.{All}
use Rattle.std.proofs.lemmas.List.Elements.{All-nil}
use Rattle.fx_frame_base.specs.Lists.{pieces}
use Rattle.fx_chain_stages.proofs.Joining.{through}
use Rattle.fx_chain_stages.proofs.Registered.{dcshift-joins, remix-joins, vol-joins}
use Rattle.fx_chain_stages.proofs.stage.pass_three.Goals as goal

no-samples : (size : ℕ) (input : List ℤ) → All (FitsSigned w32) (take (0 * size) input)
no-samples size input = let none : 0 * size ≡ 0 = omega arith in rw none (All-nil (FitsSigned w32))

pub returns-in_default : goal.returns-in_default
returns-in_default c = record { bound = omega arith; frame = λ some. absurd (omega (arith, some)); samples = no-samples _ _; through = ([], [], refl, refl, refl); rest_unchanged = refl }

pub returns-in_default-last : goal.returns-in_default-last
returns-in_default-last c = record { bound = omega arith; frame = λ some. absurd (omega (arith, some)); samples = no-samples _ _; through = ([], [], sym c.in-Vol.is, sym c.in-Remix.is, refl); rest_unchanged = refl }

pub returns-in_default-last-2 : goal.returns-in_default-last-2
returns-in_default-last-2 c = record { bound = omega arith; frame = λ some. absurd (omega (arith, some)); samples = no-samples _ _; through = ([], [], sym c.in-DcShift.is, sym c.in-Remix.is, refl); rest_unchanged = refl }

pub returns-in_default-first : goal.returns-in_default-first
returns-in_default-first c = record { bound = omega arith; frame = λ some. absurd (omega (arith, some)); samples = no-samples _ _; through = ([], [], refl, sym c.in-Remix.is, refl); rest_unchanged = refl }

pub returns-in-Vol-last-clause-through : goal.returns-in-Vol-last-clause-through
returns-in-Vol-last-clause-through c =
    let went = c.pass_around.ensures.through in
    let width : c.in-Vol-last.last.mapping.channels ≡ length c.in-Remix.middle.mapping.outs = rw (c.in-Remix.is, c.in-Vol-last.is) at c.requires.last_channels in
    let size : pieces (length c.in-Remix.middle.mapping.outs) c.args.count c.pass_around.new.output ≡ pieces c.in-Vol-last.last.mapping.channels c.args.count c.pass_around.new.output = ap (λ n. pieces n c.args.count c.pass_around.new.output) (sym width) in
    rw (c.in-Vol.is, c.in-Remix.is, c.in-Vol-last.is) (went.0, went.1, through vol-joins _ _ _ _ _ _ refl refl went.2, through remix-joins _ _ _ _ _ _ refl refl went.3, rw size at (through vol-joins _ _ _ _ _ _ refl refl went.4))

pub returns-in-DcShift-last-clause-through : goal.returns-in-DcShift-last-clause-through
returns-in-DcShift-last-clause-through c =
    let went = c.pass_around-in-DcShift-last.ensures.through in
    let width : c.in-DcShift-last.last.mapping.channels ≡ length c.in-Remix.middle.mapping.outs = rw (c.in-Remix.is, c.in-DcShift-last.is) at c.requires.last_channels in
    let size : pieces (length c.in-Remix.middle.mapping.outs) c.args.count c.pass_around-in-DcShift-last.new.output ≡ pieces c.in-DcShift-last.last.mapping.channels c.args.count c.pass_around-in-DcShift-last.new.output = ap (λ n. pieces n c.args.count c.pass_around-in-DcShift-last.new.output) (sym width) in
    rw (c.in-Vol.is, c.in-Remix.is, c.in-DcShift-last.is) (went.0, went.1, through vol-joins _ _ _ _ _ _ refl refl went.2, through remix-joins _ _ _ _ _ _ refl refl went.3, rw size at (through dcshift-joins _ _ _ _ _ _ refl refl went.4))

pub returns-in-Vol-last-2-clause-through : goal.returns-in-Vol-last-2-clause-through
returns-in-Vol-last-2-clause-through c =
    let went = c.pass_around-in-Vol-last-2.ensures.through in
    let width : c.in-Vol-last-2.last.mapping.channels ≡ length c.in-Remix.middle.mapping.outs = rw (c.in-Remix.is, c.in-Vol-last-2.is) at c.requires.last_channels in
    let size : pieces (length c.in-Remix.middle.mapping.outs) c.args.count c.pass_around-in-Vol-last-2.new.output ≡ pieces c.in-Vol-last-2.last.mapping.channels c.args.count c.pass_around-in-Vol-last-2.new.output = ap (λ n. pieces n c.args.count c.pass_around-in-Vol-last-2.new.output) (sym width) in
    rw (c.in-DcShift.is, c.in-Remix.is, c.in-Vol-last-2.is) (went.0, went.1, through dcshift-joins _ _ _ _ _ _ refl refl went.2, through remix-joins _ _ _ _ _ _ refl refl went.3, rw size at (through vol-joins _ _ _ _ _ _ refl refl went.4))

pub returns-in-DcShift-last-2-clause-through : goal.returns-in-DcShift-last-2-clause-through
returns-in-DcShift-last-2-clause-through c =
    let went = c.pass_around-in-DcShift-last-2.ensures.through in
    let width : c.in-DcShift-last-2.last.mapping.channels ≡ length c.in-Remix.middle.mapping.outs = rw (c.in-Remix.is, c.in-DcShift-last-2.is) at c.requires.last_channels in
    let size : pieces (length c.in-Remix.middle.mapping.outs) c.args.count c.pass_around-in-DcShift-last-2.new.output ≡ pieces c.in-DcShift-last-2.last.mapping.channels c.args.count c.pass_around-in-DcShift-last-2.new.output = ap (λ n. pieces n c.args.count c.pass_around-in-DcShift-last-2.new.output) (sym width) in
    rw (c.in-DcShift.is, c.in-Remix.is, c.in-DcShift-last-2.is) (went.0, went.1, through dcshift-joins _ _ _ _ _ _ refl refl went.2, through remix-joins _ _ _ _ _ _ refl refl went.3, rw size at (through dcshift-joins _ _ _ _ _ _ refl refl went.4))
