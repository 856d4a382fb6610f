use Rattle.std.proofs.Common.{◌+◌, ◌/◌, ◌≤◌, length, refl, arith}
use Rattle.std.proofs.Math.Nat.{div-mul-le_self, mul-le-mul_right}
use Rattle.soxchain_job_chain.proofs.Passing.{Passes-block}
use Rattle.soxchain_job_chain.proofs.coded_chain.CodedChain.feed.Goals as goal

pub slice_bounds-block-end : goal.slice_bounds-block-end
slice_bounds-block-end c =
    let size = c.frame_size-size.result in
    let some : c.blocks-2.done + c.min-count.result ≤ length c.args.bytes.now / size = omega arith in
    omega (arith, mul-le-mul_right size some, div-mul-le_self (length c.args.bytes.now) size)

pub blocks-2-preserved : goal.blocks-2-preserved
blocks-2-preserved c =
    let size = c.frame_size-size.result in
    let some : c.blocks-2.done + c.min-count.result ≤ length c.args.bytes.now / size = omega arith in
    record {
      within = some;
      passes = Passes-block c.args.self.now c.blocks-2.self c.pass_block.new.self c.blocks-2.done c.min-count.result size c.args.bytes.now _ c.args.output.now.items c.blocks-2.output.items c.pass_block.new.output.items
          c.frame_size-size.ensures.value (omega (arith, mul-le-mul_right size some, div-mul-le_self (length c.args.bytes.now) size)) refl c.requires.running c.blocks-2.invariant.passes c.in_ok-pass_block.ensures.passes;
    }
