use Rattle.std.proofs.Common.{◌∙◌, ◌≡◌, ℕ, length, ap, subst, arith, rules}
use Rattle.soxchain_job.specs.Image.{Image}
use Rattle.soxchain_job.specs.Known.{BothKnown}
use Rattle.soxchain_job.specs.Job.{IsGrowing, IsLive}
use Rattle.soxchain_job.proofs.Calls.{joined, now_of}
use Rattle.soxchain_job.proofs.Pieces.{more_converted, none_converted}
use Rattle.soxchain_job.proofs.run.convert_rest.Goals as goal

pub loop-offsets-init : goal.loop-offsets-init
loop-offsets-init g c =
    none_converted g.C.Conversion.model g.D.Disk.model g.I.Input.model g.job g.met.D.Disk.only_now c.requires.1.1.1.1

pub convert_to_checkpoint-requires : goal.convert_to_checkpoint-requires
convert_to_checkpoint-requires g c κs within =
    let live = c.loop-offsets.invariant.live in
    let content : g.I.Input.model.known → g.I.Input.model.content c.loop-offsets.input ≡ g.job.input = λ k. c.loop-offsets.invariant.bound.bytes.content k ∙ c.requires.1.1.1.1.input k in
    let here : BothKnown g.D.Disk.model g.I.Input.model → (i : Image) → g.D.Disk.model.may_leave c.loop-offsets.disk i → IsGrowing g.C.Conversion.model g.job i = λ k.
    now_of g.D.Disk.model g.met.D.Disk.counts_now (c.loop-offsets.invariant.run k) in
    search rules

pub returns-in_err-convert_to_checkpoint-clause-any_moment : goal.returns-in_err-convert_to_checkpoint-clause-any_moment
returns-in_err-convert_to_checkpoint-clause-any_moment g c = λ k.
    joined (c.loop-offsets.invariant.run k) (c.convert_to_checkpoint.ensures.any_moment k)

pub loop-offsets-smaller : goal.loop-offsets-smaller
loop-offsets-smaller g c =
    omega (arith, c.convert_to_checkpoint.ensures.reads.bound.bytes.size, c.in_ok-convert_to_checkpoint.ensures.advances (omega arith))

pub loop-offsets-preserved : goal.loop-offsets-preserved
loop-offsets-preserved g c =
    let more = c.in_ok-convert_to_checkpoint.ensures in
    more_converted g.C.Conversion.model g.D.Disk.model g.I.Input.model g.job c.loop-offsets.invariant (omega arith) more.live more.cause more.reads more.any_moment

pub returns-clause-live : goal.returns-clause-live
returns-clause-live g c = λ k.
    let live = c.loop-offsets.invariant.live k in
    let size : g.I.Input.model.size c.loop-offsets.input ≡ length g.job.input = g.met.I.Input.sized k.1 c.loop-offsets.input ∙ ap length (c.loop-offsets.invariant.bound.bytes.content k.1 ∙ c.requires.1.1.1.1.input k.1) in
    let all : c.loop-offsets.offsets.taken ≡ length g.job.input = omega (arith, size, live.within) in
    (c.loop-offsets.offsets.written, subst (λ (n : ℕ). IsLive g.C.Conversion.model g.job c.loop-offsets.conversion n c.loop-offsets.offsets.written (g.D.Disk.model.seen c.loop-offsets.disk)) all live)

pub returns-clause-any_moment : goal.returns-clause-any_moment
returns-clause-any_moment g c = λ k.
    c.loop-offsets.invariant.run k
