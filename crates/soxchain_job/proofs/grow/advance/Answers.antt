use Rattle.std.proofs.Common.{◌≡◌, ◌∙◌, ◌+◌, ◌≤◌, ◌^◌, ◌++◌, [], length, rules, slice_range, drop, ℕ, List, Some, ap, sym, subst, arith}
use Rattle.std.proofs.lemmas.List.Folds.{drop_split}
use Rattle.soxchain_job.specs.Image.{Image, contents_of}
use Rattle.soxchain_job.specs.Conversion.{ConvertsPiece}
use Rattle.soxchain_job.specs.Job.{whole_output}
use Rattle.soxchain_job.specs.Known.{BothKnown}
use Rattle.soxchain_job.proofs.Growing.{advanced, longer_output}
use Rattle.soxchain_job.proofs.Leaving.{after_append}
use Rattle.soxchain_job.proofs.grow.advance.Goals as goal

pub returns-in_err-append-clause-any_moment : goal.returns-in_err-append-clause-any_moment
returns-in_err-append-clause-any_moment g c = λ k.
    after_append g.C.Conversion.model g.D.Disk.model g.job g.met.D.Disk.only_now (c.requires.1.1.1.0.safe k) (c.append.ensures.time k.0) (c.append.ensures.crash k.0)

pub returns-clause-live : goal.returns-clause-live
returns-clause-live g c = λ k.
    let taken = c.args.offsets.now.taken in
    let size = c.args.size in
    let piece : c.deref.result.now ≡ slice_range g.job.input taken (taken + size) =
    c.deref.ensures.value ∙ (c.in_ok-read.ensures.bytes k.1) ∙ ap (λ (l : List ℕ). l ++ slice_range (g.I.Input.model.content c.args.input.now) taken (taken + size)) c.clear.ensures.items
    ∙ ap (λ (l : List ℕ). slice_range l taken (taken + size)) (c.requires.1.1.1.0.input k.1) in
    let steps : ConvertsPiece g.C.Conversion.model.remaining c.args.conversion.now c.step.new.self c.deref.result.now [] c.step.new.output.items =
    subst (λ (r : List ℕ). ConvertsPiece g.C.Conversion.model.remaining c.args.conversion.now c.step.new.self c.deref.result.now r c.step.new.output.items) c.clear-2.ensures.items c.in_ok-step.ensures.converts in
    let part : (g.D.Disk.model.seen c.append.new.self).part ≡ Some (contents_of (g.D.Disk.model.seen c.args.disk.now).part ++ c.step.new.output.items) =
    ap (λ (i : Image). i.part) (c.in_ok-append.ensures.written k.0) ∙ ap (λ (l : List ℕ). Some (contents_of (g.D.Disk.model.seen c.args.disk.now).part ++ l)) c.deref-2.ensures.value in
    let within : taken + size ≤ length g.job.input = omega (arith, c.requires.1.1.1.1, g.met.I.Input.sized k.1 c.args.input.now, ap length (c.requires.1.1.1.0.input k.1)) in
    let written : c.in_ok-written.written ≡ c.args.offsets.now.written + length c.step.new.output.items = omega (arith, c.in_ok-written.ensures.sum, c.len.ensures) in
    advanced g.C.Conversion.model g.job c.args.conversion.now c.step.new.self taken size c.args.offsets.now.written c.in_ok-written.written
    c.deref.result.now c.step.new.output.items (g.D.Disk.model.seen c.args.disk.now) (g.D.Disk.model.seen c.append.new.self)
    (c.requires.1.1.1.0.live k) c.in_ok-step.ensures.plan steps piece within part written

pub returns-clause-any_moment : goal.returns-clause-any_moment
returns-clause-any_moment g c = λ k.
    after_append g.C.Conversion.model g.D.Disk.model g.job g.met.D.Disk.only_now (c.requires.1.1.1.0.safe k) (c.append.ensures.time k.0) (c.append.ensures.crash k.0)

pub returns-in_err-written-clause-cause : goal.returns-in_err-written-clause-cause
returns-in_err-written-clause-cause g c =
    let too_long : BothKnown g.D.Disk.model g.I.Input.model → 2 ^ 64 ≤ length (whole_output g.C.Conversion.model g.job) = λ k.
    let taken = c.args.offsets.now.taken in
    let size = c.args.size in
    let piece : c.deref.result.now ≡ slice_range g.job.input taken (taken + size) =
    c.deref.ensures.value ∙ (c.in_ok-read.ensures.bytes k.1) ∙ ap (λ (l : List ℕ). l ++ slice_range (g.I.Input.model.content c.args.input.now) taken (taken + size)) c.clear.ensures.items
    ∙ ap (λ (l : List ℕ). slice_range l taken (taken + size)) (c.requires.1.1.1.0.input k.1) in
    let steps : ConvertsPiece g.C.Conversion.model.remaining c.args.conversion.now c.step.new.self c.deref.result.now [] c.step.new.output.items =
    subst (λ (r : List ℕ). ConvertsPiece g.C.Conversion.model.remaining c.args.conversion.now c.step.new.self c.deref.result.now r c.step.new.output.items) c.clear-2.ensures.items c.in_ok-step.ensures.converts in
    let rest : List ℕ = drop (taken + size) g.job.input in
    let split : drop taken g.job.input ≡ c.deref.result.now ++ rest = drop_split g.job.input taken (taken + size) (omega arith) ∙ ap (λ (l : List ℕ). l ++ rest) (sym piece) in
    let long : 2 ^ 64 ≤ c.args.offsets.now.written + c.len.result = c.in_err-written.ensures.too_long in
    omega (
      arith,
      long,
      c.len.ensures,
      longer_output g.C.Conversion.model g.job c.args.conversion.now c.step.new.self taken c.args.offsets.now.written c.deref.result.now c.step.new.output.items (g.D.Disk.model.seen c.args.disk.now) rest (c.requires.1.1.1.0.live k) steps split,
    ) in
    record { readable = search rules; too_long = λ k is. too_long k; counts = search rules }
