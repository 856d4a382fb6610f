use Rattle.std.proofs.Common.{refl, ◌≡◌, ◌∙◌, inl, ⊎_elim, ℕ, arith, rules, subst}
use Rattle.soxchain_job.specs.Disk.{LeavesOnly}
use Rattle.soxchain_job.specs.Image.{Image}
use Rattle.soxchain_job.specs.Job.{IsRecoverable, IsSafe, OldOrComplete, target_of}
use Rattle.soxchain_job.proofs.Calls.{weaker}
use Rattle.soxchain_job.proofs.Sequences.{none_recoverable, safe_out, safe_recoverable, through_crash, through_run, through_start, through_weaker}
use Rattle.soxchain_job.proofs.crashes.run_with_crashes.Goals as goal

pub loop-init : goal.loop-init
loop-init g c =
    let safe : (i : Image) → g.D.Disk.model.may_leave c.args.disk.now i → IsRecoverable g.C.Conversion.model g.job i =
    λ i now. (let none = c.requires.1.1.1.1.1.1.1.none i now in none_recoverable g.C.Conversion.model g.job i c.requires.1.1.1.1.1.1.1.reached none.0 none.1) in
    record {
      content = refl;
      failures = omega arith;
      faults = omega arith;
      sound = λ i left. safe i (g.met.D.Disk.only_now c.args.disk.now i (subst (λ (t : ℕ). g.D.Disk.model.left_since c.args.disk.now t i) c.requires.1.1.1.1.1.1.1.begins left));
      through = through_start g.D.Disk.model (IsRecoverable g.C.Conversion.model g.job) g.met.D.Disk.only_now safe;
    }

pub returns-in_err-copy-clause-any_moment : goal.returns-in_err-copy-clause-any_moment
returns-in_err-copy-clause-any_moment g c =
    through_weaker (λ i. OldOrComplete (target_of g.C.Conversion.model g.job) i.out) c.loop.invariant.through (λ i h. safe_out g.C.Conversion.model g.job i (inl h))

pub run_once-interrupted-requires : goal.run_once-interrupted-requires
run_once-interrupted-requires g c κs within =
    let safe : (i : Image) → g.D.Disk.model.may_leave c.loop.disk i → IsRecoverable g.C.Conversion.model g.job i = λ i now. c.loop.invariant.sound i (g.met.D.Disk.counts_now c.loop.disk (g.D.Disk.model.began c.loop.disk) i (g.met.D.Disk.begun c.loop.disk) now) in
    let same : c.in_ok-copy.copy ≡ g.job.start = c.in_ok-copy.ensures.same ∙ c.requires.1.1.1.1.1.0 in
    search rules

pub loop-preserved : goal.loop-preserved
loop-preserved g c =
    let run : LeavesOnly g.D.Disk.model c.loop.disk c.run_once-interrupted.new.disk (IsRecoverable g.C.Conversion.model g.job) =
    weaker (c.run_once-interrupted.ensures.any_moment c.requires.1.1.1.1.0) (safe_recoverable g.C.Conversion.model g.job c.requires.1.1.1.1.1.1.1.reached) in
    let found : (i : Image) → g.D.Disk.model.left_since c.run_once-interrupted.new.disk (g.D.Disk.model.began c.run_once-interrupted.new.disk) i → IsRecoverable g.C.Conversion.model g.job i =
    λ i left. ⊎_elim (c.loop.invariant.sound i) (λ here. here)
    (run.before (g.D.Disk.model.began c.loop.disk) i (g.met.D.Disk.begun c.loop.disk) (subst (λ (t : ℕ). g.D.Disk.model.left_since c.run_once-interrupted.new.disk t i) run.same_run left)) in
    let safe : (i : Image) → g.D.Disk.model.may_leave c.crash.new.self i → IsRecoverable g.C.Conversion.model g.job i = λ i now. found i (c.crash.ensures.leaves c.requires.1.1.1.1.0.0 i now) in
    record {
      content = c.run_once-interrupted.ensures.reads.bound.bytes.content c.requires.1.1.1.1.0.1 ∙ c.loop.invariant.content;
      failures = omega (arith, c.loop.invariant.failures, c.run_once-interrupted.ensures.cause.failures);
      faults = omega (arith, c.loop.invariant.faults, c.run_once-interrupted.ensures.cause.faults, c.crash.ensures.faults);
      sound = λ i left. safe i (g.met.D.Disk.only_now c.crash.new.self i (subst (λ (t : ℕ). g.D.Disk.model.left_since c.crash.new.self t i) (c.crash.ensures.began c.requires.1.1.1.1.0.0) left));
      through = through_crash (through_run c.loop.invariant.through run) (c.crash.ensures.later c.requires.1.1.1.1.0.0) (c.crash.ensures.nothing_else c.requires.1.1.1.1.0.0) safe;
    }

pub returns-in_err-last-clause-any_moment : goal.returns-in_err-last-clause-any_moment
returns-in_err-last-clause-any_moment g c =
    through_weaker (λ i. OldOrComplete (target_of g.C.Conversion.model g.job) i.out) c.loop.invariant.through (λ i h. safe_out g.C.Conversion.model g.job i (inl h))

pub run_once-requires : goal.run_once-requires
run_once-requires g c κs within =
    let safe : (i : Image) → g.D.Disk.model.may_leave c.loop.disk i → IsRecoverable g.C.Conversion.model g.job i = λ i now. c.loop.invariant.sound i (g.met.D.Disk.counts_now c.loop.disk (g.D.Disk.model.began c.loop.disk) i (g.met.D.Disk.begun c.loop.disk) now) in
    let same : c.in_ok-last.last ≡ g.job.start = c.in_ok-last.ensures.same ∙ c.requires.1.1.1.1.1.0 in
    search rules

pub returns-in_err-run_once-clause-any_moment : goal.returns-in_err-run_once-clause-any_moment
returns-in_err-run_once-clause-any_moment g c =
    through_weaker (λ i. OldOrComplete (target_of g.C.Conversion.model g.job) i.out) (through_run c.loop.invariant.through (weaker {P = IsSafe g.C.Conversion.model g.job} {Q = IsRecoverable g.C.Conversion.model g.job} (c.run_once.ensures.any_moment c.requires.1.1.1.1.0) (safe_recoverable g.C.Conversion.model g.job c.requires.1.1.1.1.1.1.1.reached))) (λ i h. safe_out g.C.Conversion.model g.job i (inl h))

pub returns-clause-any_moment : goal.returns-clause-any_moment
returns-clause-any_moment g c =
    through_weaker (λ i. OldOrComplete (target_of g.C.Conversion.model g.job) i.out) (through_run c.loop.invariant.through (weaker {P = IsSafe g.C.Conversion.model g.job} {Q = IsRecoverable g.C.Conversion.model g.job} (c.run_once.ensures.any_moment c.requires.1.1.1.1.0) (safe_recoverable g.C.Conversion.model g.job c.requires.1.1.1.1.1.1.1.reached))) (λ i h. safe_out g.C.Conversion.model g.job i (inl h))
