use Rattle.std.proofs.Common.{◌≡◌, ◌∙◌, ◌++◌, [], ℕ, List, Some, ap}
use Rattle.soxchain_job.specs.Image.{Image, contents_of}
use Rattle.soxchain_job.proofs.Ending.{all_written}
use Rattle.soxchain_job.proofs.Leaving.{after_append}
use Rattle.soxchain_job.proofs.Calls.{then_synced}
use Rattle.soxchain_job.proofs.run.write_rest.Goals as goal

pub returns-in_err-append-clause-any_moment : goal.returns-in_err-append-clause-any_moment
returns-in_err-append-clause-any_moment g c = λ k.
    after_append g.C.Conversion.model g.D.Disk.model g.job g.met.D.Disk.only_now (c.requires.1.1.1.0 k) (c.append.ensures.time k.0) (c.append.ensures.crash k.0)

pub returns-in_err-sync-clause-any_moment : goal.returns-in_err-sync-clause-any_moment
returns-in_err-sync-clause-any_moment g c = λ k.
    then_synced g.D.Disk.model g.met.D.Disk.counts_now (after_append g.C.Conversion.model g.D.Disk.model g.job g.met.D.Disk.only_now (c.requires.1.1.1.0 k) (c.append.ensures.time k.0) (c.append.ensures.crash k.0))
    (c.sync.ensures.time k.0) (c.sync.ensures.crash k.0)

pub returns-clause-complete : goal.returns-clause-complete
returns-clause-complete g c = λ k.
    let rest : c.finish.new.output.items ≡ g.C.Conversion.model.remaining c.args.conversion.now [] = c.in_ok-finish.ensures.rest ∙ ap (λ (l : List ℕ). l ++ g.C.Conversion.model.remaining c.args.conversion.now []) c.clear.ensures.items in
    let part : (g.D.Disk.model.seen c.append.new.self).part ≡ Some (contents_of (g.D.Disk.model.seen c.args.disk.now).part ++ c.finish.new.output.items) =
    ap (λ (i : Image). i.part) (c.in_ok-append.ensures.written k.0) ∙ ap (λ (l : List ℕ). Some (contents_of (g.D.Disk.model.seen c.args.disk.now).part ++ l)) c.deref.ensures.value in
    λ i now. c.in_ok-sync.ensures.durable k.0 i now
    ∙ all_written g.C.Conversion.model g.job c.args.conversion.now (c.requires.1.1.1.1 k).0 (g.D.Disk.model.seen c.args.disk.now) (g.D.Disk.model.seen c.append.new.self) c.finish.new.output.items (c.requires.1.1.1.1 k).1 rest part

pub returns-clause-any_moment : goal.returns-clause-any_moment
returns-clause-any_moment g c = λ k.
    then_synced g.D.Disk.model g.met.D.Disk.counts_now (after_append g.C.Conversion.model g.D.Disk.model g.job g.met.D.Disk.only_now (c.requires.1.1.1.0 k) (c.append.ensures.time k.0) (c.append.ensures.crash k.0))
    (c.sync.ensures.time k.0) (c.sync.ensures.crash k.0)
