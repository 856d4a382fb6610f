use Rattle.std.proofs.Common.{◌≡◌, ◌+◌, ◌-◌, length, drop, ap, ◌∙◌, arith, take, Err, Some}
use Rattle.std.proofs.lemmas.List.{length-drop, drop-drop}
use Rattle.std.proofs.lemmas.Result.{IfErr-weaker}
use Rattle.fx_sound.specs.Wave.{end_of, step_of}
use Rattle.fx_sound.proofs.Faults.{IfErr-passed, IfOk-both}
use Rattle.fx_sound.proofs.Held.{Tells-both}
use Rattle.fx_sound.proofs.WaveLemmas.{step_of-short, step_of-cut, step_of-asked, step_of-asked-cut, GoesOn-far}
use Rattle.fx_sound.proofs.Standing.{stands-taken, stands-unread, stands-rest}
use Rattle.fx_sound.proofs.wave.read_step.Goals as goal

pub returns-in_default-clause-cut : goal.returns-in_default-clause-cut
returns-in_default-clause-cut g c = λ _.
    let short = c.in_default.ensures.failed.short in
    let eight = c.fill.auto.out in
    record {
      came = short.came;
      tells = short.tells;
      undecided = λ bytes known. step_of-cut c.args.offset c.args.seen bytes short.came (omega (arith, short.bound));
    }

pub returns-then-got-lt8-clause-fault : goal.returns-then-got-lt8-clause-fault
returns-then-got-lt8-clause-fault g c = λ _ bytes known.
    let eight = c.fill.auto.out in
    let all : c.in-Ok.got ≡ length bytes = c.in-Ok.ensures.taken.all (omega arith) bytes known in
    step_of-short c.args.offset c.args.seen bytes (omega arith)

pub returns-in_err-demand-clause-fault : goal.returns-in_err-demand-clause-fault
returns-in_err-demand-clause-fault g c = IfErr-passed c.from_residual.result _ _ c.from_residual.ensures.1 (λ _ bytes known.
    let eight = c.fill.auto.out in
    let front = c.in-Ok.ensures.filled.known bytes known in
    let first = c.in-Ok.ensures.taken.bytes bytes known in
    let count = c.in-Ok.ensures.taken.count in
    step_of-asked c.args.offset c.args.seen bytes c.fill.new.out c.name_at-name.result c.in-Ok.got c.long-size.result _
    front first.0 (omega arith) (omega arith) (omega arith) c.name_at-name.ensures c.long-size.ensures c.in_err-demand.ensures.value)

pub returns-clause-step : goal.returns-clause-step
returns-clause-step g c = IfOk-both c.read_body.result _ _ _ c.read_body.ensures.on c.read_body.ensures.step (λ step goes reads bytes known.
    let eight = c.fill.auto.out in
    let front = c.in-Ok.ensures.filled.known bytes known in
    let first = c.in-Ok.ensures.taken.bytes bytes known in
    let count = c.in-Ok.ensures.taken.count in
    let body = reads _ first.1 in
    let on = GoesOn-far c.args.offset step goes in
    let all : c.in-Ok.got + (end_of step - (c.args.offset + 8)) ≡ end_of step - c.args.offset = omega arith in (
      step_of-asked c.args.offset c.args.seen bytes c.fill.new.out c.name_at-name.result c.in-Ok.got c.long-size.result _
          front first.0 (omega arith) (omega arith) (omega arith) c.name_at-name.ensures c.long-size.ensures c.in_ok-demand.ensures.value ∙ body.0,
      omega (arith, body.1, length-drop c.in-Ok.got bytes),
      body.2 ∙ ap Some (drop-drop (end_of step - (c.args.offset + 8)) c.in-Ok.got bytes ∙ ap (λ i. drop i bytes) all),
    ))

pub returns-clause-fault : goal.returns-clause-fault
returns-clause-fault g c = IfErr-weaker c.read_body.result _ _ (λ fault refuses not_read bytes known.
    let eight = c.fill.auto.out in
    let front = c.in-Ok.ensures.filled.known bytes known in
    let first = c.in-Ok.ensures.taken.bytes bytes known in
    let count = c.in-Ok.ensures.taken.count in
    step_of-asked c.args.offset c.args.seen bytes c.fill.new.out c.name_at-name.result c.in-Ok.got c.long-size.result _
    front first.0 (omega arith) (omega arith) (omega arith) c.name_at-name.ensures c.long-size.ensures c.in_ok-demand.ensures.value
    ∙ refuses not_read _ first.1) c.read_body.ensures.fault

pub returns-clause-cut : goal.returns-clause-cut
returns-clause-cut g c = IfErr-weaker c.read_body.result _ _ (λ fault fails is_read.
    let eight = c.fill.auto.out in
    let count = c.in-Ok.ensures.taken.count in
    let cut = fails is_read in
    record {
      came = c.in-Ok.got + cut.came;
      tells = Tells-both g.R.ByteIn.reads.delivered _ _ _ c.in-Ok.got cut.came c.in-Ok.ensures.taken.delivered cut.tells;
      undecided = λ bytes known.
          let front = c.in-Ok.ensures.filled.known bytes known in
          let first = c.in-Ok.ensures.taken.bytes bytes known in
          step_of-asked-cut c.args.offset c.args.seen bytes c.fill.new.out c.name_at-name.result c.in-Ok.got c.long-size.result cut.came _
          front first.0 (omega arith) (omega arith) (omega arith) c.name_at-name.ensures c.long-size.ensures c.in_ok-demand.ensures.value
          ∙ cut.undecided _ first.1;
    }) c.read_body.ensures.cut

pub returns-in_default-clause-stands : goal.returns-in_default-clause-stands
returns-in_default-clause-stands g c = λ bytes known. stands-unread g.R.ByteIn.reads.rest g.R.ByteIn.reads.delivered _ _ _ _ bytes c.in_default.ensures.failed.untaken (c.in_default.ensures.failed.front bytes known)

pub returns-then-got-lt8-clause-stands : goal.returns-then-got-lt8-clause-stands
returns-then-got-lt8-clause-stands g c = λ bytes known.
    let first = c.in-Ok.ensures.taken.bytes bytes known in
    stands-taken g.R.ByteIn.reads.rest g.R.ByteIn.reads.delivered _ _ _ _ bytes _ c.in-Ok.got (omega arith) c.in-Ok.ensures.taken.delivered (λ k lt. step_of-cut c.args.offset c.args.seen bytes k (omega arith)) first.0 first.1 (step_of-cut c.args.offset c.args.seen bytes c.in-Ok.got (omega arith)) (λ _. let size = c.fill.auto.out in c.in-Ok.ensures.taken.all (omega arith) bytes known)

pub returns-in_err-demand-clause-stands : goal.returns-in_err-demand-clause-stands
returns-in_err-demand-clause-stands g c = IfErr-passed c.from_residual.result _ _ c.from_residual.ensures.1 (λ bytes known.
    let eight = c.fill.auto.out in
    let front = c.in-Ok.ensures.filled.known bytes known in
    let first = c.in-Ok.ensures.taken.bytes bytes known in
    let count = c.in-Ok.ensures.taken.count in
    stands-taken g.R.ByteIn.reads.rest g.R.ByteIn.reads.delivered _ _ _ _ bytes _ c.in-Ok.got (omega arith) c.in-Ok.ensures.taken.delivered (λ k lt. step_of-cut c.args.offset c.args.seen bytes k (omega arith)) first.0 first.1
    (ap (λ n. step_of c.args.offset c.args.seen (take n bytes)) (let same : c.in-Ok.got ≡ c.in-Ok.got + 0 = omega arith in same)
    ∙ step_of-asked-cut c.args.offset c.args.seen bytes c.fill.new.out c.name_at-name.result c.in-Ok.got c.long-size.result 0 _
    front first.0 (omega arith) (omega arith) (omega arith) c.name_at-name.ensures c.long-size.ensures c.in_err-demand.ensures.value) (λ cut. absurd (c.in_err-demand.ensures.enough (ap Err cut))))

pub returns-clause-stands : goal.returns-clause-stands
returns-clause-stands g c = IfErr-weaker c.read_body.result _ _ (λ fault stands bytes known.
    let eight = c.fill.auto.out in
    let front = c.in-Ok.ensures.filled.known bytes known in
    let first = c.in-Ok.ensures.taken.bytes bytes known in
    let count = c.in-Ok.ensures.taken.count in
    stands-rest g.R.ByteIn.reads.rest g.R.ByteIn.reads.delivered _ _ _ _ _ _ _ bytes c.in-Ok.got fault first.0 (omega arith) c.in-Ok.ensures.taken.delivered
    (λ k lt. step_of-cut c.args.offset c.args.seen bytes k (omega arith))
    (λ k _ decided. step_of-asked-cut c.args.offset c.args.seen bytes c.fill.new.out c.name_at-name.result c.in-Ok.got c.long-size.result k _
    front first.0 (omega arith) (omega arith) (omega arith) c.name_at-name.ensures c.long-size.ensures c.in_ok-demand.ensures.value ∙ decided)
    (stands _ first.1)) c.read_body.ensures.stands
