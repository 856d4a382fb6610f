use Rattle.std.proofs.Common.{◌≡◌, ◌+◌, ◌-◌, length, drop, ap, ◌∙◌, arith, take, Some}
use Rattle.std.proofs.lemmas.List.{length-drop, drop-drop}
use Rattle.fx_sound.specs.Head.{spelt_as, head_of}
use Rattle.fx_sound.proofs.Faults.{IfErr-passed}
use Rattle.fx_sound.proofs.Held.{Takes-both, Tells-both}
use Rattle.fx_sound.proofs.HeadLemmas.{head_of-short, head_of-cut, head_of-read, head_of-read-cut}
use Rattle.fx_sound.proofs.Standing.{stands-taken, stands-unread, stands-rest}
use Rattle.fx_sound.proofs.read.read_head.Goals as goal

pub returns-in_default-clause-read_failed : goal.returns-in_default-clause-read_failed
returns-in_default-clause-read_failed g c = λ _.
    let short = c.in_default.ensures.failed.short in
    let four = c.fill.auto.out in
    record {
      came = short.came;
      tells = short.tells;
      undecided = λ bytes known. head_of-cut c.args.expected bytes short.came (omega (arith, short.bound));
    }

pub returns-then-got-lt4-clause-fault : goal.returns-then-got-lt4-clause-fault
returns-then-got-lt4-clause-fault g c = λ _ bytes known.
    let four = c.fill.auto.out in
    let all : c.in-Ok.got ≡ length bytes = c.in-Ok.ensures.taken.all (omega arith) bytes known in
    head_of-short c.args.expected bytes (omega arith)

pub returns-in_default-found-clause-fault : goal.returns-in_default-found-clause-fault
returns-in_default-found-clause-fault g c = λ _ bytes known.
    let four = c.fill.auto.out in
    let front = c.in-Ok.ensures.filled.known bytes known in
    let first = c.in-Ok.ensures.taken.bytes bytes known in
    let count = c.in-Ok.ensures.taken.count in
    head_of-read c.args.expected bytes c.fill.new.out c.in-Ok.got _ front first.0 (omega arith) (omega arith) (omega arith) c.in_default-found.ensures

pub returns-in_err-fields-clause-fault : goal.returns-in_err-fields-clause-fault
returns-in_err-fields-clause-fault g c = IfErr-passed c.from_residual.result _ _ c.from_residual.ensures.1 (λ not_read bytes known.
    let four = c.fill.auto.out in
    let front = c.in-Ok.ensures.filled.known bytes known in
    let first = c.in-Ok.ensures.taken.bytes bytes known in
    let count = c.in-Ok.ensures.taken.count in
    head_of-read c.args.expected bytes c.fill.new.out c.in-Ok.got _ front first.0 (omega arith) (omega arith) (omega arith) c.in-Some.ensures
    ∙ ap (spelt_as c.in-Some.kind) (c.in_err-fields.ensures.fault not_read _ first.1))

pub returns-in_err-fields-clause-read_failed : goal.returns-in_err-fields-clause-read_failed
returns-in_err-fields-clause-read_failed g c = IfErr-passed c.from_residual.result _ _ c.from_residual.ensures.1 (λ is_read.
    let four = c.fill.auto.out in
    let count = c.in-Ok.ensures.taken.count in
    let cut = c.in_err-fields.ensures.cut is_read in
    record {
      came = c.in-Ok.got + cut.came;
      tells = Tells-both g.R.ByteIn.reads.delivered _ _ _ c.in-Ok.got cut.came c.in-Ok.ensures.taken.delivered cut.tells;
      undecided = λ bytes known.
          let front = c.in-Ok.ensures.filled.known bytes known in
          let first = c.in-Ok.ensures.taken.bytes bytes known in
          head_of-read-cut c.args.expected bytes c.fill.new.out c.in-Ok.got cut.came _ front first.0 (omega arith) (omega arith) (omega arith) c.in-Some.ensures
          ∙ ap (spelt_as c.in-Some.kind) (cut.undecided _ first.1);
    })

pub returns-clause-head : goal.returns-clause-head
returns-clause-head g c = λ bytes known.
    let four = c.fill.auto.out in
    let front = c.in-Ok.ensures.filled.known bytes known in
    let first = c.in-Ok.ensures.taken.bytes bytes known in
    let count = c.in-Ok.ensures.taken.count in
    let offset = c.in_ok-fields.ensures.offset in
    let then = c.in_ok-fields.ensures.fields _ first.1 in
    let place : c.in-Ok.got + (c.in_ok-fields.fields.offset - 4) ≡ c.in_ok-fields.fields.offset = omega (arith, offset.0) in
    record {
      offset = c.in_ok-fields.fields.offset;
      near = offset.1;
      spelt = head_of-read c.args.expected bytes c.fill.new.out c.in-Ok.got _ front first.0 (omega arith) (omega arith) (omega arith) c.in-Some.ensures
          ∙ ap (spelt_as c.in-Some.kind) then.0;
      there = omega (arith, then.1, first.0, place, length-drop c.in-Ok.got bytes);
      tells = Takes-both g.R.ByteIn.reads.delivered _ _ c.read_fields.new.source c.in-Ok.got (c.in_ok-fields.fields.offset - 4) c.in_ok-fields.fields.offset place c.in-Ok.ensures.taken.delivered c.in_ok-fields.ensures.delivered;
      others = then.2 ∙ ap Some (drop-drop (c.in_ok-fields.fields.offset - 4) c.in-Ok.got bytes ∙ ap (λ i. drop i bytes) place);
    }

pub returns-in_default-clause-stands : goal.returns-in_default-clause-stands
returns-in_default-clause-stands g c = λ bytes known. stands-unread g.R.ByteIn.reads.rest g.R.ByteIn.reads.delivered _ _ _ _ bytes c.in_default.ensures.failed.untaken (c.in_default.ensures.failed.front bytes known)

pub returns-then-got-lt4-clause-stands : goal.returns-then-got-lt4-clause-stands
returns-then-got-lt4-clause-stands g c = λ bytes known.
    let first = c.in-Ok.ensures.taken.bytes bytes known in
    stands-taken g.R.ByteIn.reads.rest g.R.ByteIn.reads.delivered _ _ _ _ bytes _ c.in-Ok.got (omega arith) c.in-Ok.ensures.taken.delivered (λ k lt. head_of-cut c.args.expected bytes k (omega arith)) first.0 first.1 (head_of-cut c.args.expected bytes c.in-Ok.got (omega arith)) (λ _. let size = c.fill.auto.out in c.in-Ok.ensures.taken.all (omega arith) bytes known)

pub returns-in_default-found-clause-stands : goal.returns-in_default-found-clause-stands
returns-in_default-found-clause-stands g c = λ bytes known.
    let four = c.fill.auto.out in
    let front = c.in-Ok.ensures.filled.known bytes known in
    let first = c.in-Ok.ensures.taken.bytes bytes known in
    let count = c.in-Ok.ensures.taken.count in
    stands-taken g.R.ByteIn.reads.rest g.R.ByteIn.reads.delivered _ _ _ _ bytes _ c.in-Ok.got (omega arith) c.in-Ok.ensures.taken.delivered (λ k lt. head_of-cut c.args.expected bytes k (omega arith)) first.0 first.1
    (ap (λ n. head_of c.args.expected (take n bytes)) (let same : c.in-Ok.got ≡ c.in-Ok.got + 0 = omega arith in same)
    ∙ head_of-read-cut c.args.expected bytes c.fill.new.out c.in-Ok.got 0 _ front first.0 (omega arith) (omega arith) (omega arith) c.in_default-found.ensures) (λ cut. absurd (cc))

pub returns-in_err-fields-clause-stands : goal.returns-in_err-fields-clause-stands
returns-in_err-fields-clause-stands g c = IfErr-passed c.from_residual.result _ _ c.from_residual.ensures.1 (λ bytes known.
    let four = c.fill.auto.out in
    let front = c.in-Ok.ensures.filled.known bytes known in
    let first = c.in-Ok.ensures.taken.bytes bytes known in
    let count = c.in-Ok.ensures.taken.count in
    stands-rest g.R.ByteIn.reads.rest g.R.ByteIn.reads.delivered _ _ _ _ _ _ _ bytes c.in-Ok.got _ first.0 (omega arith) c.in-Ok.ensures.taken.delivered
    (λ k lt. head_of-cut c.args.expected bytes k (omega arith))
    (λ k _ decided. head_of-read-cut c.args.expected bytes c.fill.new.out c.in-Ok.got k _ front first.0 (omega arith) (omega arith) (omega arith) c.in-Some.ensures
    ∙ ap (spelt_as c.in-Some.kind) decided)
    (c.in_err-fields.ensures.stands _ first.1))
