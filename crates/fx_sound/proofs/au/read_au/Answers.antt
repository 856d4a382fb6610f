use Rattle.std.proofs.Common.{◌≡◌, ◌+◌, ◌-◌, ◌≤◌, length, take, drop, ap, ◌∙◌, arith, refl, Err, Some}
use Rattle.std.proofs.lemmas.List.{length-drop, length-take, drop-drop}
use Rattle.fx_sound.proofs.Faults.{IfErr-passed}
use Rattle.fx_sound.proofs.Held.{Tells-both, Takes-both}
use Rattle.fx_sound.proofs.AuLemmas.{after_snd-early, after_snd-short, after_snd-cut, after_snd-read, after_snd-read-cut, with_sound-short, with_sound-whole}
use Rattle.fx_sound.proofs.Standing.{stands-taken, stands-unread, stands-empty}
use Rattle.fx_sound.specs.Au.{after_snd}
use Rattle.fx_sound.proofs.au.read_au.Goals as goal

pub returns-in_default-clause-cut : goal.returns-in_default-clause-cut
returns-in_default-clause-cut g c = λ _.
    let short = c.in_default.ensures.failed.short in
    let twenty = c.fill.auto.out in
    record {
      came = short.came;
      tells = short.tells;
      undecided = λ bytes known. after_snd-cut bytes short.came (omega (arith, short.bound));
    }

pub returns-then-got-lt20-clause-fault : goal.returns-then-got-lt20-clause-fault
returns-then-got-lt20-clause-fault g c = λ _ bytes known.
    let twenty = c.fill.auto.out in
    let all : c.in-Ok.got ≡ length bytes = c.in-Ok.ensures.taken.all (omega arith) bytes known in
    after_snd-short bytes (omega arith)

pub returns-in_err-fields-clause-fault : goal.returns-in_err-fields-clause-fault
returns-in_err-fields-clause-fault g c = IfErr-passed c.from_residual.result _ _ c.from_residual.ensures.1 (λ _ bytes known.
    let twenty = c.fill.auto.out in
    let front = c.in-Ok.ensures.filled.known bytes known in
    let first = c.in-Ok.ensures.taken.bytes bytes known in
    let count = c.in-Ok.ensures.taken.count in
    after_snd-read bytes c.fill.new.out c.in-Ok.got _ front first.0 (omega arith) (omega arith) (omega arith) c.in_err-fields.ensures.value)

pub returns-in_default-skip-clause-cut : goal.returns-in_default-skip-clause-cut
returns-in_default-skip-clause-cut g c = λ _.
    let twenty = c.fill.auto.out in
    let count = c.in-Ok.ensures.taken.count in
    let short = c.in_default-skip.ensures.short in
    let offset = c.in_ok-fields.ensures.offset in
    record {
      came = c.in-Ok.got + short.came;
      tells = Tells-both g.R.ByteIn.reads.delivered _ _ _ c.in-Ok.got short.came c.in-Ok.ensures.taken.delivered short.tells;
      undecided = λ bytes known.
          let front = c.in-Ok.ensures.filled.known bytes known in
          let first = c.in-Ok.ensures.taken.bytes bytes known in
          after_snd-read-cut bytes c.fill.new.out c.in-Ok.got short.came _ front first.0 (omega arith) (omega arith) (omega arith) c.in_ok-fields.ensures.value
          ∙ with_sound-short (length (take (c.in-Ok.got + short.came) bytes)) c.in_ok-fields.fields (omega (arith, short.bound, offset.0, length-take (c.in-Ok.got + short.came) bytes));
    }

pub returns-then-skipped-between-clause-fault : goal.returns-then-skipped-between-clause-fault
returns-then-skipped-between-clause-fault g c = λ _ bytes known.
    let twenty = c.fill.auto.out in
    let front = c.in-Ok.ensures.filled.known bytes known in
    let first = c.in-Ok.ensures.taken.bytes bytes known in
    let count = c.in-Ok.ensures.taken.count in
    let offset = c.in_ok-fields.ensures.offset in
    let all : c.in-Ok-skip.skipped ≡ length (drop c.in-Ok.got bytes) = c.in-Ok-skip.ensures.taken.all (omega arith) _ first.1 in
    after_snd-read bytes c.fill.new.out c.in-Ok.got _ front first.0 (omega arith) (omega arith) (omega arith) c.in_ok-fields.ensures.value
    ∙ with_sound-short (length bytes) c.in_ok-fields.fields (omega (arith, all, offset.0, length-drop c.in-Ok.got bytes))

pub returns-clause-fields : goal.returns-clause-fields
returns-clause-fields g c = λ bytes known.
    let twenty = c.fill.auto.out in
    let front = c.in-Ok.ensures.filled.known bytes known in
    let first = c.in-Ok.ensures.taken.bytes bytes known in
    let then = c.in-Ok-skip.ensures.taken.bytes _ first.1 in
    let count = c.in-Ok.ensures.taken.count in
    let count-2 = c.in-Ok-skip.ensures.taken.count in
    let offset = c.in_ok-fields.ensures.offset in
    let place : c.in-Ok.got + c.in-Ok-skip.skipped ≡ c.in_ok-fields.fields.offset - 4 = omega (arith, offset.0) in
    let there : c.in_ok-fields.fields.offset - 4 ≤ length bytes = omega (arith, then.0, place, length-drop c.in-Ok.got bytes) in (
      after_snd-read bytes c.fill.new.out c.in-Ok.got _ front first.0 (omega arith) (omega arith) (omega arith) c.in_ok-fields.ensures.value
          ∙ with_sound-whole (length bytes) c.in_ok-fields.fields (omega (arith, there)),
      there,
      then.1 ∙ ap Some (drop-drop c.in-Ok-skip.skipped c.in-Ok.got bytes ∙ ap (λ i. drop i bytes) place),
    )

pub returns-in_default-clause-stands : goal.returns-in_default-clause-stands
returns-in_default-clause-stands g c = λ bytes known. stands-unread g.R.ByteIn.reads.rest g.R.ByteIn.reads.delivered _ _ _ _ bytes c.in_default.ensures.failed.untaken (c.in_default.ensures.failed.front bytes known)

pub returns-then-got-lt20-clause-stands : goal.returns-then-got-lt20-clause-stands
returns-then-got-lt20-clause-stands g c = λ bytes known.
    let first = c.in-Ok.ensures.taken.bytes bytes known in
    stands-taken g.R.ByteIn.reads.rest g.R.ByteIn.reads.delivered _ _ _ _ bytes _ c.in-Ok.got (omega arith) c.in-Ok.ensures.taken.delivered (λ k lt. after_snd-cut bytes k (omega arith)) first.0 first.1 (after_snd-cut bytes c.in-Ok.got (omega arith)) (λ _. let size = c.fill.auto.out in c.in-Ok.ensures.taken.all (omega arith) bytes known)

pub returns-in_err-fields-clause-stands : goal.returns-in_err-fields-clause-stands
returns-in_err-fields-clause-stands g c = IfErr-passed c.from_residual.result _ _ c.from_residual.ensures.1 (λ bytes known.
    let twenty = c.fill.auto.out in
    let front = c.in-Ok.ensures.filled.known bytes known in
    let first = c.in-Ok.ensures.taken.bytes bytes known in
    let count = c.in-Ok.ensures.taken.count in
    stands-taken g.R.ByteIn.reads.rest g.R.ByteIn.reads.delivered _ _ _ _ bytes _ c.in-Ok.got (omega arith) c.in-Ok.ensures.taken.delivered (λ k lt. after_snd-cut bytes k (omega arith)) first.0 first.1
    (ap (λ n. after_snd (take n bytes)) (let same : c.in-Ok.got ≡ c.in-Ok.got + 0 = omega arith in same)
    ∙ after_snd-read-cut bytes c.fill.new.out c.in-Ok.got 0 _ front first.0 (omega arith) (omega arith) (omega arith) c.in_err-fields.ensures.value) (λ cut. absurd (c.in_err-fields.ensures.enough (ap Err cut))))

pub returns-in_default-skip-clause-stands : goal.returns-in_default-skip-clause-stands
returns-in_default-skip-clause-stands g c = λ bytes known.
    let twenty = c.fill.auto.out in
    let count = c.in-Ok.ensures.taken.count in
    let short = c.in_default-skip.ensures.short in
    let offset = c.in_ok-fields.ensures.offset in
    stands-empty g.R.ByteIn.reads.rest g.R.ByteIn.reads.delivered _ _ _ _ bytes (c.in-Ok.got + short.came) (omega (arith, short.bound, offset.0, offset.1)) (Tells-both g.R.ByteIn.reads.delivered _ _ _ c.in-Ok.got short.came c.in-Ok.ensures.taken.delivered short.tells)
    (λ k lt.
    let front = c.in-Ok.ensures.filled.known bytes known in
    let first = c.in-Ok.ensures.taken.bytes bytes known in
    after_snd-early bytes c.fill.new.out c.in-Ok.got k c.in_ok-fields.fields front first.0 (omega arith) (omega arith) (omega arith) c.in_ok-fields.ensures.value (omega (arith, lt, short.bound, offset.0)))
    c.in_default-skip.ensures.none

pub returns-then-skipped-between-clause-stands : goal.returns-then-skipped-between-clause-stands
returns-then-skipped-between-clause-stands g c = λ bytes known.
    let twenty = c.fill.auto.out in
    let front = c.in-Ok.ensures.filled.known bytes known in
    let first = c.in-Ok.ensures.taken.bytes bytes known in
    let then = c.in-Ok-skip.ensures.taken.bytes _ first.1 in
    let count = c.in-Ok.ensures.taken.count in
    let offset = c.in_ok-fields.ensures.offset in
    stands-taken g.R.ByteIn.reads.rest g.R.ByteIn.reads.delivered _ _ _ _ bytes _ (c.in-Ok.got + c.in-Ok-skip.skipped) (omega (arith, offset.0, offset.1))
    (Takes-both g.R.ByteIn.reads.delivered _ _ c.skip.new.self c.in-Ok.got c.in-Ok-skip.skipped _ refl c.in-Ok.ensures.taken.delivered c.in-Ok-skip.ensures.taken.delivered)
    (λ k lt. after_snd-early bytes c.fill.new.out c.in-Ok.got k c.in_ok-fields.fields front first.0 (omega arith) (omega arith) (omega arith) c.in_ok-fields.ensures.value (omega (arith, lt, offset.0)))
    (omega (arith, then.0, first.0, length-drop c.in-Ok.got bytes)) (then.1 ∙ ap Some (drop-drop c.in-Ok-skip.skipped c.in-Ok.got bytes))
    (after_snd-early bytes c.fill.new.out c.in-Ok.got (c.in-Ok.got + c.in-Ok-skip.skipped) c.in_ok-fields.fields front first.0 (omega arith) (omega arith) (omega arith) c.in_ok-fields.ensures.value (omega (arith, offset.0)))
    (λ _. let all = c.in-Ok-skip.ensures.taken.all (omega arith) _ first.1 in omega (arith, all, first.0, length-drop c.in-Ok.got bytes))
