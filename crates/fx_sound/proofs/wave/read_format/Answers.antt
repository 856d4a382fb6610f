use Rattle.std.proofs.Common.{◌≡◌, ◌+◌, ◌≤◌, length, drop, sym, ap, ◌∙◌, arith, refl, Err, Some}
use Rattle.std.proofs.lemmas.List.{length-drop, drop-drop, length-take-le}
use Rattle.fx_sound.specs.Wave.{padded_chunk}
use Rattle.fx_sound.proofs.Faults.{IfOk-at, IfErr-at}
use Rattle.fx_sound.proofs.Held.{Tells-both, Takes-both}
use Rattle.fx_sound.proofs.WaveLemmas.{format_read-short, format_read-cut, format_read-whole}
use Rattle.fx_sound.proofs.Standing.{stands-taken, stands-unread, stands-empty}
use Rattle.fx_sound.proofs.WaveLocal.{format_read-local}
use Rattle.fx_sound.proofs.wave.read_format.Goals as goal

pub returns-in_default-clause-cut : goal.returns-in_default-clause-cut
returns-in_default-clause-cut g c = λ _.
    let short = c.in_default.ensures.failed.short in
    let len : length c.fill.new.out ≡ c.min-maximum.result = c.fill.auto.out ∙ length-take-le c.min-maximum.result _ (omega arith) in
    record {
      came = short.came;
      tells = short.tells;
      undecided = λ bytes known. format_read-cut c.args.size short.came bytes (omega (arith, short.bound));
    }

pub returns-then-got-maximum-clause-fault : goal.returns-then-got-maximum-clause-fault
returns-then-got-maximum-clause-fault g c = λ _ bytes known.
    let len : length c.fill.new.out ≡ c.min-maximum.result = c.fill.auto.out ∙ length-take-le c.min-maximum.result _ (omega arith) in
    let all : c.in-Ok.got ≡ length bytes = c.in-Ok.ensures.taken.all (omega arith) bytes known in
    format_read-short c.args.size bytes (omega arith)

pub returns-in_default-skip-clause-cut : goal.returns-in_default-skip-clause-cut
returns-in_default-skip-clause-cut g c = λ _.
    let len : length c.fill.new.out ≡ c.min-maximum.result = c.fill.auto.out ∙ length-take-le c.min-maximum.result _ (omega arith) in
    let short = c.in_default-skip.ensures.short in
    record {
      came = c.in-Ok.got + short.came;
      tells = Tells-both g.R.ByteIn.reads.delivered _ _ _ c.in-Ok.got short.came c.in-Ok.ensures.taken.delivered short.tells;
      undecided = λ bytes known. format_read-cut c.args.size (c.in-Ok.got + short.came) bytes (omega (arith, short.bound, c.in-Ok.ensures.taken.count));
    }

pub returns-then-skipped-length-clause-fault : goal.returns-then-skipped-length-clause-fault
returns-then-skipped-length-clause-fault g c = λ _ bytes known.
    let len : length c.fill.new.out ≡ c.min-maximum.result = c.fill.auto.out ∙ length-take-le c.min-maximum.result _ (omega arith) in
    let first = c.in-Ok.ensures.taken.bytes bytes known in
    let all : c.in-Ok-skip.skipped ≡ length (drop c.in-Ok.got bytes) = c.in-Ok-skip.ensures.taken.all (omega arith) _ first.1 in
    let count = c.in-Ok.ensures.taken.count in
    format_read-short c.args.size bytes (omega (arith, length-drop c.in-Ok.got bytes))

pub returns-clause-format : goal.returns-clause-format
returns-clause-format g c = IfOk-at c.format.result _ (λ found is bytes known.
    let len : length c.fill.new.out ≡ c.min-maximum.result = c.fill.auto.out ∙ length-take-le c.min-maximum.result _ (omega arith) in
    let front = c.in-Ok.ensures.filled.known bytes known in
    let first = c.in-Ok.ensures.taken.bytes bytes known in
    let then = c.in-Ok-skip.ensures.taken.bytes _ first.1 in
    let count = c.in-Ok.ensures.taken.count in
    let count-2 = c.in-Ok-skip.ensures.taken.count in
    let there : padded_chunk c.args.size ≤ length bytes = omega (arith, then.0, length-drop c.in-Ok.got bytes) in
    let all : c.in-Ok.got + c.in-Ok-skip.skipped ≡ padded_chunk c.args.size = omega arith in (
      format_read-whole c.args.size c.in-Ok.got bytes c.fill.new.out front (omega arith) (omega arith) (omega arith) there ∙ sym c.format.ensures.value ∙ is,
      there,
      then.1 ∙ ap Some (drop-drop c.in-Ok-skip.skipped c.in-Ok.got bytes ∙ ap (λ i. drop i bytes) all),
    ))

pub returns-clause-fault : goal.returns-clause-fault
returns-clause-fault g c = IfErr-at c.format.result _ (λ fault is _ bytes known.
    let len : length c.fill.new.out ≡ c.min-maximum.result = c.fill.auto.out ∙ length-take-le c.min-maximum.result _ (omega arith) in
    let front = c.in-Ok.ensures.filled.known bytes known in
    let first = c.in-Ok.ensures.taken.bytes bytes known in
    let then = c.in-Ok-skip.ensures.taken.bytes _ first.1 in
    let count = c.in-Ok.ensures.taken.count in
    let there : padded_chunk c.args.size ≤ length bytes = omega (arith, then.0, length-drop c.in-Ok.got bytes) in
    format_read-whole c.args.size c.in-Ok.got bytes c.fill.new.out front (omega arith) (omega arith) (omega arith) there ∙ sym c.format.ensures.value ∙ is)

pub returns-in_default-clause-stands : goal.returns-in_default-clause-stands
returns-in_default-clause-stands g c = λ bytes known. stands-unread g.R.ByteIn.reads.rest g.R.ByteIn.reads.delivered _ _ _ _ bytes c.in_default.ensures.failed.untaken (c.in_default.ensures.failed.front bytes known)

pub returns-then-got-maximum-clause-stands : goal.returns-then-got-maximum-clause-stands
returns-then-got-maximum-clause-stands g c = λ bytes known.
    let len : length c.fill.new.out ≡ c.min-maximum.result = c.fill.auto.out ∙ length-take-le c.min-maximum.result _ (omega arith) in
    let first = c.in-Ok.ensures.taken.bytes bytes known in
    stands-taken g.R.ByteIn.reads.rest g.R.ByteIn.reads.delivered _ _ _ _ bytes _ c.in-Ok.got (omega arith) c.in-Ok.ensures.taken.delivered (λ k lt. format_read-cut c.args.size k bytes (omega arith)) first.0 first.1 (format_read-cut c.args.size c.in-Ok.got bytes (omega arith)) (λ _. c.in-Ok.ensures.taken.all (omega (arith, len)) bytes known)

pub returns-in_default-skip-clause-stands : goal.returns-in_default-skip-clause-stands
returns-in_default-skip-clause-stands g c = λ bytes known.
    let len : length c.fill.new.out ≡ c.min-maximum.result = c.fill.auto.out ∙ length-take-le c.min-maximum.result _ (omega arith) in
    let short = c.in_default-skip.ensures.short in
    stands-empty g.R.ByteIn.reads.rest g.R.ByteIn.reads.delivered _ _ _ _ bytes (c.in-Ok.got + short.came) (omega (arith, short.bound, c.in-Ok.ensures.taken.count)) (Tells-both g.R.ByteIn.reads.delivered _ _ _ c.in-Ok.got short.came c.in-Ok.ensures.taken.delivered short.tells) (λ k lt. format_read-cut c.args.size k bytes (omega (arith, lt, short.bound, c.in-Ok.ensures.taken.count))) c.in_default-skip.ensures.none

pub returns-then-skipped-length-clause-stands : goal.returns-then-skipped-length-clause-stands
returns-then-skipped-length-clause-stands g c = λ bytes known.
    let len : length c.fill.new.out ≡ c.min-maximum.result = c.fill.auto.out ∙ length-take-le c.min-maximum.result _ (omega arith) in
    let first = c.in-Ok.ensures.taken.bytes bytes known in
    let then = c.in-Ok-skip.ensures.taken.bytes _ first.1 in
    let count = c.in-Ok.ensures.taken.count in
    stands-taken g.R.ByteIn.reads.rest g.R.ByteIn.reads.delivered _ _ _ _ bytes _ (c.in-Ok.got + c.in-Ok-skip.skipped) (omega arith)
    (Takes-both g.R.ByteIn.reads.delivered _ _ c.skip.new.self c.in-Ok.got c.in-Ok-skip.skipped _ refl c.in-Ok.ensures.taken.delivered c.in-Ok-skip.ensures.taken.delivered)
    (λ k lt. format_read-cut c.args.size k bytes (omega arith))
    (omega (arith, then.0, first.0, length-drop c.in-Ok.got bytes)) (then.1 ∙ ap Some (drop-drop c.in-Ok-skip.skipped c.in-Ok.got bytes))
    (format_read-cut c.args.size (c.in-Ok.got + c.in-Ok-skip.skipped) bytes (omega arith))
    (λ _. let all = c.in-Ok-skip.ensures.taken.all (omega arith) _ first.1 in omega (arith, all, first.0, length-drop c.in-Ok.got bytes))

pub returns-clause-stands : goal.returns-clause-stands
returns-clause-stands g c = IfErr-at c.format.result _ (λ fault is bytes known.
    let len : length c.fill.new.out ≡ c.min-maximum.result = c.fill.auto.out ∙ length-take-le c.min-maximum.result _ (omega arith) in
    let front = c.in-Ok.ensures.filled.known bytes known in
    let first = c.in-Ok.ensures.taken.bytes bytes known in
    let then = c.in-Ok-skip.ensures.taken.bytes _ first.1 in
    let count = c.in-Ok.ensures.taken.count in
    let count-2 = c.in-Ok-skip.ensures.taken.count in
    let there : padded_chunk c.args.size ≤ length bytes = omega (arith, then.0, length-drop c.in-Ok.got bytes) in
    let all : c.in-Ok.got + c.in-Ok-skip.skipped ≡ padded_chunk c.args.size = omega arith in
    stands-taken g.R.ByteIn.reads.rest g.R.ByteIn.reads.delivered _ _ _ _ bytes fault (padded_chunk c.args.size) (omega arith)
    (Takes-both g.R.ByteIn.reads.delivered _ _ c.skip.new.self c.in-Ok.got c.in-Ok-skip.skipped _ all c.in-Ok.ensures.taken.delivered c.in-Ok-skip.ensures.taken.delivered)
    (λ k lt. format_read-cut c.args.size k bytes lt) there (then.1 ∙ ap Some (drop-drop c.in-Ok-skip.skipped c.in-Ok.got bytes ∙ ap (λ i. drop i bytes) all))
    (format_read-local c.args.size (padded_chunk c.args.size) bytes (omega arith) there
    ∙ format_read-whole c.args.size c.in-Ok.got bytes c.fill.new.out front (omega arith) (omega arith) (omega arith) there ∙ sym c.format.ensures.value ∙ is)
    (λ cut. absurd (c.format.ensures.enough (is ∙ ap Err cut))))
