use Rattle.std.proofs.Common.{◌+◌, ◌%◌, ◌≤◌, take, ap, subst, ◌∙◌, arith, Ok}
use Rattle.fx_sound.specs.declared.wave.Demand.{Demand}
use Rattle.fx_sound.specs.Wave.{IsNearChunk, format_read, padded_chunk, with_body, with_format}
use Rattle.fx_sound.proofs.Faults.{IfErr-passed}
use Rattle.fx_sound.proofs.Standing.{stands-as, stands-empty, stands-taken}
use Rattle.fx_sound.proofs.WaveLemmas.{other-cut}
use Rattle.fx_sound.proofs.wave.read_body.Goals as goal

pub returns-in_err-format-in-Format-clause-stands : goal.returns-in_err-format-in-Format-clause-stands
returns-in_err-format-in-Format-clause-stands g c = IfErr-passed c.from_residual.result _ _ c.from_residual.ensures.1 (λ bytes known.
    let P : Demand → Type 0 = IsNearChunk c.args.offset in
    let near : (16 ≤ c.in-Format.size) × (c.args.offset + 8 + c.in-Format.size + c.in-Format.size % 2 ≤ 16777208) = subst P c.in-Format.is c.requires.demand.1 in
    stands-as g.R.ByteIn.reads.rest g.R.ByteIn.reads.delivered (format_read c.in-Format.size) _ (padded_chunk c.in-Format.size) _ c.args.source.now c.read_format.new.source bytes _ (omega (arith, near.1))
    (λ k d fault. ap (λ m. with_body c.args.offset c.args.seen (take k bytes) (Ok m)) c.in-Format.is ∙ ap (with_format (c.args.offset + 8 + padded_chunk c.in-Format.size)) fault)
    (c.in_err-format-in-Format.ensures.stands bytes known))

pub returns-in_default-clause-cut : goal.returns-in_default-clause-cut
returns-in_default-clause-cut g c = λ _.
    let short = c.in_default.ensures.short in
    record {
      came = short.came;
      tells = short.tells;
      undecided = λ bytes known. ap (λ m. with_body c.args.offset c.args.seen (take short.came bytes) (Ok m)) c.in-Other.is ∙ other-cut c.args.offset c.in-Other.size short.came c.args.seen bytes (omega (arith, short.bound));
    }

pub returns-in_default-clause-stands : goal.returns-in_default-clause-stands
returns-in_default-clause-stands g c = λ bytes known.
    let P : Demand → Type 0 = IsNearChunk c.args.offset in
    let near : c.args.offset + 8 + c.in-Other.size + c.in-Other.size % 2 ≤ 16777208 = subst P c.in-Other.is c.requires.demand.1 in
    let short = c.in_default.ensures.short in
    stands-empty g.R.ByteIn.reads.rest g.R.ByteIn.reads.delivered _ _ c.args.source.now c.skip.new.self bytes short.came (omega (arith, near, short.bound)) short.tells
    (λ k lt. ap (λ m. with_body c.args.offset c.args.seen (take k bytes) (Ok m)) c.in-Other.is ∙ other-cut c.args.offset c.in-Other.size k c.args.seen bytes (omega (arith, lt, short.bound)))
    c.in_default.ensures.none

pub returns-then-skipped-length-clause-stands : goal.returns-then-skipped-length-clause-stands
returns-then-skipped-length-clause-stands g c = λ bytes known.
    let P : Demand → Type 0 = IsNearChunk c.args.offset in
    let near : c.args.offset + 8 + c.in-Other.size + c.in-Other.size % 2 ≤ 16777208 = subst P c.in-Other.is c.requires.demand.1 in
    let then = c.in-Ok.ensures.taken.bytes bytes known in
    stands-taken g.R.ByteIn.reads.rest g.R.ByteIn.reads.delivered _ _ c.args.source.now c.skip.new.self bytes _ c.in-Ok.skipped (omega (arith, near)) c.in-Ok.ensures.taken.delivered
    (λ k lt. ap (λ m. with_body c.args.offset c.args.seen (take k bytes) (Ok m)) c.in-Other.is ∙ other-cut c.args.offset c.in-Other.size k c.args.seen bytes (omega (arith, lt)))
    then.0 then.1 (ap (λ m. with_body c.args.offset c.args.seen (take c.in-Ok.skipped bytes) (Ok m)) c.in-Other.is ∙ other-cut c.args.offset c.in-Other.size c.in-Ok.skipped c.args.seen bytes (omega arith)) (λ _. c.in-Ok.ensures.taken.all (omega arith) bytes known)
