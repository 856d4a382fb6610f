use Rattle.std.proofs.Common.{◌∙◌, ◌++◌, ap, subst}
use Rattle.std.specs.Io.KnownBytes.{Appends}
use Rattle.soxchain_xxh64.specs.Xxh64.{xxh64}
use Rattle.soxchain_job_file.specs.JobBytes.{identity_value}
use Rattle.soxchain_job_file.proofs.Writing.{file_written}
use Rattle.soxchain_job_file.proofs.write.write_job_file.Goals as goal

pub returns : goal.returns
returns g c =
    let contents = g.W.Write.contents in
    file_written c.write_u64.result (contents c.args.writer.now) (contents c.write_all.new.self) (contents c.write_all-2.new.self) (contents c.write_u64.new.self)
    (record { identity = identity_value c.args.identity.now; runs = c.args.runs; checkpoint = c.args.checkpoint.now }) c.in_ok-head.head.items c.hash_parts-hash.result
    c.in_ok-head.ensures
    (c.hash_parts-hash.ensures ∙ ap (λ xs. xxh64 (xs ++ c.args.checkpoint.now)) c.deref.ensures.value)
    (subst (Appends (contents c.args.writer.now) (contents c.write_all.new.self)) c.deref-2.ensures.value c.in_ok-write_all.ensures.bytes)
    c.in_ok-write_all-2.ensures.bytes c.write_u64.ensures.bytes
