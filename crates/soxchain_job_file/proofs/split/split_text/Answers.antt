use Rattle.soxchain_job_file.proofs.Splitting.{text_lacks_bytes, text_lacks_utf8}
use Rattle.soxchain_job_file.proofs.split.split_text.Goals as goal

pub returns-then-size-rest : goal.returns-then-size-rest
returns-then-size-rest c = text_lacks_bytes c.args.bytes.now c.in_ok-size.rest.now c.in_ok-size.size c.in_ok-size.ensures c.if-size-rest.true

pub returns-in_default : goal.returns-in_default
returns-in_default c =
    text_lacks_utf8 c.args.bytes.now c.in_ok-size.rest.now c.in_ok-size.size c.in_ok-size.ensures c.split_at.result.0.now c.split_at.ensures.front
    c.in_default.ensures.cases.0
