use Rattle.soxchain_cli.proofs.files.finish_with_head.Goals as goal

pub returns : goal.returns
returns g c =
    let head = rw (c.kind-kind.ensures, c.coding-coding.ensures.value, c.rate-rate.ensures.value, c.channels-channels.ensures.value) at c.head_bytes-head.ensures in
    (c.finish_for-status.result.1, c.finish_for-status.ensures, head)
