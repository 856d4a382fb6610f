use Rattle.fx_plan.proofs.Endings.{same_letters}
use Rattle.fx_plan.proofs.line.is_ending.Goals as goal

pub returns : goal.returns
returns c =
    let test = rw (c.split_at.ensures.back, c.as_bytes-name.ensures.value, c.as_bytes-ending.ensures.value) at c.eq_ignore_ascii_case.ensures.test in
    same_letters _ _ _ test
