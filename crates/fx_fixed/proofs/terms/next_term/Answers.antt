use Rattle.fx_fixed.proofs.terms.next_term.Goals as goal
use Rattle.fx_fixed.proofs.Splitting.{next_found}

pub returns : goal.returns
returns c =
    next_found c.args.text.now c.in_ok-sign.sign.now c.in_ok-sign.more.now c.term_end-end.result c.in_ok-sign.ensures.cases.0 c.requires c.term_end-end.ensures.value c.term_end-end.ensures.within c.term_end-end.ensures.rest
