use Rattle.std.proofs.Common.{◌++◌, ℕ, List, codes, refl, ap, ◌∙◌}
use Rattle.std.specs.Option.{option_copied}
use Rattle.soxchain_job_rules.specs.Names.{job_texts}
use Rattle.soxchain_job_rules.proofs.Distinct.{distinct}
use Rattle.soxchain_job_rules.proofs.Naming.{job_names, same_texts}
use Rattle.soxchain_job_rules.proofs.names.JobNames.of.Goals as goal

pub invariant_of-result : goal.invariant_of-result
invariant_of-result c =
    let texts = job_texts c.args.out.now (option_copied c.args.wanted) in
    let named = c.in_ok-of_out.ensures texts refl in
    let new_name = c.in_ok-new_record.ensures ∙ ap (λ (text : List ℕ). text ++ codes ".new") (c.deref.ensures ∙ c.in_ok-record_name.ensures) in
    job_names texts _ named c.in_ok-record_name.ensures new_name
    (c.in-None.ensures.none texts named (c.deref-2.ensures ∙ c.in_ok-record_name.ensures) (c.deref-3.ensures ∙ new_name))

pub returns-in-Some-clause-taken : goal.returns-in-Some-clause-taken
returns-in-Some-clause-taken c =
    let texts = job_texts c.args.out.now (option_copied c.args.wanted) in
    let new_name = c.in_ok-new_record.ensures ∙ ap (λ (text : List ℕ). text ++ codes ".new") (c.deref.ensures ∙ c.in_ok-record_name.ensures) in
    c.in-Some.ensures.first texts (c.in_ok-of_out.ensures texts refl) (c.deref-2.ensures ∙ c.in_ok-record_name.ensures) (c.deref-3.ensures ∙ new_name)

pub returns-in-None-clause-names : goal.returns-in-None-clause-names
returns-in-None-clause-names c =
    let texts = job_texts c.args.out.now (option_copied c.args.wanted) in
    same_texts texts _ _ (c.in_ok-of_out.ensures texts refl).out c.in_ok-record_name.ensures

pub returns-in-None-clause-distinct : goal.returns-in-None-clause-distinct
returns-in-None-clause-distinct c =
    let texts = job_texts c.args.out.now (option_copied c.args.wanted) in
    let new_name = c.in_ok-new_record.ensures ∙ ap (λ (text : List ℕ). text ++ codes ".new") (c.deref.ensures ∙ c.in_ok-record_name.ensures) in
    distinct texts (c.in-None.ensures.none texts (c.in_ok-of_out.ensures texts refl) (c.deref-2.ensures ∙ c.in_ok-record_name.ensures) (c.deref-3.ensures ∙ new_name))
