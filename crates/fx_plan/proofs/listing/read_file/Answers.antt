use Rattle.std.proofs.Common.{◌∷◌, string_bytes, sym, ap, ◌∙◌}
use Rattle.fx_plan.specs.CommandLines.{file_in}
use Rattle.fx_plan_words.specs.Faults.{word_texts}
use Rattle.fx_plan.specs.Plans.{names_file}
use Rattle.fx_plan.proofs.Naming.{file_in-one}
use Rattle.fx_plan.proofs.listing.read_file.Goals as goal

pub returns : goal.returns
returns c =
    let name = c.in_ok-name.name.now in
    let file = c.in_ok-file.file.now in
    let more = c.in_ok-file.field-0-1.now in
    let rest_unchanged = c.in_ok-file.ensures.cases.0 in
    let whole = c.in_ok-name.ensures.cases.0 ∙ ap (λ words. name ∷ words) rest_unchanged in
    let found = ap (λ words. names_file (string_bytes name ∷ word_texts words)) (sym rest_unchanged) ∙ sym c.names_file.ensures ∙ c.if-not-names_file.false in
    ap (λ words. file_in (word_texts words)) whole ∙ file_in-one (string_bytes name) (string_bytes file) (word_texts more) found
