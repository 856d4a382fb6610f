use Rattle.std.proofs.Common.{◌≡◌, ◌∙◌, ◌+◌, ◌++◌, ◌∷◌, [], arith, ap, sym, subst, flat_map, map, string_bytes}
use Rattle.std.proofs.lemmas.List.{map_push}
use Rattle.soxchain_job_file.specs.JobBytes.{FitsText, text_bytes}
use Rattle.soxchain_job_file.specs.Splits.{SoMany, Splits}
use Rattle.soxchain_job_file.proofs.Splitting.{many_lack, many_more, text_bytes-injective}
use Rattle.soxchain_job_file.proofs.split.split_texts.Goals as goal

pub returns-in_default : goal.returns-in_default
returns-in_default c =
    many_lack text_bytes FitsText text_bytes-injective c.args.bytes.now c.texts.rest.now c.texts.counter c.args.count (map string_bytes c.texts.texts.items) (omega arith)
    c.texts.invariant c.in_default.ensures

pub texts-preserved : goal.texts-preserved
texts-preserved c =
    let old = map string_bytes c.texts.texts.items in
    let pushed : map string_bytes c.push.new.self.items ≡ old ++ c.in-Some.text.now ∷ [] =
    ap (map string_bytes) c.in_ok-push.ensures.items ∙ map_push string_bytes c.texts.texts.items c.in_ok-from_str.field-0
    ∙ ap (λ text. old ++ text ∷ []) c.in_ok-from_str.ensures.ok in
    subst (λ xs. Splits (flat_map text_bytes) (SoMany FitsText (c.texts.counter + 1)) c.args.bytes.now xs c.in-Some.after.now) (sym pushed)
    (many_more text_bytes FitsText c.args.bytes.now c.texts.rest.now c.in-Some.after.now c.texts.counter old c.in-Some.text.now c.texts.invariant c.in-Some.ensures)
