use Rattle.std.proofs.Common.{ap, refl}
use Rattle.soxchain_job_file.specs.Versions.{IsForeign, json_start, text_start}
use Rattle.soxchain_job_file.specs.declared.fault.JobFileFault.TheVariants.{Version}
use Rattle.soxchain_job_file.proofs.Versions.{text_version, text_damaged, text_two, json_version, json_damaged, foreign_version, lacks_start}
use Rattle.soxchain_job_file.proofs.version.fault_of.Goals as goal

pub returns-in-Some-leading_number-clause-version : goal.returns-in-Some-leading_number-clause-version
returns-in-Some-leading_number-clause-version c = λ version.
    let number = c.in-Some-leading_number.version in
    let known = text_version c.args.bytes.now c.in-Some.rest.now c.in-Some.ensures number c.in-Some-leading_number.ensures.0 c.in-Some-leading_number.ensures.1
    c.if-version-ne-FORMAT_VERSION.true version in
    (λ same. known.0 (cc), λ other. ap Version (known.1 other))

pub returns-in_default-leading_number-clause-version : goal.returns-in_default-leading_number-clause-version
returns-in_default-leading_number-clause-version c = λ version.
    let bytes = c.args.bytes.now in
    let rest = c.in-Some.rest.now in
    let two = text_two bytes rest c.in-Some.ensures c.in-Some-leading_number.version c.if-version-ne-FORMAT_VERSION.false c.in-Some-leading_number.ensures.1 in
    (λ same. absurd (cc), λ other. absurd (text_damaged bytes rest c.in-Some.ensures two version other))

pub returns-in_default-leading_number-2-clause-version : goal.returns-in_default-leading_number-2-clause-version
returns-in_default-leading_number-2-clause-version c = λ version. (
  λ same. absurd (cc),
  λ other. absurd (text_damaged c.args.bytes.now c.in-Some.rest.now c.in-Some.ensures (λ number fits begins differs. c.in_default-leading_number.ensures number fits begins) version other),
)

pub returns-in-Some-leading_number-2-clause-version : goal.returns-in-Some-leading_number-2-clause-version
returns-in-Some-leading_number-2-clause-version c = λ version.
    let number = c.in-Some-leading_number-2.version in
    let known = json_version c.args.bytes.now c.in-Some-strip_start.rest.now c.in-Some-strip_start.ensures number c.in-Some-leading_number-2.ensures.0
    c.in-Some-leading_number-2.ensures.1 version in
    (λ same. known.0 (cc), λ other. ap Version (known.1 other))

pub returns-in-None-clause-version : goal.returns-in-None-clause-version
returns-in-None-clause-version c = λ version. (
  λ same. absurd (cc),
  λ other. absurd (json_damaged c.args.bytes.now c.in-Some-strip_start.rest.now c.in-Some-strip_start.ensures c.in-None.ensures version other),
)

pub returns-in_default-strip_start-clause-foreign : goal.returns-in_default-strip_start-clause-foreign
returns-in_default-strip_start-clause-foreign c = (
  λ _. (lacks_start c.args.bytes.now text_start c.in_default.ensures, lacks_start c.args.bytes.now json_start c.in_default-strip_start.ensures),
  λ _. refl,
)

pub returns-in_default-strip_start-clause-version : goal.returns-in_default-strip_start-clause-version
returns-in_default-strip_start-clause-version c = λ version.
    let bytes = c.args.bytes.now in
    let foreign : IsForeign bytes = (lacks_start bytes text_start c.in_default.ensures, lacks_start bytes json_start c.in_default-strip_start.ensures) in
    (λ same. absurd (cc), λ other. absurd (foreign_version bytes foreign version other))
