-- What differs first between two identities.
use Rattle.std.specs.Prelude.{◌≡◌, Option, Some, None}
use Rattle.soxchain_job_file.specs.JobBytes.{IdentityValue}
use Rattle.soxchain_job_file.specs.declared.identity.Difference.{Difference}
use Rattle.soxchain_job_file.specs.declared.identity.Difference.TheVariants.{Words, Coefficients, Length, Time}

-- this member differs, and those before it do not; without a difference the identities are equal
abbrev pub IsFirstDifference : IdentityValue → IdentityValue → Option Difference → Type 0
IsFirstDifference stored own None = stored ≡ own
IsFirstDifference stored own (Some Words) = ¬ (stored.words ≡ own.words)
IsFirstDifference stored own (Some Coefficients) = (stored.words ≡ own.words) × ¬ (stored.files ≡ own.files)
IsFirstDifference stored own (Some Length) = (stored.words ≡ own.words) × (stored.files ≡ own.files) × ¬ (stored.size ≡ own.size)
IsFirstDifference stored own (Some Time) =
    (stored.words ≡ own.words) × (stored.files ≡ own.files) × (stored.size ≡ own.size) × ¬ (stored.modified ≡ own.modified)
