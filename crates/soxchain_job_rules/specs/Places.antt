-- Whether two names lead to one file.
use Rattle.std.specs.Prelude.{◌≡◌, ◌⊎◌, ℕ, List, take, Some, All, slice_get, AllPairs}
use Rattle.soxchain_job_rules.specs.declared.own_file.OwnFile.{OwnFile}
use Rattle.soxchain_job_rules.specs.declared.places.FileId.{FileId}
use Rattle.soxchain_job_rules.specs.declared.places.Place.{Place}
use Rattle.soxchain_job_rules.specs.declared.places.Clash.{Clash}
use Rattle.soxchain_job_rules.specs.declared.places.Rival.{Rival}
use Rattle.soxchain_job_rules.specs.declared.places.Rival.TheVariants.{Input, Own}

-- the names stand in one folder with one last part, or both lead to a file, and it is the same
abbrev pub IsSameFile : Place → Place → Type 0
IsSameFile a b = ((a.folder ≡ b.folder) × (a.base.now ≡ b.base.now)) ⊎ ((id : FileId) × (a.file ≡ Some id) × (b.file ≡ Some id))

-- none of the places is one with this
abbrev pub IsApartFrom : Place → List Place → Type 0
IsApartFrom place places = All (λ other. ¬ IsSameFile place other) places

-- the first of the inputs that is one with this
pub record IsFirstInput (inputs : List Place) (place : Place) (index : ℕ) : Type 0 where
  pub input : Place
  pub at : slice_get inputs index ≡ Some input
  pub same : IsSameFile place input
  pub before : IsApartFrom place (take index inputs)

-- none of these files of the job is one with this place
abbrev pub IsApartFromOwn : Place → List (OwnFile × Place) → Type 0
IsApartFromOwn place own = All (λ other. ¬ IsSameFile place other.1) own

-- the first of these files of the job that is one with this place
pub record IsFirstOwn (own : List (OwnFile × Place)) (place : Place) (file : OwnFile) : Type 0 where
  pub index : ℕ
  pub other : Place
  pub at : slice_get own index ≡ Some (file, other)
  pub same : IsSameFile place other
  pub before : IsApartFromOwn place (take index own)

-- an input comes before a file of the job
abbrev pub IsFirstRival : List Place → List (OwnFile × Place) → Place → Rival → Type 0
IsFirstRival inputs own place (Input index) = IsFirstInput inputs place index
IsFirstRival inputs own place (Own file) = IsApartFrom place inputs × IsFirstOwn own place file

-- no file of the job is one with an input, and no two of them are one
pub record AreApart (inputs : List Place) (own : List (OwnFile × Place)) : Type 0 where
  pub from_inputs : All (λ file. IsApartFrom file.1 inputs) own
  pub from_own : AllPairs (λ before after. ¬ IsSameFile after.1 before.1) own

-- the first file of the job that is one with an input, or with one before it
pub record IsFirstClash (inputs : List Place) (own : List (OwnFile × Place)) (clash : Clash) : Type 0 where
  pub index : ℕ
  pub place : Place
  pub at : slice_get own index ≡ Some (clash.file, place)
  pub rival : IsFirstRival inputs (take index own) place clash.rival
  pub before : AreApart inputs (take index own)
