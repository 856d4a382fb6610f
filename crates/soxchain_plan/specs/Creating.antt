-- Why OUT cannot be made, as the host says without making it (this project's profile).
use Rattle.std.specs.Prelude.{◌≡◌, ℕ, List, Option, Some, None, codes}
use Rattle.soxchain_common.specs.SameFile.{IsInput, IsNotInput, Looks}
use Rattle.soxchain_plan.specs.declared.host.CreateFault.{CreateFault}
use Rattle.soxchain_plan.specs.declared.host.CreateFault.TheVariants as CreateFaults

-- what the host said of making the file of a name, between one of its states and the next: a fault, or none
abbrev pub CreateAnswers : Type 0 → Type 1
CreateAnswers H = H → H → List ℕ → Option CreateFault → Type 0

module _ {H : Type 0} (looks : Looks H) (creates : CreateAnswers H) where
  -- The file of this name cannot be made: it and the input were inspected, and are one file; or they are not, and then the host
  -- named this fault. Nothing else was asked for.
  pub data CannotCreate (host new_host : H) (input : Option (List ℕ)) (name : List ℕ) (fault : CreateFault) : Type 0 where
    Same : IsInput looks host new_host input name
        → fault ≡ CreateFaults.IsInput
        → CannotCreate host new_host input name fault
    Refused : (looked : H)
        → IsNotInput looks host looked input name
        → creates looked new_host name (Some fault)
        → CannotCreate host new_host input name fault

  -- Nothing is known against the output: it is standard output, and nothing was asked for; or it and the input were inspected, are
  -- not one file, and then the host named no fault.
  abbrev pub MayCreate : H → H → Option (List ℕ) → Option (List ℕ) → Type 0
  MayCreate host new_host input None = new_host ≡ host
  MayCreate host new_host input (Some name) = (looked : H) × IsNotInput looks host looked input name × creates looked new_host name None

-- what to do
abbrev pub create_advice : CreateFault → List ℕ
create_advice CreateFaults.IsInput = codes "OUT is the file that is read: give it another name"
create_advice CreateFaults.NoFolder = codes "the folder of OUT does not exist, or is no folder: make it, or give OUT another name"
create_advice CreateFaults.IsFolder = codes "OUT is a folder: give it another name"
create_advice CreateFaults.NoPermission = codes "OUT may not be written, or not be made in its folder: change the permissions, or give it another name"
create_advice CreateFaults.ReadOnly = codes "the file system of OUT is read-only: give OUT a name on another one"
create_advice CreateFaults.Other = codes "see that a file of this name can be made, and that it may be written"
