-- OUT as a separate file: creating it must not empty the file that is read (this project's profile).
use Rattle.std.specs.Prelude.{ℕ, List, Option}
use Rattle.soxchain_common.specs.SameFile.{IsInput, IsNotInput, Looks}

-- The created files of a host: the file that one call created under a name, which empties an older one; the name for which it
-- refused that; and the created file that was given back, to which nothing more is written.
pub record FileCalls (H F : Type 0) : Type 1 where
  pub made : H → H → List ℕ → F → Type 0
  pub unmade : H → H → List ℕ → Type 0
  pub closed : H → H → F → Type 0

-- `looks` and `file_calls` state one request to a host and its answer, between one of its states and the next.
module _ {H F : Type 0} (looks : Looks H) (file_calls : FileCalls H F) where
  -- The file of this name was compared with the input, is another one, and was created. Nothing else was asked for.
  pub record IsMade (host new_host : H) (input : Option (List ℕ)) (name : List ℕ) (file : F) : Type 0 where
    pub looked : H
    pub other : IsNotInput looks host looked input name
    pub made : file_calls.made looked new_host name file

  -- The file of this name was compared with the input. It is the same, and nothing followed the inspection; or it is another one,
  -- and creating it was refused. Nothing else was asked for.
  pub data IsUnmade (host new_host : H) (input : Option (List ℕ)) (name : List ℕ) : Type 0 where
    Same : IsInput looks host new_host input name → IsUnmade host new_host input name
    Unmade : (looked : H)
        → IsNotInput looks host looked input name
        → file_calls.unmade looked new_host name
        → IsUnmade host new_host input name
