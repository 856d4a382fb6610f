-- Whether OUT is the file that is read (this project's profile).
use Rattle.std.specs.Prelude.{◌≡◌, ℕ, true, List, Option, Some, None, codes}
use Rattle.soxchain_common.specs.declared.same_file.Identity.{Identity}

-- what one inspection found under a name, or nothing that can be inspected, between one state of the host and the next
abbrev pub Looks : Type 0 → Type 1
Looks H = H → H → List ℕ → Option Identity → Type 0

-- both could be inspected, and are one file with stored content, not a device or pipe
abbrev pub AreOne : Option Identity → Option Identity → Type 0
AreOne (Some one) (Some other) = (one.is_plain ≡ true) × (one.device ≡ other.device) × (one.inode ≡ other.inode)
AreOne one other = ⊥

-- the name under which the input is inspected: its own, or that of standard input
abbrev pub source_name : Option (List ℕ) → List ℕ
source_name (Some name) = name
source_name None = codes "/dev/stdin"

module _ {H : Type 0} (looks : Looks H) where
  -- The input and then the file of this name were inspected, and found to be these. Nothing else was asked for.
  pub record AreFound (host new_host : H) (input : Option (List ℕ)) (name : List ℕ) (one other : Option Identity) : Type 0 where
    pub between : H
    pub source : looks host between (source_name input) one
    pub target : looks between new_host name other

  -- Both were inspected, and are one file.
  pub record IsInput (host new_host : H) (input : Option (List ℕ)) (name : List ℕ) : Type 0 where
    pub one : Option Identity
    pub other : Option Identity
    pub found : AreFound host new_host input name one other
    pub same : AreOne one other

  -- Both were inspected, and the file of this name is another one, or cannot be inspected.
  pub record IsNotInput (host new_host : H) (input : Option (List ℕ)) (name : List ℕ) : Type 0 where
    pub one : Option Identity
    pub other : Option Identity
    pub found : AreFound host new_host input name one other
    pub apart : AreOne one other → ⊥
