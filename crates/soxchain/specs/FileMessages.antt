-- The messages of the program on its files (this project's profile), as the bytes of a line each.
use Rattle.std.specs.Prelude.{ℕ, List, ◌++◌, codes}
use Rattle.soxchain.specs.Messages.{line_feed}

-- a file that cannot be opened, read or created
abbrev pub open_message : List ℕ → List ℕ
open_message name = codes "soxchain: cannot open " ++ name ++ line_feed

-- a file whose head cannot be written again
abbrev pub rewrite_message : List ℕ → List ℕ
rewrite_message name = codes "soxchain: cannot rewrite " ++ name ++ line_feed
