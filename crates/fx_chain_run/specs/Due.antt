-- What effects in sequence have given when each has given all that is due (this project's profile).
use Rattle.std.specs.Prelude.{ℕ, List, [], ◌∷◌, map, take}
use Rattle.fx_frame_base.specs.Frame.{Samples}
use Rattle.fx_frame_base.specs.Stage.{Given, StageKind}
use Rattle.fx_chain_flow.specs.Composed.{clips_given, frames_of}

-- of each effect how many frames it has given when all are dry after n frames, with no end
abbrev pub dues : List StageKind → ℕ → List ℕ
dues [] n = []
dues (k ∷ ks) n = k.due n ∷ dues ks (k.due n)

-- the first frames of each list, as many as its count
abbrev pub first_due : List ℕ → List (List Given) → List (List Given)
first_due [] gs = []
first_due (n ∷ ns) [] = []
first_due (n ∷ ns) (g ∷ gs) = take n g ∷ first_due ns gs

-- what each effect gives for a whole sound, by the definitions one after the other
abbrev pub meanings : {R : Type 0} → (R → List Samples → List Given) → List R → List Samples → List (List Given)
meanings meaning [] x = []
meanings meaning (r ∷ rs) x = meaning r x ∷ meanings meaning rs (frames_of (meaning r x))

-- of each effect how many samples are clipped in the first frames that it gives for a whole sound, as many as its count
abbrev pub clips_due : {R : Type 0} → (R → List Samples → List Given) → List ℕ → List R → List Samples → List ℕ
clips_due meaning counts rs x = map clips_given (first_due counts (meanings meaning rs x))
