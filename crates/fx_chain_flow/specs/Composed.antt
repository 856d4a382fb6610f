-- Effects in sequence, each of which takes what the one before gives, by their definitions alone (this project's profile).
use Rattle.std.specs.Prelude.{ℕ, Bool, false, ◌||◌, List, [], ◌∷◌, length, map}
use Rattle.fx_frame_base.specs.Frame.{Samples}
use Rattle.fx_frame_base.specs.Holds.{total}
use Rattle.fx_frame_base.specs.Stage.{Given, StageKind, is_enough}

-- the frames without their clips
abbrev pub frames_of : List Given → List Samples
frames_of gs = map (λ (g : Given). g.samples) gs

-- the clips of frames
abbrev pub clips_given : List Given → ℕ
clips_given gs = total (λ (g : Given). g.clips) gs

-- how many frames the last has given when all are dry after n frames, with no end
abbrev pub due_of : List StageKind → ℕ → ℕ
due_of [] n = n
due_of (k ∷ ks) n = due_of ks (k.due n)

-- after n frames, with no end, one of them has had enough: it gives nothing more, whatever input follows
abbrev pub enough_for : List StageKind → ℕ → Bool
enough_for [] n = false
enough_for (k ∷ ks) n = is_enough k.enough n || enough_for ks (k.due n)

-- what a stage gives in all
pub record Whole : Type 0 where
  pub given : ℕ
  pub clips : ℕ

-- the composed definitions of the effects, by what they are made with
abbrev pub composed : {R : Type 0} → (R → List Samples → List Given) → List R → List Samples → List Samples
composed meaning [] x = x
composed meaning (r ∷ recipes) x = composed meaning recipes (frames_of (meaning r x))

-- for each effect how many frames its definition gives, and the clips in them
abbrev pub composed_wholes : {R : Type 0} → (R → List Samples → List Given) → List R → List Samples → List Whole
composed_wholes meaning [] x = []
composed_wholes meaning (r ∷ recipes) x =
    record { given = length (meaning r x); clips = clips_given (meaning r x) }
    ∷ composed_wholes meaning recipes (frames_of (meaning r x))
