-- Frames in transit to a writer (this project's profile).
use Rattle.std.specs.Prelude.{◌≡◌, ℕ, ◌≤◌, List, length, take, Option, sum_by}
use Rattle.std.specs.List.{flat_map}
use Rattle.std.specs.Io.KnownBytes.{Appends}
use Rattle.fx_frame_base.specs.declared.coding.Coding.{Coding}
use Rattle.fx_frame_base.specs.Frame.{Samples}
use Rattle.fx_sound.specs.FrameCoding.{bytes_of, clips_of}

-- frames as they are sent
abbrev pub coded : Coding → List Samples → List ℕ
coded coding frames = flat_map (bytes_of coding) frames

-- the clips of writing them
abbrev pub coded_clips : Coding → List Samples → ℕ
coded_clips coding frames = sum_by (clips_of coding) frames

-- the writer took the first `written` of these bytes
pub record WroteFront (first now : Option (List ℕ)) (written : ℕ) (all : List ℕ) : Type 0 where
  pub part : written ≤ length all
  pub took : Appends first now (take written all)

-- the writer took these bytes, and no others
pub record WroteAll (first now : Option (List ℕ)) (written : ℕ) (all : List ℕ) : Type 0 where
  pub whole : written ≡ length all
  pub took : Appends first now all
