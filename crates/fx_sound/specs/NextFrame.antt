-- What reading the next frame of a sound does (this project's profile).
use Rattle.std.specs.Prelude.{◌≡◌, ℕ, ◌+◌, ◌<◌, ◌≤◌, true, false, IfOk, List, OnErr, OnSome, drop, length, Option, Some, Result}
use Rattle.fx_frame_base.specs.Frame.{Samples}
use Rattle.fx_frame_base.specs.Io.{ByteReader}
use Rattle.fx_frame_base.specs.declared.stage.TheConstants.{MAX_FRAMES}
use Rattle.fx_sound.specs.Known.{IfKnown}
use Rattle.fx_sound.specs.Sound.{EndsSound, Reading, TakesFrame, after_frame, at_most_announced, size_of, within_sound}
use Rattle.fx_sound.specs.Source.{FallsShort, Held, HoldsAll, HoldsWhatCame, Takes, to_come}

-- The end was reached, and no frame is counted.
abbrev pub ReachesEnd : Reading → Reading → Type 0
ReachesEnd p p' = (p'.over ≡ true) × (p'.frames ≡ p.frames)

module _ {R : Type 0} (device : ByteReader R) (old new : Held R) (p p' : Reading) where
  -- A frame of the sound was taken.
  pub record TookFrame (frame : Samples) : Type 0 where
    -- its value, and what is to come after it
    pub value : IfKnown (to_come device.rest old) (λ bytes. TakesFrame p bytes frame (to_come device.rest new))
    -- it has the channels of the sound
    pub channels : length frame ≡ p.channels
    -- its bytes, and no others, were taken
    pub delivered : Takes device.delivered old new (size_of p)
    -- it is counted
    pub counted : p' ≡ after_frame p
    -- the end had not been reached
    pub begun : p.over ≡ false
    -- fewer than the maximum had been taken
    pub below : p.frames < MAX_FRAMES

  -- The end of the sound was reached.
  pub record MetEnd : Type 0 where
    -- less than a frame was left of the sound, and its missing and stray bytes are counted
    pub end : IfKnown (to_come device.rest old) (λ bytes. EndsSound p bytes p')
    -- what is to come is what follows the sound
    pub left : IfKnown (to_come device.rest old) (λ bytes. to_come device.rest new ≡ Some (drop (length (within_sound p.left bytes)) bytes))
    -- no frame is counted
    pub over : ReachesEnd p p'

-- A read failed before a whole frame had come.
pub record CutShort {R : Type 0} (device : ByteReader R) (old new : Held R) (p : Reading) : Type 0 where
  -- what came is less than a frame, or than what was left of the sound
  pub short : FallsShort device.delivered old new.reader (at_most_announced p.left (size_of p))
  -- all that came is held
  pub came : IfKnown (to_come device.rest old) (λ bytes. HoldsWhatCame device.delivered old new bytes 0)

-- A frame follows after as many as a sound may have.
pub record FollowsMaximum {R : Type 0} (rest : R → Option (List ℕ)) (source : Held R) (p : Reading) : Type 0 where
  pub maximum : p.frames ≡ MAX_FRAMES
  pub whole : IfKnown (to_come rest source) (λ bytes. size_of p ≤ length (within_sound p.left bytes))

-- The bytes that are held are all that is to come, where they are fewer than the next frame asks for.
abbrev pub HoldsRest : {R : Type 0} → (R → Option (List ℕ)) → Held R → Reading → Type 0
HoldsRest rest source p = length source.bytes < at_most_announced p.left (size_of p) → HoldsAll rest source source

-- The source after a frame, or the end, was looked for in the bytes that it holds.
pub record PassesBytes {R F E : Type 0} (result : Result (Option F) E) (old new : Held R) (p : Reading) : Type 0 where
  -- the bytes of a frame were removed from those that are held
  pub bytes : IfOk result (λ o. OnSome o (length old.bytes ≡ size_of p + length new.bytes))
  -- nothing was read
  pub reader : new.reader ≡ old.reader
  -- the last read is as short as before
  pub short : new.short ≡ old.short
  -- an error leaves it as it was
  pub err : OnErr result (new ≡ old)
