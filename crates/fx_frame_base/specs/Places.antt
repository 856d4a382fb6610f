-- How the samples of a frame lie in its sixteen places.
use Rattle.std.specs.Prelude.{ℕ, List, ◌≤◌, ◌-◌, length, take, drop, replicate, slice_index_or, ◌≡◌, refl}
use Rattle.std.specs.List.{All}
use Rattle.std.proofs.Common.{arith}
use Rattle.std.proofs.lemmas.List.{take-append-drop, length-take}
use Rattle.fx_frame_base.specs.Frame.{padded_by}

module _ {X : Type 0} where
  -- a sample that fits, or silence where there is none
  pub record IsRead (Fits : X → Type 0) (silent_sample : X) (xs : List X) (place : ℕ) (sample : X) : Type 0 where
    pub is : sample ≡ slice_index_or xs place silent_sample
    pub fits : Fits sample

  -- sixteen places that fit, of which the first are samples and the others silent
  pub record IsPlaces (Fits : X → Type 0) (silent_sample : X) (channels : ℕ) (places : List X) : Type 0 where
    pub some : 1 ≤ channels
    pub bound : channels ≤ 16
    pub count : length places ≡ 16
    pub rest : drop channels places ≡ replicate (16 - channels) silent_sample
    pub fits : All Fits places

  -- the places are those of the samples, and so is their number
  pub padded-take : (Fits : X → Type 0) (silent_sample : X) (places : List X) (n : ℕ) → IsPlaces Fits silent_sample n places → ◌≡◌ {A = List X × ℕ} (padded_by silent_sample (take n places), length (take n places)) (places, n)
  padded-take Fits silent_sample places n p =
      let full : length places ≡ 16 = p.count in
      let bound : n ≤ 16 = p.bound in
      let e : length (take n places) ≡ n = simp length-take (omega arith) in
      rw (e, ← p.rest, take-append-drop) refl
