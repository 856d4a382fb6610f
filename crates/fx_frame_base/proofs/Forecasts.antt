-- What is known of the next frames.
use Rattle.std.proofs.Common.{◌≡◌, ◌+◌, ◌-◌, ◌≤◌, ◌^◌, ℕ, None, refl, arith, add-zero}
use Rattle.fx_frame_base.specs.Feed.{IsForecast}
use Rattle.fx_frame_base.specs.Stage.{StageKind}

module _ (k : StageKind) (taken : ℕ) where
  -- for no frame one more is due, and none
  pub no-one_to_one : (n : ℕ) → n ≤ 0 → k.due (taken + n) ≡ k.due taken + n
  no-one_to_one n bound = let none : n ≡ 0 = omega arith in rw (none, add-zero, add-zero) refl

  pub no-none_due : (n : ℕ) → n ≤ 0 → k.due (taken + n) ≡ k.due taken
  no-none_due n bound = let none : n ≡ 0 = omega arith in rw (none, add-zero) refl

  -- a stage that never has enough
  pub IsForecast-endless : (count : ℕ) → k.enough ≡ None → ((n : ℕ) → n ≤ count → k.due (taken + n) ≡ k.due taken + n) → IsForecast k taken (record { ahead = 2 ^ 64 - 1; one_to_one = count; none_due = 0 })
  IsForecast-endless count never one_to_one = record {
    ahead = λ n less. rw never refl;
    one_to_one = one_to_one;
    none_due = no-none_due;
  }

  -- the same, where it is not known of any frame that one is due for it
  pub IsForecast-none : k.enough ≡ None → IsForecast k taken (record { ahead = 2 ^ 64 - 1; one_to_one = 0; none_due = 0 })
  IsForecast-none never = IsForecast-endless 0 never no-one_to_one
