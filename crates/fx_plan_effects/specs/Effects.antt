-- An effect with its resolved arguments, and the layout after it (this project's profile).
use Rattle.std.specs.Prelude.{ℕ, ◌^◌, ◌<◌, ◌≤◌, ◌≡◌, ◌&&◌, Bool, true, List, [], ◌∷◌, Some}
use Rattle.fx_plan_effects.specs.declared.effect.Layout.{Layout}
pub use Rattle.fx_plan_effects.specs.Registry.{Act, act, layout_after, channels_after, Fits, is_usable, fits_layout, name_text}

-- a layout that a sound can have
pub record IsLayout (layout : Layout) : Type 0 where
  pub rate : 0 < layout.rate
  pub rate_fits : layout.rate < 2 ^ 32
  pub some : 1 ≤ layout.channels
  pub maximum : layout.channels ≤ 16

-- the arguments of an effect are within the limits
abbrev pub Usable : Act → Type 0
Usable act = is_usable act ≡ true

-- each effect satisfies the requirements of its place, the first of them after this layout
abbrev pub all_fit : Layout → List Act → Bool
all_fit layout [] = true
all_fit layout (a ∷ acts) = fits_layout layout a && all_fit (layout_after layout (Some a)) acts
