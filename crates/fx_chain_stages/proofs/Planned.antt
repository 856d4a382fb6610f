-- What a plan says of its effects holds of their stages.
use Rattle.std.proofs.Common.{◌≡◌, ℕ, ◌+◌, ◌-◌, ◌*◌, ◌/◌, ◌^◌, ◌≤◌, List, [], ◌∷◌, true, false, length, map, replicate, refl, arith, sym, ap, ◌∙◌, Some, sum_by, nat_le}
use Rattle.std.specs.List.{All, list_any}
use Rattle.std.proofs.lemmas.Bool.Decides.{nat_tests}
use Rattle.fx_chain_flow.specs.Parts.{Matching, Within, max_of, work}
use Rattle.fx_frame_base.specs.Holds.{hold_sum}
use Rattle.fx_frame_base.specs.Stage.{StageKind}
use Rattle.fx_plan_effects.specs.Bounds
use Rattle.fx_plan_effects.specs.Bounds.{hold_all, is_beyond_limit, maxima, work_of}
use Rattle.fx_plan_effects.specs.Effects.{Act, Usable, all_fit, fits_layout, layout_after, channels_after}
use Rattle.fx_plan_effects.specs.Registry.{OfDelay, OfRemix, OfUpsample}
use Rattle.fx_plan_effects.specs.declared.effect.Layout.{Layout}
use Rattle.fx_plan_effects.proofs.Lasting.{within-here, within-next, work-cons}
use Rattle.std.proofs.lemmas.Bool.{and_parts}
use Rattle.std.proofs.lemmas.List.{length-append, length-replicate}
use Rattle.std.proofs.lemmas.List.Elements.{All-head, All-tail}
use Rattle.std.proofs.lemmas.List.Sums.{sum_by-cons}
use Rattle.std.proofs.Math.Nat.{le-div_iff_mul-le}
use Rattle.fx_plan_effects.specs.Meanings
use Rattle.fx_plan_effects.specs.Meanings.{InPlace, kind_at, line_of_act, recipe_at}
use Rattle.fx_chain_stages.specs.Made.{all_suit, recipes_for, suits}
use Rattle.fx_fixed.specs.Extents.{largest}
use Rattle.fx_tap_delays.specs.Delay.{every_delay}
use Rattle.fx_tap_delays.proofs.MaxDelay.{largest-filled}

-- the kind of an effect's stage
abbrev pub kind_for : ℕ → Act → StageKind
kind_for channels a = kind_at (recipe_at (InPlace channels a))

abbrev pub kinds_for : ℕ → List Act → List StageKind
kinds_for channels acts = map kind_at (recipes_for channels acts)

-- each channel has a delay
pub delays-long : (channels : ℕ) (ds : List ℕ) → suits channels (OfDelay ds) ≡ true → length (every_delay channels ds) ≡ channels
delays-long channels ds h =
    let bound : length ds ≤ channels = grind (arith, nat_tests) in
    let long = length-append ds (replicate (channels - length ds) 0) in
    let tail : length (replicate (channels - length ds) ((λ (n : ℕ). n) 0)) ≡ channels - length ds = length-replicate (channels - length ds) ((λ (n : ℕ). n) 0) in
    omega (arith, bound, long, tail)

-- a factor times a number stays below a limit where the number stays below the limit's part
part-fits : (n factor limit : ℕ) → 1 ≤ factor → n * factor ≤ limit → n ≤ limit / factor
part-fits n factor limit p h = (le-div_iff_mul-le p).1 h

-- What a plan says of an effect holds of its stage: its line is as long; it gives as many frames for so many; it takes frames
-- of the channels, and gives frames of those after the effect, which are 1 to 16; it takes as many frames as come where
-- what it gives is not too long; and it suits channels where the effect fits a layout with them.
pub record Planned (channels : ℕ) (a : Act) : Type 0 where
  pub line : (kind_for channels a).line ≡ line_of_act a
  pub maximum : (n : ℕ) → (kind_for channels a).maximum n ≡ Meanings.max_of_act a n
  pub inputs : suits channels a ≡ true → (kind_for channels a).inputs ≡ channels
  pub outputs : suits channels a ≡ true → (kind_for channels a).outputs ≡ channels_after channels a
  pub limit : (n : ℕ) → Usable a → n ≤ 2 ^ 56 → Meanings.max_of_act a n ≤ 2 ^ 56 → n ≤ (kind_for channels a).limit
  pub some : Usable a → 1 ≤ channels → 1 ≤ channels_after channels a
  pub bound : Usable a → channels ≤ 16 → channels_after channels a ≤ 16
  pub suiting : (rate : ℕ) → fits_layout (record { rate = rate; channels = channels }) a ≡ true → suits channels a ≡ true
  pub rest_unchanged : (rate : ℕ) → (layout_after (record { rate = rate; channels = channels }) (Some a)).channels ≡ channels_after channels a

pub planned : (channels : ℕ) (a : Act) → Planned channels a
planned channels (OfDelay ds) =
    let max_delay : largest (every_delay channels ds) ≡ largest (every_delay 1 ds) = largest-filled ds (channels - length ds) ∙ sym (largest-filled ds (1 - length ds)) in
    record {
      line = max_delay;
      maximum = λ n. ap (λ d. n + d) max_delay;
      inputs = delays-long channels ds;
      outputs = delays-long channels ds;
      limit = λ n u here next. here;
      some = λ u h. h;
      bound = λ u h. h;
      suiting = λ rate h. h;
      rest_unchanged = λ rate. refl;
    }
planned channels (OfRemix specs) =
    record {
      line = refl;
      maximum = λ n. refl;
      inputs = λ h. refl;
      outputs = λ h. refl;
      limit = λ n u here next. here;
      some = λ u h. grind (arith, nat_tests, (and_parts (nat_le 1 (length specs)) (nat_le (length specs) 16) u).0);
      bound = λ u h. grind (arith, nat_tests, (and_parts (nat_le 1 (length specs)) (nat_le (length specs) 16) u).1);
      suiting = λ rate h. h;
      rest_unchanged = λ rate. refl;
    }
planned channels (OfUpsample factor) =
    record {
      line = refl;
      maximum = λ n. refl;
      inputs = λ h. refl;
      outputs = λ h. refl;
      limit = λ n u here next. part-fits n factor (2 ^ 56) (grind (arith, nat_tests, (and_parts (nat_le 1 factor) (nat_le factor 256) u).0)) next;
      some = λ u h. h;
      bound = λ u h. h;
      suiting = λ rate h. h;
      rest_unchanged = λ rate. refl;
    }
planned channels other = record { line = refl; maximum = λ n. refl; inputs = λ h. refl; outputs = λ h. refl; limit = λ n u here next. here; some = λ u h. h; bound = λ u h. h; suiting = λ rate h. h; rest_unchanged = λ rate. refl }

-- its line is as long as the plan says: a channel without a delay makes none longer
pub line-is : (channels : ℕ) (a : Act) → (kind_for channels a).line ≡ line_of_act a
line-is channels a = (planned channels a).line

-- effects that fit one after the other suit one after the other
pub suit-fit : (layout : Layout) (acts : List Act) → all_fit layout acts ≡ true → all_suit layout.channels acts ≡ true
suit-fit layout [] h = refl
suit-fit layout (a ∷ acts) h =
    let parts = and_parts (fits_layout layout a) (all_fit (layout_after layout (Some a)) acts) h in
    let rest : all_suit (channels_after layout.channels a) acts ≡ true = rw (sym ((planned layout.channels a).rest_unchanged layout.rate)) (suit-fit (layout_after layout (Some a)) acts parts.1) in
    rw ((planned layout.channels a).suiting layout.rate parts.0, rest) refl

pub matching-for : (channels : ℕ) (acts : List Act) → all_suit channels acts ≡ true → Matching channels (kinds_for channels acts)
matching-for channels [] h = tt
matching-for channels (a ∷ acts) h =
    let parts = and_parts (suits channels a) (all_suit (channels_after channels a) acts) h in
    ((planned channels a).inputs parts.0, rw ((planned channels a).outputs parts.0) (matching-for (channels_after channels a) acts parts.1))

pub within-for : (channels : ℕ) (acts : List Act) (n : ℕ) → All Usable acts → list_any is_beyond_limit (maxima acts n) ≡ false → Within (kinds_for channels acts) n
within-for channels [] n u h = tt
within-for channels (a ∷ acts) n u h =
    let next = within-next a acts n h in (
      (planned channels a).limit n (All-head Usable a acts u) (within-here (a ∷ acts) n h) (within-here acts (Meanings.max_of_act a n) next),
      rw ((planned channels a).maximum n) (within-for (channels_after channels a) acts (Meanings.max_of_act a n) (All-tail Usable a acts u) next),
    )

pub maximum-for : (channels : ℕ) (acts : List Act) (n : ℕ) → list_any is_beyond_limit (maxima acts n) ≡ false → max_of (kinds_for channels acts) n ≤ 2 ^ 56
maximum-for channels [] n h = within-here [] n h
maximum-for channels (a ∷ acts) n h = rw ((planned channels a).maximum n, max_of) (maximum-for (channels_after channels a) acts (Meanings.max_of_act a n) (within-next a acts n h))

pub work-for : (channels : ℕ) (acts : List Act) (n : ℕ) → work (kinds_for channels acts) n ≡ work_of acts n
work-for channels [] n = omega arith
work-for channels (a ∷ acts) n = rw ((planned channels a).maximum n, work-for (channels_after channels a) acts (Meanings.max_of_act a n)) (sym (work-cons a acts n))

holds-are : (channels : ℕ) (acts : List Act) → hold_sum (kinds_for channels acts) ≡ sum_by Bounds.hold_of_act acts
holds-are channels [] = refl
holds-are channels (a ∷ acts) = rw (line-is channels a, holds-are (channels_after channels a) acts) (sym (sum_by-cons Bounds.hold_of_act a acts))

pub hold-for : (channels : ℕ) (acts : List Act) → 1 + hold_sum (kinds_for channels acts) ≡ hold_all acts
hold-for channels acts = ap (λ n. 1 + n) (holds-are channels acts)
