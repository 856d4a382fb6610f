-- Groups of frames, the first of which is kept.
use Rattle.std.proofs.Common.{◌≡◌, ◌+◌, ◌-◌, ◌*◌, ◌/◌, ◌<◌, ◌≤◌, ◌^◌, ℕ, ℤ, zero, suc, false, List, [], ◌∷◌, ◌++◌, length, take, drop, refl, sym, ap, ◌∙◌, add-zero, arith, length-drop, None, option_to_list, is_none}
use Rattle.std.specs.Int.{div_ceil}
use Rattle.std.proofs.lemmas.List.{drop-drop, length-take-le}
use Rattle.std.proofs.Math.Nat.{add-mul, mul_assoc, mul-le-mul_right, suc-mul}
use Rattle.fx_frame_base.specs.Feed.{Fed, GaveNext, TookNext, TookWithinSpace, nothing, taken, given}
use Rattle.fx_frame_base.specs.Frame.{Samples}
use Rattle.fx_frame_base.specs.Lists.{pieces}
use Rattle.fx_frame_base.proofs.FedLaws.{Fed-then}
use Rattle.fx_frame_base.proofs.Capacities.{free-maximum}
use Rattle.fx_frame_base.proofs.Puts.{pieces-split}
use Rattle.fx_frame_base.proofs.Pieces.{length-pieces}
use Rattle.fx_cut.specs.Ceil.{ceil_rises}
use Rattle.fx_cut.specs.Downsample.{downsampled}
use Rattle.fx_cut.specs.DownsampleState.{DownsampleState, IsDownsample, downsample_acts}
use Rattle.fx_cut.specs.Strides.{firsts}
use Rattle.fx_cut.proofs.CoreCounts.{IsCore-gave, IsCore-took}
use Rattle.fx_cut.proofs.Pieces.{first-piece, frames-free}
use Rattle.fx_cut.proofs.DownsampleLaws.{ceil_is, kept, left, Took-kept, IsDownsample-left}

module _ {X : Type 0} where
  -- one group more
  pub firsts-more : (size step n at : ℕ) (xs : List X) → at ≡ n * (step * size) → firsts size step (n + 1) xs ≡ firsts size step n xs ++ take size (drop at xs) ∷ []
  firsts-more size step zero at xs e = let z : at ≡ 0 = omega arith in rw z refl
  firsts-more size step (suc n) at xs e =
      let back : at ≡ step * size + n * (step * size) = omega (arith, suc-mul n (step * size)) in
      let more : suc n + 1 ≡ suc (n + 1) = omega arith in
      rw more (ap (λ l. take size xs ∷ l) (firsts-more size step n (n * (step * size)) (drop (step * size) xs) refl ∙ ap (λ l. firsts size step n (drop (step * size) xs) ++ take size l ∷ []) (drop-drop (n * (step * size)) (step * size) xs ∙ ap (λ i. drop i xs) (sym back))))

-- such a stage with no pending frame, before the end
pub record Ready (s : DownsampleState) : Type 0 where
  pub is : IsDownsample s
  pub empty : s.core.pending ≡ None
  pub running : s.core.ended ≡ false

-- so many frames were left out
abbrev pub beyond : DownsampleState → ℕ → DownsampleState
beyond s n = record s { core = record s.core { taken = s.core.taken + n }; skip = s.skip - n }

took-left : (s : DownsampleState) (x : Samples) → Ready s → 0 < s.skip → TookNext downsample_acts s (left s) x
took-left s x r some =
    let cut : (z : List Samples) → drop (s.skip - 1) z ≡ drop s.skip (x ∷ z) = λ z. let e : s.skip ≡ suc (s.skip - 1) = omega arith in sym (ap (λ i. drop i (x ∷ z)) e) in
    let c = r.is.counted in
    let pending : length (option_to_list s.core.pending) ≡ 0 = ap (λ h. length (option_to_list h)) r.empty in
    record {
      dry = ap is_none r.empty;
      due = omega (arith, c, pending);
      not_ended = r.running;
      not_spent = rw r.empty refl;
      took = record { rest = λ z. rw (r.running, r.empty) (ap (downsampled s.recipe.factor) (cut z)); counted = refl; recipe_stays = refl };
      held = rw r.empty (omega arith);
    }

pub left-fed : (xs : List Samples) (s : DownsampleState) → Ready s → length xs ≤ s.skip → s.core.taken + length xs ≤ 2 ^ 56 → Fed downsample_acts s xs [] (beyond s (length xs)) × Ready (beyond s (length xs))
left-fed [] s r h bound =
    let skip : s.skip - 0 ≡ s.skip = omega arith in
    let count : s.core.taken + 0 ≡ s.core.taken = omega arith in
    rw (skip, count) (nothing, r)
left-fed (x ∷ xs) s r h bound =
    let some : 0 < s.skip = omega arith in
    let next : Ready (left s) = record { is = IsDownsample-left s x r.is (ap is_none r.empty) r.running some (omega arith); empty = r.empty; running = r.running } in
    let rest = left-fed xs (left s) next (omega arith) (omega arith) in
    let skip : s.skip - suc (length xs) ≡ s.skip - 1 - length xs = omega arith in
    let count : s.core.taken + suc (length xs) ≡ s.core.taken + 1 + length xs = omega arith in
    rw (skip, count) (Fed-then downsample_acts s (left s) _ (x ∷ []) [] xs [] (taken [] [] x s (left s) nothing (took-left s x r some)) rest.0, rest.1)

-- so many groups were passed
abbrev pub passed : DownsampleState → ℕ → ℕ → DownsampleState
passed s count groups = record s { core = record s.core { taken = s.core.taken + count; given = s.core.given + groups }; skip = 0 }

group-fed : (x : Samples) (ys : List Samples) (s : DownsampleState) → Ready s → s.skip ≡ 0 → length x ≡ s.recipe.channels → length ys ≡ s.recipe.factor - 1 → s.core.taken + s.recipe.factor ≤ 2 ^ 56
    → Fed downsample_acts s (x ∷ ys) (x ∷ []) (passed s s.recipe.factor 1) × Ready (passed s s.recipe.factor 1)
group-fed x ys s r none sides many bound =
    let f : ℕ = s.recipe.factor in
    let is = r.is in
    let some : 0 < f = is.arguments.some_factor in
    let q : ℕ = div_ceil s.core.taken f in
    let before : s.core.taken + s.skip ≡ q * f = is.skipped in
    let after : (s.core.taken + 1) + (f - 1) ≡ suc q * f = omega (arith, before, suc-mul q f) in
    let next : div_ceil (s.core.taken + 1) f ≡ suc q = ceil_is (s.core.taken + 1) (f - 1) (suc q) f some after (omega arith) in
    let c = is.counted in
    let pending : length (option_to_list s.core.pending) ≡ 0 = ap (λ h. length (option_to_list h)) r.empty in
    let mid : DownsampleState = kept s x in
    let last : DownsampleState = record s { core = record s.core { taken = s.core.taken + 1; given = s.core.given + 1 }; skip = f - 1 } in
    let then : Ready last = record {
      is = record {
        core = IsCore-gave _ 1 _ (IsCore-took _ 1 s.core is.core (omega arith));
        arguments = is.arguments;
        counted = rw next (omega arith);
        skipped = rw next after;
        pending_place = λ held. absurd (omega arith);
      };
      empty = r.empty;
      running = r.running;
    } in
    let took : TookNext downsample_acts s mid x = record {
      dry = ap is_none r.empty;
      due = omega (arith, c, pending);
      not_ended = r.running;
      not_spent = rw r.empty refl;
      took = Took-kept s x is (ap is_none r.empty) r.running none;
      held = omega arith;
    } in
    let gave : GaveNext downsample_acts mid last x = record {
      gave = record {
        was_wet = refl;
        gives = record { clips = 0; first = λ z. rw r.empty refl; counted = rw (add-zero s.core.clips) refl };
        channels = sides;
        due = λ e. rw next (omega arith);
        maximum = rw next (omega arith);
        recipe_stays = refl;
      };
      held = omega arith;
    } in
    let rest = left-fed ys last then (omega arith) (omega arith) in
    let skip : f - 1 - length ys ≡ 0 = omega arith in
    let count : s.core.taken + 1 + length ys ≡ s.core.taken + f = omega arith in
    let end : ◌≡◌ {A = DownsampleState} (passed s f 1) (beyond last (length ys)) = rw (skip, count) refl in
    rw end (Fed-then downsample_acts s last (beyond last (length ys)) (x ∷ []) (x ∷ []) ys [] (given (x ∷ []) [] x mid last (taken [] [] x s mid nothing took) gave) rest.0, rest.1)

pub groups-fed : (m : ℕ) (s : DownsampleState) (input : List ℤ) → Ready s → s.skip ≡ 0 → m * (s.recipe.factor * s.recipe.channels) ≤ length input → s.core.taken + m * s.recipe.factor ≤ 2 ^ 56
    → Fed downsample_acts s (pieces s.recipe.channels (m * s.recipe.factor) input) (firsts s.recipe.channels s.recipe.factor m input) (passed s (m * s.recipe.factor) m) × Ready (passed s (m * s.recipe.factor) m)
groups-fed zero s input r none free bound =
    let z : 0 * s.recipe.factor ≡ 0 = omega arith in
    let count : s.core.taken + 0 ≡ s.core.taken = omega arith in
    let gives : s.core.given + 0 ≡ s.core.given = omega arith in
    let same : ◌≡◌ {A = DownsampleState} (record s { skip = 0 }) s = rw (← none) refl in
    rw (z, count, gives, same) (nothing, r)
groups-fed (suc m) s input r none free bound =
    let f : ℕ = s.recipe.factor in
    let ch : ℕ = s.recipe.channels in
    let some : 1 ≤ f = r.is.arguments.some_factor in
    let more : suc m * f ≡ f + m * f = omega (arith, suc-mul m f) in
    let wide : suc m * (f * ch) ≡ f * ch + m * (f * ch) = omega (arith, suc-mul m (f * ch)) in
    let minimum : 1 * ch ≤ f * ch = mul-le-mul_right ch some in
    let one = group-fed (take ch input) (pieces ch (f - 1) (drop ch input)) s r none (length-take-le ch input (omega arith)) (length-pieces ch (f - 1) (drop ch input)) (omega arith) in
    let rest = groups-fed m (passed s f 1) (drop (f * ch) input) one.1 refl (omega (arith, length-drop (f * ch) input)) (omega arith) in
    let count : s.core.taken + suc m * f ≡ s.core.taken + f + m * f = omega arith in
    let gives : s.core.given + suc m ≡ s.core.given + 1 + m = omega arith in
    rw (count, gives, more, pieces-split ch f (m * f) input, first-piece ch f input some) (Fed-then downsample_acts s (passed s f 1) _ _ _ _ _ one.0 rest.0, rest.1)

-- the frames before the next group
pub lead-passed : (s : DownsampleState) (n : ℕ) (input : List ℤ) → Ready s → n ≤ s.skip → s.core.taken + n ≤ 2 ^ 56 → Fed downsample_acts s (pieces s.recipe.channels n input) [] (beyond s n) × Ready (beyond s n)
lead-passed s n input r h bound =
    let many : length (pieces s.recipe.channels n input) ≡ n = length-pieces s.recipe.channels n input in
    let all = left-fed (pieces s.recipe.channels n input) s r (omega arith) (omega arith) in
    rw many at all

-- those and groups after them
pub all-passed : (s : DownsampleState) (n m : ℕ) (input out : List ℤ) → Ready s → n ≤ s.skip → s.skip - n ≡ 0 → (n + m * s.recipe.factor) * s.recipe.channels ≤ length input → s.core.taken + (n + m * s.recipe.factor) ≤ 2 ^ 56
    → pieces s.recipe.channels m out ≡ firsts s.recipe.channels s.recipe.factor m (drop (n * s.recipe.channels) input)
    → Fed downsample_acts s (pieces s.recipe.channels (n + m * s.recipe.factor) input) (pieces s.recipe.channels m out) (record s { core = record s.core { taken = s.core.taken + n + m * s.recipe.factor; given = s.core.given + m }; skip = s.skip - n })
    × Ready (record s { core = record s.core { taken = s.core.taken + n + m * s.recipe.factor; given = s.core.given + m }; skip = s.skip - n })
all-passed s n m input out r h none free bound same =
    let f : ℕ = s.recipe.factor in
    let ch : ℕ = s.recipe.channels in
    let one = lead-passed s n input r h (omega arith) in
    let split : (n + m * f) * ch ≡ n * ch + m * (f * ch) = add-mul n (m * f) ch ∙ ap (λ k. n * ch + k) (mul_assoc m f ch) in
    let two = groups-fed m (beyond s n) (drop (n * ch) input) one.1 none (omega (arith, free, split, length-drop (n * ch) input)) (omega arith) in
    let end : ◌≡◌ {A = DownsampleState} (record s { core = record s.core { taken = s.core.taken + n + m * f; given = s.core.given + m }; skip = s.skip - n }) (passed (beyond s n) (m * f) m) = rw none refl in
    rw (end, same, pieces-split ch n (m * f) input) (Fed-then downsample_acts s (beyond s n) (passed (beyond s n) (m * f) m) (pieces ch n input) [] (pieces ch (m * f) (drop (n * ch) input)) (firsts ch f m (drop (n * ch) input)) one.0 two.0, two.1)

-- each of so many frames was taken while the output had space for one more, where it has room for those that were given and one more
pub took-with-free : (s t : DownsampleState) (n k free : ℕ) → Ready t → t.recipe ≡ s.recipe → t.core.taken ≡ s.core.taken + n → t.core.given ≡ s.core.given + k → (k + 1) * s.recipe.channels ≤ free → TookWithinSpace downsample_acts s n free
took-with-free s t n k free r same took gave fits =
    let counted = rw same at r.is.counted in
    let pending : length (option_to_list t.core.pending) ≡ 0 = ap (λ h. length (option_to_list h)) r.empty in
    free-maximum downsample_acts s n k free (λ i bound. omega (arith, counted, pending, gave, ceil_rises (s.core.taken + i) t.core.taken s.recipe.factor (omega (arith, took, bound)))) fits

-- so many frames and groups are there
pub groups-free : (len ch f n m : ℕ) → n ≤ len / ch → m ≤ (len / ch - n) / f → (n + m * f) * ch ≤ len
groups-free len ch f n m h k =
    let bound : m * f ≤ len / ch - n = frames-free m f (len / ch - n) k in
    frames-free (n + m * f) ch len (omega (arith, bound, h))
