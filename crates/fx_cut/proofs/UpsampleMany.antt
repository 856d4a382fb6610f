-- Frames, each with the silence after it.
use Rattle.std.proofs.Common.{◌≡◌, ◌+◌, ◌-◌, ◌*◌, ◌/◌, ◌<◌, ◌≤◌, ◌^◌, ℕ, ℤ, zero, suc, true, false, List, [], ◌∷◌, ◌++◌, length, take, drop, replicate, refl, sym, ap, ◌∙◌, arith, add-one, add-zero, append-nil, append_assoc, length-drop, None, option_to_list, pos}
use Rattle.std.proofs.lemmas.List.{drop-drop, drop-replicate, drop_at, length-take-le, take-replicate, take_at}
use Rattle.std.proofs.Math.Nat.{add-mul, div-le_self, mul-le-mul_right, suc-mul}
use Rattle.fx_frame_base.specs.Feed.{Fed, GaveNext, TookNext, TookWithinSpace, nothing, taken, given}
use Rattle.fx_frame_base.specs.Frame.{Samples, silence}
use Rattle.fx_frame_base.specs.Lists.{pieces}
use Rattle.fx_frame_base.specs.StageCore.{after_offering}
use Rattle.fx_frame_base.proofs.FedLaws.{Fed-then}
use Rattle.fx_frame_base.proofs.Capacities.{free-maximum}
use Rattle.fx_frame_base.proofs.Puts.{pieces-split, pieces-take}
use Rattle.fx_frame_base.proofs.Pieces.{pieces-front}
use Rattle.fx_cut.specs.Strides.{spread}
use Rattle.fx_cut.proofs.CoreCounts.{IsCore-gave, IsCore-took}
use Rattle.fx_cut.specs.UpsampleState.{UpsampleState, IsUpsample, upsample_acts}
use Rattle.fx_cut.proofs.Pieces.{first-piece}
use Rattle.fx_cut.proofs.UpsampleLaws.{Gave-silent, Took-upsample}

-- ---- samples

silent-pieces : (size n : ℕ) → pieces size n (replicate (n * size) (pos 0)) ≡ replicate n (silence size)
silent-pieces size zero = refl
silent-pieces size (suc n) =
    let more : suc n * size ≡ size + n * size = omega (arith, suc-mul n size) in
    let minimum : size ≤ size + n * size = omega arith in
    let rest : size + n * size - size ≡ n * size = omega arith in
    let back : drop size (replicate (size + n * size) (pos 0)) ≡ replicate (n * size) (pos 0) = drop-replicate size (size + n * size) (pos 0) ∙ ap (λ k. replicate k (pos 0)) rest in
    rw (more, take-replicate size (size + n * size) (pos 0) minimum, back) (ap (λ l. silence size ∷ l) (silent-pieces size n))

-- a frame with the silence after it
pub group-pieces : (size factor : ℕ) (x : Samples) → 1 ≤ factor → length x ≡ size → pieces size factor (x ++ replicate (factor * size - size) (pos 0)) ≡ x ∷ replicate (factor - 1) (silence size)
group-pieces size factor x some long =
    let one : factor ≡ suc (factor - 1) = omega arith in
    let all : factor * size ≡ suc (factor - 1) * size = ap (λ k. k * size) one in
    let rest : factor * size - size ≡ (factor - 1) * size = omega (arith, all, suc-mul (factor - 1) size) in
    let silent : Samples = replicate ((factor - 1) * size) (pos 0) in
    rw rest (first-piece size factor (x ++ silent) some ∙ ap (λ l. l ∷ pieces size (factor - 1) (drop size (x ++ silent))) (take_at x silent size long)
    ∙ ap (λ l. x ∷ pieces size (factor - 1) l) (drop_at x silent size long) ∙ ap (λ l. x ∷ l) (silent-pieces size (factor - 1)))

-- a group more is written
pub pieces-group : (size factor n at : ℕ) (out g new : List ℤ) → at ≡ n * size → length g ≡ factor * size → at ≤ length out → new ≡ take at out ++ g ++ drop (at + length g) out → pieces size (n + factor) new ≡ pieces size n out ++ pieces size factor g
pieces-group size factor n at out g new e long free w =
    let rest : List ℤ = drop (at + length g) out in
    let parts : new ≡ take at out ++ (g ++ rest) = w ∙ append_assoc (take at out) g rest in
    let cut : length (take at out) ≡ n * size = length-take-le at out free ∙ e in
    let front : pieces size n new ≡ pieces size n out = rw parts (pieces-front size n (take at out) (g ++ rest) cut ∙ ap (λ m. pieces size n (take m out)) e ∙ pieces-take size n out (omega arith)) in
    let back : pieces size factor (drop (n * size) new) ≡ pieces size factor g = rw parts (ap (pieces size factor) (drop_at (take at out) (g ++ rest) (n * size) cut) ∙ pieces-front size factor g rest long) in
    rw (pieces-split size n factor new, front, back) refl

pub spread-more : (size factor n at : ℕ) (xs : List ℤ) → at ≡ n * size → spread size factor (n + 1) xs ≡ spread size factor n xs ++ (take size (drop at xs) ∷ replicate (factor - 1) (silence size))
spread-more size factor zero at xs e = let z : at ≡ 0 = omega arith in rw (z, append-nil) refl
spread-more size factor (suc n) at xs e =
    let back : at ≡ size + n * size = omega (arith, suc-mul n size) in
    let more : suc n + 1 ≡ suc (n + 1) = omega arith in
    let group : List Samples = take size xs ∷ replicate (factor - 1) (silence size) in
    let last : Samples → List Samples = λ x. x ∷ replicate (factor - 1) (silence size) in
    rw more (ap (λ l. group ++ l) (spread-more size factor n (n * size) (drop size xs) refl ∙ ap (λ l. spread size factor n (drop size xs) ++ last (take size l)) (drop-drop (n * size) size xs ∙ ap (λ i. drop i xs) (sym back)))
    ∙ sym (append_assoc group (spread size factor n (drop size xs)) (last (take size (drop at xs)))))

-- ---- frames

-- such a stage takes no more frames than each core may
below-limit : (n f : ℕ) → n ≤ 2 ^ 56 / f → n ≤ 2 ^ 56
below-limit n f bound = omega (arith, bound, div-le_self (2 ^ 56) f)

-- such a stage with no frame to give, before the end
pub record Ready (s : UpsampleState) : Type 0 where
  pub is : IsUpsample s
  pub empty : s.core.pending ≡ None
  pub none : s.silent ≡ 0
  pub running : s.core.ended ≡ false

silent-fed : (k : ℕ) (s : UpsampleState) → IsUpsample s → s.core.pending ≡ None → s.core.ended ≡ false → s.silent ≡ k
    → Fed upsample_acts s [] (replicate k (silence s.recipe.channels)) (record s { core = record s.core { given = s.core.given + k }; silent = 0 }) × Ready (record s { core = record s.core { given = s.core.given + k }; silent = 0 })
silent-fed zero s is empty running e =
    let same : ◌≡◌ {A = UpsampleState} (record s { core = record s.core { given = s.core.given + 0 }; silent = 0 }) s = rw (add-zero, ← e) refl in
    rw same (nothing, record { is = is; empty = empty; none = e; running = running })
silent-fed (suc k) s is empty running e =
    let some : 0 < s.silent = omega arith in
    let next : UpsampleState = record s { core = record s.core { given = s.core.given + 1 }; silent = s.silent - 1 } in
    let counted = is.counted in
    let fewer = is.fewer in
    let pending : length (option_to_list s.core.pending) ≡ 0 = ap (λ h. length (option_to_list h)) empty in
    let is' : IsUpsample next = record {
      core = IsCore-gave _ 1 s.core is.core;
      arguments = is.arguments;
      counted = omega arith;
      fewer = omega arith;
      pending_place = λ h. absurd (omega arith);
      over = λ o. absurd (cc (running, o));
      limit = is.limit;
    } in
    let rest = silent-fed k next is' empty running (omega arith) in
    let gave : GaveNext upsample_acts s next (silence s.recipe.channels) = record { gave = rw (add-zero s.core.clips) at (Gave-silent s is empty some); held = omega arith } in
    let count : s.core.given + suc k ≡ s.core.given + 1 + k = omega arith in
    rw count (Fed-then upsample_acts s next _ [] (silence s.recipe.channels ∷ []) [] (replicate k (silence s.recipe.channels)) (given [] [] (silence s.recipe.channels) s next nothing gave) rest.0, rest.1)

-- so many frames were passed
abbrev pub passed : UpsampleState → ℕ → ℕ → UpsampleState
passed s count made = record s { core = record s.core { taken = s.core.taken + count; given = s.core.given + made } }

one-fed : (s : UpsampleState) (x : Samples) → Ready s → length x ≡ s.recipe.channels → s.core.taken + 1 ≤ 2 ^ 56 / s.recipe.factor
    → Fed upsample_acts s (x ∷ []) (x ∷ replicate (s.recipe.factor - 1) (silence s.recipe.channels)) (passed s 1 s.recipe.factor) × Ready (passed s 1 s.recipe.factor)
one-fed s x r sides bound =
    let f : ℕ = s.recipe.factor in
    let is = r.is in
    let some : 1 ≤ f = is.arguments.some_factor in
    let counted = is.counted in
    let none = r.none in
    let pending : length (option_to_list s.core.pending) ≡ 0 = ap (λ h. length (option_to_list h)) r.empty in
    let more : (s.core.taken + 1) * f ≡ s.core.taken * f + f = rw add-one (omega (arith, suc-mul s.core.taken f)) in
    let mid : UpsampleState = record s { core = after_offering x 0 s.core; silent = f - 1 } in
    let last : UpsampleState = record s { core = record s.core { taken = s.core.taken + 1; given = s.core.given + 1 }; silent = f - 1 } in
    let dry : upsample_acts.dry s ≡ true = rw (r.empty, r.none) refl in
    let took : TookNext upsample_acts s mid x = record { dry = dry; due = omega arith; not_ended = r.running; not_spent = rw dry refl; took = Took-upsample s x is dry r.running; held = omega arith } in
    let gave : GaveNext upsample_acts mid last x = record {
      gave = record {
        was_wet = refl;
        gives = record { clips = 0; first = λ z. rw r.empty refl; counted = rw (add-zero s.core.clips) refl };
        channels = sides;
        due = λ e. omega arith;
        maximum = omega arith;
        recipe_stays = refl;
      };
      held = omega arith;
    } in
    let is' : IsUpsample last = record {
      core = IsCore-gave _ 1 _ (IsCore-took _ 1 s.core is.core (below-limit (s.core.taken + 1) f bound));
      arguments = is.arguments;
      counted = omega arith;
      fewer = omega arith;
      pending_place = λ h. absurd (omega arith);
      over = λ o. absurd (cc (r.running, o));
      limit = bound;
    } in
    let rest = silent-fed (f - 1) last is' r.empty r.running refl in
    let count : s.core.given + 1 + (f - 1) ≡ s.core.given + f = omega arith in
    let end : ◌≡◌ {A = UpsampleState} (record last { core = record last.core { given = s.core.given + 1 + (f - 1) }; silent = 0 }) (passed s 1 f) = rw (count, r.none) refl in
    rw (← end) (Fed-then upsample_acts s last _ (x ∷ []) (x ∷ []) [] (replicate (f - 1) (silence s.recipe.channels)) (given (x ∷ []) [] x mid last (taken [] [] x s mid nothing took) gave) rest.0, rest.1)

pub frames-fed : (n : ℕ) (s : UpsampleState) (input : List ℤ) → Ready s → n * s.recipe.channels ≤ length input → s.core.taken + n ≤ 2 ^ 56 / s.recipe.factor
    → Fed upsample_acts s (pieces s.recipe.channels n input) (spread s.recipe.channels s.recipe.factor n input) (passed s n (n * s.recipe.factor)) × Ready (passed s n (n * s.recipe.factor))
frames-fed zero s input r free bound =
    let z : 0 * s.recipe.factor ≡ 0 = omega arith in
    let same : ◌≡◌ {A = UpsampleState} (passed s 0 0) s = rw (add-zero s.core.taken, add-zero s.core.given) refl in
    rw (z, same) (nothing, r)
frames-fed (suc n) s input r free bound =
    let f : ℕ = s.recipe.factor in
    let ch : ℕ = s.recipe.channels in
    let wide : suc n * ch ≡ ch + n * ch = omega (arith, suc-mul n ch) in
    let more : suc n * f ≡ f + n * f = omega (arith, suc-mul n f) in
    let one = one-fed s (take ch input) r (length-take-le ch input (omega arith)) (omega arith) in
    let rest = frames-fed n (passed s 1 f) (drop ch input) one.1 (omega (arith, length-drop ch input)) (omega arith) in
    let count : s.core.taken + suc n ≡ s.core.taken + 1 + n = omega arith in
    let made : s.core.given + suc n * f ≡ s.core.given + f + n * f = omega arith in
    rw (count, made) (Fed-then upsample_acts s (passed s 1 f) _ (take ch input ∷ []) (take ch input ∷ replicate (f - 1) (silence ch)) _ _ one.0 rest.0, rest.1)

-- the same where the output has them
pub all-passed : (s : UpsampleState) (n : ℕ) (input out : List ℤ) → Ready s → n * s.recipe.channels ≤ length input → s.core.taken + n ≤ 2 ^ 56 / s.recipe.factor → pieces s.recipe.channels (n * s.recipe.factor) out ≡ spread s.recipe.channels s.recipe.factor n input
    → Fed upsample_acts s (pieces s.recipe.channels n input) (pieces s.recipe.channels (n * s.recipe.factor) out) (passed s n (n * s.recipe.factor)) × Ready (passed s n (n * s.recipe.factor))
all-passed s n input out r free bound same =
    rw same (frames-fed n s input r free bound)

-- each of them was taken while the output had space for one more
pub took-with-free : (s : UpsampleState) (n free : ℕ) → Ready s → n * s.recipe.factor * s.recipe.channels ≤ free → TookWithinSpace upsample_acts s n free
took-with-free s n free r fits i bound =
    let f : ℕ = s.recipe.factor in
    let counted = r.is.counted in
    let pending : length (option_to_list s.core.pending) ≡ 0 = ap (λ h. length (option_to_list h)) r.empty in
    let none = r.none in
    let some : 1 ≤ f = r.is.arguments.some_factor in
    let before : (j : ℕ) → j < n → j * f + f ≤ n * f = λ j less. let h : (j + 1) * f ≤ n * f = mul-le-mul_right f (omega arith) in omega (arith, h, add-mul j 1 f) in
    let last = before i bound in
    let whole : n * f - 1 + 1 ≡ n * f = omega arith in
    free-maximum upsample_acts s n (n * f - 1) free (λ j less. omega (arith, counted, pending, none, some, before j less, add-mul s.core.taken j f)) (rw whole fits) i bound
