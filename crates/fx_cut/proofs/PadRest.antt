-- The steps of `pad` along the list.
use Rattle.std.proofs.Common.{◌≡◌, ℕ, zero, suc, ◌+◌, ◌-◌, ◌<◌, ◌≤◌, true, List, [], ◌∷◌, ◌++◌, length, drop, refl, sym, ◌∙◌, ap, arith, length-append, append_assoc, append-nil, add-one, add-zero, map, flat_map, slice_get, option_to_list, replicate, Option, Some, None}
use Rattle.std.specs.List.{range_with_len, enumerate_from}
use mathlib.Core.Path.{ap₂}
use Rattle.fx_fixed.specs.Extents.{largest}
use Rattle.fx_cut.specs.PadExtents.{pad_distance}
use Rattle.fx_fixed.specs.declared.positions.At.{At}
use Rattle.fx_frame_base.specs.Frame.{Samples, silence}
use Rattle.fx_cut.specs.Pad.{PadArguments, ats, placed, silent_at, padded, pads_from_start, RisesFrom}
use Rattle.fx_cut.specs.PadState.{padded_from, pad_rest, pad_after, unless_last}
use Rattle.fx_cut.proofs.PadLaws.{pad_first, same_silence}

flat_same : {X : Type 0} (f g : ℕ → List X) (a n : ℕ) → ((i : ℕ) → a ≤ i → i < a + n → f i ≡ g i) → flat_map f (range_with_len a n) ≡ flat_map g (range_with_len a n)
flat_same f g a zero h = refl
flat_same f g a (suc n) h = cc (h a (omega arith) (omega arith), flat_same f g (a + 1) n (λ i low high. h i (omega arith) (omega arith)))

padded_along : (S : ℕ → List Samples) (a : ℕ) (x : List Samples)
    → flat_map (λ n. S n ++ option_to_list (slice_get x (n - a))) (range_with_len a (suc (length x))) ≡ flat_map (λ e. S e.0 ++ e.1 ∷ []) (enumerate_from a x) ++ S (a + length x)
padded_along S a [] = append-nil (S a ++ []) ∙ append-nil (S a) ∙ ap S (sym (add-zero a))
padded_along S a (f ∷ x) =
    ap₂ (λ o y. (S a ++ option_to_list o) ++ y) (ap (slice_get (f ∷ x)) (let e : a - a ≡ 0 = omega arith in e))
    (flat_same (λ n. S n ++ option_to_list (slice_get (f ∷ x) (n - a))) (λ n. S n ++ option_to_list (slice_get x (n - (a + 1)))) (a + 1) (suc (length x))
    (λ i low high. ap (λ k. S i ++ option_to_list (slice_get (f ∷ x) k)) (let e : i - a ≡ suc (i - (a + 1)) = omega arith in e))
    ∙ padded_along S (a + 1) x)
    ∙ sym (append_assoc (S a ++ f ∷ []) (flat_map (λ e. S e.0 ++ e.1 ∷ []) (enumerate_from (a + 1) x)) (S ((a + 1) + length x)))
    ∙ ap (λ k. ((S a ++ f ∷ []) ++ flat_map (λ e. S e.0 ++ e.1 ∷ []) (enumerate_from (a + 1) x)) ++ S k) (let e : (a + 1) + length x ≡ a + length (f ∷ x) = omega arith in e)

pub pad_new : (channels : ℕ) (ps : List (ℕ × At)) (z : List Samples) → padded channels ps z ≡ pad_rest channels ps 0 [] z
pad_new channels ps z =
    ap (λ k. flat_map (λ n. replicate (silent_at (placed (length z) ps) n) (silence channels) ++ option_to_list (slice_get z n)) (range_with_len 0 k)) (add-one (length z))
    ∙ flat_same (λ n. replicate (silent_at (placed (length z) ps) n) (silence channels) ++ option_to_list (slice_get z n)) (λ n. replicate (silent_at (placed (length z) ps) n) (silence channels) ++ option_to_list (slice_get z (n - 0))) 0 (suc (length z))
    (λ i low high. ap (λ k. replicate (silent_at (placed (length z) ps) i) (silence channels) ++ option_to_list (slice_get z k)) (let e : i ≡ i - 0 = omega arith in e))
    ∙ padded_along (λ n. replicate (silent_at (placed (length z) ps) n) (silence channels)) 0 z
    ∙ (let e : length z ≡ 0 + length z = omega arith in
    ap₂ (λ len k. flat_map (λ e. replicate (silent_at (placed len ps) e.0) (silence channels) ++ e.1 ∷ []) (enumerate_from 0 z) ++ replicate (silent_at (placed len ps) k) (silence channels)) e refl)

pub pad_taken : (channels : ℕ) (ps : List (ℕ × At)) (n : ℕ) (items : List Samples) (frame : Samples) (z : List Samples) → pad_rest channels ps n items (frame ∷ z) ≡ pad_rest channels ps n (items ++ frame ∷ []) z
pad_taken channels ps n items frame z = ap (λ y. padded_from channels (n + length y) ps n y) (sym (append_assoc items (frame ∷ []) z))

pub pad_oldest : (channels : ℕ) (ps : List (ℕ × At)) (n : ℕ) (o : Samples) (items z : List Samples) → RisesFrom 0 (ats ps) → largest (map pad_distance ps) ≤ length items
    → pad_rest channels ps n (o ∷ items) z ≡ replicate (silent_at (pads_from_start ps) n) (silence channels) ++ (o ∷ pad_rest channels ps (n + 1) items z)
pad_oldest channels ps n o items z r h =
    let len : ℕ = n + length (o ∷ (items ++ z)) in
    let e : len ≡ (n + 1) + length (items ++ z) = omega arith in
    pad_first channels len ps n o (items ++ z)
    ∙ ap₂ (λ k l. replicate k (silence channels) ++ (o ∷ padded_from channels l ps (n + 1) (items ++ z))) (same_silence len n 0 ps (omega (arith, length-append items z)) r) e

-- after the end: the silence before the oldest frame of the line, and that frame; or the last silence
pub pad_drained : (r : PadArguments) (frames : ℕ) (items items' : List Samples) (pending : Option Samples) → pending ≡ slice_get items 0 → items' ≡ drop 1 items → length items ≤ frames
    → pad_after r frames items [] ≡ replicate (silent_at (placed frames r.pads) (frames - length items)) (silence r.channels) ++ (option_to_list pending ++ unless_last true pending (pad_after r frames items' []))
pad_drained r frames [] items' None e e' h =
    let z : frames - 0 + 0 ≡ frames = omega arith in
    let n : frames - 0 ≡ frames = omega arith in
    ap (λ t. replicate (silent_at (placed t r.pads) t) (silence r.channels)) z
    ∙ ap (λ t. replicate (silent_at (placed frames r.pads) t) (silence r.channels)) (sym n)
    ∙ sym (append-nil (replicate (silent_at (placed frames r.pads) (frames - 0)) (silence r.channels)))
pad_drained r frames [] items' (Some o) e e' h = absurd (cc)
pad_drained r frames (x ∷ items) items' None e e' h = absurd (cc)
pad_drained r frames (x ∷ items) items' (Some o) e e' h =
    let same : x ≡ o = cc (e) in
    let n : ℕ = frames - length (x ∷ items) in
    let len : ℕ = n + length (x ∷ (items ++ [])) in
    let nil : length (items ++ []) ≡ length items = ap length (append-nil items) in
    let whole : len ≡ frames = omega arith in
    let len' : len ≡ (n + 1) + length (items ++ []) = omega arith in
    let next : n + 1 ≡ frames - length items = omega arith in
    pad_first r.channels len r.pads n x (items ++ [])
    ∙ ap₂ (λ t l. replicate (silent_at (placed t r.pads) n) (silence r.channels) ++ (x ∷ padded_from r.channels l r.pads (n + 1) (items ++ []))) whole len'
    ∙ ap (λ m. replicate (silent_at (placed frames r.pads) n) (silence r.channels) ++ (x ∷ pad_rest r.channels r.pads m items [])) next
    ∙ ap₂ (λ y l. replicate (silent_at (placed frames r.pads) n) (silence r.channels) ++ (y ∷ pad_after r frames l [])) same (sym e')
