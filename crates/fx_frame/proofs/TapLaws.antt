-- The steps of a stage that makes each frame of that frame and of those before it.
use Rattle.std.proofs.Common.{ℕ, ℤ, pos, zero, suc, ◌+◌, ◌-◌, ◌<◌, ◌≤◌, ◌≡◌, true, false, cond, List, [], ◌∷◌, ◌++◌, length, drop, refl, sym, ap, ◌∙◌, min, arith, replicate, append_assoc, sub-one, nat_le, None, ◌^◌}
use Rattle.std.proofs.lemmas.Bool.{true_from_ne_false}
use Rattle.std.specs.Int.{w32}
use Rattle.std.proofs.lemmas.List.{length-append, length-drop, length-replicate, drop-append-le}
use Rattle.fx_frame_base.specs.Frame.{Samples, silence, IsFrame}
use Rattle.fx_frame_line.specs.Line.{Frames, pushed, IsLine}
use Rattle.fx_frame_base.specs.Stage.{Freezes, Gave, Took}
use Rattle.fx_frame_base.specs.StageCore.{after_offering, pending_frames}
use Rattle.fx_frame_base.specs.Lists.{tabulate}
use Rattle.fx_frame.specs.Tapped.{AreTapCounts, Taps, TapState, IsTapState, IsNear, given_after, tapped, tap_acts}
use Rattle.fx_frame.specs.Numbers.{by_name}
use Rattle.fx_frame.specs.History.{sample_before}
use Rattle.fx_frame_base.proofs.Cores.{IsCore-offered}
use Rattle.fx_frame.proofs.CoreLaws.{AreCoreNumbers-of}
use Rattle.fx_frame.proofs.Counts.{flag-false, flag-times}
use Rattle.fx_frame.proofs.DryLaws.{dry-pending, dry-tail}
use Rattle.fx_frame.proofs.DelayLaws.{sample_before-append, sample_before-drop, silence-after}
use Rattle.fx_frame_base.proofs.Tabulate.{tabulate-same}

module _ {M : Type 0} (taps : Taps M) (near : IsNear taps) where
  -- one more frame comes
  pub rest_unchanged-step : (m : M) (items xs : List Samples) (f : Samples) (c : ℕ) → length items ≤ c → taps.reach m ≤ c
      → given_after taps m items (f ∷ xs) ≡ taps.made m (sample_before (items ++ f ∷ []) (length items)) ∷ given_after taps m (drop (length (items ++ f ∷ []) - c) (items ++ f ∷ [])) xs
  rest_unchanged-step m items xs f c held long =
      let whole : List Samples = items ++ f ∷ [] in
      let n : length whole ≡ length items + 1 = length-append items (f ∷ []) in
      let j : ℕ = length whole - c in
      let split : items ++ f ∷ xs ≡ whole ++ xs = sym (append_assoc items (f ∷ []) xs) in
      let first : taps.made m (sample_before (items ++ f ∷ xs) (length items)) ≡ taps.made m (sample_before whole (length items)) =
      rw split (near m _ _ (λ d k l. sample_before-append whole xs (length items) d k (omega arith))) in
      let left : length (drop j whole) ≡ length whole - j = length-drop j whole in
      let dropped : drop j whole ++ xs ≡ drop j (whole ++ xs) = sym (drop-append-le j whole xs (omega arith)) in
      let more : tabulate (λ n. taps.made m (sample_before (items ++ f ∷ xs) n)) (suc (length items)) (length xs) ≡ given_after taps m (drop j whole) xs =
      tabulate-same _ _ _ _ (length xs) (λ k l.
      let at : length (drop j whole) + k + j ≡ suc (length items) + k = omega arith in
      rw (split, dropped, ← at) (near m _ _ (λ d q short.
      sym (sample_before-drop (whole ++ xs) j (length (drop j whole) + k) d q (λ p. omega arith))))) in
      ap (λ y. y ∷ tabulate (λ n. taps.made m (sample_before (items ++ f ∷ xs) n)) (suc (length items)) (length xs)) first
      ∙ ap (λ ys. taps.made m (sample_before whole (length items)) ∷ ys) more

  -- with an empty line it is what is given for the whole sound
  pub rest_unchanged-all : (m : M) (z : List Samples) → given_after taps m [] (z ++ replicate (taps.reach m) (silence (taps.channels m))) ≡ tapped taps m z
  rest_unchanged-all m z =
      let n : length (z ++ replicate (taps.reach m) (silence (taps.channels m))) ≡ length z + taps.reach m = simp (length-append, length-replicate) in
      rw n (tabulate-same _ _ 0 0 (length z + taps.reach m) (λ k l.
      near m (sample_before (z ++ replicate (taps.reach m) (silence (taps.channels m))) (0 + k)) (sample_before z (0 + k)) (λ d q short.
      ap (λ s. cond (nat_le d (0 + k)) s (pos 0)) (silence-after z (taps.reach m) (taps.channels m) (0 + k - d) q))))

  -- the state after a frame came
  abbrev pub taken_tap : TapState M → Frames ℤ → Samples → ℕ → TapState M
  taken_tap s line out clips = record s { core = after_offering out clips s.core; line = line }

  pub Took-tap : (s : TapState M) (line : Frames ℤ) (frame out : Samples) (clips : ℕ) → IsTapState taps s → (tap_acts taps).dry s ≡ true → s.core.ended ≡ false
      → out ≡ (taps.made s.arguments (sample_before (s.line.items ++ frame ∷ []) (length s.line.items))).samples
      → clips ≡ (taps.made s.arguments (sample_before (s.line.items ++ frame ∷ []) (length s.line.items))).clips
      → line.items ≡ pushed s.line frame → line.capacity ≡ s.line.capacity
      → Took (tap_acts taps) s (taken_tap s line out clips) frame
  Took-tap s line frame out clips is dry running e f items capacity =
      let none = dry-pending s.core.pending s.tail dry in
      let held = is.line.within in
      let long : taps.reach s.arguments ≤ s.line.capacity = let k = is.capacity in omega arith in
      record {
        rest = λ z. rw (none, running, e, f, items, capacity) (sym (rest_unchanged-step s.arguments s.line.items (z ++ replicate s.line.capacity (silence (taps.channels s.arguments))) frame s.line.capacity held long));
        counted = refl;
        recipe_stays = refl;
      }

  -- so many frames are in the line after a push
  pub length-pushed : (l : Frames ℤ) (f : Samples) → length (pushed l f) ≡ min (length l.items + 1) l.capacity
  length-pushed l f =
      let whole : List Samples = l.items ++ f ∷ [] in
      let n : length whole ≡ length l.items + 1 = length-append l.items (f ∷ []) in
      let d : length (drop (length whole - l.capacity) whole) ≡ length whole - (length whole - l.capacity) = length-drop (length whole - l.capacity) whole in
      omega (arith, n, d)

  pub IsTapState-taken : (s : TapState M) (line : Frames ℤ) (frame out : Samples) (clips : ℕ) → IsTapState taps s → (tap_acts taps).dry s ≡ true → s.core.ended ≡ false → s.core.taken < 2 ^ 56
      → IsLine w32 line → line.items ≡ pushed s.line frame → line.capacity ≡ s.line.capacity → line.channels ≡ s.line.channels → IsFrame out → length out ≡ taps.channels s.arguments → clips ≤ taps.max_clips s.arguments
      → IsTapState taps (taken_tap s line out clips)
  IsTapState-taken s line frame out clips is dry running bound lined items capacity channels framed len little =
      let none = dry-pending s.core.pending s.tail dry in
      let counted : s.core.given + 0 + s.tail ≡ s.core.taken + 0 = rw (none, running) at is.counted in
      let before : length s.line.items ≡ min (s.core.given + 0) s.line.capacity = rw none at is.held in
      let after : length line.items ≡ min (length s.line.items + 1) s.line.capacity = ap length items ∙ length-pushed s.line frame in
      record {
        core = IsCore-offered _ _ s.core out clips is.core running bound framed len little;
        line = lined;
        channels = channels ∙ is.channels;
        capacity = capacity ∙ is.capacity;
        counted = rw running (omega arith);
        held = omega (arith, before, after, capacity);
        not_ended = is.not_ended;
      }

  -- the state after a silent frame went through the line
  abbrev pub drained_tap : TapState M → Frames ℤ → ℕ → TapState M
  drained_tap s line clips = record s { core = record s.core { given = s.core.given + 1; clips = s.core.clips + clips }; line = line; tail = s.tail - 1 }

  ended-tail : (s : TapState M) → IsTapState taps s → 0 < s.tail → s.core.ended ≡ true
  ended-tail s is some = true_from_ne_false s.core.ended (λ e. let k = is.not_ended e in absurd (omega arith))

  rest-silence : (m : M) (items : List Samples) (silent_frame : Samples) (tail c : ℕ) → 0 < tail → length items ≤ c → taps.reach m ≤ c
      → given_after taps m items (replicate tail silent_frame) ≡ taps.made m (sample_before (items ++ silent_frame ∷ []) (length items)) ∷ given_after taps m (drop (length (items ++ silent_frame ∷ []) - c) (items ++ silent_frame ∷ [])) (replicate (tail - 1) silent_frame)
  rest-silence m items silent_frame zero c some held long = absurd (omega arith)
  rest-silence m items silent_frame (suc t) c some held long = rw sub-one (rest_unchanged-step m items (replicate t silent_frame) silent_frame c held long)

  pub Gave-tail : (s : TapState M) (line : Frames ℤ) (silent_frame out : Samples) (clips : ℕ) → IsTapState taps s → s.core.pending ≡ None → 0 < s.tail → silent_frame ≡ silence (taps.channels s.arguments)
      → out ≡ (taps.made s.arguments (sample_before (s.line.items ++ silent_frame ∷ []) (length s.line.items))).samples
      → clips ≡ (taps.made s.arguments (sample_before (s.line.items ++ silent_frame ∷ []) (length s.line.items))).clips
      → length out ≡ taps.channels s.arguments → line.items ≡ pushed s.line silent_frame → line.capacity ≡ s.line.capacity
      → Gave (tap_acts taps) s (drained_tap s line clips) out
  Gave-tail s line silent_frame out clips is none some q e f len items capacity =
      let over = ended-tail s is some in
      let held = is.line.within in
      let long : taps.reach s.arguments ≤ s.line.capacity = let k = is.capacity in omega arith in
      let counted : s.core.given + 0 + s.tail ≡ s.core.taken + s.line.capacity = rw (none, over) at is.counted in
      let same = is.capacity in
      record {
        was_wet = dry-tail s.core.pending s.tail some;
        gives = record {
          clips = clips;
          first = λ z. rw (none, over, e, f, items, q) (rest-silence s.arguments s.line.items (silence (taps.channels s.arguments)) s.tail s.line.capacity some held long);
          counted = refl;
        };
        channels = len;
        due = λ running. absurd (cc (running, over));
        maximum = omega arith;
        recipe_stays = refl;
      }

-- a stage of these arguments that froze to these frames and numbers has such counts
pub counts-are : {M : Type 0} (taps : Taps M) (s : TapState M) (m : M) (frames : List Samples) (numbers : List ℕ) → IsTapState taps s → s.arguments ≡ m → Freezes (tap_acts taps) s frames numbers
    → AreTapCounts (taps.reach m) (taps.max_clips m) (length frames) (by_name numbers)
counts-are taps s m frames numbers is same froze =
    let all : length (s.line.items ++ pending_frames s.core) ≡ length s.line.items + length (pending_frames s.core) = length-append s.line.items (pending_frames s.core) in
    let held = is.held in
    let reach : s.line.capacity ≡ taps.reach m = is.capacity ∙ ap taps.reach same in
    rw froze.counted
    record {
      core = rw (← same) (AreCoreNumbers-of _ _ s.core is.core);
      all = ap length (sym froze.stored);
      counted = rw (← reach) (is.counted ∙ ap (λ n. s.core.taken + n) (flag-times s.core.ended s.line.capacity));
      held = omega (arith, all, held, reach);
      not_ended = λ z. is.not_ended (flag-false s.core.ended z);
    }
