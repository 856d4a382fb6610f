-- Frames that all channels delay by as many frames as the line has places.
use Rattle.std.proofs.Common.{◌≡◌, ◌+◌, ◌-◌, ◌*◌, ◌<◌, ◌≤◌, ℕ, ℤ, zero, suc, min, inl, inr, ◌⊎◌, cond, List, [], ◌∷◌, ◌++◌, length, take, drop, get_or, pos, refl, sym, ap, ◌∙◌, arith, zero-add, length-append, replicate, Bool, nat_le, nat_lt, slice_index, true, false}
use Rattle.std.specs.Int.{w32}
use Rattle.std.specs.List.{All}
use borrow.Author.Tests.{ltb-true, ltb-false}
use Rattle.std.proofs.lemmas.Bool.{cases_lt, le-leb, lt-leb}
use Rattle.std.proofs.lemmas.List.{drop-drop, drop_at, drop_more, get_or-append_right, get_or_append_left, get_or-replicate, length-replicate, take-append-le, take_all, take_at}
use Rattle.std.proofs.lemmas.List.Elements.{All-append, All-cons, All-nil}
use Rattle.std.proofs.Math.Nat.{add-mul}
use Rattle.fx_frame_base.specs.Frame.{Samples, silence}
use Rattle.fx_frame_base.specs.Holds.{total}
use Rattle.fx_frame_line.specs.Line.{Frames, IsLine}
use Rattle.fx_frame_base.specs.Lists.{pieces, tabulate}
use Rattle.fx_frame_base.specs.Stage.{Given}
use Rattle.fx_frame_base.proofs.Puts.{part-from, pieces-take, put-from}
use Rattle.fx_frame_line.proofs.ManyFrames.{pieces-joined, pieces-replicate, replicate-front}
use Rattle.fx_frame_base.proofs.Pieces.{length-pieces}
use Rattle.fx_tap_delays.specs.Delay.{delayed_frame}
use Rattle.fx_tap_delays.specs.DelayState.{delay_taps}
use Rattle.fx_frame_base.specs.Given.{plain}
use Rattle.fx_frame.proofs.Tables.{map-tabulate}
use Rattle.fx_frame.specs.Tapped.{clips_after, frames_after}
use Rattle.fx_frame.specs.History.{sample_before}
use Rattle.fx_frame.proofs.SamplePieces.{pieces-sides}
use Rattle.fx_frame_base.proofs.Tabulate.{tabulate-replicate, tabulate-same}
use borrow.Rule.Slice.PartMut.{put_mid}

-- ---- what is written

module _ (ch silent_frames count : ℕ) (old mid rest_unchanged : List ℤ) (bound : silent_frames ≤ count) (is : mid ≡ replicate (silent_frames * ch) (pos 0) ++ drop (silent_frames * ch) old) where
  whole : put_mid (silent_frames * ch) (length mid - silent_frames * ch) mid rest_unchanged ≡ replicate (silent_frames * ch) (pos 0) ++ rest_unchanged
  whole = put-from (silent_frames * ch) mid rest_unchanged ∙ ap (λ l. l ++ rest_unchanged) (ap (take (silent_frames * ch)) is ∙ take_at (replicate (silent_frames * ch) (pos 0)) (drop (silent_frames * ch) old) (silent_frames * ch) (length-replicate (silent_frames * ch) (pos 0)))

  -- so many frames were written, the first of silence
  pub even-frames : (ys : List Samples) (places : ℕ) → silent_frames ≡ min places count → pieces ch (count - silent_frames) rest_unchanged ≡ take (count - silent_frames) ys → pieces ch count (put_mid (silent_frames * ch) (length mid - silent_frames * ch) mid rest_unchanged) ≡ take count (replicate places (silence ch) ++ ys)
  even-frames ys places e made =
      let both : count ≡ silent_frames + (count - silent_frames) = omega arith in
      let front : length (replicate (silent_frames * ch) (pos 0)) ≡ silent_frames * ch = length-replicate (silent_frames * ch) (pos 0) in
      ap (pieces ch count) whole
      ∙ ap (λ n. pieces ch n (replicate (silent_frames * ch) (pos 0) ++ rest_unchanged)) both
      ∙ pieces-joined ch silent_frames (count - silent_frames) (replicate (silent_frames * ch) (pos 0)) rest_unchanged front
      ∙ ap (λ l. l ++ pieces ch (count - silent_frames) rest_unchanged) (pieces-replicate ch silent_frames (pos 0))
      ∙ ap (λ l. replicate silent_frames (silence ch) ++ l) made
      ∙ sym (replicate-front (silence ch) places count ys silent_frames e)

  -- and the output after them stays
  pub even-rest_unchanged : drop ((count - silent_frames) * ch) rest_unchanged ≡ drop ((count - silent_frames) * ch) (take (length mid - silent_frames * ch) (drop (silent_frames * ch) mid)) → drop (count * ch) (put_mid (silent_frames * ch) (length mid - silent_frames * ch) mid rest_unchanged) ≡ drop (count * ch) old
  even-rest_unchanged stays =
      let both : count ≡ silent_frames + (count - silent_frames) = omega arith in
      let long : count * ch ≡ silent_frames * ch + (count - silent_frames) * ch = ap (λ n. n * ch) both ∙ add-mul silent_frames (count - silent_frames) ch in
      let front : length (replicate (silent_frames * ch) (pos 0)) ≡ silent_frames * ch = length-replicate (silent_frames * ch) (pos 0) in
      let tail : (zs : List ℤ) → drop (silent_frames * ch + (count - silent_frames) * ch) zs ≡ drop ((count - silent_frames) * ch) (drop (silent_frames * ch) zs) = λ zs. sym (drop-drop ((count - silent_frames) * ch) (silent_frames * ch) zs) in
      let free : take (length mid - silent_frames * ch) (drop (silent_frames * ch) mid) ≡ drop (silent_frames * ch) old = part-from (silent_frames * ch) mid ∙ ap (drop (silent_frames * ch)) is ∙ drop_at (replicate (silent_frames * ch) (pos 0)) (drop (silent_frames * ch) old) (silent_frames * ch) front in
      rw (whole, long) (tail (replicate (silent_frames * ch) (pos 0) ++ rest_unchanged) ∙ ap (drop ((count - silent_frames) * ch)) (drop_at (replicate (silent_frames * ch) (pos 0)) rest_unchanged (silent_frames * ch) front) ∙ stays ∙ ap (drop ((count - silent_frames) * ch)) free ∙ sym (tail old))

-- ---- what is meant

-- the elements of a list, by their index
pub index-take : {X : Type 0} (ys : List X) (from count : ℕ) (d : X) → from + count ≤ length ys → tabulate (λ k. get_or ys k d) from count ≡ take count (drop from ys)
index-take ys from zero d h = refl
index-take ys from (suc count) d h =
    let more : drop from ys ≡ get_or ys from d ∷ drop (from + 1) ys = drop_more ys from d (omega arith) in
    let next : suc from ≡ from + 1 = omega arith in
    let rest : tabulate (λ k. get_or ys k d) (suc from) count ≡ take count (drop (suc from) ys) = index-take ys (suc from) count d (omega arith) in
    rw more (ap (λ l. get_or ys from d ∷ l) (rest ∙ ap (λ n. take count (drop n ys)) next))

no-clips : (g : ℕ → Samples) (from count : ℕ) → total (λ (w : Given). w.clips) (tabulate (λ n. plain (g n)) from count) ≡ 0
no-clips g from zero = refl
no-clips g from (suc count) = let h = no-clips g (suc from) count in omega (arith, h)

module _ (delays : List ℕ) (reach : ℕ) (all : (k : ℕ) → k < length delays → slice_index delays k ≡ reach) where
  -- before the first frame there is silence
  silent_frames-now : (x : List Samples) (n : ℕ) → n < reach → delayed_frame delays (sample_before x n) ≡ silence (length delays)
  silent_frames-now x n h = tabulate-replicate (λ k. sample_before x n (slice_index delays k) k) (pos 0) 0 (length delays) (λ k l.
      let e : 0 + k ≡ k = zero-add k in
      let none : nat_le reach n ≡ false = lt-leb reach n h in
      rw (e, all k l, none) refl)

  -- and then the frame that came so many frames before
  frame-now : (x : List Samples) (n : ℕ) → reach ≤ n → length (get_or x (n - reach) []) ≡ length delays → delayed_frame delays (sample_before x n) ≡ get_or x (n - reach) []
  frame-now x n h sides =
      let f : Samples = get_or x (n - reach) [] in
      let there : nat_le reach n ≡ true = le-leb reach n h in
      tabulate-same (λ k. sample_before x n (slice_index delays k) k) (λ k. get_or f k (pos 0)) 0 0 (length delays) (λ k l. let e : 0 + k ≡ k = zero-add k in rw (e, all k l, there) refl)
      ∙ index-take f 0 (length delays) (pos 0) (omega arith)
      ∙ take_all (length delays) f (omega arith)

  module _ (items coming : List Samples) (within : length items ≤ reach) (sides : All (λ (f : Samples). length f ≡ length delays) items) (more : All (λ (f : Samples). length f ≡ length delays) coming) where
    front : length (replicate (reach - length items) (silence (length delays))) ≡ reach - length items
    front = length-replicate (reach - length items) (silence (length delays))

    one : (k : ℕ) → k < length coming → (k < reach - length items) ⊎ (reach - length items ≤ k)
        → delayed_frame delays (sample_before (items ++ coming) (length items + k)) ≡ get_or (replicate (reach - length items) (silence (length delays)) ++ (items ++ coming)) (0 + k) []
    one k l (inl h) =
        let e : 0 + k ≡ k = zero-add k in
        let f : length (replicate (reach - length items) (silence (length delays))) ≡ reach - length items = front in
        rw e (silent_frames-now (items ++ coming) (length items + k) (omega arith)
        ∙ sym (get_or_append_left (replicate (reach - length items) (silence (length delays))) (items ++ coming) [] k (omega arith) ∙ get_or-replicate (reach - length items) k (silence (length delays)) [] h))
    one k l (inr h) =
        let e : 0 + k ≡ k = zero-add k in
        let f : length (replicate (reach - length items) (silence (length delays))) ≡ reach - length items = front in
        let at : length items + k - reach ≡ k - (reach - length items) = omega arith in
        let history : length items + k - reach < length (items ++ coming) = omega (arith, length-append items coming) in
        let each : All (λ (f : Samples). length f ≡ length delays) (items ++ coming) = All-append (λ (f : Samples). length f ≡ length delays) items coming sides more in
        rw e (frame-now (items ++ coming) (length items + k) (omega arith) (each (length items + k - reach) [] history)
        ∙ ap (λ n. get_or (items ++ coming) n []) at
        ∙ sym (get_or-append_right (replicate (reach - length items) (silence (length delays))) (items ++ coming) (reach - length items) k [] f h))

    -- frames after those of a line
    pub even-effective : take (length coming) (replicate (reach - length items) (silence (length delays)) ++ (items ++ coming)) ≡ frames_after delay_taps delays items coming
    even-effective =
        let y : List Samples = replicate (reach - length items) (silence (length delays)) ++ (items ++ coming) in
        let f : length (replicate (reach - length items) (silence (length delays))) ≡ reach - length items = front in
        let long : 0 + length coming ≤ length y = omega (arith, length-append (replicate (reach - length items) (silence (length delays))) (items ++ coming), length-append items coming) in
        sym (map-tabulate (λ (g : Given). g.samples) (λ n. plain (delayed_frame delays (sample_before (items ++ coming) n))) (length items) (length coming)
        ∙ tabulate-same (λ n. delayed_frame delays (sample_before (items ++ coming) n)) (λ k. get_or y k []) (length items) 0 (length coming) (λ k l. one k l (cases_lt k (reach - length items)))
        ∙ index-take y 0 (length coming) [] long)

-- and no sample is clipped
pub even-clips : (delays : List ℕ) (items coming : List Samples) → clips_after delay_taps delays items coming ≡ 0
even-clips delays items coming = no-clips (λ n. delayed_frame delays (sample_before (items ++ coming) n)) (length items) (length coming)

-- the frame that takes the place of one after those of a line
pub even-one : (delays : List ℕ) (line : Frames ℤ) (x : Samples) → ((k : ℕ) → k < length delays → slice_index delays k ≡ line.capacity) → IsLine w32 line → line.channels ≡ length delays → length x ≡ length delays
    → cond (nat_lt (length line.items) line.capacity) (silence (length x)) (get_or (line.items ++ x ∷ []) 0 []) ≡ delayed_frame delays (sample_before (line.items ++ x ∷ []) (length line.items))
even-one delays line x all is same wide = go (nat_lt (length line.items) line.capacity) refl
  where
    go : (b : Bool) → nat_lt (length line.items) line.capacity ≡ b → cond b (silence (length x)) (get_or (line.items ++ x ∷ []) 0 []) ≡ delayed_frame delays (sample_before (line.items ++ x ∷ []) (length line.items))
    go true t =
        let bound : length line.items < line.capacity = ltb-true _ _ t in
        ap silence wide ∙ sym (silent_frames-now delays line.capacity all (line.items ++ x ∷ []) (length line.items) bound)
    go false t =
        let full : line.capacity ≤ length line.items = ltb-false _ _ t in
        let first : length line.items - line.capacity ≡ 0 = omega (arith, is.within) in
        let sides : All (λ (f : Samples). length f ≡ length delays) line.items = λ k d h. (is.frames k d h).count ∙ same in
        let each : All (λ (f : Samples). length f ≡ length delays) (line.items ++ x ∷ []) = All-append (λ (f : Samples). length f ≡ length delays) line.items (x ∷ []) sides (All-cons (λ (f : Samples). length f ≡ length delays) x [] wide (All-nil (λ (f : Samples). length f ≡ length delays))) in
        let some : 0 < length (line.items ++ x ∷ []) = omega (arith, length-append line.items (x ∷ [])) in
        sym (rw first at (frame-now delays line.capacity all (line.items ++ x ∷ []) (length line.items) full (rw first (each 0 [] some))))

module _ (delays : List ℕ) (line : Frames ℤ) (n : ℕ) (input out : List ℤ) (all : (k : ℕ) → k < length delays → slice_index delays k ≡ line.capacity) (is : IsLine w32 line) (same : line.channels ≡ length delays) (free : n * length delays ≤ length input) where
  coming : take n (replicate (line.capacity - length line.items) (silence (length delays)) ++ (line.items ++ pieces (length delays) n input)) ≡ frames_after delay_taps delays line.items (pieces (length delays) n input)
  coming =
      let sides : All (λ (f : Samples). length f ≡ length delays) line.items = λ k d h. (is.frames k d h).count ∙ same in
      ap (λ m. take m (replicate (line.capacity - length line.items) (silence (length delays)) ++ (line.items ++ pieces (length delays) n input))) (sym (length-pieces (length delays) n input)) ∙ (even-effective delays line.capacity all line.items (pieces (length delays) n input) is.within sides (pieces-sides (length delays) n input free))

  -- so many frames after those of a line, as they were written
  pub even-all : (width : ℕ) → width ≡ length delays → pieces line.channels n out ≡ take n (replicate (line.capacity - length line.items) (silence line.channels) ++ (line.items ++ pieces line.channels n (take (n * width) input)))
      → pieces (length delays) n out ≡ frames_after delay_taps delays line.items (pieces (length delays) n input)
  even-all width wide written = (rw (same, wide, pieces-take (length delays) n input free) at written) ∙ coming

  -- so many of the oldest frames of a full line are what is made of as many that come
  pub even-exchanged : length line.items ≡ line.capacity → n ≤ length line.items → pieces line.channels n out ≡ take n line.items → pieces (length delays) n out ≡ frames_after delay_taps delays line.items (pieces (length delays) n input)
  even-exchanged full bound written =
      let none : line.capacity - length line.items ≡ 0 = omega arith in
      (rw same at written) ∙ sym (take-append-le n line.items (pieces (length delays) n input) bound) ∙ (rw none at coming)
