-- Many frames that come to a ring, and those that fall out of it.
use Rattle.std.proofs.Common.{◌≡◌, ◌+◌, ◌*◌, ◌-◌, ◌≤◌, ◌^◌, ℕ, get_or, [], zero, suc, min, inl, inr, ◌⊎◌, ◌<◌, List, ◌∷◌, ◌++◌, length, take, drop, replicate, refl, sym, ap, ◌∙◌, arith, length-append, length-drop, append_assoc, append-nil, ℤ, FitsSigned}
use Rattle.std.specs.List.{All}
use Rattle.std.specs.Int.{Width}
use Rattle.std.proofs.lemmas.Bool.{cases_lt}
use Rattle.std.proofs.lemmas.List.{drop_all, get_or_append_left, get_or-append_right, get_or-drop, get_or-replicate, drop-drop, drop-replicate, drop-take, drop_at, length-replicate, length-take-le, take-append-le, take-replicate, take_all, take_at}
use Rattle.std.proofs.lemmas.List.Elements.{All-append, All-cons, All-drop, All-nil, All-take}
use Rattle.std.proofs.Math.Nat.{add-mul, mul-le-mul_right, suc-mul, zero-mul}
use Rattle.std.proofs.Math.Seq.{take-append-add}
use Rattle.fx_frame_line.specs.Line.{Frames, IsSamples, latest_frames, pushed_all}
use Rattle.circular_buffer.specs.Buffer.{Buffer, buffer, keep_last}
use Rattle.fx_frame_line.specs.Ring.{IsRing}
use Rattle.fx_frame_base.specs.Lists.{pieces}
use Rattle.fx_frame_base.proofs.Puts.{pieces-split, pieces-take}
use Rattle.fx_frame_line.proofs.RingLaws.{frames_of, ring-full, ring-len, ring-place, ring-small}
use Rattle.fx_frame_base.proofs.Pieces.{get_or-piece, length-pieces, pieces-first, pieces-front}
use borrow.Rule.Slice.PartMut.{put_mid}

-- the same so many times, and others after it
pub replicate-front : {Y : Type 0} (s : Y) (silent_frames n : ℕ) (ys : List Y) (first : ℕ) → first ≡ min silent_frames n → take n (replicate silent_frames s ++ ys) ≡ replicate first s ++ take (n - first) ys
replicate-front {Y} s silent_frames n ys first e = go (cases_lt silent_frames n)
  where
    go : (silent_frames < n) ⊎ (n ≤ silent_frames) → take n (replicate silent_frames s ++ ys) ≡ replicate first s ++ take (n - first) ys
    go (inl l) =
        let all : first ≡ silent_frames = omega arith in
        let more : n ≡ length (replicate silent_frames s) + (n - silent_frames) = omega (arith, length-replicate silent_frames s) in
        rw all (ap (λ m. take m (replicate silent_frames s ++ ys)) more ∙ take-append-add (replicate silent_frames s) ys (n - silent_frames))
    go (inr g) =
        let all : first ≡ n = omega arith in
        let none : n - n ≡ 0 = omega arith in
        rw (all, none, append-nil) (take-append-le n (replicate silent_frames s) ys (omega (arith, length-replicate silent_frames s)) ∙ take-replicate n silent_frames s g)

-- of a rest that begins elsewhere nothing is taken
take-same : {Y : Type 0} (n i j : ℕ) (ys : List Y) → (0 < n → i ≡ j) → take n (drop i ys) ≡ take n (drop j ys)
take-same zero i j ys h = refl
take-same (suc n) i j ys h = ap (λ m. take (suc n) (drop m ys)) (h (omega arith))

module _ {X : Type 0} where
  -- the pieces of two lists
  pub pieces-joined : (size n m : ℕ) (xs ys : List X) → length xs ≡ n * size → pieces size (n + m) (xs ++ ys) ≡ pieces size n xs ++ pieces size m ys
  pieces-joined size n m xs ys e =
      pieces-split size n m (xs ++ ys) ∙ ap (λ ps. ps ++ pieces size m (drop (n * size) (xs ++ ys))) (pieces-front size n xs ys e) ∙ ap (λ zs. pieces size n xs ++ pieces size m zs) (drop_at xs ys (n * size) e)

  -- the pieces of one sample everywhere
  pub pieces-replicate : (size n : ℕ) (x : X) → pieces size n (replicate (n * size) x) ≡ replicate n (replicate size x)
  pieces-replicate size zero x = refl
  pieces-replicate size (suc n) x =
      let e : suc n * size ≡ n * size + size = suc-mul n size in
      let first : take size (replicate (n * size + size) x) ≡ replicate size x = take-replicate size (n * size + size) x (omega arith) in
      let left : n * size + size - size ≡ n * size = omega arith in
      let rest : drop size (replicate (n * size + size) x) ≡ replicate (n * size) x = drop-replicate size (n * size + size) x ∙ ap (λ m. replicate m x) left in
      rw (e, first, rest) (ap (λ l. replicate size x ∷ l) (pieces-replicate size n x))

  -- so many frames more are written
  pub pieces-put_many : (size n m at : ℕ) (out fs new : List X) → at ≡ n * size → length fs ≡ m * size → at + m * size ≤ length out → new ≡ take at out ++ fs ++ drop (at + length fs) out → pieces size (n + m) new ≡ pieces size n out ++ pieces size m fs
  pieces-put_many size n m at out fs new e l h w =
      let cut : length (take at out) ≡ n * size = length-take-le at out (omega arith) ∙ e in
      let two : length (take at out ++ fs) ≡ (n + m) * size = omega (arith, length-append (take at out) fs, add-mul n m size) in
      let kept : pieces size n (take at out) ≡ pieces size n out = ap (λ i. pieces size n (take i out)) e ∙ pieces-take size n out (omega arith) in
      rw w (pieces-front size (n + m) (take at out ++ fs) (drop (at + length fs) out) two ∙ pieces-joined size n m (take at out) fs cut ∙ ap (λ ps. ps ++ pieces size m fs) kept)

  -- the pieces after the first so many
  pieces-beyond : (size k m : ℕ) (xs : List X) → pieces size m (drop (k * size) xs) ≡ drop k (pieces size (k + m) xs)
  pieces-beyond size k m xs =
      sym (ap (drop k) (pieces-split size k m xs) ∙ drop_at (pieces size k xs) (pieces size m (drop (k * size) xs)) k (length-pieces size k xs))

  -- what holds of every element holds in each piece
  pub All-pieces : (P : X → Type 0) (size n : ℕ) (xs : List X) → All P xs → All (All P) (pieces size n xs)
  All-pieces P size zero xs all = All-nil (All P)
  All-pieces P size (suc n) xs all = All-cons (All P) (take size xs) (pieces size n (drop size xs)) (All-take P size xs all) (All-pieces P size n (drop size xs) (All-drop P size xs all))

  -- and in each frame of a line to which they came
  pub All-pushed_all : (P : List X → Type 0) (l : Frames X) (fs after : List (List X)) → All P l.items → All P fs → after ≡ pushed_all l fs → All P after
  All-pushed_all P l fs after all more e = rw e (All-drop P (length (l.items ++ fs) - l.capacity) (l.items ++ fs) (All-append P l.items fs all more))

  -- each piece of a list that is long enough is whole
  each-whole : (size n : ℕ) (xs : List X) → length xs ≡ n * size → All (λ (f : List X). length f ≡ size) (pieces size n xs)
  each-whole size zero xs e = All-nil (λ (f : List X). length f ≡ size)
  each-whole size (suc n) xs e =
      let more : suc n * size ≡ n * size + size = suc-mul n size in
      All-cons (λ (f : List X). length f ≡ size) (take size xs) (pieces size n (drop size xs)) (length-take-le size xs (omega arith)) (each-whole size n (drop size xs) (omega (arith, length-drop size xs)))

  -- what stays of the samples is what stays of the frames
  keep-frames : (size len count free : ℕ) (xs ys : List X) → length xs ≡ len * size → length ys ≡ count * size → len ≤ free
      → (length (keep_last (free * size) (xs ++ ys)) ≡ min (len + count) free * size) × (pieces size (min (len + count) free) (keep_last (free * size) (xs ++ ys)) ≡ keep_last free (pieces size len xs ++ pieces size count ys))
  keep-frames size len count free xs ys e f le =
      let all : length (xs ++ ys) ≡ (len + count) * size = omega (arith, length-append xs ys, add-mul len count size) in
      let many : length (pieces size len xs ++ pieces size count ys) ≡ len + count = omega (arith, length-append (pieces size len xs) (pieces size count ys), length-pieces size len xs, length-pieces size count ys) in
      let joined : pieces size (len + count) (xs ++ ys) ≡ pieces size len xs ++ pieces size count ys = pieces-joined size len count xs ys e in
      elim (cases_lt free (len + count)) [
        | inl h ↦
            let k : ℕ = len + count - free in
            let m : min (len + count) free ≡ free = omega arith in
            let whole : len + count ≡ k + free = omega arith in
            let long : length (xs ++ ys) ≡ k * size + free * size = all ∙ ap (λ i. i * size) whole ∙ add-mul k free size in
            let beyond : length (xs ++ ys) - free * size ≡ k * size = omega arith in
            let beyond' : length (pieces size len xs ++ pieces size count ys) - free ≡ k = omega arith in
            rw (m, beyond, beyond') (omega (arith, length-drop (k * size) (xs ++ ys)), pieces-beyond size k free (xs ++ ys) ∙ ap (λ i. drop k (pieces size i (xs ++ ys))) (sym whole) ∙ ap (drop k) joined)
        | inr h ↦
            let m : min (len + count) free ≡ len + count = omega arith in
            let wide : (len + count) * size ≤ free * size = mul-le-mul_right size h in
            let none : length (xs ++ ys) - free * size ≡ 0 = omega arith in
            let none' : length (pieces size len xs ++ pieces size count ys) - free ≡ 0 = omega arith in
            rw (m, none, none') (all, joined)
      ]

  -- what was copied to the front
  pub own-copied : (xs out a : List X) (end own : ℕ) → own ≡ min end (length xs) → end ≤ length out → a ≡ take (length (take own out)) (drop 0 xs) → (a ≡ take own xs) × (length a ≡ own) × (own ≤ end)
  own-copied xs out a end own e free is =
      let same : length (take own out) ≡ own = length-take-le own out (omega arith) in
      let copied : a ≡ take own xs = is ∙ ap (λ n. take n xs) same in
      (copied, ap length copied ∙ length-take-le own xs (omega arith), omega arith)

  -- what is to be written after it has the length of what is written there
  pub rest-long : (a out ys : List X) (end own : ℕ) → length a ≡ own → own ≤ end → end ≤ length out → end - own ≤ length ys → length (take (end - own) (drop own (a ++ drop own out))) ≡ length (take (end - own) ys)
  rest-long a out ys end own l h free rest =
      let tail : drop own (a ++ drop own out) ≡ drop own out = drop_at a (drop own out) own l in
      let left : end - own ≤ length (drop own out) = omega (arith, length-drop own out) in
      rw tail (length-take-le (end - own) (drop own out) left ∙ sym (length-take-le (end - own) ys rest))

  -- the front of two lists, written over the front of a third
  pub front-written : (xs ys out a b : List X) (end own rest : ℕ) → own ≡ min end (length xs) → end ≤ length out → end ≤ length (xs ++ ys) → a ≡ take own xs → b ≡ take (end - own) ys → rest ≡ end - own
      → put_mid own rest (a ++ drop own out) b ≡ take end (xs ++ ys) ++ drop end out
  front-written xs ys out a b end own rest e-own free within e-a e-b e-rest =
      let l-a : length a ≡ own = ap length e-a ∙ length-take-le own xs (omega arith) in
      let head : take own (a ++ drop own out) ≡ a = take_at a (drop own out) own l-a in
      let tail : drop own (a ++ drop own out) ≡ drop own out = drop_at a (drop own out) own l-a in
      let both : own + (end - own) ≡ end = omega arith in
      let left : drop rest (drop own out) ≡ drop end out = ap (λ n. drop n (drop own out)) e-rest ∙ drop-drop (end - own) own out ∙ ap (λ n. drop n out) both in
      let joined : a ++ b ≡ take end (xs ++ ys) = front in
      rw (head, tail, left) (sym (append_assoc a b (drop end out)) ∙ ap (λ l. l ++ drop end out) joined)
    where
      front : a ++ b ≡ take end (xs ++ ys)
      front = elim (cases_lt (length xs) end) [
        | inl h ↦
            let all : own ≡ length xs = omega arith in
            let more : end ≡ length xs + (end - own) = omega arith in
            let whole : a ≡ xs = e-a ∙ ap (λ n. take n xs) all ∙ take_all (length xs) xs (omega arith) in
            rw (whole, e-b) (sym (ap (λ n. take n (xs ++ ys)) more ∙ take-append-add xs ys (end - own)))
        | inr h ↦
            let all : own ≡ end = omega arith in
            let none : end - own ≡ 0 = omega arith in
            rw (e-a, e-b, none, append-nil, all) (sym (take-append-le end xs ys h))
      ]

  -- silence among the latest frames
  pub latest-silence : (l : Frames X) (s d : X) (late i channel : ℕ) → i < late - length l.items → channel < l.channels → get_or (get_or (latest_frames s late l) i []) channel d ≡ s
  latest-silence l s d late i channel h within =
      let none : List (List X) = replicate (late - length l.items) (replicate l.channels s) in
      let front : length none ≡ late - length l.items = length-replicate (late - length l.items) (replicate l.channels s) in
      ap (λ f. get_or f channel d) (get_or_append_left none (drop (length l.items - late) l.items) [] i (omega arith) ∙ get_or-replicate (late - length l.items) i (replicate l.channels s) [] h)
      ∙ get_or-replicate l.channels channel s d within

  -- a frame of the line among them
  pub latest-held : (l : Frames X) (s : X) (late i : ℕ) → late - length l.items ≤ i → get_or (latest_frames s late l) i [] ≡ get_or l.items (length l.items + i - late) []
  latest-held l s late i h =
      let none : List (List X) = replicate (late - length l.items) (replicate l.channels s) in
      let front : length none ≡ late - length l.items = length-replicate (late - length l.items) (replicate l.channels s) in
      let at : length l.items - late + (i - (late - length l.items)) ≡ length l.items + i - late = omega arith in
      get_or-append_right none (drop (length l.items - late) l.items) (late - length l.items) i [] front h ∙ get_or-drop (length l.items - late) l.items (i - (late - length l.items)) [] ∙ ap (λ n. get_or l.items n []) at

  module _ (channels capacity len : ℕ) (samples : Buffer X) (l : Frames X) (is-l : frames_of channels capacity len samples ≡ l) (r : IsRing channels capacity len samples) where
    pub ring-push_frames : (len' count : ℕ) (after : Buffer X) (fs : List X) → length fs ≡ count * l.channels → len' ≡ min (len + count) capacity → after ≡ buffer (keep_last samples.capacity (samples.items ++ fs)) samples.capacity
        → IsRing channels capacity len' after × (pieces channels len' after.items ≡ pushed_all l (pieces l.channels count fs))
    ring-push_frames len' count after fs e-fs e-len is =
        let same : channels ≡ l.channels = ap (λ v. v.channels) is-l in
        let long : length fs ≡ count * channels = e-fs ∙ ap (λ n. count * n) (sym same) in
        let both = keep-frames channels len count capacity samples.items fs r.filled long r.within in
        rw (← is-l, e-len, is, r.free) (record { some = r.some; bound = r.bound; small = r.small; within = omega arith; filled = both.0; free = refl }, both.1)

    -- where the frames of the ring end
    pub record IsSeam (coming : List X) (end own : ℕ) : Type 0 where
      pub is : own ≡ min end (length samples.items)
      pub rest : end - own ≤ length coming
      pub within : end ≤ length (samples.items ++ coming)

    pub ring-seam : (coming : List X) (count own : ℕ) → own ≡ min (count * channels) (len * channels) → count * l.channels ≤ length l.items * l.channels + length coming → IsSeam coming (count * channels) own
    ring-seam coming count own e enough =
        let lined : length l.items ≡ len = sym ring-count in
        let free : count * channels ≤ len * channels + length coming = rw (lined, ← ap (λ v. v.channels) is-l) at enough in
        let all = r.filled in
        record { is = omega arith; rest = omega arith; within = omega (arith, length-append samples.items coming) }
      where
        ring-count : len ≡ length l.items
        ring-count = ring-len channels capacity len samples l is-l r

    -- the oldest frames, and after them those that come
    pub ring-oldest : (coming old new : List X) (count : ℕ) → new ≡ take (count * channels) (samples.items ++ coming) ++ drop (count * channels) old → count * channels ≤ length (samples.items ++ coming)
        → (n : ℕ) → n * l.channels ≤ length coming → count ≤ length l.items + n → pieces l.channels count new ≡ take count (l.items ++ pieces l.channels n coming)
    ring-oldest coming old new count is within n h bound =
        rw (← is-l) (let h' : n * channels ≤ length coming = rw (← is-l) at h in let bound' : count ≤ length (pieces channels len samples.items) + n = rw (← is-l) at bound in
        let many : length (pieces channels len samples.items) ≡ len = length-pieces channels len samples.items in
        let cut : length (take (count * channels) (samples.items ++ coming)) ≡ count * channels = length-take-le (count * channels) (samples.items ++ coming) within in
        ap (pieces channels count) is
        ∙ pieces-front channels count (take (count * channels) (samples.items ++ coming)) (drop (count * channels) old) cut
        ∙ pieces-take channels count (samples.items ++ coming) within
        ∙ sym (pieces-first channels count (len + n) (samples.items ++ coming) (omega arith))
        ∙ ap (take count) (pieces-joined channels len n samples.items coming r.filled))

    -- so many of the oldest came out into the places of those that came
    pub ring-exchanged : (frames out : List X) (count : ℕ) → length frames ≡ count * l.channels → count ≤ len → out ≡ take (length frames) samples.items → pieces l.channels count out ≡ take count l.items
    ring-exchanged frames out count e bound is =
        let same : channels ≡ l.channels = ap (λ v. v.channels) is-l in
        let long : length frames ≡ count * channels = e ∙ ap (λ m. count * m) (sym same) in
        let held : len ≡ length l.items = ring-len channels capacity len samples l is-l r in
        let fits : count * channels ≤ len * channels = mul-le-mul_right channels bound in
        let whole : samples.items ++ [] ≡ samples.items = append-nil samples.items in
        let within : count * channels ≤ length (samples.items ++ []) = rw whole (omega (arith, r.filled)) in
        let rest : drop (count * channels) frames ≡ [] = drop_all (count * channels) frames (omega arith) in
        let cut : out ≡ take (count * channels) (samples.items ++ []) ++ drop (count * channels) frames = rw (whole, rest) (is ∙ ap (λ m. take m samples.items) long ∙ sym (append-nil (take (count * channels) samples.items))) in
        let none : zero * l.channels ≤ length {A = X} [] = omega (arith, zero-mul l.channels) in
        ring-oldest [] frames out count cut within zero none (omega arith) ∙ ap (take count) (append-nil l.items)

    -- the frames that stay where so many of the oldest were taken out
    pub ring-popped : (len' count n : ℕ) (out : List X) (after : Buffer X) → length out ≡ count * l.channels → count ≤ len → len' ≡ len - count → n ≡ min (length out) (length samples.items) → after ≡ buffer (drop n samples.items) samples.capacity
        → IsRing channels capacity len' after × (pieces channels len' after.items ≡ drop count l.items)
    ring-popped len' count n out after e bound e-len e-n is =
        let same : channels ≡ l.channels = ap (λ v. v.channels) is-l in
        let long : length out ≡ count * channels = e ∙ ap (λ m. count * m) (sym same) in
        let fits : count * channels ≤ len * channels = mul-le-mul_right channels bound in
        let all : n ≡ count * channels = omega (arith, r.filled) in
        let whole : len ≡ count + len' = omega arith in
        let size : len * channels ≡ count * channels + len' * channels = ap (λ m. m * channels) whole ∙ add-mul count len' channels in
        let left : length (drop (count * channels) samples.items) ≡ len' * channels = omega (arith, length-drop (count * channels) samples.items, r.filled, size) in
        let rest : pieces channels len' (drop (count * channels) samples.items) ≡ drop count (pieces channels len samples.items) = pieces-beyond channels count len' samples.items ∙ ap (λ m. drop count (pieces channels m samples.items)) (sym whole) in
        rw (← is-l, is, all) (record { some = r.some; bound = r.bound; small = r.small; within = omega (arith, r.within); filled = left; free = r.free }, rest)

    -- where there are so many frames, there are as many samples
    pub ring-enough : (frames : List X) (count : ℕ) → length frames ≡ count * l.channels → count ≤ len → length frames ≤ length samples.items
    ring-enough frames count e bound =
        let long : length frames ≡ count * channels = e ∙ ap (λ m. count * m) (sym (ap (λ v. v.channels) is-l)) in
        omega (arith, r.filled, mul-le-mul_right channels bound)

    -- where all places are filled, as many frames stay
    pub ring-level_many : (count : ℕ) → length samples.items ≡ samples.capacity → len ≡ min (len + count) capacity
    ring-level_many count e = let one = ring-full channels capacity len samples l is-l r e in omega (arith, r.within)

    -- all places are filled where there are as many frames as there may be
    pub ring-whole : length samples.items ≡ samples.capacity → length l.items ≡ l.capacity
    ring-whole e =
        let one = ring-full channels capacity len samples l is-l r e in
        let held : len ≡ length l.items = ring-len channels capacity len samples l is-l r in
        let maximum : capacity ≡ l.capacity = ap (λ v. v.capacity) is-l in
        omega (arith, r.within)

    pub ring-filled : length l.items ≡ l.capacity → length samples.items ≡ samples.capacity
    ring-filled e =
        let held : len ≡ length l.items = ring-len channels capacity len samples l is-l r in
        let maximum : capacity ≡ l.capacity = ap (λ v. v.capacity) is-l in
        let same : len ≡ capacity = omega arith in
        r.filled ∙ ap (λ n. n * channels) same ∙ sym r.free

    -- where frames stand that come so many places before the next one, silent ones first
    pub record IsBefore (count silent_frames first : ℕ) : Type 0 where
      pub bound : silent_frames ≤ count
      pub whole : silent_frames * channels + (count - silent_frames) * channels ≡ count * channels
      pub inside : first + (count - silent_frames) ≤ len
      pub free : first * channels + (count - silent_frames) * channels ≤ length samples.items

    pub ring-places_before : (late count silent_frames first : ℕ) → count ≤ late → silent_frames ≡ min (late - length l.items) count → first ≡ len + silent_frames - late → IsBefore count silent_frames first
    ring-places_before late count silent_frames first h e-silent_frames e-first =
        let held : len ≡ length l.items = ring-len channels capacity len samples l is-l r in
        let bound : silent_frames ≤ count = omega arith in
        let inside : first + (count - silent_frames) ≤ len = omega arith in
        let both : silent_frames + (count - silent_frames) ≡ count = omega arith in
        record {
          bound = bound;
          whole = sym (add-mul silent_frames (count - silent_frames) channels) ∙ ap (λ n. n * channels) both;
          inside = inside;
          free = omega (arith, mul-le-mul_right channels inside, add-mul first (count - silent_frames) channels, r.filled);
        }

    -- silence, and the frames that stand so many places before the next one
    pub ring-before : (s : X) (late count silent_frames first : ℕ) (silent own : List X) → count ≤ late → silent_frames ≡ min (late - length l.items) count → first ≡ len + silent_frames - late
        → silent ≡ replicate (silent_frames * channels) s → own ≡ take ((count - silent_frames) * channels) (drop (first * channels) samples.items)
        → pieces l.channels count (silent ++ own) ≡ take count (latest_frames s late l)
    ring-before s late count silent_frames first silent own h e-silent_frames e-first e-silent e-own =
        let at = ring-places_before late count silent_frames first h e-silent_frames e-first in
        let held : len ≡ length l.items = ring-len channels capacity len samples l is-l r in
        let silence : silent_frames ≡ min (late - len) count = omega arith in
        let frames : List (List X) = pieces channels len samples.items in
        let both : count ≡ silent_frames + (count - silent_frames) = omega arith in
        let long : length silent ≡ silent_frames * channels = ap length e-silent ∙ length-replicate (silent_frames * channels) s in
        let many : length (pieces channels len samples.items) ≡ len = length-pieces channels len samples.items in
        let left : (count - silent_frames) * channels ≤ length (drop (first * channels) samples.items) = omega (arith, length-drop (first * channels) samples.items, at.free) in
        let front : pieces channels silent_frames silent ≡ replicate silent_frames (replicate channels s) = ap (pieces channels silent_frames) e-silent ∙ pieces-replicate channels silent_frames s in
        let back : pieces channels (count - silent_frames) own ≡ take (count - silent_frames) (drop first frames) =
        ap (pieces channels (count - silent_frames)) e-own ∙ pieces-take channels (count - silent_frames) (drop (first * channels) samples.items) left ∙ pieces-beyond channels first (count - silent_frames) samples.items
        ∙ ap (drop first) (sym (pieces-first channels (first + (count - silent_frames)) len samples.items at.inside)) ∙ drop-take first (count - silent_frames) frames in
        let same : take (count - silent_frames) (drop first frames) ≡ take (count - silent_frames) (drop (len - late) frames) = take-same (count - silent_frames) first (len - late) frames (λ some. omega arith) in
        rw (← is-l, many) (ap (λ n. pieces channels n (silent ++ own)) both ∙ pieces-joined channels silent_frames (count - silent_frames) silent own long
        ∙ ap (λ ps. ps ++ pieces channels (count - silent_frames) own) front ∙ ap (λ ps. replicate silent_frames (replicate channels s) ++ ps) (back ∙ same)
        ∙ sym (replicate-front (replicate channels s) (late - len) count (drop (len - late) frames) silent_frames silence))

    -- where one channel of these frames stands
    pub ring-channel_from : (late count silent_frames first channel : ℕ) → count ≤ late → silent_frames ≡ min (late - length l.items) count → first ≡ len + silent_frames - late → channel < l.channels
        → (first * channels + channel + length samples.items < 2 ^ 62) × ((k : ℕ) → k < count - silent_frames → first * channels + channel + k * channels < length samples.items)
    ring-channel_from late count silent_frames first channel h e-silent_frames e-first within =
        let held : len ≡ length l.items = ring-len channels capacity len samples l is-l r in
        let same : channels ≡ l.channels = ap (λ v. v.channels) is-l in
        let bound : len * channels ≤ 2 ^ 32 = ring-small channels capacity len samples l is-l r in
        let before : first * channels ≤ len * channels = mul-le-mul_right channels (omega arith) in (
          omega (arith, bound, before, r.filled, r.bound),
          λ k lt.
              let at = ring-place channels capacity len samples l is-l r (first + k) channel (omega arith) within in
              omega (arith, at.0, add-mul first k channels),
        )

    -- one channel of the frames that stand so many places before the next one
    pub ring-channel_before : (s d : X) (late count silent_frames first channel k : ℕ) → count ≤ late → silent_frames ≡ min (late - length l.items) count → first ≡ len + silent_frames - late → channel < l.channels → k < count - silent_frames
        → get_or samples.items (first * channels + channel + k * channels) d ≡ get_or (get_or (latest_frames s late l) (silent_frames + k) []) channel d
    ring-channel_before s d late count silent_frames first channel k h e-silent_frames e-first within lt =
        let held : len ≡ length l.items = ring-len channels capacity len samples l is-l r in
        let at : first + k < len = omega arith in
        let inside : channel < channels = rw (← ap (λ v. v.channels) is-l) at within in
        let there : length l.items + (silent_frames + k) - late ≡ first + k = omega arith in
        let place : first * channels + channel + k * channels ≡ (first + k) * channels + channel = omega (arith, add-mul first k channels) in
        let piece : get_or (get_or l.items (first + k) []) channel d ≡ get_or samples.items ((first + k) * channels + channel) d = rw (← is-l) (get_or-piece channels len samples.items (first + k) channel d at inside) in
        ap (λ m. get_or samples.items m d) place ∙ sym (ap (λ f. get_or f channel d) (latest-held l s late (silent_frames + k) (omega arith) ∙ ap (λ m. get_or l.items m []) there) ∙ piece)

-- samples that fit, in frames of a line
pub frames-samples : (w : Width) (channels n : ℕ) (xs : List ℤ) → length xs ≡ n * channels → All (FitsSigned w) xs → All (IsSamples w channels) (pieces channels n xs)
frames-samples w channels n xs e all k d h = record { count = each-whole channels n xs e k d h; fits = All-pieces (FitsSigned w) channels n xs all k d h }
