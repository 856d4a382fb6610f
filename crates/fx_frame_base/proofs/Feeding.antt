-- Frames that lie one after another, and one more of them.
use Rattle.std.proofs.Common.{◌≡◌, ◌+◌, ◌*◌, ◌<◌, ◌≤◌, ℕ, zero, suc, List, ◌++◌, length, take, drop, refl, sym, ap, ◌∙◌, arith, add-one, ℤ}
use Rattle.std.proofs.Math.Nat.{suc-mul}
use Rattle.fx_frame_base.specs.Feed.{Fed, GaveNext, TookNext, TookWithinSpace, nothing, taken, given}
use Rattle.fx_frame_base.specs.Frame.{Samples}
use Rattle.fx_frame_base.specs.Lists.{pieces}
use Rattle.fx_frame_base.specs.Stage.{Acts, Counts, kind}
use Rattle.fx_frame_base.proofs.Pieces.{length-pieces}
use Rattle.fx_frame_base.proofs.Capacities.{free-next}
use Rattle.fx_frame_base.proofs.Puts.{drop-put, pieces-more, pieces-put}

-- in too few samples for one frame there is none
pub none-fit : (count size free : ℕ) → count * size ≤ free → free < size → count ≡ 0
none-fit zero size free fits bound = refl
none-fit (suc n) size free fits bound = absurd (omega (arith, suc-mul n size))

module _ {S R : Type 0} (acts : Acts S R) (first : S) (input start : List ℤ) where
  -- how far a stage was fed by frames
  pub record Turned (s : S) (out : List ℤ) (read written taken given : ℕ) : Type 0 where
    pub recipe : acts.recipe s ≡ acts.recipe first
    pub count : (acts.counts s).taken ≡ (acts.counts first).taken + taken
    pub read_is : read ≡ taken * (kind acts first).inputs
    pub read_in : read ≤ length input
    pub bound : taken ≤ read
    pub written_is : written ≡ given * (kind acts first).outputs
    pub written_in : written ≤ length out
    pub small : given ≤ written
    pub rest_unchanged : drop written out ≡ drop written start
    pub fed : Fed acts first (pieces (kind acts first).inputs taken input) (pieces (kind acts first).outputs given out) s
    pub free : TookWithinSpace acts first taken (length start)

  pub Turned-none : Turned first start 0 0 0 0
  Turned-none =
      record { recipe = refl; count = omega arith; read_is = omega arith; read_in = omega arith; bound = omega arith; written_is = omega arith; written_in = omega arith; small = omega arith; rest_unchanged = refl; fed = nothing; free = λ n bound. absurd (omega (arith, bound)) }

  pub Turned-gave : (s s' : S) (g : Samples) (out out' : List ℤ) (read written count number : ℕ)
      → Turned s out read written count number → GaveNext acts s s' g → 1 ≤ length g → written + (kind acts first).outputs ≤ length out → out' ≡ take written out ++ g ++ drop (written + length g) out → length out' ≡ length out
      → Turned s' out' read (written + length g) count (number + 1)
  Turned-gave s s' g out out' read written count number t gave some free put same =
      let sides : length g ≡ (kind acts first).outputs = gave.gave.channels ∙ ap (λ (r : R). (acts.kind_of r).outputs) t.recipe in
      let counted = ap (λ (n : Counts). n.taken) gave.gave.gives.counted in
      record {
        recipe = gave.gave.recipe_stays ∙ t.recipe;
        count = counted ∙ t.count;
        read_is = t.read_is;
        read_in = t.read_in;
        bound = t.bound;
        written_is = rw (sides, t.written_is) (omega (arith, suc-mul number (kind acts first).outputs, add-one number));
        written_in = omega arith;
        small = let h = t.small in omega arith;
        rest_unchanged = rw sides (drop-put written (kind acts first).outputs start out g out' sides free put t.rest_unchanged);
        fed = rw (pieces-put (kind acts first).outputs number written out g out' t.written_is sides free put) (given _ _ g s s' t.fed gave);
        free = t.free;
      }

  pub Turned-took : (s s' : S) (x : Samples) (out : List ℤ) (read written count number : ℕ)
      → Turned s out read written count number → TookNext acts s s' x → 1 ≤ (kind acts first).inputs → read + (kind acts first).inputs ≤ length input → written + (kind acts first).outputs ≤ length out → length out ≡ length start → x ≡ take (kind acts first).inputs (drop read input)
      → Turned s' out (read + (kind acts first).inputs) written (count + 1) number
  Turned-took s s' x out read written count number t took some free fits_out long is =
      let counted = ap (λ (n : Counts). n.taken) took.took.counted in
      record {
        recipe = took.took.recipe_stays ∙ t.recipe;
        count = omega (arith, counted, t.count);
        read_is = rw t.read_is (omega (arith, suc-mul count (kind acts first).inputs, add-one count));
        read_in = free;
        bound = let h = t.bound in omega arith;
        written_is = t.written_is;
        written_in = t.written_in;
        small = t.small;
        rest_unchanged = t.rest_unchanged;
        fed = rw (pieces-more (kind acts first).inputs count read input t.read_is, ← is) (taken _ _ x s s' t.fed took);
        free = free-next acts first s s' _ _ x count written (length start) t.recipe t.count t.fed took (t.written_is ∙ ap (λ m. m * (kind acts first).outputs) (sym (length-pieces (kind acts first).outputs number out))) (omega (arith, fits_out, long)) t.free;
      }
