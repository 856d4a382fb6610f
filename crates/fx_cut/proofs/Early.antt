-- Frames that leave a full line before as many others come to it.
use Rattle.std.proofs.Common.{◌≡◌, ◌-◌, ◌≤◌, ℕ, ℤ, List, ◌++◌, length, drop, sym, arith, length-append, length-drop}
use Rattle.std.proofs.lemmas.List.{drop-append-le}
use Rattle.fx_frame_line.specs.Line.{Frames, pushed_all}

-- they leave the same line as those that come and push them out
pub popped-pushed : (l m : Frames ℤ) (fs : List (List ℤ)) (n : ℕ) → m.items ≡ drop n l.items → m.capacity ≡ l.capacity → length fs ≡ n → n ≤ length l.items → length l.items ≡ l.capacity → pushed_all m fs ≡ pushed_all l fs
popped-pushed l m fs n items capacity many bound full =
    let left : length (drop n l.items ++ fs) - l.capacity ≡ 0 = omega (arith, length-append (drop n l.items) fs, length-drop n l.items) in
    let over : length (l.items ++ fs) - l.capacity ≡ n = omega (arith, length-append l.items fs) in
    rw (items, capacity, left, over) (sym (drop-append-le n l.items fs bound))
