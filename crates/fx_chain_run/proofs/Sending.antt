-- What stays true while frames are sent.
use Rattle.std.proofs.Common.{◌≡◌, ℕ, ◌+◌, ◌≤◌, List, [], ◌∷◌, ◌++◌, length, take, drop, refl, sym, ap, ◌∙◌, arith, mul-le-mul, Option}
use Rattle.std.proofs.lemmas.List.{append_assoc, length-append, take-append-drop, take-append-le, flat_map_more}
use Rattle.std.proofs.lemmas.List.Sums.{count_by-le-length, sum_by-append}
use Rattle.fx_frame_base.specs.declared.coding.Coding.{Coding}
use Rattle.fx_frame_base.specs.Frame.{Samples}
use Rattle.fx_sound.specs.FrameCoding.{bytes_of, clips_of, frame_size}
use Rattle.fx_frame_base.specs.Coding.{clips_written, width_of}
use Rattle.fx_frame_base.specs.declared.coding.Coding.TheVariants.{U8, S8, S16Le, S16Be, S24Le, S24Be, S32Le, S32Be}
use Rattle.fx_sound.specs.Output.{Pending, Sent}
use Rattle.fx_chain_run.specs.FrameWriter.{WroteFront, coded, coded_clips}

-- what was sent is a front, whatever comes after
pub WroteFront-sent : (first now : Option (List ℕ)) (out : Pending) (all more : List ℕ) → Sent first now out all → WroteFront first now out.written (all ++ more)
WroteFront-sent first now out all more s = record {
  part = omega (arith, s.within, length-append all more);
  took = rw (take-append-le out.written all more s.within) s.taken;
}

-- the same where some first bytes of those that come next were to be sent too
pub WroteFront-part : (first now : Option (List ℕ)) (out : Pending) (all bytes : List ℕ) (n : ℕ) → Sent first now out (all ++ take n bytes) → WroteFront first now out.written (all ++ bytes)
WroteFront-part first now out all bytes n s =
    let joined : (all ++ take n bytes) ++ drop n bytes ≡ all ++ bytes = append_assoc all (take n bytes) (drop n bytes) ∙ ap (λ l. all ++ l) (take-append-drop n bytes) in
    rw joined at (WroteFront-sent first now out (all ++ take n bytes) (drop n bytes) s)

-- the bytes of one frame more
pub coded-more : (coding : Coding) (head : List ℕ) (frames : List Samples) (frame : Samples) → (head ++ coded coding frames) ++ bytes_of coding frame ≡ head ++ coded coding (frames ++ frame ∷ [])
coded-more coding head frames frame = flat_map_more (bytes_of coding) head frames frame

-- the bytes of more frames
pub coded-append : (coding : Coding) (xs ys : List Samples) → coded coding (xs ++ ys) ≡ coded coding xs ++ coded coding ys
coded-append coding [] ys = refl
coded-append coding (x ∷ xs) ys = ap (λ l. bytes_of coding x ++ l) (coded-append coding xs ys) ∙ sym (append_assoc (bytes_of coding x) (coded coding xs) (coded coding ys))

-- the clips of more frames
pub coded_clips-append : (coding : Coding) (xs ys : List Samples) → coded_clips coding (xs ++ ys) ≡ coded_clips coding xs + coded_clips coding ys
coded_clips-append coding xs ys = sum_by-append (clips_of coding) xs ys

-- a sample takes at most four bytes
width_of-le : (coding : Coding) → width_of coding ≤ 4
width_of-le U8 = omega arith
width_of-le S8 = omega arith
width_of-le S16Le = omega arith
width_of-le S16Be = omega arith
width_of-le S24Le = omega arith
width_of-le S24Be = omega arith
width_of-le S32Le = omega arith
width_of-le S32Be = omega arith

-- a frame takes at most 64 bytes
pub frame_size_le : (coding : Coding) (n : ℕ) → n ≤ 16 → frame_size coding n ≤ 64
frame_size_le coding n h = omega (arith, mul-le-mul h (width_of-le coding))

-- at most one clip a sample
pub clips_of_le : (coding : Coding) (frame : Samples) → clips_of coding frame ≤ length frame
clips_of_le coding frame = count_by-le-length (clips_written coding) frame
