-- Samples that are not clipped on writing.
use Rattle.std.proofs.Common.{◌≡◌, ◌/◌, ◌≤◌, false, refl, arith, ℤ, pos, negsuc, ◌+ℤ◌, ◌≤ℤ◌, int_lt}
use Rattle.std.specs.Int.{int_div_euclid}
use Rattle.std.proofs.lemmas.Bool.Decides.{nat_tests}
use Rattle.std.proofs.lemmas.Int.{ints}
use Rattle.fx_frame_base.specs.declared.coding.Coding.{Coding}
use Rattle.fx_frame_base.specs.declared.coding.Coding.TheVariants.{U8, S8, S16Le, S16Be, S24Le, S24Be, S32Le, S32Be}
use Rattle.fx_frame_base.specs.Coding.{clips_written}
use Rattle.fx_sound.specs.FrameCoding.{largest_unclipped}

not_more-128 : (a : ℤ) → a ≤ℤ pos 2147483647 → int_lt (pos 127) (int_div_euclid a (pos 16777216)) ≡ false
not_more-128 (pos a) h = let bound : a / 16777216 ≤ 127 = omega (arith, ints, h) in grind (arith, nat_tests, bound)
not_more-128 (negsuc a) h = refl

not_more-32768 : (a : ℤ) → a ≤ℤ pos 2147483647 → int_lt (pos 32767) (int_div_euclid a (pos 65536)) ≡ false
not_more-32768 (pos a) h = let bound : a / 65536 ≤ 32767 = omega (arith, ints, h) in grind (arith, nat_tests, bound)
not_more-32768 (negsuc a) h = refl

not_more-8388608 : (a : ℤ) → a ≤ℤ pos 2147483647 → int_lt (pos 8388607) (int_div_euclid a (pos 256)) ≡ false
not_more-8388608 (pos a) h = let bound : a / 256 ≤ 8388607 = omega (arith, ints, h) in grind (arith, nat_tests, bound)
not_more-8388608 (negsuc a) h = refl

pub unclipped : (coding : Coding) (z : ℤ) → z ≤ℤ largest_unclipped coding → clips_written coding z ≡ false
unclipped U8 z h = not_more-128 (z +ℤ pos 8388608) (omega (arith, ints, h))
unclipped S8 z h = not_more-128 (z +ℤ pos 8388608) (omega (arith, ints, h))
unclipped S16Le z h = not_more-32768 (z +ℤ pos 32768) (omega (arith, ints, h))
unclipped S16Be z h = not_more-32768 (z +ℤ pos 32768) (omega (arith, ints, h))
unclipped S24Le z h = not_more-8388608 (z +ℤ pos 128) (omega (arith, ints, h))
unclipped S24Be z h = not_more-8388608 (z +ℤ pos 128) (omega (arith, ints, h))
unclipped S32Le z h = refl
unclipped S32Be z h = refl
