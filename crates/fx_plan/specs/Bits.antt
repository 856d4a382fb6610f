-- The codings of a container by the bits of a sample (RIFF WAVE, Sun AU; this project's profile).
use Rattle.fx_frame_base.specs.declared.coding.Coding.{Coding}
use Rattle.fx_frame_base.specs.declared.coding.Coding.TheVariants.{U8, S8, S16Le, S16Be, S24Le, S24Be, S32Le, S32Be}
use Rattle.fx_sound.specs.declared.head.Kind.{Kind}
use Rattle.fx_sound.specs.declared.head.Kind.TheVariants.{Wav, Au}
use Rattle.fx_plan.specs.declared.bits.Bits.{Bits}
use Rattle.fx_plan.specs.declared.bits.Bits.TheVariants.{Eight, Sixteen, TwentyFour, ThirtyTwo}

-- the bits of a sample in a coding
abbrev pub bits_in : Coding → Bits
bits_in U8 = Eight
bits_in S8 = Eight
bits_in S16Le = Sixteen
bits_in S16Be = Sixteen
bits_in S24Le = TwentyFour
bits_in S24Be = TwentyFour
bits_in S32Le = ThirtyTwo
bits_in S32Be = ThirtyTwo

-- WAVE: little-endian, 8 bits unsigned
abbrev pub wav_coding_of_bits : Bits → Coding
wav_coding_of_bits Eight = U8
wav_coding_of_bits Sixteen = S16Le
wav_coding_of_bits TwentyFour = S24Le
wav_coding_of_bits ThirtyTwo = S32Le

-- AU: big-endian
abbrev pub au_coding_of_bits : Bits → Coding
au_coding_of_bits Eight = S8
au_coding_of_bits Sixteen = S16Be
au_coding_of_bits TwentyFour = S24Be
au_coding_of_bits ThirtyTwo = S32Be

-- the coding of a container whose samples have these bits
abbrev pub coding_with : Kind → Bits → Coding
coding_with Wav bits = wav_coding_of_bits bits
coding_with Au bits = au_coding_of_bits bits
