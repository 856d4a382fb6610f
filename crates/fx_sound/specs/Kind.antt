-- The codings of a container (RIFF WAVE, Sun AU).
use Rattle.std.specs.Prelude.{Bool, true, false}
use Rattle.fx_frame_base.specs.declared.coding.Coding.{Coding}
use Rattle.fx_frame_base.specs.declared.coding.Coding.TheVariants.{U8, S8, S16Le, S16Be, S24Le, S24Be, S32Le, S32Be}
use Rattle.fx_sound.specs.declared.head.Kind.{Kind}
use Rattle.fx_sound.specs.declared.head.Kind.TheVariants.{Wav, Au}

-- whether it is a coding of WAVE
abbrev pub is_of_wav : Coding → Bool
is_of_wav U8 = true
is_of_wav S8 = false
is_of_wav S16Le = true
is_of_wav S16Be = false
is_of_wav S24Le = true
is_of_wav S24Be = false
is_of_wav S32Le = true
is_of_wav S32Be = false

-- whether it is a coding of AU
abbrev pub is_of_au : Coding → Bool
is_of_au U8 = false
is_of_au S8 = true
is_of_au S16Le = false
is_of_au S16Be = true
is_of_au S24Le = false
is_of_au S24Be = true
is_of_au S32Le = false
is_of_au S32Be = true

-- whether it is a coding of that kind: WAVE is little-endian, 8 bits unsigned; AU big-endian
abbrev pub is_coding_of : Kind → Coding → Bool
is_coding_of Wav coding = is_of_wav coding
is_coding_of Au coding = is_of_au coding
