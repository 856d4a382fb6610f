-- Numbers of heads, read and written alike (RIFF WAVE, Sun AU, this project's profile).
use Rattle.std.specs.Prelude.{ℕ, List, [], ◌∷◌}

-- the size from which on a WAVE sound goes up to the end of the input
abbrev pub wav_unknown : ℕ
wav_unknown = 0x7ffff000

-- the size of an AU sound that goes up to the end of the input
abbrev pub au_unknown : ℕ
au_unknown = 0xffffffff

-- the tags of integer samples, plain and extensible
abbrev pub plain_tag : ℕ
plain_tag = 1

abbrev pub extensible_tag : ℕ
extensible_tag = 0xfffe

-- the subformat GUID of integer samples in an extensible format
abbrev pub pcm_guid : List ℕ
pcm_guid = 1 ∷ 0 ∷ 0 ∷ 0 ∷ 0 ∷ 0 ∷ 16 ∷ 0 ∷ 128 ∷ 0 ∷ 0 ∷ 170 ∷ 0 ∷ 56 ∷ 155 ∷ 113 ∷ []
