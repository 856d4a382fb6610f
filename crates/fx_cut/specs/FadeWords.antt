-- The words of `fade` (sox(1), EFFECTS, fade): the type `t` alone, a length in, and optionally a stop and a length out.
use Rattle.std.specs.Prelude.{ℕ, ◌^◌, nat_le, nat_lt, nat_eq, not, ◌&&◌, Bool, List, [], ◌∷◌, ◌++◌, codes, length, Some, None}
use Rattle.std.specs.Str.{bytes_eq}
use Rattle.std.specs.Result.{result_unwrap_or}
use Rattle.fx_fixed.specs.declared.positions.Anchor.TheVariants as anchors
use Rattle.fx_plan_words.specs.declared.fault.Mark.{Mark}
use Rattle.fx_plan_words.specs.declared.fault.PlanCause.TheVariants.{WrongCount, NotInProfile}
use Rattle.fx_cut.specs.declared.fade.words.Fading.{Fading}
use Rattle.fx_plan_words.specs.Faults.{Word, mark, when, fault_at}
use Rattle.fx_plan_words.specs.Numbers.{frames_in, position_in, beginning}

-- lengths of 2^40 frames at most
abbrev pub is_fade : Fading → Bool
is_fade fade = nat_le fade.fade_in (2 ^ 40) && nat_le fade.fade_out (2 ^ 40)

-- the faults of the length out, of the stop and what follows it, and of the length in and what follows it
abbrev pub out_faults : ℕ → List Word → List Mark
out_faults rate [] = []
out_faults rate (word ∷ words) = fault_at 5 (frames_in rate word)

abbrev pub stop_faults : ℕ → List Word → List Mark
stop_faults rate [] = []
stop_faults rate (word ∷ words) = fault_at 4 (position_in rate anchors.Start beginning word) ++ out_faults rate words

abbrev pub in_faults : ℕ → List Word → List Mark
in_faults rate [] = []
in_faults rate (word ∷ words) = fault_at 3 (frames_in rate word) ++ stop_faults rate words

-- the type alone is too few words; any other type is not supported
unfoldable pub fade_faults : ℕ → List Word → List Mark
fade_faults rate [] = mark WrongCount 1 ∷ []
fade_faults rate (type ∷ lengths) =
    when (nat_lt 3 (length lengths)) (mark WrongCount 6)
    ++ (when (bytes_eq type (codes "t") && nat_eq (length lengths) 0) (mark WrongCount 1)
    ++ (when (not (bytes_eq type (codes "t"))) (mark NotInProfile 2)
    ++ in_faults rate lengths))

-- the length out is by default the length in
abbrev pub length_out : ℕ → ℕ → List Word → ℕ
length_out rate fade_in [] = fade_in
length_out rate fade_in (word ∷ words) = result_unwrap_or (frames_in rate word) 0

abbrev pub fade_by : ℕ → ℕ → List Word → Fading
fade_by rate fade_in [] = record { fade_in = fade_in; stop = None; fade_out = fade_in }
fade_by rate fade_in (word ∷ words) = record {
  fade_in = fade_in;
  stop = Some (result_unwrap_or (position_in rate anchors.Start beginning word) beginning);
  fade_out = length_out rate fade_in words;
}

abbrev pub fade_of : ℕ → List Word → Fading
fade_of rate [] = record { fade_in = 0; stop = None; fade_out = 0 }
fade_of rate (word ∷ words) = fade_by rate (result_unwrap_or (frames_in rate word) 0) words

abbrev pub fading : ℕ → List Word → Fading
fading rate [] = fade_of rate []
fading rate (type ∷ lengths) = fade_of rate lengths
