-- The content of a command line: where its sounds are, its effects, and the coefficient files that they name
-- (this project's profile of sox(1), SYNOPSIS, and of its EFFECTS, fir).
use Rattle.std.specs.Prelude.{ℕ, ◌-◌, ◌≡◌, if◌then◌else◌, is_some, slice_get, unwrap_or, List, [], flat_map, codes, drop, Option, Some, None, Result, Ok, Err}
use Rattle.std.specs.Str.{bytes_eq}
use Rattle.fx_plan.specs.declared.line.LineFault.{LineFault}
use Rattle.fx_plan.specs.declared.line.LineFault.TheVariants.{Memory}
use Rattle.fx_plan.specs.Line.{Said}
use Rattle.fx_sound.specs.declared.head.Head.{Head}
use Rattle.fx_plan.specs.declared.command_line.Endpoint.{Endpoint}
use Rattle.fx_plan.specs.declared.command_line.Endpoint.TheVariants.{Standard, Named}
use Rattle.fx_plan_words.specs.Faults.{Word}
use Rattle.fx_plan.specs.Groups.{effects_of}
use Rattle.fx_plan.specs.Planning.{Planning, planning_of}
use Rattle.fx_plan.specs.Plans.{names_file}

-- the result for words that make a line or have a fault: lack of memory may replace a line, but no fault
abbrev pub LineReads : Result Said LineFault → Result Said LineFault → Type 0
LineReads (Ok line) (Ok found) = found ≡ line
LineReads (Ok line) (Err fault) = fault ≡ Memory
LineReads (Err fault) found = found ≡ Err fault

-- the name of the file that a word is; `-` alone is standard input or output
abbrev pub file_name : Word → Option Word
file_name word = if bytes_eq word (codes "-") then None else Some word

abbrev pub name_in : Endpoint → Option Word
name_in Standard = None
name_in (Named name) = Some name.now

-- the effects of a line
abbrev pub effects_in : Said → List (List Word)
effects_in line = effects_of line.effects

-- the words of the effect of this number, counted from 1; none where there is no such effect
abbrev pub effect_words : ℕ → List (List Word) → List Word
effect_words number effects = unwrap_or (slice_get effects (number - 1)) []

-- the coefficient file that an effect names: the one word after its `fir`
abbrev pub file_in : List Word → List Word
file_in words = if names_file words then drop 1 words else []

-- the coefficient files that effects name, in order
abbrev pub coefficient_files : List (List Word) → List Word
coefficient_files effects = flat_map file_in effects

-- the parts of the plan of a line
abbrev pub planning_in : Head → Said → List (List ℕ) → Planning
planning_in head line files = planning_of head (is_some (file_name line.output)) line.output_kind line.bits files (effects_in line)
