-- Texts within JSON (RFC 8259), and why there is no plan as one JSON object (this project's profile).
use Rattle.std.specs.Prelude.{ℕ, ◌/◌, ◌%◌, ◌==◌, ◌||◌, nat_lt, false, if◌then◌else◌, List, [], ◌∷◌, ◌++◌, codes, decimal, flat_map}
use Rattle.std.specs.Fmt.{digit_glyph}
use Rattle.std.specs.Io.BufRead.{strip_last}
use Rattle.fx_sound.specs.declared.head.Kind.{Kind}
use Rattle.fx_sound.specs.declared.head.Kind.TheVariants.{Wav, Au}

-- the name of a kind
abbrev pub kind_text : Kind → List ℕ
kind_text Wav = codes "wav"
kind_text Au = codes "au"

-- a byte within a string (RFC 8259, section 7): quotation mark and reverse solidus after a reverse solidus, a control
-- character by its number in four digits, every other byte unchanged
abbrev pub json_byte : ℕ → List ℕ
json_byte byte =
    if (byte == 34) || (byte == 92) then 92 ∷ byte ∷ []
    else (if nat_lt byte 32 then codes "\\u00" ++ digit_glyph false (byte / 16) ∷ digit_glyph false (byte % 16) ∷ []
    else byte ∷ [])

-- a text as a string, without the line feed at its end
unfoldable pub json_string : List ℕ → List ℕ
json_string text = codes "\"" ++ flat_map json_byte (strip_last 10 text) ++ codes "\""

-- why there is no plan: the status, the message and what to do
abbrev pub stop_json : ℕ → List ℕ → List ℕ → List ℕ
stop_json status message advice =
    codes "{\"status\": " ++ decimal status ++ codes ", \"message\": " ++ json_string message
    ++ codes ", \"advice\": " ++ json_string advice ++ codes "}\n"
