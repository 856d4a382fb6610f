-- The texts of a plan in the parts in which they are written.
use Rattle.std.proofs.Common.{◌≡◌, ℕ, suc, ◌+◌, ◌/◌, ◌%◌, ◌<◌, ◌≤◌, List, [], ◌∷◌, ◌++◌, length, take, get_or, codes, decimal, flat_map, sym, ap, ◌∙◌, append_assoc, append-nil, add-zero, arith, false}
use Rattle.std.specs.Fmt.{digit_glyph}
use Rattle.std.specs.Io.BufRead.{strip_last}
use Rattle.std.proofs.lemmas.List.{length-take-le, take_all, take_more}
use Rattle.std.proofs.lemmas.Grind.{flat_map-append}
use Rattle.std.proofs.lemmas.Bool.Decides.{nat_tests}
use Rattle.soxchain_plan.specs.declared.outline.EffectOutline.{EffectOutline}
use Rattle.soxchain_plan.specs.declared.outline.Outline.{Outline}
use Rattle.soxchain_plan.specs.declared.outline.SoundOutline.{SoundOutline}
use Rattle.soxchain_plan.specs.Quoted.{json_byte, json_string, kind_text, stop_json}
use Rattle.soxchain_plan.specs.Shown.{beyond_json, effect_json, effect_line, effect_lines, effects_json, empty_json, frames_json, frames_text, outline_json, size_json, sound_json, sound_line}

pub json_byte-control : (byte : ℕ) → byte < 32 → json_byte byte ≡ codes "\\u00" ++ digit_glyph false (byte / 16) ∷ digit_glyph false (byte % 16) ∷ []
json_byte-control byte h = grind (arith, nat_tests)

-- texts written one after the other
json-joined : (a k b c d e f g h i : List ℕ) → (a ++ (k ++ (b ++ (c ++ (d ++ (e ++ (f ++ (g ++ h)))))))) ++ i ≡ a ++ k ++ b ++ c ++ d ++ e ++ f ++ g ++ h ++ i
json-joined a k b c d e f g h i = simp append_assoc

line-joined : (a k b c d e f g h i j : List ℕ) → (a ++ (k ++ (b ++ (c ++ (d ++ (e ++ (f ++ (g ++ (h ++ i))))))))) ++ j ≡ a ++ k ++ b ++ c ++ d ++ e ++ f ++ g ++ h ++ i ++ j
line-joined a k b c d e f g h i j = simp append_assoc

outline-joined : (a b c d e f g h i j k l m n o p q : List ℕ)
    → (((((((((((a ++ b) ++ c) ++ d) ++ (e ++ (f ++ (g ++ (h ++ i))))) ++ j) ++ k) ++ l) ++ m) ++ n) ++ o) ++ p) ++ q ≡ a ++ b ++ c ++ d ++ e ++ f ++ g ++ h ++ i ++ j ++ k ++ l ++ m ++ n ++ o ++ p ++ q
outline-joined a b c d e f g h i j k l m n o p q = simp append_assoc

stop-joined : (a b c d e f g : List ℕ) → ((((a ++ (b ++ c)) ++ d) ++ e) ++ f) ++ g ≡ a ++ b ++ c ++ d ++ e ++ f ++ g
stop-joined a b c d e f g = simp append_assoc

pub sound_line-parts : (title kind : List ℕ) (sound : SoundOutline) → kind ≡ kind_text sound.kind
    → (title ++ (codes ": " ++ (kind ++ (codes ", " ++ (decimal sound.rate ++ (codes " frames a second, channels " ++ (decimal sound.channels ++ (codes ", " ++ (decimal sound.bits ++ codes " bits")))))))))
    ++ frames_text sound.frames ≡ sound_line title sound
unfolding sound_line
sound_line-parts title kind sound e = rw e (line-joined title (codes ": ") (kind_text sound.kind) (codes ", ") (decimal sound.rate) (codes " frames a second, channels ") (decimal sound.channels) (codes ", ") (decimal sound.bits) (codes " bits") (frames_text sound.frames))

pub sound_json-parts : (kind : List ℕ) (sound : SoundOutline) → kind ≡ kind_text sound.kind
    → (codes "{\"kind\": \"" ++ (kind ++ (codes "\", \"rate\": " ++ (decimal sound.rate ++ (codes ", \"channels\": " ++ (decimal sound.channels ++ (codes ", \"bits\": " ++ (decimal sound.bits ++ codes ", "))))))))
    ++ frames_json sound.frames ≡ sound_json sound
unfolding sound_json
sound_json-parts kind sound e = rw e (json-joined (codes "{\"kind\": \"") (kind_text sound.kind) (codes "\", \"rate\": ") (decimal sound.rate) (codes ", \"channels\": ") (decimal sound.channels) (codes ", \"bits\": ") (decimal sound.bits) (codes ", ") (frames_json sound.frames))

-- a text between quotation marks
pub json_string-parts : (text line : List ℕ) (i : ℕ) → line ≡ strip_last 10 text → length line ≤ i → (codes "\"" ++ flat_map json_byte (take i line)) ++ codes "\"" ≡ json_string text
unfolding json_string
json_string-parts text line i e h = rw (take_all i line h) (ap (λ l. codes "\"" ++ flat_map json_byte l ++ codes "\"") e)

pub outline_json-parts : (outline : Outline)
    → (((((((((((codes "{\"in\": " ++ sound_json outline.input) ++ codes ", \"effects\": [") ++ effects_json outline.effects.items)
    ++ (codes "], \"hold\": " ++ (decimal outline.hold ++ (codes ", \"bytes\": " ++ (decimal outline.bytes ++ codes ", \"out\": ")))))
    ++ sound_json outline.output) ++ codes ", \"empty\": ") ++ empty_json outline.output.frames) ++ codes ", \"size_in_head\": ") ++ size_json outline.size)
    ++ codes ", \"beyond_head\": ") ++ beyond_json outline.beyond) ++ codes "}\n" ≡ outline_json outline
outline_json-parts outline =
    outline-joined (codes "{\"in\": ") (sound_json outline.input) (codes ", \"effects\": [") (effects_json outline.effects.items) (codes "], \"hold\": ") (decimal outline.hold) (codes ", \"bytes\": ") (decimal outline.bytes) (codes ", \"out\": ") (sound_json outline.output) (codes ", \"empty\": ") (empty_json outline.output.frames) (codes ", \"size_in_head\": ") (size_json outline.size) (codes ", \"beyond_head\": ") (beyond_json outline.beyond) (codes "}\n")

pub stop_json-parts : (status : ℕ) (message advice : List ℕ)
    → ((((codes "{\"status\": " ++ (decimal status ++ codes ", \"message\": ")) ++ json_string message) ++ codes ", \"advice\": ") ++ json_string advice) ++ codes "}\n" ≡ stop_json status message advice
stop_json-parts status message advice = stop-joined (codes "{\"status\": ") (decimal status) (codes ", \"message\": ") (json_string message) (codes ", \"advice\": ") (json_string advice) (codes "}\n")

-- the line of one more effect
pub effect_lines-more : (number : ℕ) (effects : List EffectOutline) (effect : EffectOutline) → effect_lines number effects ++ effect_line (number + length effects) effect ≡ effect_lines number (effects ++ effect ∷ [])
effect_lines-more number [] effect = rw add-zero (sym (append-nil (effect_line number effect)))
effect_lines-more number (e ∷ effects) effect =
    let places : number + suc (length effects) ≡ number + 1 + length effects = omega arith in
    ap (λ n. effect_line number e ++ effect_lines (number + 1) effects ++ effect_line n effect) places
    ∙ append_assoc (effect_line number e) (effect_lines (number + 1) effects) (effect_line (number + 1 + length effects) effect)
    ∙ ap (λ text. effect_line number e ++ text) (effect_lines-more (number + 1) effects effect)

-- the first effect of an array, and one more after others
pub effects_json-first : (effect : EffectOutline) → [] ++ effect_json effect ≡ effects_json (effect ∷ [])
effects_json-first effect = sym (append-nil (effect_json effect))

pub effects_json-more : (effects : List EffectOutline) (effect : EffectOutline) → 0 < length effects → effects_json effects ++ (codes ", " ++ effect_json effect) ≡ effects_json (effects ++ effect ∷ [])
effects_json-more [] effect h = absurd (omega arith)
effects_json-more (e ∷ effects) effect h =
    let more : flat_map (λ next. codes ", " ++ effect_json next) (effects ++ effect ∷ []) ≡ flat_map (λ next. codes ", " ++ effect_json next) effects ++ (codes ", " ++ effect_json effect) =
    flat_map-append (λ next. codes ", " ++ effect_json next) effects (effect ∷ []) ∙ ap (λ text. flat_map (λ next. codes ", " ++ effect_json next) effects ++ text) (append-nil (codes ", " ++ effect_json effect)) in
    append_assoc (effect_json e) (flat_map (λ next. codes ", " ++ effect_json next) effects) (codes ", " ++ effect_json effect) ∙ ap (λ text. effect_json e ++ text) (sym more)

-- the same of the first effects of a list
pub effect_lines-taken : (effects : List EffectOutline) (i number : ℕ) (d : EffectOutline) → i < length effects → number ≡ i + 1 → effect_lines 1 (take i effects) ++ effect_line number (get_or effects i d) ≡ effect_lines 1 (take (i + 1) effects)
effect_lines-taken effects i number d h e =
    let long : number ≡ 1 + length (take i effects) = omega (arith, length-take-le i effects) in
    ap (λ n. effect_lines 1 (take i effects) ++ effect_line n (get_or effects i d)) long ∙ effect_lines-more 1 (take i effects) (get_or effects i d) ∙ ap (effect_lines 1) (sym (take_more effects i d h))

pub effects_json-begun : (effects : List EffectOutline) (i : ℕ) (d : EffectOutline) → i < length effects → i ≡ 0 → effects_json (take i effects) ++ effect_json (get_or effects i d) ≡ effects_json (take (i + 1) effects)
effects_json-begun effects i d h e = rw (e) (effects_json-first (get_or effects 0 d) ∙ ap effects_json (sym (take_more effects 0 d (omega arith))))

pub effects_json-taken : (effects : List EffectOutline) (i : ℕ) (d : EffectOutline) → i < length effects → 0 < i → effects_json (take i effects) ++ (codes ", " ++ effect_json (get_or effects i d)) ≡ effects_json (take (i + 1) effects)
effects_json-taken effects i d h p =
    effects_json-more (take i effects) (get_or effects i d) (omega (arith, length-take-le i effects)) ∙ ap effects_json (sym (take_more effects i d h))
