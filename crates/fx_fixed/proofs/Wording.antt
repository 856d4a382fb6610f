-- The words of a coefficient file, one after the other.
use Rattle.std.proofs.Common.{zero, suc, ◌≡◌, ℕ, ◌+◌, ◌<◌, ◌≤◌, Bool, true, false, not, ◌&&◌, ◌||◌, List, [], ◌∷◌, ◌++◌, length, drop, take, ap, ◌∙◌, sym, refl, arith, append-nil, length-take, get_or}
use Rattle.std.specs.Prelude.{⊤}
use Rattle.std.proofs.Math.Seq.{drop-cons}
use Rattle.std.specs.List.{before_first, filter, flat_map, list_any, slice_split}
use Rattle.std.proofs.lemmas.Bool.{false≢true, lt-ltb}
use Rattle.std.proofs.lemmas.Bool.Decides.{nat_tests}
use Rattle.std.proofs.lemmas.List.{take-append-drop}
use Rattle.std.proofs.lemmas.List.Splits.{slice_split-cons_yes}
use Rattle.fx_fixed.specs.CoefficientFiles.{has_bytes, is_feed, is_hash, is_white, words_in, words_of}
use Rattle.fx_fixed.specs.Words.{BeginsBreak, BeginsWord, is_break}
use Rattle.fx_fixed.proofs.Parting.{before_first-no, before_first-yes, before_run, first_part, none_here, split_more, split_run}

-- ---- the kinds of bytes

no_break : (c : ℕ) → is_break c ≡ false → (is_white c ≡ false) × (is_hash c ≡ false) × (is_feed c ≡ false)
no_break c plain = (grind (arith, nat_tests), grind (arith, nat_tests), grind (arith, nat_tests))

white_break : (c : ℕ) → is_break c ≡ true → is_hash c ≡ false → is_white c ≡ true
white_break c break plain = go (is_white c) refl where
  go : (w : Bool) → is_white c ≡ w → is_white c ≡ true
  go true white = white
  go false dark = absurd (false≢true (rw (dark, plain) at break))

-- ---- what is skipped

words_feed : (c : ℕ) (cs : List ℕ) → is_feed c ≡ true → words_of (c ∷ cs) ≡ words_of cs
words_feed c cs feed = rw feed refl

words_white : (c : ℕ) (cs : List ℕ) → is_feed c ≡ false → is_hash c ≡ false → is_white c ≡ true → words_of (c ∷ cs) ≡ words_of cs
words_white c cs feed hash white =
    let first = first_part is_feed cs in
    let line = before_first-no is_hash c first.0 hash in
    let cut = slice_split-cons_yes is_white c (before_first is_hash first.0) white in
    let same : words_in (c ∷ first.0) ≡ words_in first.0 = ap (λ xs. filter has_bytes (slice_split is_white xs)) line ∙ ap (λ xs. filter has_bytes xs) cut in
    ap (λ xs. flat_map words_in xs) (split_more is_feed c cs first.0 first.1 feed first.2)
    ∙ ap (λ xs. xs ++ flat_map words_in first.1) same
    ∙ sym (ap (λ xs. flat_map words_in xs) first.2)

-- the words of what follows, in a comment or not
abbrev pub words_after : Bool → List ℕ → List (List ℕ)
words_after true text = flat_map words_in (drop 1 (slice_split is_feed text))
words_after false text = words_of text

words_hash : (c : ℕ) (cs : List ℕ) → is_feed c ≡ false → is_hash c ≡ true → words_of (c ∷ cs) ≡ words_after true cs
words_hash c cs feed hash =
    let first = first_part is_feed cs in
    let none : words_in (c ∷ first.0) ≡ [] = ap (λ xs. filter has_bytes (slice_split is_white xs)) (before_first-yes is_hash c first.0 hash) in
    ap (λ xs. flat_map words_in xs) (split_more is_feed c cs first.0 first.1 feed first.2)
    ∙ ap (λ xs. xs ++ flat_map words_in first.1) none
    ∙ sym (ap (λ xs. flat_map words_in (drop 1 xs)) first.2)

comment_feed : (c : ℕ) (cs : List ℕ) → is_feed c ≡ true → words_after true (c ∷ cs) ≡ words_of cs
comment_feed c cs feed = rw feed refl

comment_more : (c : ℕ) (cs : List ℕ) → is_feed c ≡ false → words_after true (c ∷ cs) ≡ words_after true cs
comment_more c cs feed =
    let first = first_part is_feed cs in
    ap (λ xs. flat_map words_in (drop 1 xs)) (split_more is_feed c cs first.0 first.1 feed first.2) ∙ sym (ap (λ xs. flat_map words_in (drop 1 xs)) first.2)

-- one byte that begins no word
words_skip : (in_comment : Bool) (c : ℕ) (cs : List ℕ) → (in_comment || is_break c) ≡ true →
    words_after (not (is_feed c) && (in_comment || is_hash c)) cs ≡ words_after in_comment (c ∷ cs)
words_skip true c cs skipped = go (is_feed c) refl where
  go : (f : Bool) → is_feed c ≡ f → words_after (not (is_feed c) && true) cs ≡ words_after true (c ∷ cs)
  go true feed = ap (λ f. words_after (not f && true) cs) feed ∙ sym (comment_feed c cs feed)
  go false other = ap (λ f. words_after (not f && true) cs) other ∙ sym (comment_more c cs other)
words_skip false c cs skipped = go (is_feed c) refl (is_hash c) refl where
  go : (f : Bool) → is_feed c ≡ f → (h : Bool) → is_hash c ≡ h → words_after (not (is_feed c) && is_hash c) cs ≡ words_after false (c ∷ cs)
  go true feed h hash = ap (λ f. words_after (not f && is_hash c) cs) feed ∙ sym (words_feed c cs feed)
  go false other true hash = ap (λ f. words_after (not f && is_hash c) cs) other ∙ ap (λ h. words_after h cs) hash ∙ sym (words_hash c cs other hash)
  go false other false plain = ap (λ f. words_after (not f && is_hash c) cs) other ∙ ap (λ h. words_after h cs) plain ∙ sym (words_white c cs other plain (white_break c skipped plain))

-- ---- a word, and what ends it

none_of : (p q : ℕ → Bool) → ((c : ℕ) → p c ≡ false → q c ≡ false) → (run : List ℕ) → list_any p run ≡ false → list_any q run ≡ false
none_of p q weaker [] none = refl
none_of p q weaker (c ∷ cs) none =
    let fails = none_here p c cs none in
    rw (weaker c fails.0) (none_of p q weaker cs fails.1)

-- a line goes on with nothing, or with white space
abbrev BeginsWhite : List ℕ → Type 0
BeginsWhite [] = ⊤
BeginsWhite (c ∷ cs) = is_white c ≡ true

has_bytes_is : (word : List ℕ) → 0 < length word → has_bytes word ≡ true
has_bytes_is word some = lt-ltb 0 (length word) some

word_cut : (word rest : List ℕ) → list_any is_white word ≡ false → 0 < length word → BeginsWhite rest →
    filter has_bytes (slice_split is_white (word ++ rest)) ≡ word ∷ filter has_bytes (slice_split is_white rest)
word_cut word [] none some white =
    ap (λ xs. filter has_bytes xs) (split_run is_white word [] [] [] none refl)
    ∙ ap (λ xs. filter has_bytes (xs ∷ [])) (append-nil word)
    ∙ rw (has_bytes_is word some) refl
word_cut word (c ∷ cs) none some white =
    let cut = slice_split-cons_yes is_white c cs white in
    ap (λ xs. filter has_bytes xs) (split_run is_white word (c ∷ cs) [] (slice_split is_white cs) none cut)
    ∙ ap (λ xs. filter has_bytes (xs ∷ slice_split is_white cs)) (append-nil word)
    ∙ rw (has_bytes_is word some, cut) refl

heads : {a b : List ℕ} {xs ys : List (List ℕ)} → a ∷ xs ≡ b ∷ ys → a ≡ b
heads same = cc

-- what stands before a comment, of a line that begins with what ends a word
line_goes_on : (rest part : List ℕ) (parts : List (List ℕ)) → BeginsBreak rest → slice_split is_feed rest ≡ part ∷ parts → BeginsWhite (before_first is_hash part)
line_goes_on [] part parts break cut = rw (sym (heads cut)) tt
line_goes_on (c ∷ cs) part parts break cut = go (is_feed c) refl (is_hash c) refl where
  go : (f : Bool) → is_feed c ≡ f → (h : Bool) → is_hash c ≡ h → BeginsWhite (before_first is_hash part)
  go true feed h hash = rw (sym (heads (sym (slice_split-cons_yes is_feed c cs feed) ∙ cut))) tt
  go false other true hash =
      let first = first_part is_feed cs in
      let part_is = heads (sym (split_more is_feed c cs first.0 first.1 other first.2) ∙ cut) in
      rw (sym part_is, before_first-yes is_hash c first.0 hash) tt
  go false other false plain =
      let first = first_part is_feed cs in
      let part_is = heads (sym (split_more is_feed c cs first.0 first.1 other first.2) ∙ cut) in
      rw (sym part_is, before_first-no is_hash c first.0 plain) (white_break c break plain)

words_word : (word rest : List ℕ) → list_any is_break word ≡ false → 0 < length word → BeginsBreak rest → words_of (word ++ rest) ≡ word ∷ words_of rest
words_word word rest none some break =
    let first = first_part is_feed rest in
    let no_feed = none_of is_break is_feed (λ c plain. (no_break c plain).2) word none in
    let no_hash = none_of is_break is_hash (λ c plain. (no_break c plain).1) word none in
    let no_white = none_of is_break is_white (λ c plain. (no_break c plain).0) word none in
    let line = before_run is_hash word first.0 no_hash in
    let cut = word_cut word (before_first is_hash first.0) no_white some (line_goes_on rest first.0 first.1 break first.2) in
    ap (λ xs. flat_map words_in xs) (split_run is_feed word rest first.0 first.1 no_feed first.2)
    ∙ ap (λ xs. filter has_bytes (slice_split is_white xs) ++ flat_map words_in first.1) line
    ∙ ap (λ xs. xs ++ flat_map words_in first.1) cut
    ∙ ap (λ xs. word ∷ xs) (sym (ap (λ xs. flat_map words_in xs) first.2))

-- a word has a byte where the text begins with one
word_some : (text : List ℕ) (end : ℕ) → 0 < length text → BeginsWord text → BeginsBreak (drop end text) → 0 < end
word_some [] end some word break = absurd (omega arith)
word_some (c ∷ cs) zero some word break = absurd (false≢true (sym word ∙ break))
word_some (c ∷ cs) (suc end) some word break = omega arith

-- the first word of a text, and what follows it
pub word_found : (text rest word after : List ℕ) (start end : ℕ) → rest ≡ drop start text → word ≡ take end rest → after ≡ drop end rest → words_of (drop start text) ≡ words_of text →
    BeginsWord (drop start text) → 0 < length rest → list_any is_break (take end rest) ≡ false → BeginsBreak (drop end rest) → end ≤ length rest → words_of text ≡ word ∷ words_of after
word_found text rest word after start end rest_is word_is after_is same begins some none ends within =
    let positive = word_some rest end some (rw rest_is begins) ends in
    let size : 0 < length (take end rest) = rw length-take (omega arith) in
    let cut = words_word (take end rest) (drop end rest) none size ends in
    let whole : take end rest ++ drop end rest ≡ rest = take-append-drop end rest in
    sym same ∙ ap words_of (sym rest_is) ∙ sym (ap words_of whole) ∙ cut ∙ ap (λ xs. xs ∷ words_of (drop end rest)) (sym word_is) ∙ ap (λ xs. word ∷ words_of xs) (sym after_is)

-- one byte skipped, by its index
pub words_step : (text all : List ℕ) (i : ℕ) (in_comment next : Bool) → i < length text → next ≡ (not (is_feed (get_or text i 0)) && (in_comment || is_hash (get_or text i 0))) →
    true ≡ (in_comment || is_break (get_or text i 0)) → words_after in_comment (drop i text) ≡ words_of all → words_after next (drop (i + 1) text) ≡ words_of all
words_step text all i in_comment next inside next_is skipped before =
    let c = get_or text i 0 in
    let one : suc i ≡ i + 1 = omega arith in
    ap (λ b. words_after b (drop (i + 1) text)) next_is
    ∙ words_skip in_comment c (drop (i + 1) text) (sym skipped)
    ∙ sym (ap (λ n. words_after in_comment (c ∷ drop n text)) one)
    ∙ sym (ap (λ xs. words_after in_comment xs) (drop-cons text i 0 inside))
    ∙ before
