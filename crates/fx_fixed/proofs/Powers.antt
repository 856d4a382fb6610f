-- Powers of ten that fit, and numbers over powers of ten.
use Rattle.std.proofs.Common.{◌≡◌, ℕ, zero, suc, ◌+◌, ◌-◌, ◌*◌, ◌/◌, ◌^◌, ◌<◌, ◌≤◌, arith, ap, ◌∙◌, sym, refl, List, ◌++◌, length, min, Option, Some, None, add-one, inl, inr, ◌⊎◌}
use Rattle.std.specs.Option.{SomeIff}
use Rattle.std.specs.Str.Parse.{digits_value}
use Rattle.std.proofs.Math.Nat.{pow-le-pow_right, one-le-pow, pow-suc, mul-le-mul_left, mul-add-div}
use Rattle.std.proofs.lemmas.Nat.{pow-add}
use Rattle.fx_fixed.specs.Rounding.{nearest_natural}
use Rattle.fx_fixed.specs.Decimals.{fraction_digits, lowered_by, parts_of, raised_by, whole_digits}
use Rattle.fx_fixed.specs.Shown.{Shows}
use Rattle.fx_fixed.specs.declared.number.Decimal.{Decimal}
use Rattle.fx_fixed.proofs.Shifting.{le-nearest_natural, nearest_natural-cancel, nearest_natural-lost, nearest_natural-one, nearest_natural-small}

pub power_at_most : (n m : ℕ) → n ≤ m → 10 ^ n ≤ 10 ^ m
power_at_most n m h = pow-le-pow_right (omega arith) h

pub power_positive : (n : ℕ) → 0 < 10 ^ n
power_positive n = one-le-pow n 10 (omega arith)

pub power_fits : (n : ℕ) → n ≤ 38 → 10 ^ n ≤ 10 ^ 38
power_fits n h = power_at_most n 38 h

pub ruleset powers = (power_fits, power_positive)

pub lowered_away : (number places : ℕ) → number < 10 ^ 38 → 38 < places → 0 ≡ nearest_natural number (10 ^ places)
lowered_away number places small far =
    let power = power_at_most 39 places far in
    sym (nearest_natural-small number (10 ^ places) (omega arith))

pub raised_above : (number places maximum : ℕ) → 0 < number → 37 < places → maximum < 10 ^ 37 → number * 10 ^ places ≤ maximum → ⊥
raised_above number places maximum some far small below =
    let power = power_at_most 38 places far in
    omega (arith, mul-le-mul_left (10 ^ places) some)

-- ---- the number of parts, by how far the digits that were kept are moved

-- up, with no digit lost
raised_exactly : (kept r l s : ℕ) → l + s ≡ r → nearest_natural (kept * 10 ^ r) (10 ^ l) ≡ kept * 10 ^ s
raised_exactly kept r l s sum =
    let power : 10 ^ r ≡ 10 ^ l * 10 ^ s = ap (λ n. 10 ^ n) (sym sum) ∙ pow-add 10 l s in
    let above : kept * 10 ^ r ≡ kept * 10 ^ s * 10 ^ l = rw power (omega arith) in
    let below : 10 ^ l ≡ 1 * 10 ^ l = omega arith in
    ap (λ n. nearest_natural n (10 ^ l)) above ∙ ap (λ q. nearest_natural (kept * 10 ^ s * 10 ^ l) q) below
    ∙ nearest_natural-cancel (kept * 10 ^ s) 1 (10 ^ l) (power_positive l) ∙ nearest_natural-one (kept * 10 ^ s)

-- up, with digits lost: at least so much
raised_at_least : (kept lost j r l s : ℕ) → l + s ≡ r + j → kept * 10 ^ s ≤ nearest_natural ((kept * 10 ^ j + lost) * 10 ^ r) (10 ^ l)
raised_at_least kept lost j r l s sum =
    let power : 10 ^ l * 10 ^ s ≡ 10 ^ r * 10 ^ j = sym (pow-add 10 l s) ∙ ap (λ n. 10 ^ n) sum ∙ pow-add 10 r j in
    let moved : kept * (10 ^ l * 10 ^ s) ≡ kept * (10 ^ r * 10 ^ j) = ap (λ p. kept * p) power in
    le-nearest_natural ((kept * 10 ^ j + lost) * 10 ^ r) (10 ^ l) (kept * 10 ^ s) (power_positive l) (omega arith)

-- down: the lost digits don't matter
lowered_exactly : (kept lost j r l s : ℕ) → lost < 10 ^ j → l ≡ r + j + suc s → nearest_natural ((kept * 10 ^ j + lost) * 10 ^ r) (10 ^ l) ≡ nearest_natural kept (10 ^ suc s)
lowered_exactly kept lost j r l s bound sum =
    let power : 10 ^ l ≡ 10 ^ r * 10 ^ j * 10 ^ suc s = ap (λ n. 10 ^ n) sum ∙ pow-add 10 (r + j) (suc s) ∙ ap (λ p. p * 10 ^ suc s) (pow-add 10 r j) in
    let even : 10 ^ suc s ≡ 2 * (5 * 10 ^ s) = pow-suc 10 s ∙ omega arith in
    let below : 10 ^ l ≡ 2 * (5 * 10 ^ s) * 10 ^ j * 10 ^ r = power ∙ rw even (omega arith) in
    ap (λ q. nearest_natural ((kept * 10 ^ j + lost) * 10 ^ r) q) below
    ∙ nearest_natural-cancel (kept * 10 ^ j + lost) (2 * (5 * 10 ^ s) * 10 ^ j) (10 ^ r) (power_positive r)
    ∙ nearest_natural-lost kept lost (5 * 10 ^ s) (10 ^ j) bound
    ∙ ap (λ q. nearest_natural kept q) (sym even)

-- ---- the same of what was read

joined_powers : (d raised lowered places decimals : ℕ) →
    nearest_natural (d * 10 ^ raised * 10 ^ decimals) (10 ^ places * 10 ^ lowered) ≡ nearest_natural (d * 10 ^ (raised + decimals)) (10 ^ (places + lowered))
joined_powers d raised lowered places decimals =
    let above : d * 10 ^ raised * 10 ^ decimals ≡ d * 10 ^ (raised + decimals) = rw (pow-add 10 raised decimals) (omega arith) in
    rw (above, ← pow-add 10 places lowered) refl

-- a number below its cap is not capped
not_capped : (n m : ℕ) → n ≡ min m 100 → n ≤ 30 → m ≡ n
not_capped n m is small = omega arith

-- the parts of a number that was read
parts_of_shown : (number : Decimal) (body : List ℕ) (decimals : ℕ) → number.raised ≤ 30 → number.lowered ≤ 30 → (shown : Shows number body) →
    parts_of (10 ^ decimals) body ≡ nearest_natural ((number.digits.kept * 10 ^ number.digits.dropped + shown.digits.lost) * 10 ^ (number.raised + decimals)) (10 ^ (number.places + number.lowered))
parts_of_shown number body decimals raised lowered shown =
    let d = digits_value 10 (whole_digits body ++ fraction_digits body) in
    joined_powers d (raised_by body) (lowered_by body) (length (fraction_digits body)) decimals
    ∙ ap (λ n. nearest_natural (n * 10 ^ (raised_by body + decimals)) (10 ^ (length (fraction_digits body) + lowered_by body))) shown.digits.value
    ∙ ap (λ n. nearest_natural ((number.digits.kept * 10 ^ number.digits.dropped + shown.digits.lost) * 10 ^ (n + decimals)) (10 ^ (length (fraction_digits body) + lowered_by body))) (not_capped number.raised (raised_by body) shown.raised raised)
    ∙ ap (λ n. nearest_natural ((number.digits.kept * 10 ^ number.digits.dropped + shown.digits.lost) * 10 ^ (number.raised + decimals)) (10 ^ (n + lowered_by body))) (sym shown.places)
    ∙ ap (λ n. nearest_natural ((number.digits.kept * 10 ^ number.digits.dropped + shown.digits.lost) * 10 ^ (number.raised + decimals)) (10 ^ (number.places + n))) (not_capped number.lowered (lowered_by body) shown.lowered lowered)

raise_gives : (r : Option ℕ) (kept s maximum parts : ℕ) → (parts ≡ kept * 10 ^ s) ⊎ ((maximum < kept) × (kept * 10 ^ s ≤ parts)) → SomeIff r (kept * 10 ^ s ≤ maximum) (kept * 10 ^ s) → SomeIff r (parts ≤ maximum) parts
raise_gives r kept s maximum parts (inl same) given = rw same given
raise_gives None kept s maximum parts (inr more) given = λ below. omega (arith, mul-le-mul_left kept (power_positive s))
raise_gives (Some n) kept s maximum parts (inr more) given = absurd (omega (arith, mul-le-mul_left kept (power_positive s)))

raised_cases : (kept lost j r l s maximum parts : ℕ) → parts ≡ nearest_natural ((kept * 10 ^ j + lost) * 10 ^ r) (10 ^ l) → lost < 10 ^ j → (0 < j → 10 ^ 37 ≤ kept) → maximum < 10 ^ 37 → l + s ≡ r + j →
    (parts ≡ kept * 10 ^ s) ⊎ ((maximum < kept) × (kept * 10 ^ s ≤ parts))
raised_cases kept lost zero r l s maximum parts parts_is bound large small sum =
    let none : kept * 10 ^ 0 + lost ≡ kept = omega arith in
    inl (parts_is ∙ ap (λ n. nearest_natural (n * 10 ^ r) (10 ^ l)) none ∙ raised_exactly kept r l s (omega arith))
raised_cases kept lost (suc j) r l s maximum parts parts_is bound large small sum =
    let above = large (omega arith) in
    inr (omega arith, rw parts_is (raised_at_least kept lost (suc j) r l s sum))

pub raised_parts : (number : Decimal) (body : List ℕ) (decimals maximum : ℕ) (r : Option ℕ) → number.raised ≤ 30 → number.lowered ≤ 30 → maximum < 10 ^ 37 → Shows number body →
    (up down : ℕ) → up ≡ decimals + number.digits.dropped + number.raised → down ≡ number.places + number.lowered → down ≤ up →
    SomeIff r (number.digits.kept * 10 ^ (up - down) ≤ maximum) (number.digits.kept * 10 ^ (up - down)) →
    SomeIff r (parts_of (10 ^ decimals) body ≤ maximum) (parts_of (10 ^ decimals) body)
raised_parts number body decimals maximum r raised lowered small shown up down up_is down_is order given =
    let cases = raised_cases number.digits.kept shown.digits.lost number.digits.dropped (number.raised + decimals) (number.places + number.lowered) (up - down) maximum (parts_of (10 ^ decimals) body)
    (parts_of_shown number body decimals raised lowered shown) shown.digits.lost_max shown.digits.large small (omega arith) in
    raise_gives r number.digits.kept (up - down) maximum (parts_of (10 ^ decimals) body) cases given

pub lowered_parts : (number : Decimal) (body : List ℕ) (decimals : ℕ) → number.raised ≤ 30 → number.lowered ≤ 30 → Shows number body →
    (up down : ℕ) → up ≡ decimals + number.digits.dropped + number.raised → down ≡ number.places + number.lowered → up < down →
    nearest_natural number.digits.kept (10 ^ (down - up)) ≡ parts_of (10 ^ decimals) body
lowered_parts number body decimals raised lowered shown up down up_is down_is order =
    let parts_is = parts_of_shown number body decimals raised lowered shown in
    let gap : down - up ≡ suc (down - up - 1) = omega arith in
    let sum : number.places + number.lowered ≡ number.raised + decimals + number.digits.dropped + suc (down - up - 1) = omega arith in
    let exact = lowered_exactly number.digits.kept shown.digits.lost number.digits.dropped (number.raised + decimals) (number.places + number.lowered) (down - up - 1) shown.digits.lost_max sum in
    sym (parts_is ∙ exact ∙ ap (λ n. nearest_natural number.digits.kept (10 ^ n)) (sym gap))

pub not_both : (m n : ℕ) → m < n → n ≤ m → ⊥
not_both m n more less = omega arith

pub power_of_run : (n : ℕ) → n ≤ 18 → 10 ^ n ≤ 10 ^ 18
power_of_run n h = power_at_most n 18 h

pub power_more : (n : ℕ) → 10 ^ (n + 1) ≡ 10 ^ n * 10
power_more n = rw (add-one, pow-suc) refl

pub ruleset run_powers = (power_of_run, power_more)

-- whole seconds are whole frames
pub frames_split : (seconds fraction rate places : ℕ) →
    nearest_natural ((seconds * 10 ^ places + fraction) * rate) (10 ^ places) ≡ seconds * rate + (2 * fraction * rate + 10 ^ places) / (2 * 10 ^ places)
frames_split seconds fraction rate places =
    let positive = power_positive places in
    let twice : 0 < 2 * 10 ^ places = omega arith in
    let above : 2 * ((seconds * 10 ^ places + fraction) * rate) + 10 ^ places ≡ 2 * 10 ^ places * (seconds * rate) + (2 * fraction * rate + 10 ^ places) = omega arith in
    ap (λ n. n / (2 * 10 ^ places)) above ∙ mul-add-div twice (seconds * rate) (2 * fraction * rate + 10 ^ places)

-- the bounds of the seconds of one, two and three components
pub hundreds : (n : ℕ) → n < 3 → 100 ^ (n + 1) ≤ 100 ^ 3
hundreds n h =
    let next : n + 1 ≤ 3 = omega arith in
    pow-le-pow_right (omega arith) next

pub hundred_more : (n : ℕ) → 100 ^ (n + 1) ≡ 100 ^ n * 100
hundred_more n = rw (add-one, pow-suc) refl

pub hundred_positive : (n : ℕ) → 0 < 100 ^ n
hundred_positive n = one-le-pow n 100 (omega arith)

-- one component more
pub seconds_more : (seconds value count : ℕ) → seconds < 10 ^ 18 * 100 ^ count → value < 10 ^ 18 → 60 * seconds + value < 10 ^ 18 * 100 ^ (count + 1)
seconds_more seconds value count before small =
    let next = hundred_more count in
    let positive = hundred_positive count in
    rw next (omega arith)

pub seconds_fit : (seconds value count : ℕ) → seconds < 10 ^ 18 * 100 ^ count → value < 10 ^ 18 → count < 3 → 60 * seconds + value < 10 ^ 24
seconds_fit seconds value count before small bound =
    let more = seconds_more seconds value count before small in
    let maximum = hundreds count bound in
    omega arith
