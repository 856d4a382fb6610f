-- How far the numbers and times reach that words are.
use Rattle.std.proofs.Common.{◌≡◌, ℕ, ◌+◌, ◌-◌, ◌*◌, ◌^◌, ◌≤◌, ℤ, unsigned_abs, Bool, true, false, not, ◌&&◌, ◌||◌, cond, nat_le, nat_lt, List, [], ◌∷◌, ◌++◌, length, Result, Ok, Err, IfOk, refl, arith}
use Rattle.std.specs.Result.{result_unwrap_or}
use Rattle.std.proofs.lemmas.Bool.{cond_both, le-leb, ltb-false, or_parts}
use Rattle.fx_fixed.specs.Clock.{within_reach}
use Rattle.fx_fixed.specs.Decimals.{exponent_size, is_decimal, is_negative, parts_of, unsigned}
use Rattle.fx_fixed.specs.Delays.{delay_of, millis_of}
use Rattle.fx_fixed.specs.Times.{terms_of, time_by, time_of}
use Rattle.fx_fixed.specs.declared.gains.TheConstants.{UNIT}
use Rattle.fx_fixed.specs.declared.terms.Terms.{Terms}
use Rattle.fx_fixed.specs.declared.times.TimeFault.{TimeFault}
use Rattle.fx_fixed.specs.declared.times.TimeFault.TheVariants.{BadTime, Negative, TooFar}
use Rattle.fx_plan_words.specs.declared.fault.PlanCause.{PlanCause}
use Rattle.fx_plan_words.specs.declared.fault.PlanCause.TheVariants.{OutOfRange}
use Rattle.fx_plan_words.specs.Faults.{Word, fault_at, when}
use Rattle.fx_plan_words.specs.Numbers.{delay_in, frames_in, gain_in, gain_up_to, is_below, is_beyond, time_cause, unless, with_cause}

-- no faults at all
pub no_faults : {A : Type 0} (xs ys : List A) → xs ++ ys ≡ [] → (xs ≡ []) × (ys ≡ [])
no_faults [] ys h = (refl, h)
no_faults (x ∷ xs) ys h = cc

-- a test that makes no fault
pub no_fault_when : {A : Type 0} (t : Bool) (x : A) → when t x ≡ [] → t ≡ false
no_fault_when true x h = cc
no_fault_when false x h = refl

-- what is read without a fault has what every value has that can be read
pub kept : {A : Type 0} (P : A → Type 0) (number : ℕ) (r : Result A PlanCause) (d : A) → fault_at number r ≡ [] → IfOk r P → P (result_unwrap_or r d)
kept P number (Ok x) d h p = p
kept P number (Err cause) d h p = cc

with_cause-kept : {A F : Type 0} (P : A → Type 0) (cause : F → PlanCause) (r : Result A F) → IfOk r P → IfOk (with_cause cause r) P
with_cause-kept P cause (Ok x) p = p
with_cause-kept P cause (Err fault) p = tt

-- what is left after a test that refuses
unless_fault : {A F : Type 0} (P : A → Type 0) (t : Bool) (fault : F) (r : Result A F) → IfOk r P → IfOk (cond t (Err fault) r) P
unless_fault P true fault r p = tt
unless_fault P false fault r p = p

-- a time is at most 2^40 frames
abbrev IsNear : ℕ → Type 0
IsNear n = n ≤ 2 ^ 40

within_reach-near : (frames : ℕ) → IfOk (within_reach frames) IsNear
within_reach-near frames = cond_both (nat_lt (2 ^ 40) frames) (Err TooFar) (Ok frames) (λ r. IfOk r IsNear) (λ _. tt) (λ e. ltb-false (2 ^ 40) frames e)

time_by-near : (terms : Result Terms TimeFault) → IfOk (time_by terms) IsNear
time_by-near (Ok terms) =
    let ahead = terms.first + terms.added in
    unless_fault IsNear (nat_lt ahead terms.taken) Negative (within_reach (ahead - terms.taken)) (within_reach-near (ahead - terms.taken))
time_by-near (Err fault) = tt

pub frames_near : (rate : ℕ) (word : Word) → IfOk (frames_in rate word) (λ n. n ≤ 2 ^ 40)
unfolding frames_in
frames_near rate word = with_cause-kept IsNear time_cause (time_of rate word) (time_by-near (terms_of rate word))

-- a delay is at least a frame
abbrev IsLater : ℕ → Type 0
IsLater n = 1 ≤ n

within_reach-later : (frames : ℕ) → 1 ≤ frames → IfOk (within_reach frames) IsLater
within_reach-later frames h = unless_fault IsLater (nat_lt (2 ^ 40) frames) TooFar (Ok frames) h

delay_of-later : (rate billionths : ℕ) → 1 ≤ delay_of rate billionths
delay_of-later rate billionths = omega arith

millis_of-later : (rate : ℕ) (text : Word) → IfOk (millis_of rate text) IsLater
millis_of-later rate text =
    let billionths = parts_of (10 ^ 9) (unsigned text) in
    let frames = within_reach (delay_of rate billionths) in
    let signed = is_negative text && nat_lt 0 billionths in
    let large = nat_lt 30 (exponent_size (unsigned text)) in
    let bad = nat_lt 40 (length text) || not (is_decimal (unsigned text)) in
    let later = within_reach-later (delay_of rate billionths) (delay_of-later rate billionths) in
    unless_fault IsLater bad BadTime (cond large (Err TooFar) (cond signed (Err Negative) frames))
    (unless_fault IsLater large TooFar (cond signed (Err Negative) frames) (unless_fault IsLater signed Negative frames later))

pub delay_later : (rate : ℕ) (word : Word) → IfOk (delay_in rate word) (λ n. 1 ≤ n)
unfolding delay_in
delay_later rate word = with_cause-kept IsLater time_cause (millis_of rate word) (millis_of-later rate word)

-- a gain up to so many units is no greater
unless-passes : {A : Type 0} (refuses : A → Bool) (r : Result A PlanCause) → IfOk (unless refuses r) (λ x. refuses x ≡ false)
unless-passes refuses (Ok x) = cond_both (refuses x) (Err OutOfRange) (Ok x) (λ r. IfOk r (λ y. refuses y ≡ false)) (λ _. tt) (λ e. e)
unless-passes refuses (Err cause) = tt

weaker : {A E : Type 0} (P Q : A → Type 0) (r : Result A E) → ((x : A) → P x → Q x) → IfOk r P → IfOk r Q
weaker P Q (Ok x) f p = f x p
weaker P Q (Err e) f p = tt

is_beyond-not : (maximum : ℕ) (gain : ℤ) → (is_below gain || is_beyond maximum gain) ≡ false → nat_le (unsigned_abs gain) (maximum * UNIT) ≡ true
is_beyond-not maximum gain h =
    let parts = or_parts (is_below gain) (is_beyond maximum gain) h in
    le-leb (unsigned_abs gain) (maximum * UNIT) (ltb-false (maximum * UNIT) (unsigned_abs gain) parts.1)

pub gain_small : (maximum : ℕ) (word : Word) → IfOk (gain_up_to maximum word) (λ gain. nat_le (unsigned_abs gain) (maximum * UNIT) ≡ true)
unfolding gain_up_to
gain_small maximum word =
    weaker (λ gain. (is_below gain || is_beyond maximum gain) ≡ false) (λ gain. nat_le (unsigned_abs gain) (maximum * UNIT) ≡ true) (gain_up_to maximum word)
    (is_beyond-not maximum) (unless-passes (λ gain. is_below gain || is_beyond maximum gain) (gain_in word))
