-- Numbers in decimal: what is read is what is written.
use Rattle.std.proofs.Common.{◌≡◌, ◌≢◌, ℕ, zero, suc, ◌^◌, ◌<◌, List, [], ◌∷◌, length, get_or, drop, ap, sym, subst, ◌∙◌, arith, codes, Bool, true, false}
use Rattle.std.specs.Prelude.{Ok, Err, Some, None, OkIff, MatchResult}
use Rattle.std.specs.declared.result.Result.{Result}
use Rattle.std.specs.Result.{result_ok}
use Rattle.std.specs.Fmt.{decimal}
use Rattle.std.specs.Str.{IsAscii, IsUtf8}
use Rattle.std.specs.Str.Parse.{AllDigits, digits_value, ParsesUnsigned}
use Rattle.std.proofs.lemmas.Str.{IsUtf8-from_ascii}
use Rattle.std.proofs.lemmas.Str.Parse.{IsNumeralModel, numerals_by_value, tells_digits, parse_plain, digit_at}
use Rattle.std.proofs.lemmas.Fmt.{decimal_is_IsNumeral, decimal-digits_value, decimal_digit, first_decimal, IsAscii-decimal}
use Rattle.hibitset_run.specs.Text.{IsNumber, Reads}

own : IsNumeralModel (AllDigits 10) (digits_value 10)
own = numerals_by_value (AllDigits 10) tells_digits

-- a number below 2 ^ 32 is below 2 ^ 64
wide : (n : ℕ) → n < 2 ^ 32 → n < 2 ^ 64
wide n h = omega arith

first_is : (bs : List ℕ) (b : ℕ) → 0 < b → get_or bs 0 0 ≡ b → bs ≡ b ∷ drop 1 bs
first_is [] b some e = absurd (omega (arith, e))
first_is (x ∷ xs) b some e = ap (λ y. y ∷ xs) e

pub is_zero : IsNumber 0 (codes "0")
is_zero = (omega arith, sym (decimal_digit 0 (omega arith)))

padded : (rest : List ℕ) (n : ℕ) → 48 ∷ rest ≢ codes "0" → n < 2 ^ 32 → 48 ∷ rest ≡ decimal n → ⊥
padded rest zero other fits e = other (e ∙ decimal_digit 0 (omega arith))
padded rest (suc n) other fits e =
    let more : 48 < get_or (decimal (suc n)) 0 0 = first_decimal (suc n) (omega arith) (wide (suc n) fits) in
    let first : get_or (decimal (suc n)) 0 0 ≡ 48 = ap (λ bs. get_or bs 0 0) (sym e) in
    omega (arith, more, first)

-- what begins with 0 and is not 0 is no number's text
pub none_padded : (bs rest : List ℕ) → bs ≢ codes "0" → bs ≡ 48 ∷ rest → (n : ℕ) → IsNumber n bs → ⊥
none_padded bs rest other begins n h = padded rest n (λ e. other (begins ∙ e)) h.0 (sym begins ∙ h.1)

pub none_signed : (bs rest : List ℕ) → bs ≡ 43 ∷ rest → (n : ℕ) → IsNumber n bs → ⊥
none_signed bs rest plus n h =
    let numeral = decimal_is_IsNumeral n (wide n h.0) in
    let digit = digit_at (decimal n) 0 numeral.0.1 numeral.0.0 in
    let first : get_or (decimal n) 0 0 ≡ 43 = ap (λ bs. get_or bs 0 0) (sym h.1 ∙ plus) in
    omega (arith, digit, first)

pub none_strange : (bs : List ℕ) → ¬ (IsUtf8 bs) → (n : ℕ) → IsNumber n bs → ⊥
none_strange bs strange n h = strange (IsUtf8-from_ascii bs (subst IsAscii (sym h.1) (IsAscii-decimal n (wide n h.0))))

parsed : {E : Type 0} (bs : List ℕ) (r : Result ℕ E) → OkIff r (AllDigits 10 bs × (0 < length bs) × (digits_value 10 bs < 2 ^ 32)) (digits_value 10 bs) → (get_or bs 0 0 ≡ 48 → length bs ≡ 1) → Reads IsNumber bs (result_ok r)
parsed bs (Ok x) h first =
    let fits : digits_value 10 bs < 2 ^ 32 = h.0.2 in
    (omega (arith, fits, h.1), sym (decimal-digits_value own bs h.0.0 h.0.1 first (wide (digits_value 10 bs) fits)) ∙ ap decimal (sym h.1))
parsed bs (Err e) h first = λ n given.
    let numeral = decimal_is_IsNumeral n (wide n given.0) in
    h (subst (λ ds. AllDigits 10 ds × (0 < length ds) × (digits_value 10 ds < 2 ^ 32)) (sym given.1) (numeral.0.1, numeral.0.0, omega (arith, numeral.1, given.0)))

-- what is no zero before other digits and no sign is read as it is parsed
pub reads_number : {E : Type 0} (bs : List ℕ) (r : Result ℕ E) → ParsesUnsigned 32 10 bs r → ((rest : List ℕ) → bs ≢ 43 ∷ rest) → ((rest : List ℕ) → bs ≢ 48 ∷ rest) → Reads IsNumber bs (result_ok r)
reads_number bs r h plus naught = parsed bs r (parse_plain own 32 bs r h (λ e. plus (drop 1 bs) (first_is bs 43 (omega arith) e))) (λ e. absurd (naught (drop 1 bs) (first_is bs 48 (omega arith) e)))

-- what a result's `ok` tells of it
pub err_says : {T E G : Type 0} (r : Result T E) (P : T → Type 0) (Q : E → Type 0) → MatchResult r P Q → result_ok r ≡ None → ((e : E) → Q e → G) → G
err_says (Ok x) P Q h none f = absurd (cc)
err_says (Err e) P Q h none f = f e h

pub ok_says : {T E : Type 0} (r : Result T E) (x : T) (P : T → Type 0) (Q : E → Type 0) → MatchResult r P Q → result_ok r ≡ Some x → P x
ok_says (Ok y) x P Q h same = let e : y ≡ x = cc in subst P e h
ok_says (Err e) x P Q h same = absurd (cc)

pub apart : (b : Bool) → b ≡ true → b ≡ false → ⊥
apart b holds fails = absurd (cc)
