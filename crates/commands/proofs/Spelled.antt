-- Words that are numbers and names.
use Rattle.std.proofs.Common.{◌≡◌, ℕ, ◌^◌, ◌<◌, true, List, length, get_or, Ok, Err, IsUtf8, Result, subst, refl, arith, rules}
use Rattle.std.specs.Result.{OkIff, MatchResult, IsOk, is_ok}
use Rattle.std.specs.Str.Parse.{ParsesUnsigned}
use Rattle.std.specs.Int.{IsInRange}
use Rattle.std.proofs.lemmas.Str.Ascii.{IsAscii-from_reads}
use Rattle.std.proofs.lemmas.Str.Parse.{IsNumeralModel, numerals_by_fold, tells_by_index, parse_digits}
use Rattle.std.proofs.lemmas.Str.{IsUtf8-from_ascii}
use Rattle.commands.specs.Operands.{Decimal, value_from, decimal_value, name_byte, Name}

-- decimal digits, and the number that they write
own : IsNumeralModel (λ ds. (i : ℕ) → i < length ds → IsInRange 48 57 (get_or ds i 0)) (value_from 0)
own = numerals_by_fold _ tells_by_index value_from (search rules)

-- what `parse` reads of a word of digits
read_word : {E : Type 0} (w : List ℕ) (r : Result ℕ E) → ParsesUnsigned {E = E} 64 10 w r → Decimal w → OkIff r (Decimal w × (decimal_value w < 2 ^ 64)) (decimal_value w)
read_word {E = E} w (Ok x) h d = let p = parse_digits own {E = E} 64 w (Ok x) h d.1 in ((d, p.0.1), p.1)
read_word {E = E} w (Err e) h d = λ q. parse_digits own {E = E} 64 w (Err e) h d.1 (d.0, q.1)

-- the same of a text that is the word
pub read_decimal : {E : Type 0} (w t : List ℕ) (r : Result ℕ E) → t ≡ w → ParsesUnsigned {E = E} 64 10 t r → Decimal w → OkIff r (Decimal w × (decimal_value w < 2 ^ 64)) (decimal_value w)
read_decimal {E = E} w t r e h d = let P : List ℕ → Type 0 = λ bs. ParsesUnsigned {E = E} 64 10 bs r in read_word {E = E} w r (subst P e h) d

-- digits are text
pub decimal_utf8 : (w : List ℕ) → Decimal w → IsUtf8 w
decimal_utf8 w d = IsUtf8-from_ascii w (IsAscii-from_reads w (length w) (omega arith) (λ k l. omega (arith, d.1 k l)))

-- a byte of a name is ASCII
name_byte_ascii : (c : ℕ) → name_byte c ≡ true → c < 128
name_byte_ascii c h = search rules

-- a name is text
pub name_utf8 : (w : List ℕ) → Name w → IsUtf8 w
name_utf8 w n = IsUtf8-from_ascii w (IsAscii-from_reads w (length w) (omega arith) (λ k l. name_byte_ascii (get_or w k 0) (n.1 k l)))

-- reading bytes as text succeeds where they are text
pub IsOk-text : {T E : Type 0} (P : T → Type 0) (Q : E → Type 0) (w : List ℕ) (r : Result T E) → IsUtf8 w → MatchResult r P (λ e. ¬ IsUtf8 w × Q e) → IsOk r
IsOk-text P Q w (Ok t) u h = refl
IsOk-text P Q w (Err e) u h = absurd (h.0 u)

-- `map_err` keeps when there is a value, and which
pub OkIff-map_err : {T D E : Type 0} (Q : D → Type 0) (r : Result T D) (s : Result T E) (P : Type 0) (v : T) → OkIff r P v → MatchResult r (λ x. s ≡ Ok x) Q → is_ok s ≡ is_ok r → OkIff s P v
OkIff-map_err Q (Ok x) s P v h same variant = rw same h
OkIff-map_err Q (Err d) (Ok x) P v h q variant = absurd cc
OkIff-map_err Q (Err d) (Err e) P v h q variant = h
