-- Numbers as bytes, there and back.
use Rattle.std.proofs.Common.{◌≡◌, ℕ, zero, suc, ◌+◌, ◌-◌, ◌*◌, ◌/◌, ◌%◌, ◌^◌, ◌<◌, ◌≤◌, List, [], ◌∷◌, ◌++◌, length, get_or, take, drop, sym, refl, ap, ◌∙◌, subst, ap₂, mod-eq_of_lt, mul_assoc, suc-mul, mul_comm, suc-add, zero-add, zero-mul, arith, length-drop}
use native.Mathlib.Nat.{pow-succ', one-le-pow, div-div-eq-div-mul}
use Rattle.std.proofs.lemmas.Nat.{mod-mul-add, mod_below, div-add-mod'}
use Rattle.std.proofs.lemmas.List.{append_assoc, length-append, take_at, drop_at, take-take, drop-drop, drop-take, drop_all, take-append-le, drop-append-le}
use Rattle.reader.specs.LittleEndian.{bytes, value, laid, numbers}

-- k bytes are k bytes
pub length-bytes : (k x : ℕ) → length (bytes k x) ≡ k
unfolding bytes
length-bytes zero x = refl
length-bytes (suc k) x = ap suc (length-bytes k (x / 256))

-- no power of 256 is zero
pow_some : (k : ℕ) → 0 < 256 ^ k
pow_some k = one-le-pow k 256 (omega arith)

-- a remainder by its lowest byte and the others
mod_more : (x m : ℕ) → 0 < m → x % 256 + 256 * (x / 256 % m) ≡ x % (256 * m)
mod_more x m h =
    let a : ℕ = x / 256 / m in
    let b : ℕ = x / 256 % m in
    let r : ℕ = x % 256 in
    let lt : b < m = mod_below (x / 256) m h in
    let q : a * m + b ≡ x / 256 = div-add-mod' (x / 256) m in
    let e : 256 * (a * m) ≡ a * (256 * m) = sym (mul_assoc 256 a m) ∙ ap (λ (y : ℕ). y * m) (mul_comm 256 a) ∙ mul_assoc a 256 m in
    let y : x ≡ a * (256 * m) + (r + 256 * b) = omega (arith, q, e) in
    sym (ap (λ (z : ℕ). z % (256 * m)) y ∙ mod-mul-add a (256 * m) (r + 256 * b) (omega (arith, lt, mod_below x 256 (omega arith))))

-- the k bytes of a number are its remainder
pub value_bytes_mod : (k x : ℕ) → value (bytes k x) ≡ x % 256 ^ k
unfolding bytes value
value_bytes_mod zero x = sym (let e : x % 1 ≡ 0 = omega arith in e)
value_bytes_mod (suc k) x =
    ap (λ (y : ℕ). x % 256 + 256 * y) (value_bytes_mod k (x / 256)) ∙ mod_more x (256 ^ k) (pow_some k) ∙ ap (λ (y : ℕ). x % y) (sym (pow-succ' 256 k))

-- a number that fits is what its bytes say
pub value-bytes : (k x : ℕ) → x < 256 ^ k → value (bytes k x) ≡ x
value-bytes k x h = value_bytes_mod k x ∙ mod-eq_of_lt h

-- bytes are those of the number that they say
pub bytes-value : (k : ℕ) (xs : List ℕ) → length xs ≡ k → ((t : ℕ) → get_or xs t 0 < 256) → bytes k (value xs) ≡ xs
unfolding bytes value
bytes-value zero [] e h = refl
bytes-value zero (x ∷ xs) e h = absurd (omega (arith, e))
bytes-value (suc k) [] e h = absurd (omega (arith, e))
bytes-value (suc k) (x ∷ xs) e h =
    let l : x < 256 = h 0 in
    let m : (x + 256 * value xs) % 256 ≡ x = omega arith in
    let d : (x + 256 * value xs) / 256 ≡ value xs = omega arith in
    ap₂ (λ (y z : ℕ). y ∷ bytes k z) m d ∙ ap (λ (ys : List ℕ). x ∷ ys) (bytes-value k xs (omega (arith, e)) (λ t. h (suc t)))

-- numbers of the same k bytes have the same remainder
pub bytes_mod : (k x y : ℕ) → bytes k x ≡ bytes k y → x % 256 ^ k ≡ y % 256 ^ k
bytes_mod k x y e = sym (value_bytes_mod k x) ∙ ap value e ∙ value_bytes_mod k y

-- k bytes for each number
pub length-laid : (k : ℕ) (xs : List ℕ) → length (laid k xs) ≡ length xs * k
unfolding laid
length-laid k [] = sym (zero-mul k)
length-laid k (x ∷ xs) = length-append (bytes k x) (laid k xs) ∙ omega (arith, length-bytes k x, length-laid k xs, suc-mul (length xs) k)

-- two lists of numbers lie one behind the other
pub laid-append : (k : ℕ) (xs ys : List ℕ) → laid k (xs ++ ys) ≡ laid k xs ++ laid k ys
unfolding laid
laid-append k [] ys = refl
laid-append k (x ∷ xs) ys = ap (λ (zs : List ℕ). bytes k x ++ zs) (laid-append k xs ys) ∙ sym (append_assoc (bytes k x) (laid k xs) (laid k ys))

-- c numbers are c numbers
pub length-numbers : (k c : ℕ) (xs : List ℕ) → length (numbers k c xs) ≡ c
unfolding numbers
length-numbers k zero xs = refl
length-numbers k (suc c) xs = ap suc (length-numbers k c (drop k xs))

-- the bytes behind one number, and then behind a more
drop_more : (k a : ℕ) (xs : List ℕ) → drop (a * k) (drop k xs) ≡ drop (suc a * k) xs
drop_more k a xs = let e : k + a * k ≡ suc a * k = omega (arith, suc-mul a k) in drop-drop (a * k) k xs ∙ ap (λ (j : ℕ). drop j xs) e

-- behind no numbers all bytes are to come
drop-none : (k : ℕ) (xs : List ℕ) → xs ≡ drop (0 * k) xs
drop-none k xs = ap (λ (j : ℕ). drop j xs) (sym (zero-mul k))

-- the first a numbers, and then b more
pub numbers_add : (k a b : ℕ) (xs : List ℕ) → numbers k (a + b) xs ≡ numbers k a xs ++ numbers k b (drop (a * k) xs)
unfolding numbers
numbers_add k zero b xs = ap₂ (λ (n : ℕ) (ys : List ℕ). numbers k n ys) (zero-add b) (drop-none k xs)
numbers_add k (suc a) b xs =
    ap (λ (n : ℕ). numbers k n xs) (suc-add a b) ∙ ap (λ (ys : List ℕ). value (take k xs) ∷ ys) (numbers_add k a b (drop k xs))
    ∙ ap (λ (ys : List ℕ). numbers k (suc a) xs ++ numbers k b ys) (drop_more k a xs)

-- no numbers
pub numbers_none : (k : ℕ) (xs : List ℕ) → numbers k 0 xs ≡ []
unfolding numbers
numbers_none k xs = refl

-- one number
pub numbers-one : (k : ℕ) (xs : List ℕ) → numbers k 1 xs ≡ value (take k xs) ∷ []
unfolding numbers
numbers-one k xs = refl

-- one number more
pub numbers_more : (k c : ℕ) (xs : List ℕ) → numbers k (c + 1) xs ≡ numbers k c xs ++ value (take k (drop (c * k) xs)) ∷ []
numbers_more k c xs = numbers_add k c 1 xs ∙ ap (λ (ys : List ℕ). numbers k c xs ++ ys) (numbers-one k (drop (c * k) xs))

-- number m
pub get_or-numbers : (k c : ℕ) (xs : List ℕ) (m : ℕ) → m < c → get_or (numbers k c xs) m 0 ≡ value (take k (drop (m * k) xs))
unfolding numbers
get_or-numbers k zero xs m h = absurd (omega arith)
get_or-numbers k (suc c) xs zero h = ap (λ (ys : List ℕ). value (take k ys)) (drop-none k xs)
get_or-numbers k (suc c) xs (suc m) h = get_or-numbers k c (drop k xs) m (omega arith) ∙ ap (λ (ys : List ℕ). value (take k ys)) (drop_more k m xs)

-- numbers of one byte each are the bytes
pub numbers_bytes : (c : ℕ) (xs : List ℕ) → c ≤ length xs → numbers 1 c xs ≡ take c xs
unfolding numbers value
numbers_bytes zero xs h = refl
numbers_bytes (suc c) [] h = absurd (omega (arith, h))
numbers_bytes (suc c) (x ∷ xs) h = let e : x + 256 * 0 ≡ x = omega arith in ap₂ (λ (y : ℕ) (ys : List ℕ). y ∷ ys) e (numbers_bytes c xs (omega (arith, h)))

-- numbers that fit are what their bytes say, whatever follows
pub numbers-laid : (k : ℕ) (ys rest : List ℕ) → ((t : ℕ) → get_or ys t 0 < 256 ^ k) → numbers k (length ys) (laid k ys ++ rest) ≡ ys
unfolding numbers laid
numbers-laid k [] rest h = refl
numbers-laid k (y ∷ ys) rest h =
    ap (numbers k (suc (length ys))) (append_assoc (bytes k y) (laid k ys) rest)
    ∙ ap₂ (λ (xs zs : List ℕ). value xs ∷ numbers k (length ys) zs) (take_at (bytes k y) (laid k ys ++ rest) k (length-bytes k y)) (drop_at (bytes k y) (laid k ys ++ rest) k (length-bytes k y))
    ∙ ap₂ (λ (x : ℕ) (zs : List ℕ). x ∷ zs) (value-bytes k y (h 0)) (numbers-laid k ys rest (λ t. h (suc t)))

-- numbers come from their own bytes, whatever follows
pub numbers_front : (k c : ℕ) (xs rest : List ℕ) → c * k ≤ length xs → numbers k c (xs ++ rest) ≡ numbers k c xs
unfolding numbers
numbers_front k zero xs rest h = refl
numbers_front k (suc c) xs rest h =
    let l : k ≤ length xs = omega (arith, suc-mul c k) in
    let d : c * k ≤ length (drop k xs) = subst (λ (n : ℕ). c * k ≤ n) (sym (length-drop k xs)) (omega (arith, suc-mul c k)) in
    ap₂ (λ (ys zs : List ℕ). value ys ∷ numbers k c zs) (take-append-le k xs rest l) (drop-append-le k xs rest l)
    ∙ ap (λ (ys : List ℕ). value (take k xs) ∷ ys) (numbers_front k c (drop k xs) rest d)

-- the same of a part that has all of them
pub numbers-take : (k c n : ℕ) (xs : List ℕ) → c * k ≤ n → numbers k c (take n xs) ≡ numbers k c xs
unfolding numbers
numbers-take k zero n xs h = refl
numbers-take k (suc c) n xs h =
    let l : k ≤ n = omega (arith, suc-mul c k) in
    let e : n ≡ k + (n - k) = omega arith in
    let d : drop k (take n xs) ≡ take (n - k) (drop k xs) = ap (λ (j : ℕ). drop k (take j xs)) e ∙ drop-take k (n - k) xs in
    ap₂ (λ (ys zs : List ℕ). value ys ∷ numbers k c zs) (take-take k n xs l) d
    ∙ ap (λ (ys : List ℕ). value (take k xs) ∷ ys) (numbers-take k c (n - k) (drop k xs) (omega (arith, suc-mul c k)))

-- what to_le_bytes gives of 8 bits
pub le_bytes_1 : (x : ℕ) → x < 256 → x ∷ [] ≡ bytes 1 x
unfolding bytes
le_bytes_1 x h = ap (λ (y : ℕ). y ∷ []) (sym (mod-eq_of_lt h))

-- of 16 bits
pub le_bytes_2 : (x : ℕ) → (x % 256) ∷ (x / 256 % 256) ∷ [] ≡ bytes 2 x
unfolding bytes
le_bytes_2 x = refl

-- the third byte
div_2 : (x : ℕ) → x / 65536 ≡ x / 256 / 256
div_2 x = sym (div-div-eq-div-mul x 256 256)

-- each next byte is one division by 256 more
div_more : (x a b y : ℕ) → a * 256 ≡ b → x / a ≡ y → x / b ≡ y / 256
div_more x a b y e h = ap (λ (n : ℕ). x / n) (sym e) ∙ sym (div-div-eq-div-mul x a 256) ∙ ap (λ (n : ℕ). n / 256) h

-- of 32 bits
pub le_bytes_4 : (x : ℕ) → (x % 256) ∷ (x / 256 % 256) ∷ (x / 65536 % 256) ∷ (x / 16777216 % 256) ∷ [] ≡ bytes 4 x
unfolding bytes
le_bytes_4 x =
    let d2 = div_2 x in
    let d3 = div_more x 65536 16777216 (x / 256 / 256) refl d2 in
    λ i. (x % 256) ∷ (x / 256 % 256) ∷ (d2 i % 256) ∷ (d3 i % 256) ∷ []

-- of 64 bits
pub le_bytes_8 : (x : ℕ)
    → (x % 256) ∷ (x / 256 % 256) ∷ (x / 65536 % 256) ∷ (x / 16777216 % 256) ∷ (x / 4294967296 % 256) ∷ (x / 1099511627776 % 256) ∷ (x / 281474976710656 % 256) ∷ (x / 72057594037927936 % 256) ∷ [] ≡ bytes 8 x
unfolding bytes
le_bytes_8 x =
    let d2 = div_2 x in
    let d3 = div_more x 65536 16777216 (x / 256 / 256) refl d2 in
    let d4 = div_more x 16777216 4294967296 (x / 256 / 256 / 256) refl d3 in
    let d5 = div_more x 4294967296 1099511627776 (x / 256 / 256 / 256 / 256) refl d4 in
    let d6 = div_more x 1099511627776 281474976710656 (x / 256 / 256 / 256 / 256 / 256) refl d5 in
    let d7 = div_more x 281474976710656 72057594037927936 (x / 256 / 256 / 256 / 256 / 256 / 256) refl d6 in
    λ i. (x % 256) ∷ (x / 256 % 256) ∷ (d2 i % 256) ∷ (d3 i % 256) ∷ (d4 i % 256) ∷ (d5 i % 256) ∷ (d6 i % 256) ∷ (d7 i % 256) ∷ []

-- the byte at n, and those behind it
value_at : (xs : List ℕ) (n : ℕ) → value (drop n xs) ≡ get_or xs n 0 + 256 * value (drop (suc n) xs)
unfolding value
value_at [] zero = refl
value_at [] (suc n) = refl
value_at (x ∷ xs) zero = refl
value_at (x ∷ xs) (suc n) = value_at xs n

-- behind the last byte there is nothing
value_end : (xs : List ℕ) (n : ℕ) → length xs ≡ n → value (drop n xs) ≡ 0
unfolding value
value_end xs n e = ap value (drop_all n xs (omega (arith, e)))

-- what from_le_bytes gives of 8 bits
pub value_1 : (xs : List ℕ) → length xs ≡ 1 → get_or xs 0 0 ≡ value xs
value_1 xs e = omega (arith, value_at xs 0, value_end xs 1 e)

-- of 16 bits
pub value_2 : (xs : List ℕ) → length xs ≡ 2 → get_or xs 0 0 + get_or xs 1 0 * 256 ≡ value xs
value_2 xs e = omega (arith, value_at xs 0, value_at xs 1, value_end xs 2 e)

-- of 32 bits
pub value_4 : (xs : List ℕ) → length xs ≡ 4 → get_or xs 0 0 + get_or xs 1 0 * 256 + get_or xs 2 0 * 65536 + get_or xs 3 0 * 16777216 ≡ value xs
value_4 xs e = omega (arith, value_at xs 0, value_at xs 1, value_at xs 2, value_at xs 3, value_end xs 4 e)

-- of 64 bits
pub value_8 : (xs : List ℕ) → length xs ≡ 8
    → get_or xs 0 0 + get_or xs 1 0 * 256 + get_or xs 2 0 * 65536 + get_or xs 3 0 * 16777216 + get_or xs 4 0 * 4294967296 + get_or xs 5 0 * 1099511627776 + get_or xs 6 0 * 281474976710656 + get_or xs 7 0 * 72057594037927936 ≡ value xs
value_8 xs e =
    omega (arith, value_at xs 0, value_at xs 1, value_at xs 2, value_at xs 3, value_at xs 4, value_at xs 5, value_at xs 6, value_at xs 7, value_end xs 8 e)
