-- Masks and starts read into words.
use Rattle.std.proofs.Common.{◌≡◌, ℕ, ◌+◌, ◌-◌, ◌*◌, ◌/◌, ◌<◌, ◌≤◌, List, [], ◌∷◌, ◌++◌, length, get_or, take, drop, replicate, Some, None, Option, sym, refl, ap, ◌∙◌, subst, ⊎_elim, mul-le-mul_right, add-mul, zero-mul, arith}
use borrow.Rule.Slice.PartMut.{put_mid}
use Rattle.std.proofs.lemmas.List.{take_at, drop_at, drop_all, get_or_past, get_or_append_left, get_or-append_right}
use Rattle.std.proofs.Math.Nat.{div-mul-le_self}
use Rattle.std.proofs.lemmas.Bool.Decides.{nat_tests}
use Rattle.std.proofs.lemmas.Bool.{cases_lt}
use Rattle.bit_block.specs.declared.config.Width.{Width}
use Rattle.packing.specs.Wrote.{Wrote}
use Rattle.packing.proofs.Writes.{wrote_none, wrote_then, wrote_over, wrote_as}
use Rattle.reader.specs.declared.fault.ReadFault.{ReadFault}
use Rattle.reader.specs.Fields.{Run, Took, many, size_of, whole, edge}
use Rattle.reader.specs.LittleEndian.{numbers}
use Rattle.reader.specs.Streams.{Stream, after, left}
use Rattle.reader.proofs.Fieldings.{took_then, size_of-append, size_of-one, left_after, after-after, whole_out, edge_out}
use Rattle.reader.proofs.LittleEndians.{numbers_none, numbers_add, length-numbers}
use Rattle.packing.specs.StartWords.{four_of}
use Rattle.serialization.specs.Fieldwise.{mask_in, least, Starts16}
use Rattle.serialization.specs.Layout.{size, words}
use Rattle.serialization.proofs.Lengths.{masks-words}

-- no masks are written yet
pub masks_none : (k : ℕ) (xs old : List ℕ) → Wrote old old 0 (numbers 8 (0 * k) xs) (0 * k)
masks_none k xs old =
    wrote_as (wrote_none old 0 (omega arith)) (sym (numbers_none 8 xs) ∙ ap (λ (n : ℕ). numbers 8 n xs) (sym (zero-mul k))) (sym (zero-mul k))

-- one more mask of k words
pub masks_more : (q k : ℕ) (xs old cur part : List ℕ) → Wrote old cur 0 (numbers 8 (q * k) xs) (q * k) → part ≡ numbers 8 k (drop (q * k * 8) xs)
    → q * k + k ≤ length cur → Wrote old (put_mid (q * k) (q * k + k - q * k) cur part) 0 (numbers 8 ((q + 1) * k) xs) ((q + 1) * k)
masks_more q k xs old cur part p e h =
    let n : q * k + k - q * k ≡ k = omega arith in
    let m : q * k + k ≡ (q + 1) * k = omega (arith, add-mul q 1 k) in
    let l : length part ≡ k = ap length e ∙ length-numbers 8 k (drop (q * k * 8) xs) in
    let w : Wrote cur (put_mid (q * k) (q * k + k - q * k) cur part) (q * k) part (q * k + k) =
    subst (λ (j : ℕ). Wrote cur (put_mid (q * k) j cur part) (q * k) part (q * k + k)) (sym n) (wrote_over cur part (q * k) k l h) in
    wrote_as (wrote_then p w)
    (ap (λ (ys : List ℕ). numbers 8 (q * k) xs ++ ys) e ∙ sym (numbers_add 8 (q * k) k xs) ∙ ap (λ (j : ℕ). numbers 8 j xs) m) m

-- the words of a mask, without the zeros behind them
pub mask_words : (w : Width) (k : ℕ) (xs : List ℕ) → k ≡ words w → take k (mask_in w xs) ≡ numbers 8 k xs
mask_words w k xs e =
    ap (λ (n : ℕ). take n (mask_in w xs)) e ∙ take_at (numbers 8 (words w) xs) (replicate (4 - words w) 0) (words w) (length-numbers 8 (words w) xs)
    ∙ ap (λ (n : ℕ). numbers 8 n xs) (sym e)

-- the bytes behind q masks
pub behind_masks : (w : Width) (q k : ℕ) (s t : Stream) → k ≡ words w → Took (many q (size w) ∷ []) s None t → t.front.bytes ≡ drop (q * k * 8) s.front.bytes
behind_masks w q k s t e p =
    let z : size_of (many q (size w) ∷ []) ≡ q * k * 8 = size_of-one (many q (size w)) ∙ masks-words w q ∙ ap (λ (n : ℕ). q * n * 8) (sym e) in
    ap (λ (x : Stream). x.front.bytes) p.1 ∙ ap (λ (n : ℕ). drop n s.front.bytes) z

-- the last of so many masks ends within the words
pub mask_fits : (q k n : ℕ) → q < n / k → q * k + k ≤ n
mask_fits q k n h = omega (arith, add-mul q 1 k, mul-le-mul_right {m = q + 1} {n = n / k} k (omega arith), div-mul-le_self n k)

-- the lesser is the first, or the second
pub least_above : (c j : ℕ) → c ≤ j → least c j ≡ c
least_above c j h = grind (arith, nat_tests)

pub least_below : (c j : ℕ) → j ≤ c → least c j ≡ j
least_below c j h = grind (arith, nat_tests)

-- so many starts, and then the next four
pub least_more : (c i : ℕ) → least c (4 * i) + least (c - 4 * i) 4 ≡ least c (4 * (i + 1))
least_more c i = grind (arith, nat_tests)

-- none to begin with
pub least_none : (c : ℕ) → least c 0 ≡ 0
least_none c = grind (arith, nat_tests)

-- and never fewer
pub least_rises : (c i n : ℕ) → i < n → least c (4 * (i + 1)) ≤ least c (4 * n)
least_rises c i n h = grind (arith, nat_tests)

-- starts that were read, and then more: all of them were
pub starts_then : (a b : ℕ) (o : Option ReadFault) (s t u : Stream) → Took (many a 2 ∷ []) s None t → Took (many b 2 ∷ []) t o u → Took (many (a + b) 2 ∷ []) s o u
starts_then a b None s t u p q =
    let r = took_then (many a 2 ∷ []) (many b 2 ∷ []) None s t u p q in
    let z : size_of (many a 2 ∷ many b 2 ∷ []) ≡ size_of (many (a + b) 2 ∷ []) = omega (arith, size_of-append (many a 2 ∷ []) (many b 2 ∷ []), size_of-one (many a 2), size_of-one (many b 2), size_of-one (many (a + b) 2)) in
    (omega (arith, z, r.0), r.1 ∙ ap (λ (j : ℕ). after j s) z)
starts_then a b (Some e) s t u p q =
    let rs : List Run = many a 2 ∷ [] in
    let qs : List Run = many b 2 ∷ [] in
    let n = ap left p.1 ∙ left_after (size_of rs) s in
    let za = size_of-one (many a 2) in
    let zb = size_of-one (many b 2) in
    let zc = size_of-one (many (a + b) 2) in
    let m : left s < (a + b) * 2 = omega (arith, n, za, zb, p.0, q.0) in
    let l : left t < b * 2 = omega (arith, zb, q.0) in
    let w : size_of rs + whole (left t) qs ≡ whole (left s) (many (a + b) 2 ∷ []) = omega (arith, n, za, p.0, whole_out (left t) (many b 2) [] l, whole_out (left s) (many (a + b) 2) [] m) in
    let g : size_of rs + edge (left t) qs ≡ edge (left s) (many (a + b) 2 ∷ []) = omega (arith, n, za, p.0, edge_out (left t) (many b 2) [] l, edge_out (left s) (many (a + b) 2) [] m) in (
      omega (arith, m, zc),
      q.1 ∙ ap (after (whole (left t) qs)) p.1 ∙ after-after (whole (left t) qs) (size_of rs) s ∙ ap (λ (k : ℕ). after k s) w,
      q.2 ∙ ap (λ (x : Stream). x.front.fault (edge (left t) qs)) p.1 ∙ ap s.front.fault g,
    )

-- a start that was refused ends the reading, however many were to follow
pub starts_stop : (a b : ℕ) (e : ReadFault) (s t : Stream) → a ≤ b → Took (many a 2 ∷ []) s (Some e) t → Took (many b 2 ∷ []) s (Some e) t
starts_stop a b e s t h p =
    let l : left s < a * 2 = omega (arith, p.0, size_of-one (many a 2)) in
    let m : left s < b * 2 = omega arith in
    let w : whole (left s) (many a 2 ∷ []) ≡ whole (left s) (many b 2 ∷ []) = omega (arith, whole_out (left s) (many a 2) [] l, whole_out (left s) (many b 2) [] m) in
    let g : edge (left s) (many a 2 ∷ []) ≡ edge (left s) (many b 2 ∷ []) = omega (arith, edge_out (left s) (many a 2) [] l, edge_out (left s) (many b 2) [] m) in
    (omega (arith, m, size_of-one (many b 2)), p.1 ∙ ap (λ (k : ℕ). after k s) w, p.2 ∙ ap s.front.fault g)

-- more starts of a word mean nothing past the fourth
four-front : (r : ℕ) (xs zs : List ℕ) → four_of (numbers 2 4 xs ++ zs) ≡ four_of (numbers 2 4 xs)
unfolding numbers
four-front r xs zs = refl

four_least : (r : ℕ) (xs : List ℕ) → four_of (numbers 2 (least r 4) xs) ≡ four_of (numbers 2 r xs)
four_least r xs =
    ⊎_elim (λ (l : r < 4). ap (λ (n : ℕ). four_of (numbers 2 n xs)) (least_above r 4 (omega arith)))
    (λ (l : 4 ≤ r). ap (λ (n : ℕ). four_of (numbers 2 n xs)) (least_below r 4 l) ∙ sym (four-front r xs (numbers 2 (r - 4) (drop 8 xs)))
    ∙ ap four_of (sym (numbers_add 2 4 (r - 4) xs)) ∙ (let e : 4 + (r - 4) ≡ r = omega arith in ap (λ (n : ℕ). four_of (numbers 2 n xs)) e))
    (cases_lt r 4)

-- word i of the starts, from the bytes behind those before it
pub start_word_is : (i c : ℕ) (s t : Stream) → Took (many (least c (4 * i)) 2 ∷ []) s None t
    → four_of (numbers 2 (least (c - 4 * i) 4) t.front.bytes) ≡ four_of (drop (4 * i) (numbers 2 c s.front.bytes))
start_word_is i c s t p =
    let xs : List ℕ = s.front.bytes in
    let a : ℕ = 4 * i in
    ⊎_elim
    (λ (l : c < a).
    let z : c - a ≡ 0 = omega arith in
    four_least (c - a) t.front.bytes ∙ ap (λ (n : ℕ). four_of (numbers 2 n t.front.bytes)) z ∙ ap four_of (numbers_none 2 t.front.bytes)
    ∙ sym (ap four_of (drop_all a (numbers 2 c xs) (omega (arith, length-numbers 2 c xs)))))
    (λ (l : a ≤ c).
    let z : size_of (many (least c a) 2 ∷ []) ≡ a * 2 = size_of-one (many (least c a) 2) ∙ ap (λ (n : ℕ). n * 2) (least_below c a l) in
    let e : t.front.bytes ≡ drop (a * 2) xs = ap (λ (x : Stream). x.front.bytes) p.1 ∙ ap (λ (n : ℕ). drop n xs) z in
    let n : c ≡ a + (c - a) = omega arith in
    four_least (c - a) t.front.bytes ∙ ap (λ (ys : List ℕ). four_of (numbers 2 (c - a) ys)) e
    ∙ ap four_of (sym (drop_at (numbers 2 a xs) (numbers 2 (c - a) (drop (a * 2) xs)) a (length-numbers 2 a xs)) ∙ ap (drop a) (sym (numbers_add 2 a (c - a) xs)) ∙ ap (λ (k : ℕ). drop a (numbers 2 k xs)) (sym n)))
    (cases_lt c a)

-- at most four of them
pub least-four : (c : ℕ) → least c 4 ≤ 4
least-four c = grind (arith, nat_tests)

-- numbers of 16 bits at the front of others
pub starts_front : (xs zs ns : List ℕ) → xs ≡ ns → Starts16 (xs ++ zs) → Starts16 ns
starts_front xs zs ns e h t =
    subst (λ (ys : List ℕ). get_or ys t 0 < 65536) e
    (⊎_elim (λ (l : t < length xs). subst (λ (n : ℕ). n < 65536) (get_or_append_left xs zs 0 t l) (h t))
    (λ (l : length xs ≤ t). subst (λ (n : ℕ). n < 65536) (sym (get_or_past xs t 0 l)) (omega arith)) (cases_lt t (length xs)))

-- numbers of 16 bits behind others
starts_both : (xs ys : List ℕ) → Starts16 xs → Starts16 ys → Starts16 (xs ++ ys)
starts_both xs ys f h t =
    ⊎_elim (λ (l : t < length xs). subst (λ (n : ℕ). n < 65536) (sym (get_or_append_left xs ys 0 t l)) (f t))
    (λ (l : length xs ≤ t). subst (λ (n : ℕ). n < 65536) (sym (get_or-append_right xs ys (length xs) t 0 refl l)) (h (t - length xs))) (cases_lt t (length xs))

-- no starts
pub small_none : (c : ℕ) (xs : List ℕ) → Starts16 (numbers 2 (least c 0) xs)
small_none c xs t = subst (λ (ys : List ℕ). get_or ys t 0 < 65536) (sym (ap (λ (n : ℕ). numbers 2 n xs) (least_none c) ∙ numbers_none 2 xs)) (omega arith)

-- the starts of one word more
pub small_more : (c i : ℕ) (s t : Stream) → Took (many (least c (4 * i)) 2 ∷ []) s None t → Starts16 (numbers 2 (least c (4 * i)) s.front.bytes)
    → Starts16 (numbers 2 (least (c - 4 * i) 4) t.front.bytes) → Starts16 (numbers 2 (least c (4 * (i + 1))) s.front.bytes)
small_more c i s t p f h =
    let a : ℕ = least c (4 * i) in
    let b : ℕ = least (c - 4 * i) 4 in
    let xs : List ℕ = s.front.bytes in
    let e : t.front.bytes ≡ drop (a * 2) xs = ap (λ (x : Stream). x.front.bytes) p.1 ∙ ap (λ (n : ℕ). drop n xs) (size_of-one (many a 2)) in
    let j : numbers 2 a xs ++ numbers 2 b t.front.bytes ≡ numbers 2 (least c (4 * (i + 1))) xs =
    ap (λ (ys : List ℕ). numbers 2 a xs ++ numbers 2 b ys) e ∙ sym (numbers_add 2 a b xs) ∙ ap (λ (n : ℕ). numbers 2 n xs) (least_more c i) in
    subst Starts16 j (starts_both (numbers 2 a xs) (numbers 2 b t.front.bytes) f h)
