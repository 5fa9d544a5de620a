-- What requests for fields give.
use Rattle.std.proofs.Common.{◌≡◌, ℕ, zero, suc, ◌+◌, ◌-◌, ◌*◌, ◌<◌, ◌≤◌, List, [], ◌∷◌, ◌++◌, length, get_or, take, drop, replicate, Ok, Err, Result, sym, refl, ap, ◌∙◌, ap₂, suc-mul, zero-mul, arith, length-drop}
use Rattle.std.specs.Simd.{first_chunks}
use Rattle.std.proofs.lemmas.List.{length-take-le, drop-drop, drop_at}
use Rattle.bit_block.specs.declared.config.Width.{Width}
use Rattle.bit_block.specs.declared.config.Width.TheVariants.{W64, W128, W256}
use Rattle.bit_block.proofs.Places.{sized}
use Rattle.reader.specs.declared.fault.ReadFault.{ReadFault}
use Rattle.reader.specs.Streams.{Stream}
use Rattle.reader.specs.Reads.{Reads}
use Rattle.reader.specs.Fields.{Took, faulted, one}
use Rattle.reader.specs.LittleEndian.{value, numbers}
use Rattle.reader.proofs.Fieldings.{took_one, took_not}
use Rattle.reader.proofs.LittleEndians.{numbers_add, numbers_front, numbers-take}
use Rattle.serialization.specs.Layout.{size, words}
use Rattle.serialization.specs.Fieldwise.{mask_in}
use Rattle.serialization.proofs.Lengths.{size-words}

-- a request is a field, whatever its answer
pub took_any : (k : ℕ) (s t : Stream) (buf now : List ℕ) (r : Result (Unit {0}) ReadFault) → length buf ≡ k → Reads s buf r t now → Took (one k ∷ []) s (faulted r) t
took_any k s t buf now (Ok x) e h = took_one k s t buf now x e h
took_any k s t buf now (Err f) e h = took_not k s t buf now f e h

-- chunk q
pub chunk_at : (n c : ℕ) (xs : List ℕ) (q : ℕ) → q < c → get_or (first_chunks n c xs) q [] ≡ take n (drop (q * n) xs)
chunk_at n zero xs q h = absurd (omega arith)
chunk_at n (suc c) xs zero h = ap (λ (k : ℕ). take n (drop k xs)) (sym (zero-mul n))
chunk_at n (suc c) xs (suc q) h =
    let e : n + q * n ≡ suc q * n = omega (arith, suc-mul q n) in
    chunk_at n c (drop n xs) q (omega arith) ∙ ap (take n) (drop-drop (q * n) n xs ∙ ap (λ (k : ℕ). drop k xs) e)

-- is as long as the others
pub length_chunk : (n q : ℕ) (xs : List ℕ) → q * n + n ≤ length xs → length (take n (drop (q * n) xs)) ≡ n
length_chunk n q xs h = length-take-le n (drop (q * n) xs) (omega (arith, length-drop (q * n) xs))

-- words of zeros
zero-words : (w : Width) → numbers 8 (4 - words w) (replicate (32 - size w) 0) ≡ replicate (4 - words w) 0
unfolding numbers value
zero-words W64 = refl
zero-words W128 = refl
zero-words W256 = refl

-- a mask read into zeros
pub mask_is : (w : Width) (xs b : List ℕ) → size w ≤ length xs → b ≡ take (size w) xs ++ replicate (32 - size w) 0 → numbers 8 4 b ≡ mask_in w xs
mask_is w xs b h e =
    let k : ℕ = words w in
    let front : List ℕ = take (size w) xs in
    let zs : List ℕ = replicate (32 - size w) 0 in
    let l : length front ≡ k * 8 = length-take-le (size w) xs h ∙ size-words w in
    let four : 4 ≡ k + (4 - k) = omega (arith, (sized w).most) in
    ap₂ (λ (n : ℕ) (ys : List ℕ). numbers 8 n ys) four e
    ∙ numbers_add 8 k (4 - k) (front ++ zs)
    ∙ ap₂ (λ (x y : List ℕ). x ++ y)
    (numbers_front 8 k front zs (omega (arith, l)) ∙ numbers-take 8 k (size w) xs (omega (arith, size-words w)))
    (ap (numbers 8 (4 - k)) (drop_at front zs (k * 8) l) ∙ zero-words w)

-- zeros behind a mask's bytes
behind : (v : Width) → drop {A = ℕ} (size v) (replicate 32 0) ≡ replicate (32 - size v) 0
behind W64 = refl
behind W128 = refl
behind W256 = refl

pub zeros_behind : (w : Width) (k : ℕ) → k ≡ size w → drop {A = ℕ} k (replicate 32 0) ≡ replicate (32 - size w) 0
zeros_behind w k e = ap (λ (n : ℕ). drop {A = ℕ} n (replicate 32 0)) e ∙ behind w
