-- Writes one after another.
use Rattle.std.proofs.Common.{◌≡◌, ℕ, ◌+◌, ◌-◌, ◌<◌, ◌≤◌, List, [], ◌∷◌, ◌++◌, length, take, drop, set, sym, refl, ap, ◌∙◌, subst, ap₂, arith}
use Rattle.std.proofs.lemmas.List.{append-nil, append_assoc, take-take, take_at, length-take-le, length-append, length-drop, length-set, drop-drop, take_more_set, drop-set-lt}
use Rattle.std.proofs.lemmas.Slice.{take-put_mid, drop-put_mid}
use borrow.Rule.Slice.PartMut.{put_mid}
use Rattle.packing.specs.Gathered.{gather}
use Rattle.packing.specs.Wrote.{Wrote}
use Rattle.packing.proofs.Ranges.{gather_more, gather_skip}

pub wrote_none : (xs : List ℕ) (a : ℕ) → a ≤ length xs → Wrote xs xs a [] a
wrote_none xs a h = record { to = omega arith; within = h; long = refl; front = sym (append-nil (take a xs)); rest = refl }

pub wrote_then : {x y z : List ℕ} {a b c : ℕ} {ys zs : List ℕ} → Wrote x y a ys b → Wrote y z b zs c → Wrote x z a (ys ++ zs) c
wrote_then {x} {y} {z} {a} {b} {c} {ys} {zs} p q =
    let m : ℕ = c - b in
    let e : b + m ≡ c = omega (arith, q.to) in
    let cut : (l : List ℕ) → drop c l ≡ drop m (drop b l) = λ l. sym (drop-drop m b l ∙ ap (λ (n : ℕ). drop n l) e) in
    record {
      to = omega (arith, p.to, q.to, length-append ys zs);
      within = omega (arith, q.within, p.long);
      long = q.long ∙ p.long;
      front = q.front ∙ ap (λ (l : List ℕ). l ++ zs) p.front ∙ append_assoc (take a x) ys zs;
      rest = q.rest ∙ cut y ∙ ap (drop m) p.rest ∙ sym (cut x);
    }

pub wrote_set : (xs : List ℕ) (b v : ℕ) → b < length xs → Wrote xs (set xs b v) b (v ∷ []) (b + 1)
wrote_set xs b v h =
    record {
      to = refl;
      within = omega arith;
      long = length-set xs b v;
      front = take_more_set xs b v h;
      rest = drop-set-lt (b + 1) xs b v (omega arith);
    }

-- words written over others
pub wrote_over : (xs ys : List ℕ) (a k : ℕ) → length ys ≡ k → a + k ≤ length xs → Wrote xs (put_mid a k xs ys) a ys (a + k)
wrote_over xs ys a k n h = record {
  to = omega arith;
  within = h;
  long = omega (arith, length-append (take a xs) (ys ++ drop k (drop a xs)), length-append ys (drop k (drop a xs)), length-take-le a xs (omega arith), length-drop k (drop a xs), length-drop a xs);
  front = take-put_mid a k xs ys (a + k) (omega arith) (omega arith);
  rest = drop-put_mid a k xs ys (a + k) (omega arith) (omega arith) n;
}

-- one more word
pub wrote_one : {x y : List ℕ} {a b : ℕ} {ys : List ℕ} → Wrote x y a ys b → (v : ℕ) → b < length y → Wrote x (set y b v) a (ys ++ v ∷ []) (b + 1)
wrote_one {x} {y} {a} {b} {ys} p v h = wrote_then p (wrote_set y b v h)

pub wrote_as : {x y : List ℕ} {a b c : ℕ} {ys zs : List ℕ} → Wrote x y a ys b → ys ≡ zs → b ≡ c → Wrote x y a zs c
wrote_as {x} {y} {a} {b} {c} {ys} {zs} p e f = subst (λ (n : ℕ). Wrote x y a zs n) f (subst (λ (l : List ℕ). Wrote x y a l b) e p)

-- what stands before the place is as it was
pub wrote_below : {x y : List ℕ} {a b : ℕ} {ys : List ℕ} → Wrote x y a ys b → take a y ≡ take a x
wrote_below {x} {y} {a} {b} {ys} p =
    let le : a ≤ b = omega (arith, p.to) in
    let la : length (take a x) ≡ a = length-take-le a x (omega (arith, p.to, p.within)) in
    sym (take-take a b y le) ∙ ap (take a) p.front ∙ take_at (take a x) ys a la

-- the part of `found` is written behind the parts below `at`, and the parts between are empty
pub wrote_part : (g : ℕ → List ℕ) (at found : ℕ) {x y z : List ℕ} {a b c : ℕ} {ys : List ℕ} → at ≤ found → ((t : ℕ) → at ≤ t → t < found → g t ≡ [])
    → ys ≡ g found → Wrote x y a (gather g at) b → Wrote y z b ys c → Wrote x z a (gather g (found + 1)) c
wrote_part g at found {x} {y} {z} {a} {b} {c} {ys} le gaps e p q =
    wrote_as (wrote_then p q) (ap₂ (λ (u v : List ℕ). u ++ v) (sym (gather_skip g at found le gaps)) e ∙ sym (gather_more g found)) refl

-- no part is left
pub wrote_parts : (g : ℕ → List ℕ) (at end : ℕ) {x y : List ℕ} {a b : ℕ} → at ≤ end → ((t : ℕ) → at ≤ t → t < end → g t ≡ [])
    → Wrote x y a (gather g at) b → Wrote x y a (gather g end) b
wrote_parts g at end le gaps p = wrote_as p (sym (gather_skip g at end le gaps)) refl
