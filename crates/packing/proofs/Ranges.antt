-- Laws of what is gathered, and of sums and counts that grow.
use Rattle.std.proofs.Common.{◌≡◌, ℕ, zero, suc, ◌+◌, ◌*◌, ◌<◌, ◌≤◌, Bool, true, false, cond, List, [], ◌++◌, sym, refl, ap, ◌∙◌, ⊎_elim, add-one, arith}
use Rattle.std.proofs.lemmas.List.{append-nil}
use Rattle.std.proofs.lemmas.Bool.{cases_eq, cases_Bool}
use Rattle.bit_block.specs.Ranges.{total, count}
use Rattle.bit_block.proofs.Counting.{total-none, total-suc, count-suc, count_more, count-zero}
use Rattle.packing.specs.Gathered.{gather}

pub gather_none : {X : Type 0} (g : ℕ → List X) → gather g 0 ≡ []
unfolding gather
gather_none g = refl

pub gather-suc : {X : Type 0} (g : ℕ → List X) (n : ℕ) → gather g (suc n) ≡ gather g n ++ g n
unfolding gather
gather-suc g n = refl

pub gather_more : {X : Type 0} (g : ℕ → List X) (n : ℕ) → gather g (n + 1) ≡ gather g n ++ g n
gather_more g n = ap (gather g) (add-one n) ∙ gather-suc g n

-- nothing is gathered from a up to b
pub gather_skip : {X : Type 0} (g : ℕ → List X) (a b : ℕ) → a ≤ b → ((t : ℕ) → a ≤ t → t < b → g t ≡ []) → gather g b ≡ gather g a
gather_skip g a zero le h = ap (gather g) (let e : 0 ≡ a = omega arith in e)
gather_skip g a (suc b) le h =
    ⊎_elim (λ e. ap (gather g) (sym e))
    (λ ne. gather-suc g b ∙ ap (λ xs. gather g b ++ xs) (h b (omega (arith, ne)) (omega arith)) ∙ append-nil (gather g b) ∙ gather_skip g a b (omega (arith, ne)) (λ t l u. h t l (omega arith)))
    (cases_eq a (suc b))

pub total_more : (f : ℕ → ℕ) (n : ℕ) → total f (n + 1) ≡ total f n + f n
total_more f n = ap (total f) (add-one n) ∙ total-suc f n

-- nothing is added from a up to b
pub total_skip : (f : ℕ → ℕ) (a b : ℕ) → a ≤ b → ((t : ℕ) → a ≤ t → t < b → f t ≡ 0) → total f b ≡ total f a
total_skip f a zero le h = ap (total f) (let e : 0 ≡ a = omega arith in e)
total_skip f a (suc b) le h =
    ⊎_elim (λ e. ap (total f) (sym e))
    (λ ne. omega (arith, total-suc f b, h b (omega (arith, ne)) (omega arith), total_skip f a b (omega (arith, ne)) (λ t l u. h t l (omega arith))))
    (cases_eq a (suc b))

pub count_grows : (f : ℕ → Bool) (m n : ℕ) → m ≤ n → count f m ≤ count f n
count_grows f m zero h = omega (arith, ap (count f) (let e : m ≡ 0 = omega arith in e))
count_grows f m (suc n) h =
    ⊎_elim (λ e. omega (arith, ap (count f) e)) (λ ne. omega (arith, count-suc f n, count_grows f m n (omega arith))) (cases_eq m (suc n))

-- nothing passes anywhere
pub never_count : (f : ℕ → Bool) (n : ℕ) → ((t : ℕ) → f t ≡ false) → count f n ≡ 0
never_count f n h = count-zero f n (λ t _. h t)

-- something passes
pub count-some : (f : ℕ → Bool) (n t : ℕ) → t < n → f t ≡ true → 0 < count f n
count-some f n t l e =
    omega (arith, count_more f t, ap {B = ℕ} (λ (b : Bool). cond b 1 0) e, count_grows f (t + 1) n (omega arith))

pub total_grows : (f : ℕ → ℕ) (m n : ℕ) → m ≤ n → total f m ≤ total f n
total_grows f m zero h = omega (arith, ap (total f) (let e : m ≡ 0 = omega arith in e))
total_grows f m (suc n) h =
    ⊎_elim (λ e. omega (arith, ap (total f) e)) (λ ne. omega (arith, total-suc f n, total_grows f m n (omega arith))) (cases_eq m (suc n))

pub total_le : (f : ℕ → ℕ) (b n : ℕ) → ((t : ℕ) → f t ≤ b) → total f n ≤ n * b
total_le f b zero h = omega (arith, total-none f)
total_le f b (suc n) h = omega (arith, total-suc f n, total_le f b n h, h n)

-- nothing passes from a up to b: the count stays
pub count_skip : (f : ℕ → Bool) (a b : ℕ) → a ≤ b → ((t : ℕ) → a ≤ t → t < b → f t ≡ false) → count f b ≡ count f a
unfolding count
count_skip f a b le h = total_skip (λ t. cond (f t) 1 0) a b le (λ t l u. ap {B = ℕ} (λ (x : Bool). cond x 1 0) (h t l u))

-- where nothing is counted nothing passes
pub count-nothing : (f : ℕ → Bool) (n t : ℕ) → count f n ≡ 0 → t < n → f t ≡ false
count-nothing f n t z l = ⊎_elim (λ e. absurd (omega (arith, count-some f n t l e))) (λ e. e) (cases_Bool (f t))
