-- Fields taken one after another, and the sizes of runs put together.
use Rattle.std.proofs.Common.{◌≡◌, ℕ, ◌+◌, ◌-◌, ◌*◌, ◌/◌, ◌<◌, ◌≤◌, List, [], ◌∷◌, ◌++◌, length, Some, None, Ok, Err, Option, sym, ap, ◌∙◌, ap₂, ⊎_elim, mul-le-mul_right, add-mul, arith, length-drop}
use mathlib.Core.Path.{fun_ext}
use native.Mathlib.Nat.{div-eq_of_lt, div-eq_of_lt-le}
use Rattle.std.proofs.lemmas.List.{drop-drop}
use Rattle.std.proofs.lemmas.Bool.Decides.{nat_tests}
use Rattle.std.proofs.lemmas.Bool.{cases_lt}
use Rattle.reader.specs.declared.fault.ReadFault.{ReadFault}
use Rattle.reader.specs.Streams.{Coming, Stream, past, after, left}
use Rattle.reader.specs.Reads.{Reads}
use Rattle.reader.specs.Fields.{Run, one, many, bytes_of, size_of, whole, edge, Took}

-- what comes behind b bytes and then a more
pub past-past : (a b : ℕ) (c : Coming) → past a (past b c) ≡ past (b + a) c
past-past a b c =
    let f : (λ (n : ℕ). c.fault (b + (a + n))) ≡ (λ (n : ℕ). c.fault (b + a + n)) = fun_ext (λ n. let e : b + (a + n) ≡ b + a + n = omega arith in ap c.fault e) in
    ap₂ (λ (x : List ℕ) (y : ℕ → ReadFault). record { bytes = x; fault = y }) (drop-drop a b c.bytes) f

-- behind no bytes all is to come
pub past-none : (c : Coming) → past 0 c ≡ c
past-none c =
    let f : (λ (n : ℕ). c.fault (0 + n)) ≡ c.fault = fun_ext (λ n. let e : 0 + n ≡ n = omega arith in ap c.fault e) in
    ap (λ (y : ℕ → ReadFault). record { bytes = c.bytes; fault = y }) f

-- a reader after b bytes and then a more
pub after-after : (a b : ℕ) (s : Stream) → after a (after b s) ≡ after (b + a) s
after-after a b s = ap₂ (λ (x y : Coming). record { front = x; below = y; lender = s.lender }) (past-past a b s.front) (past-past a b s.below)

-- no bytes taken leave a reader as it is
pub after_none : (s : Stream) → after 0 s ≡ s
after_none s = ap₂ (λ (x y : Coming). record { front = x; below = y; lender = s.lender }) (past-none s.front) (past-none s.below)

-- so many bytes taken leave so many fewer to come
pub left_after : (k : ℕ) (s : Stream) → left (after k s) ≡ left s - k
left_after k s = length-drop k s.front.bytes

-- the bytes of two lists of runs
pub size_of-append : (rs qs : List Run) → size_of (rs ++ qs) ≡ size_of rs + size_of qs
unfolding size_of
size_of-append [] qs = omega arith
size_of-append (r ∷ rs) qs = omega (arith, size_of-append rs qs)

-- one run alone
pub size_of-one : (r : Run) → size_of (r ∷ []) ≡ bytes_of r
unfolding size_of
size_of-one r = omega arith

-- where there is room for the first run, its bytes are read, and the others follow
pub whole_in : (a : ℕ) (r : Run) (rs : List Run) → bytes_of r ≤ a → whole a (r ∷ rs) ≡ bytes_of r + whole (a - bytes_of r) rs
unfolding whole
whole_in a r rs h = grind (arith, nat_tests)

-- where there is none, the fields of it that are whole are read
pub whole_out : (a : ℕ) (r : Run) (rs : List Run) → a < bytes_of r → whole a (r ∷ rs) ≡ a / r.size * r.size
unfolding whole
whole_out a r rs h = grind (arith, nat_tests)

-- where there is room for the first run, the edge lies behind it
pub edge_in : (a : ℕ) (r : Run) (rs : List Run) → bytes_of r ≤ a → edge a (r ∷ rs) ≡ bytes_of r + edge (a - bytes_of r) rs
unfolding edge
edge_in a r rs h = grind (arith, nat_tests)

-- where there is none, it lies behind one field more than are whole
pub edge_out : (a : ℕ) (r : Run) (rs : List Run) → a < bytes_of r → edge a (r ∷ rs) ≡ a / r.size * r.size + r.size
unfolding edge
edge_out a r rs h = grind (arith, nat_tests)

-- a count of runs that goes into the first of them where there is room, and stops at the first that has none
module _ (f : ℕ → List Run → ℕ) (into : (a : ℕ) (r : Run) (rs : List Run) → bytes_of r ≤ a → f a (r ∷ rs) ≡ bytes_of r + f (a - bytes_of r) rs) where
  -- past runs that have room
  through : (a : ℕ) (rs qs : List Run) → size_of rs ≤ a → f a (rs ++ qs) ≡ size_of rs + f (a - size_of rs) qs
  unfolding size_of
  through a [] qs h =
      let e : a ≡ a - 0 = omega arith in
      let z : f (a - 0) qs ≡ 0 + f (a - 0) qs = omega arith in
      ap (λ (x : ℕ). f x qs) e ∙ z
  through a (r ∷ rs) qs h =
      let i = into a r (rs ++ qs) (omega arith) in
      let t = through (a - bytes_of r) rs qs (omega arith) in
      let e : a - bytes_of r - size_of rs ≡ a - (bytes_of r + size_of rs) = omega arith in
      let g = ap (λ (x : ℕ). f x qs) e in
      omega (arith, i, t, g)

  module _ (g : ℕ → Run → ℕ) (out : (a : ℕ) (r : Run) (rs : List Run) → a < bytes_of r → f a (r ∷ rs) ≡ g a r) where
    -- within runs that have not
    within : (a : ℕ) (rs qs : List Run) → a < size_of rs → f a (rs ++ qs) ≡ f a rs
    unfolding size_of
    within a [] qs h = absurd (omega arith)
    within a (r ∷ rs) qs h =
        ⊎_elim (λ (l : a < bytes_of r). out a r (rs ++ qs) l ∙ sym (out a r rs l))
        (λ (m : bytes_of r ≤ a). into a r (rs ++ qs) m ∙ ap (λ (x : ℕ). bytes_of r + x) (within (a - bytes_of r) rs qs (omega arith)) ∙ sym (into a r rs m))
        (cases_lt a (bytes_of r))

-- past whole runs, the count goes on in what follows
pub whole_append : (a : ℕ) (rs qs : List Run) → size_of rs ≤ a → whole a (rs ++ qs) ≡ size_of rs + whole (a - size_of rs) qs
whole_append = through whole whole_in

-- the edge too
pub edge-append : (a : ℕ) (rs qs : List Run) → size_of rs ≤ a → edge a (rs ++ qs) ≡ size_of rs + edge (a - size_of rs) qs
edge-append = through edge edge_in

-- within runs that are not whole, the count does not depend on what follows
pub whole-within : (a : ℕ) (rs qs : List Run) → a < size_of rs → whole a (rs ++ qs) ≡ whole a rs
whole-within = within whole whole_in (λ a r. a / r.size * r.size) whole_out

-- nor does the edge
pub edge-within : (a : ℕ) (rs qs : List Run) → a < size_of rs → edge a (rs ++ qs) ≡ edge a rs
edge-within = within edge edge_in (λ a r. a / r.size * r.size + r.size) edge_out

-- fields that were read, and then more: all of them were
pub took_then : (rs qs : List Run) (o : Option ReadFault) (s t u : Stream) → Took rs s None t → Took qs t o u → Took (rs ++ qs) s o u
took_then rs qs None s t u p q =
    let n = ap left p.1 ∙ left_after (size_of rs) s in (
      omega (arith, size_of-append rs qs, p.0, q.0, n),
      q.1 ∙ ap (after (size_of qs)) p.1 ∙ after-after (size_of qs) (size_of rs) s ∙ ap (λ (k : ℕ). after k s) (sym (size_of-append rs qs)),
    )
took_then rs qs (Some e) s t u p q =
    let n = ap left p.1 ∙ left_after (size_of rs) s in
    let w : size_of rs + whole (left t) qs ≡ whole (left s) (rs ++ qs) = ap (λ (k : ℕ). size_of rs + whole k qs) n ∙ sym (whole_append (left s) rs qs p.0) in
    let g : size_of rs + edge (left t) qs ≡ edge (left s) (rs ++ qs) = ap (λ (k : ℕ). size_of rs + edge k qs) n ∙ sym (edge-append (left s) rs qs p.0) in (
      omega (arith, size_of-append rs qs, p.0, q.0, n),
      q.1 ∙ ap (after (whole (left t) qs)) p.1 ∙ after-after (whole (left t) qs) (size_of rs) s ∙ ap (λ (k : ℕ). after k s) w,
      q.2 ∙ ap (λ (x : Stream). x.front.fault (edge (left t) qs)) p.1 ∙ ap s.front.fault g,
    )

-- a field that was refused ends the reading, whatever was to follow
pub took_stop : (rs qs : List Run) (e : ReadFault) (s t : Stream) → Took rs s (Some e) t → Took (rs ++ qs) s (Some e) t
took_stop rs qs e s t p = (
  omega (arith, size_of-append rs qs, p.0),
  p.1 ∙ ap (λ (k : ℕ). after k s) (sym (whole-within (left s) rs qs p.0)),
  p.2 ∙ ap s.front.fault (sym (edge-within (left s) rs qs p.0)),
)

-- of one field that has no room nothing is read
none-whole : (a k : ℕ) → a < k → whole a (one k ∷ []) ≡ 0
none-whole a k h = whole_out a (one k) [] (omega arith) ∙ ap (λ (x : ℕ). x * k) (div-eq_of_lt h) ∙ (let z : 0 * k ≡ 0 = omega arith in z)

-- its edge is its end
first_edge : (a k : ℕ) → a < k → edge a (one k ∷ []) ≡ k
first_edge a k h = edge_out a (one k) [] (omega arith) ∙ ap (λ (x : ℕ). x * k + k) (div-eq_of_lt h) ∙ (let z : 0 * k + k ≡ k = omega arith in z)

-- a request that was filled is a field that was read
pub took_one : (k : ℕ) (s t : Stream) (buf now : List ℕ) (x : Unit {0}) → length buf ≡ k → Reads s buf (Ok x) t now → Took (one k ∷ []) s None t
took_one k s t buf now x n p =
    let z : length buf ≡ size_of (one k ∷ []) = omega (arith, n, size_of-one (one k)) in
    (omega (arith, z, p.0), p.2 ∙ ap (λ (j : ℕ). after j s) z)

-- a request that was refused is a field that was refused
pub took_not : (k : ℕ) (s t : Stream) (buf now : List ℕ) (e : ReadFault) → length buf ≡ k → Reads s buf (Err e) t now → Took (one k ∷ []) s (Some e) t
took_not k s t buf now e n p =
    let l : left s < k = omega (arith, n, p.0) in (
      omega (arith, l, size_of-one (one k)),
      p.2 ∙ sym (after_none s) ∙ ap (λ (j : ℕ). after j s) (sym (none-whole (left s) k l)),
      p.1 ∙ ap s.front.fault (n ∙ sym (first_edge (left s) k l)),
    )

-- no fields of a run are read already
pub run_none : (k : ℕ) (s : Stream) → Took (many 0 k ∷ []) s None s
run_none k s =
    let z : 0 ≡ size_of (many 0 k ∷ []) = omega (arith, size_of-one (many 0 k)) in
    (omega (arith, z), sym (after_none s) ∙ ap (λ (j : ℕ). after j s) z)

-- one more field of a run
pub run_more : (i k : ℕ) (s t u : Stream) → Took (many i k ∷ []) s None t → Took (one k ∷ []) t None u → Took (many (i + 1) k ∷ []) s None u
run_more i k s t u p q =
    let r = took_then (many i k ∷ []) (one k ∷ []) None s t u p q in
    let z : size_of (many i k ∷ one k ∷ []) ≡ size_of (many (i + 1) k ∷ []) = omega (arith, size_of-append (many i k ∷ []) (one k ∷ []), size_of-one (many i k), size_of-one (one k), size_of-one (many (i + 1) k), add-mul i 1 k) in
    (omega (arith, z, r.0), r.1 ∙ ap (λ (j : ℕ). after j s) z)

-- a field of a run that was refused ends the run
pub run_stop : (i c k : ℕ) (e : ReadFault) (s t u : Stream) → Took (many i k ∷ []) s None t → Took (one k ∷ []) t (Some e) u → i < c → Took (many c k ∷ []) s (Some e) u
run_stop i c k e s t u p q h =
    let n = ap left p.1 ∙ left_after (size_of (many i k ∷ [])) s in
    let z = size_of-one (many i k) in
    let l : left t < k = omega (arith, q.0, size_of-one (one k)) in
    let low : i * k ≤ left s = omega (arith, p.0, z) in
    let high : left s < (i + 1) * k = omega (arith, n, l, z, add-mul i 1 k) in
    let m : left s < c * k = omega (arith, high, mul-le-mul_right {m = i + 1} {n = c} k (omega arith)) in
    let d : left s / k ≡ i = div-eq_of_lt-le k low high in
    let w : size_of (many i k ∷ []) + 0 ≡ whole (left s) (many c k ∷ []) = (let y : size_of (many i k ∷ []) + 0 ≡ i * k = omega (arith, z) in y) ∙ sym (ap (λ (x : ℕ). x * k) d) ∙ sym (whole_out (left s) (many c k) [] m) in
    let g : size_of (many i k ∷ []) + k ≡ edge (left s) (many c k ∷ []) = ap (λ (x : ℕ). x + k) z ∙ sym (ap (λ (x : ℕ). x * k + k) d) ∙ sym (edge_out (left s) (many c k) [] m) in (
      omega (arith, m, size_of-one (many c k)),
      q.1 ∙ ap₂ after (none-whole (left t) k l) p.1 ∙ after-after 0 (size_of (many i k ∷ [])) s ∙ ap (λ (j : ℕ). after j s) w,
      q.2 ∙ ap₂ (λ (x : Stream) (j : ℕ). x.front.fault j) p.1 (first_edge (left t) k l) ∙ ap s.front.fault g,
    )
