-- Bytes taken from a reader.
use Rattle.std.proofs.Common.{◌≡◌, ℕ, ◌+◌, ◌-◌, ◌≤◌, Bool, cond, ltb, List, take, drop, sym, ap, ◌∙◌, ap₂, arith}
use mathlib.Core.Path.{fun_ext}
use Rattle.std.proofs.lemmas.List.{drop-take}
use Rattle.std.proofs.lemmas.Bool.Decides.{nat_tests}
use Rattle.reader.specs.declared.fault.ReadFault.{ReadFault}
use Rattle.reader.specs.declared.fault.ReadFault.TheVariants.{Short}
use Rattle.reader.specs.Streams.{Coming, past}
use Rattle.reader.specs.Reads.{limited}

-- a limit behind its first n bytes
limit_tests : (m n k : ℕ) → n ≤ m → ltb (m - n) k ≡ ltb m (n + k)
limit_tests m n k h = grind (arith, nat_tests)

pub past-limited : (m n : ℕ) (c : Coming) → n ≤ m → limited (m - n) (past n c) ≡ past n (limited m c)
past-limited m n c h =
    let e : n + (m - n) ≡ m = omega arith in
    let b : take (m - n) (drop n c.bytes) ≡ drop n (take m c.bytes) = sym (drop-take n (m - n) c.bytes) ∙ ap (λ (k : ℕ). drop n (take k c.bytes)) e in
    let f : (λ k. cond (ltb (m - n) k) Short (c.fault (n + k))) ≡ (λ k. cond (ltb m (n + k)) Short (c.fault (n + k))) = fun_ext (λ k. ap (λ (t : Bool). cond t Short (c.fault (n + k))) (limit_tests m n k h)) in
    ap₂ (λ (x : List ℕ) (y : ℕ → ReadFault). record { bytes = x; fault = y }) b f
