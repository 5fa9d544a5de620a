use Rattle.std.proofs.Common.{◌≡◌, ℕ, ◌+◌, ◌/◌, ◌%◌, ◌^◌, ◌≤◌, get_or, drop, Some, None, sym, refl, ap, ◌∙◌, subst, arith, rules}
use lib.Count.{count_trailing_zeros}
use Rattle.std.proofs.lemmas.Nat.{div-add-mod'}
use Rattle.bit_block.specs.Bit.{Least}
use Rattle.bit_block.specs.Raised.{raised}
use Rattle.bit_block.proofs.Masks.{raised-past, rest_none, rest_some}
use Rattle.bit_block.proofs.Later.{some, position_least, later_none, later_some}
use Rattle.bit_block.proofs.mask.Mask.first_from.Goals as goal

pub returns-in_err-rest : goal.returns-in_err-rest
returns-in_err-rest c =
    let past : 4 ≤ c.args.k / 64 = search rules in
    rw c.from_residual.ensures (λ t h. raised-past c.args.self t (search rules) (omega (arith, past, h)))

pub returns-then-rest-ne0 : goal.returns-then-rest-ne0
returns-then-rest-ne0 c =
    let w : ℕ = get_or c.args.self.words (c.args.k / 64) 0 in
    let is : c.in_ok-rest.field-0.now ≡ w = search rules in
    let some : w / 2 ^ (c.args.k % 64) ≡ 0 → ⊥ = λ e. c.if-rest-ne0.true (ap (λ (x : ℕ). x / 2 ^ (c.args.k % 64)) is ∙ e) in
    rw is (subst (λ (x : ℕ). Least (raised c.args.self) x (Some (x + count_trailing_zeros 64 (w / 2 ^ (c.args.k % 64)))))
    (div-add-mod' c.args.k 64)
    (rest_some c.args.self (c.args.k / 64) (c.args.k % 64) (omega arith) (search rules) (omega (arith, some))))

pub returns-in_err-w : goal.returns-in_err-w
returns-in_err-w c =
    let w : ℕ = get_or c.args.self.words (c.args.k / 64) 0 in
    let is : c.in_ok-rest.field-0.now ≡ w = search rules in
    let zero : w / 2 ^ (c.args.k % 64) ≡ 0 = ap (λ (x : ℕ). x / 2 ^ (c.args.k % 64)) (sym is) ∙ c.if-rest-ne0.false in
    rw c.from_residual-in_err-w.ensures
    (later_none c.args.self (c.args.k / 64 + 1) c.args.k (omega arith)
    (λ t low high. rest_none c.args.self (c.args.k / 64) (c.args.k % 64) (omega arith) (search rules) zero t (omega arith) (omega arith))
    (position_least some (drop (c.args.k / 64 + 1) c.args.self.words) refl None c.in_err-w.ensures))

pub returns : goal.returns
returns c =
    let w : ℕ = get_or c.args.self.words (c.args.k / 64) 0 in
    let is : c.in_ok-rest.field-0.now ≡ w = search rules in
    let zero : w / 2 ^ (c.args.k % 64) ≡ 0 = ap (λ (x : ℕ). x / 2 ^ (c.args.k % 64)) (sym is) ∙ c.if-rest-ne0.false in
    later_some c.args.self (c.args.k / 64 + 1) c.args.k (omega arith)
    (λ t low high. rest_none c.args.self (c.args.k / 64) (c.args.k % 64) (omega arith) (search rules) zero t (omega arith) (omega arith))
    c.in_ok-w.field-0 (search rules)
    (position_least some (drop (c.args.k / 64 + 1) c.args.self.words) refl (Some c.in_ok-w.field-0) c.in_ok-w.ensures)
