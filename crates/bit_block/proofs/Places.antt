-- The three indices of a position, by shifts.
use Rattle.std.proofs.Common.{◌≡◌, ℕ, ◌+◌, ◌-◌, ◌*◌, ◌/◌, ◌%◌, ◌^◌, ◌<◌, ◌≤◌, sym, refl, ap, ◌∙◌, arith}
use lib.Bits.{bit_and, and_mask}
use Rattle.std.proofs.lemmas.Nat.{pow-add, field_of, one_shl}
use Rattle.bit_block.specs.declared.config.Width.{Width}
use Rattle.bit_block.specs.declared.config.Width.TheVariants.{W64, W128, W256}
use Rattle.bit_block.specs.Widths.{bits, exponent}

-- a width is a power of two
pub bits_pow : (x : Width) → bits x ≡ 2 ^ exponent x
bits_pow W64 = refl
bits_pow W128 = refl
bits_pow W256 = refl

-- a width is at least 64, at most 256, and whole words
pub record Sized (n : ℕ) : Type 0 where
  pub least : 64 ≤ n
  pub most : n ≤ 256
  pub whole : n / 64 * 64 ≡ n

pub sized : (x : Width) → Sized (bits x)
sized W64 = record { least = omega arith; most = omega arith; whole = refl }
sized W128 = record { least = omega arith; most = omega arith; whole = refl }
sized W256 = record { least = omega arith; most = omega arith; whole = refl }

small : (x : Width) → exponent x < 64
small W64 = omega arith
small W128 = omega arith
small W256 = omega arith

module _ (l d : Width) (x y p : ℕ) (ex : x ≡ exponent l) (ey : y ≡ exponent d) where
  wide : bits l ≡ 2 ^ x
  wide = bits_pow l ∙ ap (λ (e : ℕ). 2 ^ e) (sym ex)

  deep : bits d ≡ 2 ^ y
  deep = bits_pow d ∙ ap (λ (e : ℕ). 2 ^ e) (sym ey)

  block : bits l * bits d ≡ 2 ^ (x + y)
  block = ap (λ (n : ℕ). n * bits d) wide ∙ ap (λ (n : ℕ). 2 ^ x * n) deep ∙ sym (pow-add 2 x y)

  -- the ones below 2 ^ e, as code writes them
  ones_mask : (n e : ℕ) → e < 64 → bit_and n (1 * 2 ^ e % 2 ^ 64 - 1) ≡ n % 2 ^ e
  ones_mask n e h = ap (λ (z : ℕ). bit_and n (z - 1)) (one_shl e 64 h) ∙ and_mask n e

  pub shift0 : p / 2 ^ (x + y) ≡ p / (bits l * bits d)
  shift0 = ap (λ (n : ℕ). p / n) (sym block)

  pub shift1 : bit_and (p / 2 ^ y) (1 * 2 ^ x % 2 ^ 64 - 1) ≡ p % (bits l * bits d) / bits d
  shift1 =
      ones_mask (p / 2 ^ y) x (omega (arith, ex, small l))
      ∙ sym (field_of p x y)
      ∙ ap (λ (n : ℕ). p % n / 2 ^ y) (sym block)
      ∙ ap (λ (n : ℕ). p % (bits l * bits d) / n) (sym deep)

  pub shift_d : bit_and p (1 * 2 ^ y % 2 ^ 64 - 1) ≡ p % bits d
  shift_d = ones_mask p y (omega (arith, ey, small d)) ∙ ap (λ (n : ℕ). p % n) (sym deep)
