-- What sharing a configuration says.
use Rattle.std.specs.Prelude.{◌≡◌, ℕ, Bool, true, false, cond, ◌&&◌, is_some, Some, None, Option, ◌==◌, refl}
use Rattle.std.proofs.Common.{sym, ap, ◌∙◌}
use Rattle.std.proofs.lemmas.Bool.{and_parts, eqb-true, false≢true}
use Rattle.bit_block.specs.declared.config.Width.{Width}
use Rattle.bit_block.specs.declared.config.Width.TheVariants.{W64, W128, W256}
use Rattle.bit_block.specs.declared.config.Config.{Config}
use Rattle.bit_block.specs.Widths.{bits, same, shared, live}

-- the width of so many bits
abbrev width : ℕ → Width
width n = cond (n == 64) W64 (cond (n == 128) W128 W256)

-- it is the width itself
width-bits : (a : Width) → width (bits a) ≡ a
width-bits W64 = refl
width-bits W128 = refl
width-bits W256 = refl

-- widths of as many bits are one
bits_inj : (a b : Width) → bits a ≡ bits b → a ≡ b
bits_inj a b e = sym (width-bits a) ∙ ap width e ∙ width-bits b

-- configurations are one where their fields are
config_ext : (a b c a' b' c' : Width) → a ≡ a' → b ≡ b' → c ≡ c' → ◌≡◌ {A = Config} (record { level0 = a; level1 = b; «data» = c }) (record { level0 = a'; level1 = b'; «data» = c' })
config_ext a b c a' b' c' p q r = cc

-- configurations of the same three widths are one
same_is : (c d : Config) → same c d ≡ true → c ≡ d
same_is c d e =
    let p = and_parts (bits c.level0 == bits d.level0 && bits c.level1 == bits d.level1) (bits c.«data» == bits d.«data») e in
    let q = and_parts (bits c.level0 == bits d.level0) (bits c.level1 == bits d.level1) p.0 in
    config_ext c.level0 c.level1 c.«data» d.level0 d.level1 d.«data»
    (bits_inj c.level0 d.level0 (eqb-true (bits c.level0) (bits d.level0) q.0))
    (bits_inj c.level1 d.level1 (eqb-true (bits c.level1) (bits d.level1) q.1))
    (bits_inj c.«data» d.«data» (eqb-true (bits c.«data») (bits d.«data») p.1))

-- what is taken under a condition is there only where the condition holds
taken : (b : Bool) (c : Config) → is_some (cond b (Some c) None) ≡ true → (cond b (Some c) None ≡ Some c) × (b ≡ true)
taken true c e = (refl, refl)
taken false c e = absurd (false≢true e)

-- what is shared is the first's
pub shared-left : (x y : Option Config) → live x y ≡ true → shared x y ≡ x
shared-left None y e = absurd (false≢true e)
shared-left (Some c) None e = absurd (false≢true e)
shared-left (Some c) (Some d) e = (taken (same c d) c e).0

-- and the second's
pub shared_right : (x y : Option Config) → live x y ≡ true → shared x y ≡ y
shared_right None y e = absurd (false≢true e)
shared_right (Some c) None e = absurd (false≢true e)
shared_right (Some c) (Some d) e = shared-left (Some c) (Some d) e ∙ ap Some (same_is c d (taken (same c d) c e).1)
