-- Widths, capacity, the three indices of a position, and the configuration that two sources share. No configuration is void.
use Rattle.std.specs.Prelude.{ℕ, ◌*◌, ◌/◌, ◌%◌, Bool, cond, ◌&&◌, is_some, Some, None, Option, ◌==◌}
use Rattle.bit_block.specs.declared.config.Width.{Width}
use Rattle.bit_block.specs.declared.config.Width.TheVariants.{W64, W128, W256}
use Rattle.bit_block.specs.declared.config.Config.{Config}

abbrev pub bits : Width → ℕ
bits W64 = 64
bits W128 = 128
bits W256 = 256

-- the power of two that a width is
abbrev pub exponent : Width → ℕ
exponent W64 = 6
exponent W128 = 7
exponent W256 = 8

-- the widths of a configuration, 0 where it is void
abbrev pub w0 : Option Config → ℕ
w0 None = 0
w0 (Some c) = bits c.level0

abbrev pub w1 : Option Config → ℕ
w1 None = 0
w1 (Some c) = bits c.level1

abbrev pub wd : Option Config → ℕ
wd None = 0
wd (Some c) = bits c.«data»

-- the positions of a configuration are those below its capacity
abbrev pub capacity : Option Config → ℕ
capacity o = w0 o * (w1 o * wd o)

-- the level-0 index, the level-1 index and the bit of position p
abbrev pub index0 : Option Config → ℕ → ℕ
index0 o p = p / (w1 o * wd o)

abbrev pub index1 : Option Config → ℕ → ℕ
index1 o p = p % (w1 o * wd o) / wd o

abbrev pub index_d : Option Config → ℕ → ℕ
index_d o p = p % wd o

-- whether two configurations have the same three widths
abbrev pub same : Config → Config → Bool
same c d = (bits c.level0 == bits d.level0 && bits c.level1 == bits d.level1) && bits c.«data» == bits d.«data»

-- the configuration that both have; void where they differ or one is void
abbrev pub shared : Option Config → Option Config → Option Config
shared None o = None
shared (Some c) None = None
shared (Some c) (Some d) = cond (same c d) (Some c) None

-- whether both have one configuration
abbrev pub live : Option Config → Option Config → Bool
live x y = is_some (shared x y)
