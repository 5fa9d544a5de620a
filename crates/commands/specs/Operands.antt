-- What the operands of commands spell.
use Rattle.std.specs.Prelude.{◌≡◌, ℕ, ◌+◌, ◌-◌, ◌*◌, ◌%◌, ◌<◌, Bool, true, ◌||◌, ◌⊎◌, List, [], ◌∷◌, ◌++◌, length, codes, ◌==◌, slice_index}
use Rattle.std.specs.Int.{IsInRange}
use Rattle.std.specs.Char.{is_ascii_alphanumeric, is_ascii_hexdigit}
use Rattle.bit_block.specs.declared.config.Config.{Config}
use Rattle.bit_block.specs.declared.config.Width.{Width}
use Rattle.bit_block.specs.declared.config.Width.TheVariants.{W64, W128, W256}

-- one or more decimal digits
abbrev pub Decimal : List ℕ → Type 0
Decimal w = (0 < length w) × ((i : ℕ) → i < length w → IsInRange 48 57 (slice_index w i))

-- the number that digits write after n
abbrev pub value_from : ℕ → List ℕ → ℕ
value_from n [] = n
value_from n (c ∷ cs) = value_from (n * 10 + (c - 48)) cs

abbrev pub decimal_value : List ℕ → ℕ
decimal_value w = value_from 0 w

-- a letter, a digit, a hyphen or an underscore
abbrev pub name_byte : ℕ → Bool
name_byte c = is_ascii_alphanumeric c || (c == 45 || c == 95)

-- one or more of those
abbrev pub Name : List ℕ → Type 0
Name w = (0 < length w) × ((i : ℕ) → i < length w → name_byte (slice_index w i) ≡ true)

abbrev pub width_text : Width → List ℕ
width_text W64 = codes "64"
width_text W128 = codes "128"
width_text W256 = codes "256"

-- three widths with slashes between them
abbrev pub config_text : Config → List ℕ
config_text c = width_text c.level0 ++ 47 ∷ (width_text c.level1 ++ 47 ∷ width_text c.«data»)

-- the three configurations that have a name
abbrev pub named : List ℕ → Config → Type 0
named w c =
    ((w ≡ codes "small") × (c ≡ record { level0 = W64; level1 = W64; «data» = W64 }))
    ⊎ ((w ≡ codes "book") × (c ≡ record { level0 = W64; level1 = W64; «data» = W256 }))
    ⊎ ((w ≡ codes "large") × (c ≡ record { level0 = W256; level1 = W256; «data» = W256 }))

-- a configuration by its name or by its three widths
abbrev pub Spells : List ℕ → Config → Type 0
Spells w c = named w c ⊎ (w ≡ config_text c)

-- one or more bytes of two hex digits each
abbrev pub Hex : List ℕ → Type 0
Hex w = (0 < length w) × (length w % 2 ≡ 0) × ((i : ℕ) → i < length w → is_ascii_hexdigit (slice_index w i) ≡ true)

-- the hex digits of bytes: the word itself, and none for a hyphen
abbrev pub HexDigits : List ℕ → List ℕ → Type 0
HexDigits w digits = ((w ≡ codes "-") × (digits ≡ [])) ⊎ (Hex w × (digits ≡ w))
