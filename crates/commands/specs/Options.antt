-- The options of a command that loads.
use Rattle.std.specs.Prelude.{◌≡◌, ℕ, ◌^◌, ◌<◌, ◌⊎◌, List, [], ◌∷◌, ◌++◌, codes, Some, None}
use Rattle.std.specs.Borrow.{Bor}
use Rattle.commands.specs.declared.options.LoadOptions.{LoadOptions}
use Rattle.commands.specs.Operands.{Decimal, decimal_value}

-- nothing is asked for
abbrev pub no_options : LoadOptions
no_options = record { words = None; limit = None; device = None }

-- digits give a number of words, where none was given
abbrev pub AddsWords : LoadOptions → List ℕ → LoadOptions → Type 0
AddsWords o digits p = (o.words ≡ None) × Decimal digits × (decimal_value digits < 2 ^ 64) × (p ≡ record { words = Some (decimal_value digits); limit = o.limit; device = o.device })

-- they give a limit
abbrev pub AddsLimit : LoadOptions → List ℕ → LoadOptions → Type 0
AddsLimit o digits p = (o.limit ≡ None) × Decimal digits × (decimal_value digits < 2 ^ 64) × (p ≡ record { words = o.words; limit = Some (decimal_value digits); device = o.device })

-- they give a device's code, of 16 bits
abbrev pub AddsDevice : LoadOptions → List ℕ → LoadOptions → Type 0
AddsDevice o digits p = (o.device ≡ None) × Decimal digits × (decimal_value digits < 2 ^ 16) × (p ≡ record { words = o.words; limit = o.limit; device = Some (decimal_value digits) })

-- a word gives an option that had not been given
abbrev pub Adds : LoadOptions → List ℕ → LoadOptions → Type 0
Adds o word p = (digits : List ℕ) ×
    (((word ≡ codes "words=" ++ digits) × AddsWords o digits p)
    ⊎ ((word ≡ codes "limit=" ++ digits) × AddsLimit o digits p)
    ⊎ ((word ≡ codes "device=" ++ digits) × AddsDevice o digits p))

-- words give options on top of others, one after another
abbrev pub SpellsOptions : LoadOptions → List (Bor (List ℕ)) → LoadOptions → Type 0
SpellsOptions o [] p = o ≡ p
SpellsOptions o (word ∷ words) p = (q : LoadOptions) × Adds o word.now q × SpellsOptions q words p
