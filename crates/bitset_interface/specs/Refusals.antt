-- Refusals: each case of an error by its number and the values that it carries.
use Rattle.std.specs.Prelude.{ℕ, Bool, cond, List, Some, None, Option}

pub record Refusal : Type 0 where
  pub number : ℕ
  pub values : List ℕ

-- accepted under a test, refused otherwise
abbrev pub unless : Bool → Refusal → Option Refusal
unless ok r = cond ok None (Some r)
