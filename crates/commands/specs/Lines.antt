-- What is read of a line of a script, and its words.
use Rattle.std.specs.Prelude.{ℕ, Bool, not, ◌||◌, ◌==◌, List, length, filter}
use Rattle.std.specs.List.{before_first, slice_split}
use Rattle.std.specs.Io.BufRead.{strip_last}

-- a line without its line end, a carriage return before that, and what begins at the first number sign
abbrev pub command_bytes : List ℕ → List ℕ
command_bytes line = before_first (λ b. b == 35) (strip_last 13 (strip_last 10 line))

-- blanks and tabs separate words
abbrev pub is_blank : ℕ → Bool
is_blank b = b == 32 || b == 9

-- what stands between them, without what is empty
abbrev pub words_of : List ℕ → List (List ℕ)
words_of text = filter (λ w. not (length w == 0)) (slice_split is_blank text)
