-- What keeps the rules of what is stored is a set.
use Rattle.std.proofs.Common.{◌≡◌, ℕ, ◌+◌, ◌-◌, ◌*◌, ◌/◌, ◌%◌, ◌^◌, ◌<◌, ◌≤◌, true, false, ltb, List, length, get_or, take, drop, None, sym, ap, ◌∙◌, subst, ap₂, ⊎_elim, arith}
use Rattle.std.proofs.lemmas.List.{length-take-le, get_or-drop, get_or_past}
use Rattle.std.proofs.lemmas.Bool.Decides.{nat_tests}
use Rattle.std.proofs.lemmas.Bool.{le-ltb, cond-false, cases_lt}
use Rattle.bit_block.specs.Raised.{raised}
use Rattle.bit_block.specs.Ranges.{count}
use Rattle.bit_block.specs.Widths.{bits}
use Rattle.bit_block.proofs.Masks.{raised-zero}
use Rattle.bit_block.proofs.Places.{sized}
use Rattle.packing.specs.declared.Numbers.{Numbers}
use Rattle.packing.specs.Meaning.{k1of, kdof, len_of, rank, Rows, Wide, Starts0, RowsHeld, Starts, Counts, BlocksHeld, Sound}
use Rattle.packing.specs.Packed.{start, four, quarter, needed}
use Rattle.packing.proofs.Lookups.{rank_lt}
use Rattle.packing.proofs.Selects.{rank_below, four_fields}
use Rattle.packing.proofs.Starts.{start_in, start-past}
use Rattle.packing.proofs.Unpack.{get_or_singles}
use Rattle.serialization.specs.Stored.{stored, field_at}
use Rattle.vetting.specs.Reloads.{Words64}
use Rattle.vetting.specs.Rules.{broken}
use Rattle.vetting.proofs.Broken.{Kept, none-broken}
use Rattle.vetting.proofs.Stores.{top_all, top_start, held_parts, row_count, block_count_lem}

-- start e of word q
field_at_lem : (xs : List ℕ) (q e : ℕ) → e < 4 → field_at xs (4 * q + e) ≡ get_or xs q 0 / 2 ^ (48 - 16 * e) % 65536
field_at_lem xs q e h =
    ap₂ (λ (a b : ℕ). get_or xs a 0 / 2 ^ (48 - 16 * b) % 65536)
    (let d : (4 * q + e) / 4 ≡ q = omega arith in d) (let d : (4 * q + e) % 4 ≡ e = omega arith in d)

module _ (m : Numbers) (ws : List ℕ) (fits : Words64 ws) (eight : length m.starts ≡ 8)
    (zeros : (q : ℕ) → bits m.config.level0 / 64 ≤ q → get_or m.level0.words q 0 ≡ 0)
    (fields : (x : ℕ) → len_of m ≤ x → x < 4 * quarter (len_of m) → field_at (drop (len_of m) ws) x ≡ 0)
    (room : needed (k1of m) (kdof m) m.n m.d ≤ length ws)
    (k : Kept m.config (stored m ws)) where
  -- no level-0 bit is raised past the width
  past : (t : ℕ) → bits m.config.level0 ≤ t → raised m.level0 t ≡ false
  past t l = raised-zero m.level0 t (zeros (t / 64) (omega arith))

  -- n counts the raised level-0 bits
  rows : Rows m
  rows = k.rows ∙ top_all m ws past

  -- and none of them is past the width
  wide : Wide m
  wide i up = let p = past i in grind (arith, nat_tests, p)

  -- a raised row is below 256
  below : (i : ℕ) → raised m.level0 i ≡ true → i < 256
  below i up = omega (arith, wide i up, (sized m.config.level0).most)

  -- the level-0 starts: those that are stored, and 0 past the eighth
  starts0 : Starts0 m
  starts0 q =
      let w : ℕ = bits m.config.level0 in
      ⊎_elim (λ l. k.starts0 q l ∙ top_start m ws past q)
      (λ l. get_or_past m.starts q 0 (omega arith)
      ∙ sym (cond-false (ltb (q * 64) w) (count (raised m.level0) (q * 64)) 0 (le-ltb (q * 64) w (omega (arith, (sized m.config.level0).most)))))
      (cases_lt q 8)

  -- d counts the raised level-1 bits
  counts : Counts m ws
  unfolding k1of
  counts = (k.ones, room)

  -- row i is the stored mask of its rank
  rows_held : RowsHeld m ws
  rows_held i up =
      subst (λ (x : ℕ). 0 < x) (sym (row_count m ws rows counts i (below i up) up))
      (k.rows_held (count (raised m.level0) i) (omega (arith, rows, rank_below (raised m.level0) i 256 (below i up) up)))

  -- there are as many level-1 words as are said
  long : length (take (len_of m) ws) ≡ len_of m
  long = length-take-le (len_of m) ws (omega (arith, room))

  -- each start that is stored is as defined
  start_at : (x : ℕ) → x < len_of m → field_at (drop (len_of m) ws) x ≡ start (take (len_of m) ws) x
  unfolding k1of
  start_at x l =
      sym (get_or_singles (field_at (drop (len_of m) ws)) (len_of m) x l) ∙ k.starts1 x l ∙ sym (start_in (take (len_of m) ws) x (omega (arith, long)))

  -- each start, and each field past the last, is as defined
  field : (x : ℕ) → x < 4 * quarter (len_of m) → field_at (drop (len_of m) ws) x ≡ start (take (len_of m) ws) x
  field x h =
      let a = start_at x in
      let b = λ (l : len_of m ≤ x). fields x l h in
      let p = start-past (take (len_of m) ws) x in
      grind (arith, nat_tests, a, b, p, long)

  module _ (q : ℕ) (l : q < quarter (len_of m)) where
    -- field e of word q is start 4 q + e
    part : (e : ℕ) → e < 4 → get_or ws (len_of m + q) 0 / 2 ^ (48 - 16 * e) % 65536 ≡ start (take (len_of m) ws) (4 * q + e)
    part e h =
        ap (λ (x : ℕ). x / 2 ^ (48 - 16 * e) % 65536) (sym (get_or-drop (len_of m) ws q 0))
        ∙ sym (field_at_lem (drop (len_of m) ws) q e h) ∙ field (4 * q + e) (omega arith)

  -- a word is its four fields put together
  starts : Starts m ws
  unfolding four
  starts q l =
      let S : ℕ → ℕ = start (take (len_of m) ws) in
      let first : S (4 * q + 0) ≡ S (4 * q) = ap S (let e : 4 * q + 0 ≡ 4 * q = omega arith in e) in
      four_fields (get_or ws (len_of m + q) 0) (fits (len_of m + q))
      ∙ ap₂ (λ (x y : ℕ). x * 65536 + y)
      (ap₂ (λ (x y : ℕ). x * 65536 + y)
      (ap₂ (λ (x y : ℕ). x * 65536 + y) (part q l 0 (omega arith) ∙ first) (part q l 1 (omega arith)))
      (part q l 2 (omega arith)))
      (part q l 3 (omega arith))

  -- block (i, j) is the stored block of its rank
  blocks_held : BlocksHeld m ws
  blocks_held i j h =
      let p = held_parts m ws i j h in
      let r : rank m ws i j < m.d = rank_lt m ws rows counts i (below i p.0) p.0 j p.1 fits p.2 in
      subst (λ (x : ℕ). 0 < x) (sym (block_count_lem m ws rows counts i j h r)) (k.blocks_held (rank m ws i j) r)

  -- all the rules of a set
  sound : Sound m ws
  sound = record { rows = rows; wide = wide; starts0 = starts0; rows_held = rows_held; starts = starts; counts = counts; blocks_held = blocks_held }

-- numbers and words of which no rule is broken are a set, where the words suffice and what is not stored is 0
pub kept_sound : (m : Numbers) (ws : List ℕ) → Words64 ws → length m.starts ≡ 8
    → ((q : ℕ) → bits m.config.level0 / 64 ≤ q → get_or m.level0.words q 0 ≡ 0)
    → ((x : ℕ) → len_of m ≤ x → x < 4 * quarter (len_of m) → field_at (drop (len_of m) ws) x ≡ 0)
    → needed (k1of m) (kdof m) m.n m.d ≤ length ws
    → broken m.config (stored m ws) ≡ None → Sound m ws
kept_sound m ws fits eight zeros fields room e = sound m ws fits eight zeros fields room (none-broken m.config (stored m ws) e)
