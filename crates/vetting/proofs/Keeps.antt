-- What a set stores keeps the rules.
use Rattle.std.proofs.Common.{◌≡◌, ℕ, ◌+◌, ◌-◌, ◌*◌, ◌/◌, ◌%◌, ◌^◌, ◌<◌, ◌≤◌, false, List, length, get_or, take, drop, None, sym, ap, ◌∙◌, subst, arith}
use Rattle.std.proofs.lemmas.Nat.{mod_below}
use Rattle.std.proofs.lemmas.List.{length-take-le, get_or-drop}
use Rattle.std.proofs.lemmas.Bool.{false_from_ne_true}
use Rattle.bit_block.specs.Raised.{raised}
use Rattle.bit_block.specs.Ranges.{count}
use Rattle.bit_block.specs.Widths.{bits}
use Rattle.packing.specs.declared.Numbers.{Numbers}
use Rattle.packing.specs.Meaning.{k1of, len_of, rank, Sound}
use Rattle.packing.specs.Packed.{before, start}
use Rattle.packing.proofs.Lookups.{len_most, len_fits}
use Rattle.packing.proofs.Selects.{select}
use Rattle.packing.proofs.Starts.{start_in, start_small, field_is, fits_take}
use Rattle.packing.proofs.Unpack.{get_or_singles}
use Rattle.serialization.specs.Stored.{stored, field_at}
use Rattle.vetting.specs.Reloads.{Words64}
use Rattle.vetting.specs.Rules.{bit_in, broken}
use Rattle.vetting.proofs.Broken.{Kept, all_kept}
use Rattle.vetting.proofs.Chosen.{block_at}
use Rattle.vetting.proofs.Stores.{top_all, top_start, row_count, block_count_lem}

module _ (m : Numbers) (ws : List ℕ) (fits : Words64 ws) (s : Sound m ws) where
  -- no level-0 bit is raised past the width
  past : (t : ℕ) → bits m.config.level0 ≤ t → raised m.level0 t ≡ false
  past t l = false_from_ne_true (raised m.level0 t) (λ up. omega (arith, s.wide t up))

  -- the mask of rank r, by the row that has it
  row_held : (r : ℕ) → r < m.n → 0 < count (λ t. bit_in (stored m ws).rows (r * bits m.config.level1 + t)) (bits m.config.level1)
  row_held r l =
      let a = select (raised m.level0) 256 r (omega (arith, s.rows)) in
      subst (λ (x : ℕ). 0 < count (λ t. bit_in (stored m ws).rows (x * bits m.config.level1 + t)) (bits m.config.level1)) a.ranked
      (subst (λ (x : ℕ). 0 < x) (row_count m ws s.rows s.counts a.place a.below a.passes) (s.rows_held a.place a.passes))

  -- the block of rank b, by the place that has it
  block_held : (b : ℕ) → b < m.d → 0 < count (λ t. bit_in (stored m ws).blocks (b * bits m.config.«data» + t)) (bits m.config.«data»)
  block_held b l =
      let a = block_at m ws fits s.rows s.counts b l in
      let r : rank m ws a.row a.column < m.d = omega (arith, a.ranked) in
      subst (λ (x : ℕ). 0 < count (λ t. bit_in (stored m ws).blocks (x * bits m.config.«data» + t)) (bits m.config.«data»)) a.ranked
      (subst (λ (x : ℕ). 0 < x) (block_count_lem m ws s.rows s.counts a.row a.column a.is_held r) (s.blocks_held a.row a.column a.is_held))

  -- the level-1 words are all there
  fit : len_of m ≤ length ws
  fit = len_fits m ws s.rows s.counts

  -- there are as many of them as are said
  long : length (take (len_of m) ws) ≡ len_of m
  long = length-take-le (len_of m) ws fit

  -- each start is the field that is stored for it
  start_field : (x : ℕ) → x < len_of m → field_at (drop (len_of m) ws) x ≡ before (take (len_of m) ws) x
  start_field x l =
      let L : List ℕ = take (len_of m) ws in
      let q : ℕ = x / 4 in
      let small : ((y : ℕ) → start L y < 65536) =
      start_small L (fits_take ws (len_of m) fits fit) (omega (arith, long, len_most m ws s.rows s.counts)) in
      ap (λ (y : ℕ). y / 2 ^ (48 - 16 * (x % 4)) % 65536) (get_or-drop (len_of m) ws q 0 ∙ s.starts q (omega arith))
      ∙ field_is L (4 * q) (x % 4) (mod_below x 4 (omega arith)) small
      ∙ ap (start L) (let e : 4 * q + x % 4 ≡ x = omega arith in e)
      ∙ start_in L x (omega (arith, long))

  -- and that is what is stored
  start_kept : (x : ℕ) → x < len_of m → get_or (stored m ws).starts1 x 0 ≡ before (stored m ws).rows x
  start_kept x l = get_or_singles (field_at (drop (len_of m) ws)) (len_of m) x l ∙ start_field x l

  -- the six rules
  kept : Kept m.config (stored m ws)
  unfolding k1of
  kept = record {
    rows = s.rows ∙ sym (top_all m ws past);
    starts0 = λ q _. s.starts0 q ∙ sym (top_start m ws past q);
    rows_held = row_held;
    starts1 = start_kept;
    ones = s.counts.0;
    blocks_held = block_held;
  }

-- no rule is broken by what a set stores
pub sound_kept : (m : Numbers) (ws : List ℕ) → Words64 ws → Sound m ws → broken m.config (stored m ws) ≡ None
sound_kept m ws fits s = all_kept m.config (stored m ws) (kept m ws fits s)
