use Rattle.std.proofs.Common.{◌≡◌, ℕ, ◌+◌, ◌*◌, ◌/◌, ◌<◌, ◌≤◌, ap₂, arith}
use Rattle.packing.specs.Meaning.{k1-whole, len_of, word_place}
use Rattle.packing.proofs.Lookups.{len_most, place_lt}
use Rattle.immutable_bitset.proofs.Places.{low}
use Rattle.immutable_bitset.proofs.lookup.Filled.word_place.Goals as goal

-- it stands within the level-1 words, which are few
within : (c : goal.After-level1_words)
    → (c.row_rank.result * c.level1_words.result + c.args.j / 64 ≡ word_place c.args.self.now.numbers.now c.args.i c.args.j)
    × (word_place c.args.self.now.numbers.now c.args.i c.args.j < len_of c.args.self.now.numbers.now) × (len_of c.args.self.now.numbers.now ≤ 1024)
within c =
    let m = c.args.self.now.numbers.now in
    let s = c.args.self.now.sound in (
      ap₂ (λ (x k : ℕ). x * k + c.args.j / 64) c.row_rank.ensures c.level1_words.ensures,
      place_lt m _ s.rows s.counts c.args.i (low m _ s c.args.i c.requires.row) c.requires.row c.args.j (omega (arith, c.requires.wide, (k1-whole m).0)),
      len_most m _ s.rows s.counts,
    )

pub overflow_mul-result : goal.overflow_mul-result
overflow_mul-result c = omega (arith, within c)

pub overflow_add-result : goal.overflow_add-result
overflow_add-result c = omega (arith, within c)

pub returns : goal.returns
returns c = record { is = (within c).0; within = omega (arith, within c) }
