use Rattle.std.proofs.Common.{ℕ, length, ◌+◌, ◌*◌, ◌%◌, ◌<◌, ◌≤◌, get_or, sym, ap, ◌∙◌, arith}
use Rattle.bit_block.specs.Bit.{bit_of}
use Rattle.bit_block.proofs.Counting.{count_le}
use Rattle.packing.specs.Meaning.{kdof, k1-whole}
use Rattle.packing.proofs.Lookups.{len_fits, not_row, not_wide, not_bit, bit_yes, bit_no}
use Rattle.immutable_bitset.proofs.Places.{none, place_fits, answer}
use Rattle.immutable_bitset.proofs.lookup.Filled.place_of.Goals as goal

pub returns-then-not-get_bit : goal.returns-then-not-get_bit
returns-then-not-get_bit c =
    record { fits = tt; is = none c.args.self.now.numbers.now c.args.self.now.words.now c.args.i c.args.j (not_row _ _ _ _ (sym c.if-not-get_bit.ensures)) }

pub returns-then-j-bits : goal.returns-then-j-bits
returns-then-j-bits c =
    let m = c.args.self.now.numbers.now in
    record { fits = tt; is = none m c.args.self.now.words.now c.args.i c.args.j (not_wide m _ _ _ (omega (arith, c.if-j-bits.true, c.bits.ensures, (k1-whole m).0))) }

-- the word is there
there : (c : goal.After-word_place-m) → c.word_place-m.result < length c.args.self.now.words.now
there c = let s = c.args.self.now.sound in omega (arith, c.word_place-m.ensures.within, len_fits c.args.self.now.numbers.now _ s.rows s.counts)

pub offset_bounds-self-m : goal.offset_bounds-self-m
offset_bounds-self-m c = omega (arith, there c)

pub bounds-self-m : goal.bounds-self-m
bounds-self-m c = there c

pub returns-then-word-j-ne1 : goal.returns-then-word-j-ne1
returns-then-word-j-ne1 c =
    let m = c.args.self.now.numbers.now in
    let ws = c.args.self.now.words.now in
    record {
      fits = tt;
      is = none m ws c.args.i c.args.j (not_bit m ws c.args.i c.args.j (
          ap (λ (x : ℕ). bit_of (get_or ws x 0) (c.args.j % 64)) (sym c.word_place-m.ensures.is) ∙ bit_no (get_or ws c.word_place-m.result 0) (c.args.j % 64) c.if-word-j-ne1.true));
    }

pub overflow_add-rank : goal.overflow_add-rank
overflow_add-rank c = omega (arith, c.start_at.ensures.small, c.low_ones.ensures, count_le (bit_of (get_or c.args.self.now.words.now c.word_place-m.result 0)) (c.args.j % 64))

-- the words of the block stand within the words
room : (c : goal.After-data_words) → c.data_start.result + (c.start_at.result + c.low_ones.result) * c.data_words.result + kdof c.args.self.now.numbers.now ≤ length c.args.self.now.words.now
room c =
    let m = c.args.self.now.numbers.now in
    place_fits m c.args.self.now.words.now c.args.self.now.sound c.args.i (sym c.if-not-get_bit.ensures) c.args.j (omega (arith, c.if-j-bits.false, c.bits.ensures, (k1-whole m).0))
    c.word_place-m.result c.word_place-m.ensures.is c.args.self.now.fits (bit_yes _ (c.args.j % 64) c.if-word-j-ne1.false)
    _ _ _ _ c.start_at.ensures.is c.low_ones.ensures c.data_words.ensures c.data_start.ensures

pub overflow_mul-result : goal.overflow_mul-result
overflow_mul-result c = omega (arith, room c)

pub overflow_add-result : goal.overflow_add-result
overflow_add-result c = omega (arith, room c)

pub returns : goal.returns
returns c =
    let m = c.args.self.now.numbers.now in
    record {
      fits = room c;
      is = answer m c.args.self.now.words.now c.args.self.now.sound c.args.i (sym c.if-not-get_bit.ensures) c.args.j (omega (arith, c.if-j-bits.false, c.bits.ensures, (k1-whole m).0))
          c.word_place-m.result c.word_place-m.ensures.is c.args.self.now.fits (bit_yes _ (c.args.j % 64) c.if-word-j-ne1.false)
          _ _ _ _ c.start_at.ensures.is c.low_ones.ensures c.data_words.ensures c.data_start.ensures;
    }
