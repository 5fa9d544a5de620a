-- A source that raises every bit of levels 0 and 1, over any data bits.
use Rattle.std.specs.Prelude.{ℕ, ◌+◌, ◌*◌, Bool, false, ◌&&◌, Option, nat_lt}
use Rattle.std.proofs.lemmas.Bool.{and_parts, ltb-true, false≢true}
use Rattle.bit_block.specs.declared.config.Config.{Config}
use Rattle.bit_block.specs.Widths.{w0, w1, wd}
use Rattle.bitset_interface.specs.Source.{Source, Lawful}

-- every bit of the level-0 mask and of level-1 mask i, as far as the configuration goes
abbrev pub every0 : Option Config → ℕ → Bool
every0 o i = nat_lt i (w0 o)

abbrev pub every1 : Option Config → ℕ → ℕ → Bool
every1 o i j = nat_lt i (w0 o) && nat_lt j (w1 o)

-- all those bits, over data bits f
abbrev pub spread : Option Config → (ℕ → ℕ → ℕ → Bool) → Source
spread o f = record {
  conf = o;
  trust = false;
  up0 = every0 o;
  up1 = every1 o;
  up2 = λ i j k. every1 o i j && (nat_lt k (wd o) && f i j k);
}

pub spread_lawful : (o : Option Config) (f : ℕ → ℕ → ℕ → Bool) → Lawful (spread o f)
spread_lawful o f = record {
  below0 = λ i e. ltb-true i (w0 o) e;
  below1 = λ i j e. ltb-true j (w1 o) (and_parts (nat_lt i (w0 o)) (nat_lt j (w1 o)) e).1;
  below2 = λ i j k e. ltb-true k (wd o) (and_parts (nat_lt k (wd o)) (f i j k) (and_parts (every1 o i j) (nat_lt k (wd o) && f i j k) e).1).0;
  under1 = λ i j e. (and_parts (nat_lt i (w0 o)) (nat_lt j (w1 o)) e).0;
  under2 = λ i j k e. (and_parts (every1 o i j) (nat_lt k (wd o) && f i j k) e).0;
  full0 = λ i t e. absurd (false≢true t);
  full1 = λ i j t e. absurd (false≢true t);
}

-- the position of bit k of block (i, j)
abbrev pub position : Option Config → ℕ → ℕ → ℕ → ℕ
position o i j k = i * (w1 o * wd o) + (j * wd o + k)
