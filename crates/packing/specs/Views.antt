-- The source that packed words and their numbers are.
use Rattle.std.specs.Prelude.{◌≡◌, ℕ, zero, suc, ◌*◌, ◌<◌, Bool, true, false, cond, List, Option, Some, None, nat_lt, refl}
use Rattle.std.specs.Option.{ForSome}
use Rattle.std.proofs.Common.{sym, ap, subst, ⊎_elim, arith}
use Rattle.std.proofs.lemmas.Bool.{and_parts, ltb-true, cases_Bool, false≢true}
use Rattle.bit_block.specs.Raised.{raised}
use Rattle.bit_block.specs.Ranges.{total, count}
use Rattle.bitset_interface.specs.Source.{Source, Lawful}
use Rattle.packing.specs.declared.Numbers.{Numbers}
use Rattle.packing.specs.Meaning.{k1of, kdof, k1-whole, kd-whole, held_at, up_at, Wide, RowsHeld, BlocksHeld}

find_one : (f : ℕ → Bool) (n : ℕ) → 0 < total (λ t. cond (f t) 1 0) n → (t : ℕ) × (f t ≡ true)
unfolding total
find_one f zero h = absurd (omega arith)
find_one f (suc n) h =
    ⊎_elim (λ e. (n, e)) (λ e. find_one f n (omega (arith, h, ap {B = ℕ} (λ (b : Bool). cond b 1 0) e))) (cases_Bool (f n))

-- where a count is not 0 something passes
found : (f : ℕ → Bool) → 0 < count f 256 → (t : ℕ) × (f t ≡ true)
unfolding count
found f h = find_one f 256 h

-- a packed set: trusted, with just the masks that are stored
abbrev pub viewed : Numbers → List ℕ → Source
viewed m ws = record { conf = Some m.config; trust = true; up0 = raised m.level0; up1 = held_at m ws; up2 = up_at m ws }

-- nothing
abbrev pub nothing : Source
nothing = record { conf = None; trust = false; up0 = λ i. false; up1 = λ i j. false; up2 = λ i j k. false }

-- what a set over words is: the packed set where there are numbers, else nothing
abbrev pub set_source : Option Numbers → List ℕ → Source
set_source (Some m) ws = viewed m ws
set_source None ws = nothing

-- they are lawful
pub viewed_lawful : (m : Numbers) (ws : List ℕ) → Wide m → RowsHeld m ws → BlocksHeld m ws → Lawful (viewed m ws)
unfolding held_at
viewed_lawful m ws w r b = record {
  below0 = w;
  below1 = λ i j e. subst (λ (n : ℕ). j < n) (sym (k1-whole m).0) (ltb-true j (k1of m * 64) (and_parts (nat_lt j (k1of m * 64)) _ (and_parts (raised m.level0 i) _ e).1).0);
  below2 = λ i j t e. subst (λ (n : ℕ). t < n) (sym (kd-whole m).0) (ltb-true t (kdof m * 64) (and_parts (nat_lt t (kdof m * 64)) _ (and_parts (held_at m ws i j) _ e).1).0);
  under1 = λ i j e. (and_parts (raised m.level0 i) _ e).0;
  under2 = λ i j t e. (and_parts (held_at m ws i j) _ e).0;
  full0 = λ i _ e. found (held_at m ws i) (r i e);
  full1 = λ i j _ e. found (up_at m ws i j) (b i j e);
}

nothing_lawful : Lawful nothing
nothing_lawful = record {
  below0 = λ i e. absurd (false≢true e);
  below1 = λ i j e. absurd (false≢true e);
  below2 = λ i j t e. absurd (false≢true e);
  under1 = λ i j e. absurd (false≢true e);
  under2 = λ i j t e. absurd (false≢true e);
  full0 = λ i t e. absurd (false≢true t);
  full1 = λ i j t e. absurd (false≢true t);
}

pub set_lawful : (numbers : Option Numbers) (ws : List ℕ) → ForSome numbers Wide → ForSome numbers (λ m. RowsHeld m ws) → ForSome numbers (λ m. BlocksHeld m ws)
    → Lawful (set_source numbers ws)
set_lawful (Some m) ws w r b = viewed_lawful m ws (w m refl) (r m refl) (b m refl)
set_lawful None ws w r b = nothing_lawful
