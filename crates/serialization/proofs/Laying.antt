-- Numbers laid one more, and where paddings and masks end.
use Rattle.std.proofs.Common.{◌≡◌, ℕ, ◌+◌, ◌*◌, [], ◌∷◌, ◌++◌, List, length, replicate, sym, refl, ap, ◌∙◌, arith}
use Rattle.std.proofs.lemmas.List.{append-nil, length-replicate}
use Rattle.bit_block.specs.declared.config.Width.{Width}
use Rattle.reader.specs.LittleEndian.{bytes, laid}
use Rattle.reader.proofs.LittleEndians.{laid-append}
use Rattle.serialization.specs.Layout.{size, words, padding}
use Rattle.serialization.specs.Writing.{Puts}
use Rattle.serialization.specs.declared.write.Cursor.{Cursor}
use Rattle.serialization.proofs.Lengths.{length_masks}

-- no numbers have no bytes
pub laid_none : (k : ℕ) → laid k [] ≡ []
unfolding laid
laid_none k = refl

-- one number has its bytes
laid-one : (k v : ℕ) → laid k (v ∷ []) ≡ bytes k v
unfolding laid
laid-one k v = append-nil (bytes k v)

-- one number more
pub laid_more : (k v : ℕ) (xs : List ℕ) → laid k xs ++ bytes k v ≡ laid k (xs ++ v ∷ [])
laid_more k v xs = ap (λ (ys : List ℕ). laid k xs ++ ys) (sym (laid-one k v)) ∙ sym (laid-append k xs (v ∷ []))

-- where a padding ends
pub padded : (w : Width) (base : ℕ) {o n : Cursor} → o.at ≡ base → Puts o n (replicate (padding (size w) o.at) 0) → n.at ≡ base + padding (size w) base
padded w base {o} {n} e p = omega (arith, e, p.wrote.to, length-replicate {A = ℕ} (padding (size w) o.at) 0, ap (padding (size w)) e)

-- where the words of k masks end
pub masked : (w : Width) (k : ℕ) (xs : List ℕ) {o n : Cursor} → length xs ≡ k * words w → Puts o n (laid 8 xs) → n.at ≡ o.at + k * size w
masked w k xs {o} {n} e p = omega (arith, p.wrote.to, length_masks w k xs e)
