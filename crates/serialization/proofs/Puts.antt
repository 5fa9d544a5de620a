-- Bytes put into a buffer, one part behind the other.
use Rattle.std.proofs.Common.{◌≡◌, ℕ, ◌+◌, ◌-◌, ◌≤◌, List, [], ◌++◌, length, take, drop, sym, refl, ap, ◌∙◌, arith}
use borrow.Rule.Slice.PartMut.{put_mid, post_of, mid_of, same_len_mid, drop_put}
use Rattle.std.proofs.lemmas.List.{append_assoc, take_at, length-take-le, length-append, length-drop}
use Rattle.packing.specs.Wrote.{Wrote}
use Rattle.packing.proofs.Writes.{wrote_none, wrote_then, wrote_as}
use Rattle.serialization.specs.Writing.{Puts}
use Rattle.serialization.specs.declared.write.Cursor.{Cursor}

-- a part of the buffer replaced by as many bytes
pub wrote_mid : (a : ℕ) (xs ys : List ℕ) → a + length ys ≤ length xs → Wrote xs (put_mid a (a + length ys - a) xs ys) a ys (a + length ys)
wrote_mid a xs ys h =
    let k : ℕ = a + length ys - a in
    let ek : k ≡ length ys = omega arith in
    let lm : length ys ≡ length (mid_of a k xs) = sym (length-take-le k (drop a xs) (omega (arith, length-drop a xs)) ∙ ek) in
    let la : length (take a xs ++ ys) ≡ a + length ys = omega (arith, length-append (take a xs) ys, length-take-le a xs (omega arith)) in
    record {
      to = refl;
      within = h;
      long = same_len_mid a k xs ys lm;
      front = ap (take (a + length ys)) (sym (append_assoc (take a xs) ys (post_of a k xs))) ∙ take_at (take a xs ++ ys) (post_of a k xs) (a + length ys) la;
      rest = drop_put a (a + length ys) xs ys (omega arith) h (sym ek);
    }

-- no bytes
pub puts_none : (o : Cursor) → o.at ≤ length o.buffer.now → Puts o o []
puts_none o h = record { lender = refl; wrote = wrote_none o.buffer.now o.at h }

-- some bytes, and more behind them
pub puts_then : {o m n : Cursor} {xs ys : List ℕ} → Puts o m xs → Puts m n ys → Puts o n (xs ++ ys)
puts_then p q = record { lender = q.lender ∙ p.lender; wrote = wrote_then p.wrote q.wrote }

-- the same bytes in other words
pub puts_as : {o n : Cursor} {xs ys : List ℕ} → Puts o n xs → xs ≡ ys → Puts o n ys
puts_as p e = record { lender = p.lender; wrote = wrote_as p.wrote e refl }
