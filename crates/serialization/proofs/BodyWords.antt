-- The words that the fields behind level 0 give.
use Rattle.std.proofs.Common.{◌≡◌, ℕ, ◌+◌, ◌-◌, ◌*◌, ◌/◌, ◌<◌, ◌≤◌, Bool, true, false, cond, List, [], ◌∷◌, ◌++◌, length, take, drop, None, Ok, Err, Result, sym, refl, ap, ◌∙◌, subst, ap₂, arith, length-drop}
use borrow.Rule.Slice.PartMut.{put_mid}
use Rattle.std.proofs.Math.Nat.{mul-div_left}
use Rattle.std.proofs.lemmas.Bool.Decides.{nat_tests}
use Rattle.std.proofs.lemmas.List.{take_all, drop-drop, length-take-le, length-append}
use Rattle.bit_block.specs.declared.config.Width.{Width}
use Rattle.bit_block.proofs.Places.{sized}
use Rattle.packing.specs.Meaning.{k1of, kdof, len_of}
use Rattle.packing.specs.Packed.{quarter, needed}
use Rattle.packing.specs.Wrote.{Wrote}
use Rattle.packing.specs.declared.Numbers.{Numbers}
use Rattle.packing.proofs.Lengths.{length_singles}
use Rattle.packing.proofs.Writes.{wrote_then, wrote_over, wrote_as}
use Rattle.reader.specs.Fields.{Run, Took, Gives, many, size_of}
use Rattle.reader.specs.LittleEndian.{numbers}
use Rattle.reader.specs.Streams.{Stream}
use Rattle.reader.proofs.Fieldings.{after_none, size_of-append, size_of-one}
use Rattle.serialization.specs.Bodies.{masks_in, MasksRead, start_words_in, starts_in, starts_behind, blocks_behind, needed_of, level1_in, blocks_in, suffice, level1_fields, block_fields, body_fields, BodyRead}
use Rattle.serialization.specs.Fieldwise.{least, Starts16}
use Rattle.serialization.specs.Layout.{size, words, padding, starts1_end, rest_fields}

-- what an answer gives gives more
pub gives_along : {A E : Type 0} (r : Result A E) (P Q : A → Type 0) → ((x : A) → P x → Q x) → Gives r P → Gives r Q
gives_along (Ok x) P Q f h = f x h
gives_along (Err e) P Q f h = tt

-- a mask has words
words_some : (w : Width) → 0 < words w
words_some w = omega (arith, (sized w).least)

-- words of whole masks
pub masks_whole : (w : Width) (n k : ℕ) → k ≡ n * words w → masks_in w k ≡ n
masks_whole w n k e = ap (λ (x : ℕ). x / words w) e ∙ mul-div_left n (words_some w)

-- all of them are read
pub masks_all : (w : Width) (n : ℕ) (xs old new : List ℕ) → length old ≡ n * words w → MasksRead w xs old new → new ≡ numbers 8 (n * words w) xs
masks_all w n xs old new e p =
    let z : masks_in w (length old) * words w ≡ n * words w = ap (λ (q : ℕ). q * words w) (masks_whole w n (length old) e) in
    sym (take_all (masks_in w (length old) * words w) new (omega (arith, p.long, e, z))) ∙ p.front ∙ ap (λ (q : ℕ). numbers 8 q xs) z

-- the words of starts are so many
length_starts : (count n : ℕ) (xs : List ℕ) → length (start_words_in count xs n) ≡ n
length_starts count n xs = length_singles _ n

-- level 1: the masks, and behind them their starts
pub level1_written : (m : Numbers) (L ds : ℕ) (xs ys ws rows starts : List ℕ) → L ≡ len_of m → ds ≡ len_of m + quarter (len_of m) → needed_of m ≤ length ws
    → MasksRead m.config.level1 xs (take L ws) rows → ys ≡ drop (starts_behind m) xs → starts ≡ start_words_in L ys (length (take (ds - L) (drop L (rows ++ drop L ws))))
    → Wrote ws (put_mid L (ds - L) (rows ++ drop L ws) starts) 0 (level1_in m xs) (len_of m + quarter (len_of m))
unfolding k1of
level1_written m L ds xs ys ws rows starts e f h p y s =
    let l : length (take L ws) ≡ L = length-take-le L ws (omega (arith, e, h)) in
    let r : rows ≡ numbers 8 (len_of m) xs = masks_all m.config.level1 m.n xs (take L ws) rows (l ∙ e) p in
    let lr : length rows ≡ L = omega (arith, p.long, l) in
    let a : Wrote ws (rows ++ drop L ws) 0 rows (0 + L) = wrote_over ws rows 0 L lr (omega (arith, e, h)) in
    let q : ds - L ≡ quarter L = omega (arith, e, f) in
    let t : length (take (ds - L) (drop L (rows ++ drop L ws))) ≡ quarter L =
    length-take-le (ds - L) (drop L (rows ++ drop L ws)) (omega (arith, length-drop L (rows ++ drop L ws), a.long, e, f, h)) ∙ q in
    let st : starts ≡ start_words_in L ys (quarter L) = s ∙ ap (start_words_in L ys) t in
    let ls : length starts ≡ ds - L = ap length st ∙ length_starts L (quarter L) ys ∙ sym q in
    let b : Wrote (rows ++ drop L ws) (put_mid L (ds - L) (rows ++ drop L ws) starts) L starts (L + (ds - L)) = wrote_over (rows ++ drop L ws) starts L (ds - L) ls (omega (arith, a.long, e, f, h)) in
    let z : 0 + L ≡ L = omega arith in
    let ends : L + (ds - L) ≡ len_of m + quarter (len_of m) = omega (arith, e, f) in
    let words_are : rows ++ starts ≡ level1_in m xs = ap₂ (λ (u v : List ℕ). u ++ v) r (st ∙ ap₂ (λ (n : ℕ) (vs : List ℕ). start_words_in n vs (quarter n)) e y) in
    wrote_as (wrote_then (wrote_as a refl z) b) words_are ends

-- all the level-1 masks are read
pub level1_masks : (m : Numbers) (L : ℕ) (ws : List ℕ) → L ≡ len_of m → needed_of m ≤ length ws → masks_in m.config.level1 (length (take L ws)) ≡ m.n
unfolding k1of
level1_masks m L ws e h = masks_whole m.config.level1 m.n (length (take L ws)) (length-take-le L ws (omega (arith, e, h)) ∙ e)

-- there is room for all of so many starts
least_all : (n : ℕ) → least n (4 * quarter n) ≡ n
least_all n = grind (arith, nat_tests)

-- and all the starts
pub level1_starts : (m : Numbers) (L ds : ℕ) (ws rows : List ℕ) → L ≡ len_of m → ds ≡ len_of m + quarter (len_of m) → needed_of m ≤ length ws → length rows ≡ length (take L ws)
    → least L (4 * length (take (ds - L) (drop L (rows ++ drop L ws)))) ≡ m.n * words m.config.level1
unfolding k1of
level1_starts m L ds ws rows e f h l =
    let lr : length rows ≡ L = l ∙ length-take-le L ws (omega (arith, e, h)) in
    let q : ds - L ≡ quarter L = omega (arith, e, f) in
    let t : length (take (ds - L) (drop L (rows ++ drop L ws))) ≡ quarter L =
    length-take-le (ds - L) (drop L (rows ++ drop L ws)) (omega (arith, length-drop L (rows ++ drop L ws), length-append rows (drop L ws), length-drop L ws, lr, e, f, h)) ∙ q in
    ap (λ (n : ℕ). least L (4 * n)) t ∙ least_all L ∙ e

-- the bytes behind the level-1 masks
pub behind_level1 : (m : Numbers) (s t : Stream) → Took (many m.n (size m.config.level1) ∷ []) s None t → t.front.bytes ≡ drop (starts_behind m) s.front.bytes
behind_level1 m s t p = ap (λ (x : Stream). x.front.bytes) p.1 ∙ ap (λ (n : ℕ). drop n s.front.bytes) (size_of-one (many m.n (size m.config.level1)))

-- the place of the blocks, and their words
block_room : (m : Numbers) (st k : ℕ) (ws : List ℕ) → st ≡ len_of m + quarter (len_of m) → k ≡ kdof m → needed_of m ≤ length ws
    → length (take (st + m.d * k - st) (drop st ws)) ≡ m.d * words m.config.«data»
unfolding kdof
block_room m st k ws e f h =
    let z : m.d * k ≡ m.d * kdof m = ap (λ (n : ℕ). m.d * n) f in
    length-take-le (st + m.d * k - st) (drop st ws) (omega (arith, length-drop st ws, e, z, h)) ∙ (let a : st + m.d * k - st ≡ m.d * k = omega arith in a) ∙ z

-- all the blocks are read
pub block_masks : (m : Numbers) (st k : ℕ) (ws : List ℕ) → st ≡ len_of m + quarter (len_of m) → k ≡ kdof m → needed_of m ≤ length ws
    → masks_in m.config.«data» (length (take (st + m.d * k - st) (drop st ws))) ≡ m.d
block_masks m st k ws e f h = masks_whole m.config.«data» m.d (length (take (st + m.d * k - st) (drop st ws))) (block_room m st k ws e f h)

-- the blocks behind level 1
pub blocks_written : (m : Numbers) (st k : ℕ) (xs ys ws new : List ℕ) → st ≡ len_of m + quarter (len_of m) → k ≡ kdof m → needed_of m ≤ length ws → xs ≡ ys
    → MasksRead m.config.«data» xs (take (st + m.d * k - st) (drop st ws)) new
    → Wrote ws (put_mid st (st + m.d * k - st) ws new) (len_of m + quarter (len_of m)) (blocks_in m ys) (needed_of m)
unfolding kdof
blocks_written m st k xs ys ws new e f h y p =
    let l : length (take (st + m.d * k - st) (drop st ws)) ≡ m.d * words m.config.«data» = block_room m st k ws e f h in
    let is : new ≡ blocks_in m ys = masks_all m.config.«data» m.d xs (take (st + m.d * k - st) (drop st ws)) new l p ∙ ap (blocks_in m) y in
    let z : m.d * k ≡ m.d * kdof m = ap (λ (n : ℕ). m.d * n) f in
    let a : st + m.d * k - st ≡ m.d * k = omega arith in
    let w : Wrote ws (put_mid st (st + m.d * k - st) ws new) st new (st + (st + m.d * k - st)) =
    wrote_over ws new st (st + m.d * k - st) (omega (arith, p.long, l, a, z)) (omega (arith, e, a, z, h)) in
    let ends : st + (st + m.d * k - st) ≡ needed_of m = omega (arith, e, a, z) in
    subst (λ (n : ℕ). Wrote ws (put_mid st (st + m.d * k - st) ws new) n (blocks_in m ys) (needed_of m)) e (wrote_as w is ends)

-- no fields are read already
pub took_none : (s : Stream) → Took [] s None s
unfolding size_of
took_none s = (omega arith, sym (after_none s))

-- so many words suffice, or do not
pub enough_words : (m : Numbers) (k lent : ℕ) → k ≡ needed (words m.config.level1) (words m.config.«data») m.n m.d → k ≤ lent → needed_of m ≤ lent
unfolding k1of kdof
enough_words m k lent e h = omega (arith, e, h)

pub enough : (m : Numbers) (k lent : ℕ) → k ≡ needed (words m.config.level1) (words m.config.«data») m.n m.d → k ≤ lent → suffice m lent ≡ true
unfolding k1of kdof
enough m k lent e h = grind (arith, nat_tests)

pub lacking : (m : Numbers) (k lent : ℕ) → k ≡ needed (words m.config.level1) (words m.config.«data») m.n m.d → lent < k → suffice m lent ≡ false
unfolding k1of kdof
lacking m k lent e h = grind (arith, nat_tests)

-- the bytes behind level 1 and the padding
behind_padding : (m : Numbers) (s t : Stream) → Took (level1_fields m) s None t
    → drop (padding (size m.config.«data») (starts1_end m.config m.n)) t.front.bytes ≡ drop (blocks_behind m) s.front.bytes
behind_padding m s t p =
    let rows : ℕ = starts_behind m + m.n * words m.config.level1 * 2 in
    let pad : ℕ = padding (size m.config.«data») (starts1_end m.config m.n) in
    let z : size_of (level1_fields m) ≡ rows =
    omega (arith, size_of-append (many m.n (size m.config.level1) ∷ []) (many (m.n * words m.config.level1) 2 ∷ []), size_of-one (many m.n (size m.config.level1)), size_of-one (many (m.n * words m.config.level1) 2)) in
    ap (λ (x : Stream). drop pad x.front.bytes) p.1 ∙ ap (λ (n : ℕ). drop pad (drop n s.front.bytes)) z ∙ drop-drop pad rows s.front.bytes

-- all the words
pub body_written : (m : Numbers) (s t : Stream) (old mid new : List ℕ) → suffice m (length old) ≡ true → Took (level1_fields m) s None t
    → Wrote old mid 0 (level1_in m s.front.bytes) (len_of m + quarter (len_of m))
    → Wrote mid new (len_of m + quarter (len_of m)) (blocks_in m (drop (padding (size m.config.«data») (starts1_end m.config m.n)) t.front.bytes)) (needed_of m)
    → BodyRead m s.front.bytes old new
body_written m s t old mid new e p a b =
    let w : Wrote old new 0 (level1_in m s.front.bytes ++ blocks_in m (drop (blocks_behind m) s.front.bytes)) (needed_of m) =
    wrote_then a (wrote_as b (ap (blocks_in m) (behind_padding m s t p)) refl) in
    subst (λ (q : Bool). cond q (Wrote old new 0 (level1_in m s.front.bytes ++ blocks_in m (drop (blocks_behind m) s.front.bytes)) (needed_of m)) (new ≡ old)) (sym e) w

-- words that do not suffice stay as they are
pub body_kept : (m : Numbers) (xs ws : List ℕ) → suffice m (length ws) ≡ false → BodyRead m xs ws ws
body_kept m xs ws e =
    subst (λ (q : Bool). cond q (Wrote ws ws 0 (level1_in m xs ++ blocks_in m (drop (blocks_behind m) xs)) (needed_of m)) (ws ≡ ws)) (sym e) refl

-- where they suffice, all the fields are read; else none
pub fields_all : (m : Numbers) (lent : ℕ) → suffice m lent ≡ true → level1_fields m ++ block_fields m ≡ body_fields m lent
fields_all m lent e = ap (λ (q : Bool). cond q (rest_fields m.config m.n m.d) []) (sym e)

pub fields_none : (m : Numbers) (lent : ℕ) → suffice m lent ≡ false → ◌≡◌ {A = List Run} [] (body_fields m lent)
fields_none m lent e = ap (λ (q : Bool). cond q (rest_fields m.config m.n m.d) []) (sym e)

-- the level-1 starts are numbers of 16 bits
pub small_starts : (m : Numbers) (n : ℕ) (xs ys : List ℕ) → n ≡ m.n * words m.config.level1 → ys ≡ drop (starts_behind m) xs → Starts16 (numbers 2 n ys) → Starts16 (starts_in m xs)
unfolding k1of
small_starts m n xs ys e f h = subst Starts16 (ap₂ (numbers 2) e f) h
