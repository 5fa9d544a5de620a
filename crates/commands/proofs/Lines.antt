-- A line without its end and its comment.
use Rattle.std.proofs.Common.{◌≡◌, ℕ, ◌+◌, ◌-◌, ◌≤◌, suc, zero, Bool, true, false, List, [], ◌∷◌, length, take, drop, get_or, nat_eq, nat_lt, map, ◌++◌, ◌<◌, Bor, Some, None, Option, arith, refl, ap, ◌∙◌, sym, subst, not, rules, tests}
use Rattle.std.specs.Option.{MatchOption, unwrap_or}
use Rattle.std.specs.Cmp.Lexicographic.{pointwise}
use Rattle.std.specs.List.{position, position_or_len, before_first, slice_split}
use Rattle.std.specs.Io.BufRead.{strip_last, ends_with_byte}
use Rattle.std.proofs.lemmas.Grind.{common_steps}
use Rattle.std.proofs.Math.Seq.{take-length, drop-length}
use Rattle.std.proofs.lemmas.List.{take_all, length-drop, get_or-drop, append-nil}
use Rattle.std.proofs.lemmas.List.Sums.{prefix_len-le-length, position_or_len_is, fails_before_first}
use Rattle.std.proofs.lemmas.List.Quantifiers.{position-Some}
use Rattle.std.proofs.lemmas.List.Splits.{slice_split_first, slice_split_none, slice_split-cons_yes}
use Rattle.commands.specs.Lines.{is_blank, words_of}

-- what stands before the first place that passes, where the length stands for none
pub take-position : {X : Type 0} (p : X → Bool) → (xs : List X) → take (unwrap_or (position p xs) (length xs)) xs ≡ before_first p xs
take-position p xs = let l : position_or_len p xs ≤ length xs = prefix_len-le-length _ xs in ap (λ n. take n xs) (grind (arith, common_steps))

-- the last byte alone is c where the last byte is
last_alone : (c : ℕ) (s : List ℕ) (n : ℕ) → length s ≡ n + 1 → pointwise nat_eq (drop n s) (c ∷ []) ≡ nat_eq (get_or s n 0) c
last_alone c [] n h = absurd (omega arith)
last_alone c (x ∷ []) zero h = grind (arith, common_steps)
last_alone c (x ∷ []) (suc n) h = absurd (omega arith)
last_alone c (x ∷ (y ∷ s)) zero h = absurd (omega arith)
last_alone c (x ∷ (y ∷ s)) (suc n) h = last_alone c (y ∷ s) n (omega arith)

-- what `strip_suffix` asks of one byte
asks_last : (c : ℕ) (s : List ℕ) → pointwise nat_eq (drop (length s - 1) s) (c ∷ []) ≡ ends_with_byte c s
asks_last c [] = refl
asks_last c (x ∷ s) =
    let some : nat_lt 0 (length (x ∷ s)) ≡ true = grind arith in
    rw some (last_alone c (x ∷ s) (length (x ∷ s) - 1) (omega arith))

-- what is left of a text after `strip_suffix` of one byte, or the text
pub stripped_byte : (c : ℕ) (s : List ℕ) (r : Option (Bor (List ℕ))) (d : Bor (List ℕ)) → d.now ≡ s → MatchOption r (pointwise nat_eq (drop (length s - 1) s) (c ∷ []) ≡ false) (λ x. (pointwise nat_eq (drop (length s - 1) s) (c ∷ []) ≡ true) × (x.now ≡ take (length s - 1) s) × (length x.now + 1 ≡ length s)) → (unwrap_or r d).now ≡ strip_last c s
stripped_byte c s None d e h = rw (sym (asks_last c s) ∙ h) e
stripped_byte c s (Some x) d e h = rw (sym (asks_last c s) ∙ h.0) h.1

-- a blank in front cuts off nothing
blank_first : (x : ℕ) (text : List ℕ) → is_blank x ≡ true → words_of (x ∷ text) ≡ words_of text
blank_first x text e = rw (slice_split-cons_yes is_blank x text e) refl

-- nor do more of them
blanks_first : (text : List ℕ) (n : ℕ) → n ≤ length text → ((k : ℕ) → k < n → is_blank (get_or text k 0) ≡ true) → words_of (drop n text) ≡ words_of text
blanks_first text zero l h = refl
blanks_first [] (suc n) l h = absurd (omega arith)
blanks_first (x ∷ text) (suc n) l h = blanks_first text n (omega arith) (λ k l. h (suc k) (omega arith)) ∙ sym (blank_first x text (h 0 (omega arith)))

-- the words behind a blank
behind_blank : (text : List ℕ) (n : ℕ) → n < length text → is_blank (get_or text n 0) ≡ true → words_of (drop n text) ≡ words_of (drop (suc n) text)
behind_blank [] n l h = absurd (omega arith)
behind_blank (x ∷ text) zero l h = blank_first x text h
behind_blank (x ∷ text) (suc n) l h = behind_blank text n (omega arith) h

-- the test for what is no blank
abbrev pub not_blank : ℕ → Bool
not_blank b = not (is_blank b)

blank_where : (b : ℕ) → not_blank b ≡ false → is_blank b ≡ true
blank_where b h = search (rules, tests)

-- the words of a text are those from its first byte on that is no blank
pub words_from : (text : List ℕ) (n : ℕ) → position not_blank text ≡ Some n → words_of (drop n text) ≡ words_of text
words_from text n e =
    let first = position-Some not_blank text n 0 e in
    blanks_first text n (omega (arith, first.0)) (λ k l. blank_where (get_or text k 0) (first.2 k l))

-- it has none, where it has no such byte
pub words_none : (text : List ℕ) → position not_blank text ≡ None → words_of text ≡ []
words_none text e =
    let far : length text ≤ position_or_len not_blank text = grind (arith, common_steps) in
    sym (blanks_first text (length text) (omega arith) (λ k l. blank_where (get_or text k 0) (fails_before_first not_blank text k 0 (omega (arith, far, l))))) ∙ ap words_of (drop-length text)

-- a text that begins with no blank has a byte before its first blank
pub word_some : (text : List ℕ) (r : Option ℕ) → position is_blank text ≡ r → 0 < length text → not_blank (get_or text 0 0) ≡ true → 0 < unwrap_or r (length text)
word_some text None e l h = l
word_some text (Some zero) e l h = let blank = (position-Some is_blank text 0 0 e).1 in absurd (grind arith)
word_some text (Some (suc n)) e l h = omega arith

-- what stands there is a word, and the others stand behind it
pub words_first : (text : List ℕ) (r : Option ℕ) → position is_blank text ≡ r → 0 < unwrap_or r (length text) → words_of text ≡ take (unwrap_or r (length text)) text ∷ words_of (drop (unwrap_or r (length text)) text)
words_first text None e l =
    let far : length text ≤ position_or_len is_blank text = grind (arith, common_steps) in
    let one : slice_split is_blank text ≡ text ∷ [] = slice_split_none is_blank text (λ k d l. fails_before_first is_blank text k d (omega (arith, far, l))) in
    rw (one, take-length text, drop-length text) (grind (arith, common_steps))
words_first text (Some n) e l =
    let first = position-Some is_blank text n 0 e in
    let at : position_or_len is_blank text ≡ n = position_or_len_is is_blank text n 0 (omega (arith, first.0)) first.2 (λ _. first.1) in
    let P : ℕ → Type 0 = λ k. slice_split is_blank text ≡ take k text ∷ slice_split is_blank (drop (k + 1) text) in
    let cut = subst P at (slice_split_first is_blank text 0 (omega (arith, first.0, at))) in
    let some : 0 < n = l in
    let one : words_of text ≡ take n text ∷ words_of (drop (n + 1) text) = rw cut (grind (arith, common_steps)) in
    let more : n + 1 ≡ suc n = omega arith in
    let rest : words_of (drop n text) ≡ words_of (drop (n + 1) text) = rw more (behind_blank text n first.0 first.1) in
    one ∙ ap (λ ws. take n text ∷ ws) (sym rest)

-- a step of the walk: past the blanks, a word, and the rest
pub words_next : (text : List ℕ) (start end : ℕ) (r : Option ℕ) → position not_blank text ≡ Some start → position is_blank (take (length text - start) (drop start text)) ≡ r → end ≡ unwrap_or r (length (take (length text - start) (drop start text))) → words_of text ≡ take end (take (length text - start) (drop start text)) ∷ words_of (take (length (take (length text - start) (drop start text)) - end) (drop end (take (length text - start) (drop start text))))
words_next text start end r at next is =
    let word = take (length text - start) (drop start text) in
    let same : word ≡ drop start text = take_all (length text - start) (drop start text) (omega (arith, length-drop start text)) in
    let first = position-Some not_blank text start 0 at in
    let here : start + 0 ≡ start = omega arith in
    let begins : not_blank (get_or word 0 0) ≡ true = rw (same, get_or-drop start text 0 0, here) first.1 in
    let some : 0 < length word = rw same (omega (arith, length-drop start text, first.0)) in
    let one = words_first word r next (word_some word r next some begins) in
    let left : take (length word - end) (drop end word) ≡ drop end word = take_all (length word - end) (drop end word) (omega (arith, length-drop end word)) in
    sym (words_from text start at) ∙ ap words_of (sym same) ∙ rw (left, is) one

-- a word more stands behind those found
one_more : (found : List (Bor (List ℕ))) (w : Bor (List ℕ)) (ws : List (List ℕ)) → map (λ w. w.now) (found ++ w ∷ []) ++ ws ≡ map (λ w. w.now) found ++ w.now ∷ ws
one_more [] w ws = refl
one_more (f ∷ found) w ws = ap (λ vs. f.now ∷ vs) (one_more found w ws)

pub found_more : (found grown : List (Bor (List ℕ))) (w : Bor (List ℕ)) (text all : List ℕ) (ws : List (List ℕ)) → grown ≡ found ++ w ∷ [] → words_of text ≡ w.now ∷ ws → map (λ w. w.now) found ++ words_of text ≡ words_of all → map (λ w. w.now) grown ++ ws ≡ words_of all
found_more found grown w text all ws one more so_far = rw one (one_more found w ws ∙ ap (λ vs. map (λ w. w.now) found ++ vs) (sym more) ∙ so_far)

-- those found are all where the rest has none
pub found_all : (found : List (Bor (List ℕ))) (text all : List ℕ) → words_of text ≡ [] → map (λ w. w.now) found ++ words_of text ≡ words_of all → map (λ w. w.now) found ≡ words_of all
found_all found text all none so_far = sym (append-nil _) ∙ ap (λ vs. map (λ w. w.now) found ++ vs) (sym none) ∙ so_far
