-- From what each step of loading reads to the set.
use Rattle.std.proofs.Common.{◌≡◌, ℕ, ◌+◌, ◌≤◌, Bool, true, cond, List, ◌++◌, length, get_or, take, drop, Some, None, Option, sym, ap, ◌∙◌, subst, ap₂, arith, length-drop}
use Rattle.std.proofs.lemmas.List.{drop-drop, length-take-le}
use Rattle.bit_block.specs.declared.config.Config.{Config}
use Rattle.packing.specs.Meaning.{Sound}
use Rattle.packing.specs.Packed.{needed}
use Rattle.packing.specs.Wrote.{Wrote}
use Rattle.packing.specs.declared.Numbers.{Numbers}
use Rattle.reader.specs.declared.fault.ReadFault.{ReadFault}
use Rattle.reader.specs.Fields.{Run, Took, size_of}
use Rattle.reader.specs.Streams.{Stream}
use Rattle.reader.proofs.Fieldings.{took_then, took_stop}
use Rattle.serialization.specs.Bodies.{needed_of, starts_in, level1_in, blocks_in, blocks_behind, suffice, body_fields, BodyRead}
use Rattle.serialization.specs.Fieldwise.{mask_in, Starts16, TopIn}
use Rattle.serialization.specs.Image.{n_in, d_in, reading}
use Rattle.serialization.specs.Layout.{size, words, padding, header_size, level0_at, starts0_at, level1_at, header_fields, top_fields, rest_fields, all_fields}
use Rattle.serialization.specs.Stored.{stored}
use Rattle.serialization.specs.declared.fields.Header.{Header}
use Rattle.serialization.proofs.BodyWords.{fields_all}
use Rattle.serialization.proofs.Lengths.{size-header, size_top}
use Rattle.vetting.specs.Outcomes.{words_for}
use Rattle.vetting.specs.Reloads.{Words64}
use Rattle.vetting.specs.Rules.{broken}
use Rattle.vetting.proofs.Kept.{kept_sound}
use Rattle.immutable_bitset.specs.Loads.{LoadedAs}
use Rattle.immutable_bitset.proofs.Restored.{restored, field_past, mask_zeros}

-- the words that the numbers need
pub needed_here : (c : Config) (h : Header) (xs : List ℕ) (m : Numbers) (k : ℕ) → TopIn c h xs m → k ≡ needed (words c.level1) (words c.«data») h.n h.d
    → k ≡ needed (words m.config.level1) (words m.config.«data») m.n m.d
needed_here c h xs m k p e =
    subst (λ (q : Config). k ≡ needed (words q.level1) (words q.«data») m.n m.d) (sym p.conf)
    (e ∙ sym (ap₂ (λ (n d : ℕ). needed (words c.level1) (words c.«data») n d) p.rows_are p.blocks_are))

-- they are as many as the bytes declare
pub words_here : (c : Config) (h : Header) (xs : List ℕ) (k : ℕ) → k ≡ needed (words c.level1) (words c.«data») h.n h.d → h.n ≡ n_in xs → h.d ≡ d_in xs → k ≡ words_for c xs
words_here c h xs k e en ed = e ∙ ap₂ (λ (n d : ℕ). needed (words c.level1) (words c.«data») n d) en ed

-- words that suffice were written
pub body_wrote : (m : Numbers) (xs old new : List ℕ) → suffice m (length old) ≡ true → BodyRead m xs old new
    → Wrote old new 0 (level1_in m xs ++ blocks_in m (drop (blocks_behind m) xs)) (needed_of m)
body_wrote m xs old new e p =
    subst (λ (q : Bool). cond q (Wrote old new 0 (level1_in m xs ++ blocks_in m (drop (blocks_behind m) xs)) (needed_of m)) (new ≡ old)) e p

-- the reader refuses a field of level 0
pub top_refused : (c : Config) (s t1 t2 : Stream) (e : ReadFault) → Took header_fields s None t1 → Took (top_fields c) t1 (Some e) t2
    → Took (all_fields c (n_in s.front.bytes) (d_in s.front.bytes)) s (Some e) t2
top_refused c s t1 t2 e first p =
    took_stop (header_fields ++ top_fields c) (rest_fields c (n_in s.front.bytes) (d_in s.front.bytes)) e s t2 (took_then header_fields (top_fields c) (Some e) s t1 t2 first p)

module _ (c : Config) (h : Header) (s t1 t2 : Stream) (m : Numbers) (en : h.n ≡ n_in s.front.bytes) (ed : h.d ≡ d_in s.front.bytes)
    (first : Took header_fields s None t1) where
  module _ (next : Took (top_fields c) t1 None t2) (p : TopIn c h t1.front.bytes m) (lent : ℕ) (enough : suffice m lent ≡ true) where
    abbrev xs : List ℕ
    xs = s.front.bytes

    -- the numbers are those that the bytes declare
    rows_are : m.n ≡ n_in xs
    rows_are = p.rows_are ∙ en

    blocks_are : m.d ≡ d_in xs
    blocks_are = p.blocks_are ∙ ed

    -- all fields, up to those behind level 0
    pub body_took : (o : Option ReadFault) (t3 : Stream) → Took (body_fields m lent) t2 o t3 → Took (all_fields c (n_in xs) (d_in xs)) s o t3
    body_took o t3 q =
        let a : Took (rest_fields m.config m.n m.d) t2 o t3 = subst (λ (rs : List Run). Took rs t2 o t3) (sym (fields_all m lent enough)) q in
        let b : Took (rest_fields c m.n m.d) t2 o t3 = subst (λ (k : Config). Took (rest_fields k m.n m.d) t2 o t3) p.conf a in
        let d : Took (rest_fields c (n_in xs) m.d) t2 o t3 = subst (λ (n : ℕ). Took (rest_fields c n m.d) t2 o t3) rows_are b in
        took_then (header_fields ++ top_fields c) (rest_fields c (n_in xs) (d_in xs)) o s t2 t3 (took_then header_fields (top_fields c) None s t1 t2 first next)
        (subst (λ (n : ℕ). Took (rest_fields c (n_in xs) n) t2 o t3) blocks_are d)

    -- the bytes behind the header, and behind level 0
    bytes1 : t1.front.bytes ≡ drop 8 xs
    bytes1 = ap (λ (x : Stream). x.front.bytes) first.1 ∙ ap (λ (n : ℕ). drop n xs) size-header

    bytes2 : t2.front.bytes ≡ drop (level1_at c) xs
    bytes2 =
        ap (λ (x : Stream). x.front.bytes) next.1 ∙ ap (drop (size_of (top_fields c))) bytes1 ∙ drop-drop (size_of (top_fields c)) 8 xs
        ∙ ap (λ (n : ℕ). drop n xs) (size_top c)

    -- level 0
    top_is : m.level0.words ≡ mask_in c.level0 (drop (level0_at c) xs)
    top_is =
        p.mask ∙ ap (λ (ys : List ℕ). mask_in c.level0 (drop (padding (size c.level0) header_size) ys)) bytes1
        ∙ ap (mask_in c.level0) (drop-drop (padding (size c.level0) header_size) 8 xs)

    starts_are : m.starts ≡ take 8 (drop (starts0_at c) xs)
    starts_are =
        let k : ℕ = padding (size c.level0) header_size + size c.level0 in
        let e : 8 + k ≡ starts0_at c = omega arith in
        p.starts ∙ ap (λ (ys : List ℕ). take 8 (drop k ys)) bytes1 ∙ ap (take 8) (drop-drop k 8 xs ∙ ap (λ (n : ℕ). drop n xs) e)

    -- there are eight starts
    eight : length m.starts ≡ 8
    unfolding size_of
    eight =
        let k : ℕ = padding (size c.level0) header_size + size c.level0 in
        ap length p.starts ∙ length-take-le 8 (drop k t1.front.bytes) (omega (arith, length-drop k t1.front.bytes, next.0))

    module _ (old ws : List ℕ) (long : length old ≡ lent) (body : Wrote old ws 0 (level1_in m t2.front.bytes ++ blocks_in m (drop (blocks_behind m) t2.front.bytes)) (needed_of m))
        (small : Starts16 (starts_in m t2.front.bytes)) where
      -- the words suffice
      room : needed_of m ≤ length ws
      room = omega (arith, body.within, body.long)

      -- the words are those of the bytes
      front : take (needed_of m) ws ≡ level1_in m t2.front.bytes ++ blocks_in m (drop (blocks_behind m) t2.front.bytes)
      front = body.front

      -- they store what the bytes store
      stores : reading c xs ≡ stored m ws
      stores =
          let e : t2.front.bytes ≡ drop (level1_at m.config) xs = subst (λ (k : Config). t2.front.bytes ≡ drop (level1_at k) xs) (sym p.conf) bytes2 in
          subst (λ (k : Config). reading k xs ≡ stored m ws) p.conf
          (restored m xs ws rows_are blocks_are (subst (λ (k : Config). m.level0.words ≡ mask_in k.level0 (drop (level0_at k) xs)) (sym p.conf) top_is)
          (subst (λ (k : Config). m.starts ≡ take 8 (drop (starts0_at k) xs)) (sym p.conf) starts_are)
          (subst (λ (ys : List ℕ). Starts16 (starts_in m ys)) e small) room
          (subst (λ (ys : List ℕ). take (needed_of m) ws ≡ level1_in m ys ++ blocks_in m (drop (blocks_behind m) ys)) e front))

      pub loaded : LoadedAs c xs m old ws
      loaded = record { conf = p.conf; stores = stores; long = body.long; rest = body.rest }

      -- the rules decide on what the bytes store
      pub broken_same : broken m.config (stored m ws) ≡ broken c (reading c xs)
      broken_same = ap₂ broken p.conf (sym stores)

      -- and where they are kept, it is a set
      pub sound : Words64 ws → ◌≡◌ {A = _} (broken m.config (stored m ws)) None → Sound m ws
      sound fits kept =
          let top : m.level0.words ≡ mask_in m.config.level0 (drop (level0_at m.config) xs) = subst (λ (k : Config). m.level0.words ≡ mask_in k.level0 (drop (level0_at k) xs)) (sym p.conf) top_is in
          kept_sound m ws fits eight
          (λ q l. ap (λ (ys : List ℕ). get_or ys q 0) top ∙ mask_zeros m.config.level0 (drop (level0_at m.config) xs) q l)
          (λ x l k. field_past m t2.front.bytes ws small room front x l k) room kept
