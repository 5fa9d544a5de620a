-- What loading gives, step by step.
use Rattle.std.proofs.Common.{◌≡◌, ℕ, ◌<◌, ◌≤◌, ltb, cond, is_some, Some, None, Option, sym, ap, ◌∙◌, ⊎_elim, inl, inr, arith}
use Rattle.std.proofs.lemmas.Bool.{cond-true, cond-false, lt-ltb, le-ltb, cases_lt}
use Rattle.bit_block.specs.declared.config.Config.{Config}
use Rattle.bitset_interface.specs.Refusals.{Refusal}
use Rattle.reader.specs.declared.fault.ReadFault.{ReadFault}
use Rattle.reader.specs.Fields.{Took}
use Rattle.reader.specs.Streams.{Stream, after, left}
use Rattle.serialization.specs.Faults.{io_error}
use Rattle.serialization.specs.Image.{version_in, n_in, d_in, reading}
use Rattle.serialization.specs.Layout.{header_fields, all_fields}
use Rattle.serialization.specs.Outcomes.{headed, short, refused_after}
use Rattle.serialization.proofs.Headers.{header_other, header_short, header_whole}
use Rattle.serialization.proofs.Lengths.{size-header, sizes}
use Rattle.vetting.specs.Outcomes.{no_memory, words_for, length_in, vetted, outcome}
use Rattle.vetting.specs.Rules.{broken}

-- what refuses does not accept
some-none : {A : Type 0} (x : A) → ◌≡◌ {A = Option A} (Some x) None → ⊥
some-none x e = cc

module _ (s : Stream) (e : ◌≡◌ {A = Option Refusal} (headed s).refusal None) where
  -- a header that is taken says version 3
  version_three : version_in s.front.bytes ≡ 3
  version_three =
      let v : ℕ = version_in s.front.bytes in
      ⊎_elim
      (λ (l : left s < 2). absurd (some-none _ (sym (ap (λ o. o.refusal) (header_short s (omega (arith, l)) (inl l))) ∙ e)))
      (λ (l : 2 ≤ left s).
      let other : (v ≡ 3 → ⊥) → ⊥ = λ n. some-none _ (sym (ap (λ o. o.refusal) (header_other s l n)) ∙ e) in
      ⊎_elim (λ (a : v < 3). absurd (other (λ q. omega (arith, q, a))))
      (λ (a : 3 ≤ v). ⊎_elim (λ (b : 3 < v). absurd (other (λ q. omega (arith, q, b)))) (λ (b : v ≤ 3). omega arith) (cases_lt 3 v))
      (cases_lt v 3))
      (cases_lt (left s) 2)

  -- and is there
  pub header_long : 8 ≤ left s
  header_long =
      ⊎_elim (λ (l : left s < 8). absurd (some-none _ (sym (ap (λ o. o.refusal) (header_short s l (inr version_three))) ∙ e))) (λ (l : 8 ≤ left s). l)
      (cases_lt (left s) 8)

  -- it has 8 bytes
  header_eight : (headed s).taken ≡ 8
  header_eight = ap (λ o. o.taken) (header_whole s header_long version_three)

  -- its fields were taken
  pub header_taken : (t : Stream) → t ≡ after (headed s).taken s → Took header_fields s None t
  header_taken t p = (omega (arith, header_long, size-header), p ∙ ap (λ (k : ℕ). after k s) (header_eight ∙ sym size-header))

module _ (c : Config) (lent : ℕ) (s : Stream) where
  -- the header refuses
  pub at_header : (r : Refusal) → ◌≡◌ {A = Option Refusal} (Some r) (headed s).refusal → outcome c lent s ≡ headed s
  unfolding outcome
  at_header r e = cond-true (is_some (headed s).refusal) _ _ (ap is_some (sym e))

  module _ (e : ◌≡◌ {A = Option Refusal} (headed s).refusal None) where
    -- the words do not suffice
    at_words : lent < words_for c s.front.bytes → outcome c lent s ≡ refused_after 8 (no_memory (words_for c s.front.bytes))
    unfolding outcome
    at_words h =
        cond-false (is_some (headed s).refusal) _ _ (ap is_some e) ∙ cond-true (ltb lent (words_for c s.front.bytes)) _ _ (lt-ltb lent (words_for c s.front.bytes) h)

    pub few_words : (k : ℕ) (t : Stream) → k ≡ words_for c s.front.bytes → lent < k → t ≡ after (headed s).taken s
        → ◌≡◌ {A = Option Refusal} (Some (no_memory k)) (outcome c lent s).refusal × (t ≡ after (outcome c lent s).taken s)
    few_words k t z h p =
        let w = at_words (omega (arith, z, h)) in
        (ap (λ (x : ℕ). Some (no_memory x)) z ∙ sym (ap (λ o. o.refusal) w), p ∙ ap (λ (x : ℕ). after x s) (header_eight s e ∙ sym (ap (λ o. o.taken) w)))

    module _ (room : words_for c s.front.bytes ≤ lent) where
      -- the words suffice
      behind_words : outcome c lent s ≡ cond (ltb (left s) (length_in c s.front.bytes)) (short (all_fields c (n_in s.front.bytes) (d_in s.front.bytes)) s) (vetted c s.front.bytes)
      unfolding outcome
      behind_words =
          cond-false (is_some (headed s).refusal) _ _ (ap is_some e) ∙ cond-false (ltb lent (words_for c s.front.bytes)) _ _ (le-ltb lent (words_for c s.front.bytes) room)

      -- the reader refuses a field
      pub reader_refused : (f : ReadFault) (t : Stream) → Took (all_fields c (n_in s.front.bytes) (d_in s.front.bytes)) s (Some f) t
          → ◌≡◌ {A = Option Refusal} (Some (io_error f)) (outcome c lent s).refusal × (t ≡ after (outcome c lent s).taken s)
      reader_refused f t p =
          let l : left s < length_in c s.front.bytes = omega (arith, p.0, sizes c (n_in s.front.bytes) (d_in s.front.bytes)) in
          let w : outcome c lent s ≡ short (all_fields c (n_in s.front.bytes) (d_in s.front.bytes)) s =
          behind_words ∙ cond-true (ltb (left s) (length_in c s.front.bytes)) _ _ (lt-ltb (left s) (length_in c s.front.bytes) l) in
          (ap (λ (x : ReadFault). Some (io_error x)) p.2 ∙ sym (ap (λ o. o.refusal) w), p.1 ∙ sym (ap (λ o. after o.taken s) w))

      -- all was read
      pub all_read : (t : Stream) → Took (all_fields c (n_in s.front.bytes) (d_in s.front.bytes)) s None t
          → ((outcome c lent s).refusal ≡ broken c (reading c s.front.bytes)) × (t ≡ after (outcome c lent s).taken s)
      all_read t p =
          let z = sizes c (n_in s.front.bytes) (d_in s.front.bytes) in
          let l : length_in c s.front.bytes ≤ left s = omega (arith, p.0, z) in
          let w : outcome c lent s ≡ vetted c s.front.bytes =
          behind_words ∙ cond-false (ltb (left s) (length_in c s.front.bytes)) _ _ (le-ltb (left s) (length_in c s.front.bytes) l) in
          (ap (λ o. o.refusal) w, p.1 ∙ ap (λ (k : ℕ). after k s) z ∙ sym (ap (λ o. after o.taken s) w))
