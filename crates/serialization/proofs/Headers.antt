-- What a header gives.
use Rattle.std.proofs.Common.{◌≡◌, ℕ, ◌<◌, ◌≤◌, [], ◌∷◌, Some, None, Option, ap, ◌⊎◌, ◌∙◌, refl, arith}
use Rattle.std.proofs.lemmas.Bool.Decides.{nat_tests}
use Rattle.bitset_interface.specs.Refusals.{Refusal}
use Rattle.reader.specs.declared.fault.ReadFault.{ReadFault}
use Rattle.reader.specs.Streams.{Stream, after, left}
use Rattle.reader.specs.Fields.{Took, one, size_of}
use Rattle.reader.proofs.Fieldings.{size_of-one}
use Rattle.serialization.specs.Faults.{io_error, format_mismatch}
use Rattle.serialization.specs.Image.{version_in}
use Rattle.serialization.specs.Layout.{header_fields}
use Rattle.serialization.specs.Outcomes.{headed, short, refused_after, accepted_after}
use Rattle.serialization.proofs.Lengths.{size-header}

module _ (s : Stream) where
  -- the version is another
  pub header_other : 2 ≤ left s → (version_in s.front.bytes ≡ 3 → ⊥) → headed s ≡ refused_after 2 (format_mismatch (version_in s.front.bytes))
  unfolding headed
  header_other h n = grind (arith, nat_tests)

  -- the header ends early
  pub header_short : left s < 8 → (left s < 2) ⊎ (version_in s.front.bytes ≡ 3) → headed s ≡ short header_fields s
  unfolding headed
  header_short h e = grind (arith, nat_tests)

  -- the header is there
  pub header_whole : 8 ≤ left s → version_in s.front.bytes ≡ 3 → headed s ≡ accepted_after 8
  unfolding headed
  header_whole h e = grind (arith, nat_tests)

-- a reader that refuses a field of the header: what the header gives, and where the reader stands
pub header_failed : (s t : Stream) (f : ReadFault) → Took header_fields s (Some f) t → (left s < 2) ⊎ (version_in s.front.bytes ≡ 3)
    → ◌≡◌ {A = Option Refusal} (Some (io_error f)) (headed s).refusal × (t ≡ after (headed s).taken s)
header_failed s t f p v = rw (header_short s (omega (arith, p.0, size-header)) v) (ap (λ (x : ReadFault). Some (io_error x)) p.2, p.1)

-- a version that is another
pub header_mismatch : (s t : Stream) (v : ℕ) → Took (one 2 ∷ []) s None t → v ≡ version_in s.front.bytes → (v ≡ 3 → ⊥)
    → ◌≡◌ {A = Option Refusal} (Some (format_mismatch v)) (headed s).refusal × (t ≡ after (headed s).taken s)
header_mismatch s t v p e n =
    let z : size_of (one 2 ∷ []) ≡ 2 = size_of-one (one 2) in
    rw (header_other s (omega (arith, p.0, z)) (λ x. n (e ∙ x))) (ap (λ (x : ℕ). Some (format_mismatch x)) e, p.1 ∙ ap (λ (k : ℕ). after k s) z)

-- the whole header was read
pub header_read : (s t : Stream) → Took header_fields s None t → version_in s.front.bytes ≡ 3
    → ◌≡◌ {A = Option Refusal} None (headed s).refusal × (t ≡ after (headed s).taken s)
header_read s t p e = rw (header_whole s (omega (arith, p.0, size-header)) e) (refl, p.1 ∙ ap (λ (k : ℕ). after k s) size-header)
