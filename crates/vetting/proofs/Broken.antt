-- No rule is broken exactly where each rule is kept at each of its places.
use Rattle.std.proofs.Common.{◌≡◌, ℕ, zero, suc, ◌+◌, ◌*◌, ◌<◌, Bool, true, false, cond, List, [], ◌∷◌, get_or, Some, None, Option, refl, ap, ◌∙◌, ap₂, ⊎_elim, arith}
use Rattle.std.proofs.lemmas.Bool.{cases_eq, eqb-true, eq-eqb, ltb-true, lt-ltb}
use Rattle.bit_block.specs.Ranges.{count}
use Rattle.bit_block.specs.Widths.{bits}
use Rattle.bit_block.specs.declared.config.Config.{Config}
use Rattle.packing.specs.Packed.{before}
use Rattle.packing.specs.Starts0.{start0}
use Rattle.serialization.specs.Layout.{words}
use Rattle.serialization.specs.Stored.{Stored}
use Rattle.vetting.specs.Rules.{bit_in, Rule, or_else, first_not, broken_at, first_broken, broken}

-- both answers are none where the first of them is
or-none : {X : Type 0} (a b : Option X) → or_else a b ≡ None → (a ≡ None) × (b ≡ None)
or-none (Some x) b e = cc
or-none None b e = (refl, e)

-- the first of two answers is none where both are
none_or : {X : Type 0} (a b : Option X) → a ≡ None → b ≡ None → or_else a b ≡ None
none_or a b e f = ap₂ or_else e f

-- a test that gives no answer passes
cond-none : (b : Bool) (n : ℕ) → ◌≡◌ {A = Option ℕ} (cond b None (Some n)) None → b ≡ true
cond-none true n e = refl
cond-none false n e = cc

-- a test that fails nowhere passes at each place
none_fails : (f : ℕ → Bool) (n : ℕ) → first_not f n ≡ None → (t : ℕ) → t < n → f t ≡ true
unfolding first_not
none_fails f zero e t l = absurd (omega arith)
none_fails f (suc n) e t l =
    let p = or-none (first_not f n) (cond (f n) None (Some n)) e in
    ⊎_elim (λ q. ap f q ∙ cond-none (f n) n p.1) (λ ne. none_fails f n p.0 t (omega arith)) (cases_eq t n)

-- a test that passes at each place fails nowhere
pub all_pass : (f : ℕ → Bool) (n : ℕ) → ((t : ℕ) → t < n → f t ≡ true) → first_not f n ≡ None
unfolding first_not
all_pass f zero h = refl
all_pass f (suc n) h =
    none_or (first_not f n) (cond (f n) None (Some n)) (all_pass f n (λ t l. h t (omega arith)))
    (ap (λ (b : Bool). cond b None (Some n)) (h n (omega arith)))

-- a rule that is not broken fails nowhere
broken-not : (k : ℕ) (o : Option ℕ) → broken_at k o ≡ None → o ≡ None
broken-not k (Some p) e = cc
broken-not k None e = refl

-- the first of some rules is kept at each of its places, and none of the others is broken
first_kept : (k : ℕ) (r : Rule) (rs : List Rule) → first_broken k (r ∷ rs) ≡ None
    → ((t : ℕ) → t < r.places → r.keeps t ≡ true) × (first_broken (k + 1) rs ≡ None)
unfolding first_broken
first_kept k r rs e =
    let p = or-none (broken_at k (first_not r.keeps r.places)) (first_broken (k + 1) rs) e in
    (none_fails r.keeps r.places (broken-not k (first_not r.keeps r.places) p.0), p.1)

-- no rules are not broken
no_rules : (k : ℕ) → first_broken k [] ≡ None
unfolding first_broken
no_rules k = refl

-- none is broken where the first is kept at each of its places and none of the others is broken
kept_first : (k : ℕ) (r : Rule) (rs : List Rule) → ((t : ℕ) → t < r.places → r.keeps t ≡ true) → first_broken (k + 1) rs ≡ None
    → first_broken k (r ∷ rs) ≡ None
unfolding first_broken
kept_first k r rs h e =
    none_or (broken_at k (first_not r.keeps r.places)) (first_broken (k + 1) rs) (ap (broken_at k) (all_pass r.keeps r.places h)) e

-- the six rules as plain facts
pub record Kept (c : Config) (r : Stored) : Type 0 where
  pub rows : r.n ≡ count (bit_in r.top) (bits c.level0)
  pub starts0 : (q : ℕ) → q < 8 → get_or r.starts0 q 0 ≡ start0 (bit_in r.top) (bits c.level0) q
  pub rows_held : (i : ℕ) → i < r.n → 0 < count (λ t. bit_in r.rows (i * bits c.level1 + t)) (bits c.level1)
  pub starts1 : (x : ℕ) → x < r.n * words c.level1 → get_or r.starts1 x 0 ≡ before r.rows x
  pub ones : r.d ≡ before r.rows (r.n * words c.level1)
  pub blocks_held : (b : ℕ) → b < r.d → 0 < count (λ t. bit_in r.blocks (b * bits c.«data» + t)) (bits c.«data»)

-- where no rule is broken all are kept
pub none-broken : (c : Config) (r : Stored) → broken c r ≡ None → Kept c r
unfolding broken
none-broken c r e =
    let rule1 = first_kept 1 _ _ e in
    let rule2 = first_kept 2 _ _ rule1.1 in
    let rule3 = first_kept 3 _ _ rule2.1 in
    let rule4 = first_kept 4 _ _ rule3.1 in
    let rule5 = first_kept 5 _ _ rule4.1 in
    let rule6 = first_kept 6 _ _ rule5.1 in
    record {
      rows = eqb-true _ _ (rule1.0 0 (omega arith));
      starts0 = λ q l. eqb-true _ _ (rule2.0 q l);
      rows_held = λ i l. ltb-true 0 _ (rule3.0 i l);
      starts1 = λ x l. eqb-true _ _ (rule4.0 x l);
      ones = eqb-true _ _ (rule5.0 0 (omega arith));
      blocks_held = λ b l. ltb-true 0 _ (rule6.0 b l);
    }

-- where all are kept no rule is broken
pub all_kept : (c : Config) (r : Stored) → Kept c r → broken c r ≡ None
unfolding broken
all_kept c r k =
    kept_first 1 _ _ (λ _ _. eq-eqb _ _ k.rows)
    (kept_first 2 _ _ (λ q l. eq-eqb _ _ (k.starts0 q l))
    (kept_first 3 _ _ (λ i l. lt-ltb 0 _ (k.rows_held i l))
    (kept_first 4 _ _ (λ x l. eq-eqb _ _ (k.starts1 x l))
    (kept_first 5 _ _ (λ _ _. eq-eqb _ _ k.ones)
    (kept_first 6 _ _ (λ b l. lt-ltb 0 _ (k.blocks_held b l))
    (no_rules 7))))))
