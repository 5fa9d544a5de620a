-- The sources that layers make of two sources.
use Rattle.std.specs.Prelude.{Bool, false, not, ◌&&◌, ◌||◌}
use Rattle.bit_block.specs.Bit.{exclusive}
use Rattle.bit_block.specs.Widths.{shared, live}
use Rattle.bitset_interface.specs.Source.{Source}

-- what two sources of one configuration make, by an operation on bits for each level; void over any others
abbrev pub layer : (Bool → Bool → Bool) → (Bool → Bool → Bool) → (Bool → Bool → Bool) → Bool → Source → Source → Source
layer f0 f1 f2 trusted a b = record {
  conf = shared a.conf b.conf;
  trust = live a.conf b.conf && trusted;
  up0 = λ i. live a.conf b.conf && f0 (a.up0 i) (b.up0 i);
  up1 = λ i j. live a.conf b.conf && f1 (a.up1 i j) (b.up1 i j);
  up2 = λ i j k. live a.conf b.conf && f2 (a.up2 i j k) (b.up2 i j k);
}

-- that of an operation: on the bits of levels 0 and 1, on data bits, and whether it keeps the trust of the two
abbrev pub applied : (Bool → Bool → Bool) → (Bool → Bool → Bool) → Bool → Source → Source → Source
applied upper bits keeps a b = layer upper upper bits (keeps && (a.trust && b.trust)) a b

-- what both hold
abbrev pub both : Source → Source → Source
both a b = layer (λ p q. p && q) (λ p q. p && q) (λ p q. p && q) false a b

-- what at least one holds; trusted where both are
abbrev pub either : Source → Source → Source
either a b = layer (λ p q. p || q) (λ p q. p || q) (λ p q. p || q) (a.trust && b.trust) a b

-- what the first holds alone
abbrev pub without : Source → Source → Source
without a b = layer (λ p q. p) (λ p q. p) (λ p q. p && not q) false a b

-- what just one holds
abbrev pub one_of : Source → Source → Source
one_of a b = layer (λ p q. p || q) (λ p q. p || q) exclusive false a b
