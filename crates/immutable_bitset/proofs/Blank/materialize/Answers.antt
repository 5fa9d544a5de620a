use Rattle.std.proofs.Common.{◌≡◌, sym, ◌∙◌, subst, arith}
use Rattle.packing.specs.declared.Numbers.{Numbers}
use Rattle.packing.specs.Meaning.{Sound}
use Rattle.packing.proofs.Alikes.{alike}
use Rattle.packing.proofs.Filled.{packed_found}
use Rattle.packing.proofs.Numbering.{numbers_of}
use Rattle.immutable_bitset.proofs.Blank.materialize.Goals as goal

pub returns-in_err-config-clause-alike : goal.returns-in_err-config-clause-alike
returns-in_err-config-clause-alike g c = alike (g.S.LevelMasks.means c.args.source.now) (g.S.LevelMasks.lawful c.args.source.now)

pub returns-then-all-self-clause-alike : goal.returns-then-all-self-clause-alike
returns-then-all-self-clause-alike g c = alike (g.S.LevelMasks.means c.args.source.now) (g.S.LevelMasks.lawful c.args.source.now)

pub put_all-requires-clause-numbers : goal.put_all-requires-clause-numbers
put_all-requires-clause-numbers g c =
    numbers_of (g.S.LevelMasks.means c.args.source.now) c.in_ok-config.config (sym c.in_ok-config.ensures.ok_part ∙ c.config.ensures) c.measure-found.result c.measure-found.ensures c.numbers-numbers.result c.numbers-numbers.ensures

pub invariant_of-self-2 : goal.invariant_of-self-2
invariant_of-self-2 g c = record {
  sound = λ x e.
      let same : c.numbers-numbers.result ≡ x = cc in
      let whole = packed_found (g.S.LevelMasks.means c.args.source.now) (g.S.LevelMasks.lawful c.args.source.now) c.in_ok-config.config (sym c.in_ok-config.ensures.ok_part ∙ c.config.ensures) c.measure-found.result c.measure-found.ensures
      c.numbers-numbers.result c.numbers-numbers.ensures c.put_all.ensures (omega (arith, c.words_needed-all.ensures, c.if-all-self.false)) in
      subst (λ (m : Numbers). Sound m c.put_all.new.words) same whole.sound;
}

pub returns-clause-packs : goal.returns-clause-packs
returns-clause-packs g c =
    packed_found (g.S.LevelMasks.means c.args.source.now) (g.S.LevelMasks.lawful c.args.source.now) c.in_ok-config.config (sym c.in_ok-config.ensures.ok_part ∙ c.config.ensures) c.measure-found.result c.measure-found.ensures
    c.numbers-numbers.result c.numbers-numbers.ensures c.put_all.ensures (omega (arith, c.words_needed-all.ensures, c.if-all-self.false))

pub returns-clause-alike : goal.returns-clause-alike
returns-clause-alike g c = alike (g.S.LevelMasks.means c.args.source.now) (g.S.LevelMasks.lawful c.args.source.now)
