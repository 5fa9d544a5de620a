use Rattle.std.proofs.Common.{◌+◌, ◌*◌, ◌^◌, ◌<◌, arith}
use Rattle.bitset_interface.proofs.Nexts.{next_none, next_past, next_some, place_fits}
use Rattle.bitset_interface.proofs.walk.next_from.Given as given
use Rattle.bitset_interface.proofs.walk.next_from.Goals as goal

-- the position that is returned fits
fits : (g : given.Over) (c : goal.In_ok-i g)
    → c.in_ok-i.i * (c.bits-2.result * c.bits-width.result) + (c.in_ok-i.j * c.bits-width.result + c.in_ok-i.k) < 2 ^ 32
fits g c =
    place_fits (g.S.LevelMasks.means c.args.s.now) (g.S.LevelMasks.lawful c.args.s.now) c.in_ok-config.config c.in_ok-config.ensures c.args.p
    c.level_indices-i.result.0 c.level_indices-i.result.1 c.level_indices-i.result.2
    c.level_indices-i.ensures.level0 c.level_indices-i.ensures.level1 c.level_indices-i.ensures.bit
    c.bits-2.result c.bits-width.result c.bits-2.ensures c.bits-width.ensures
    c.in_ok-i.i c.in_ok-i.j c.in_ok-i.k c.in_ok-i.ensures

pub returns-then-i-bits : goal.returns-then-i-bits
returns-then-i-bits g c =
    next_past (g.S.LevelMasks.means c.args.s.now) (g.S.LevelMasks.lawful c.args.s.now) c.in_ok-config.config c.in_ok-config.ensures c.args.p
    c.level_indices-i.result.0 c.level_indices-i.result.1 c.level_indices-i.result.2
    c.level_indices-i.ensures.level0 c.level_indices-i.ensures.level1 c.level_indices-i.ensures.bit
    (omega (arith, c.if-i-bits.true, c.bits.ensures))

pub returns-in_err-i : goal.returns-in_err-i
returns-in_err-i g c =
    rw c.from_residual-in_err-i.ensures
    (next_none (g.S.LevelMasks.means c.args.s.now) (g.S.LevelMasks.lawful c.args.s.now) c.in_ok-config.config c.in_ok-config.ensures c.args.p
    c.level_indices-i.result.0 c.level_indices-i.result.1 c.level_indices-i.result.2
    c.level_indices-i.ensures.level0 c.level_indices-i.ensures.level1 c.level_indices-i.ensures.bit
    c.in_err-i.ensures)

pub overflow_mul-result : goal.overflow_mul-result
overflow_mul-result g c = omega (arith, fits g c)

pub overflow_mul-result-2 : goal.overflow_mul-result-2
overflow_mul-result-2 g c = omega (arith, fits g c)

pub overflow_add-result : goal.overflow_add-result
overflow_add-result g c = omega (arith, fits g c)

pub overflow_add-result-2 : goal.overflow_add-result-2
overflow_add-result-2 g c = omega (arith, fits g c)

pub returns : goal.returns
returns g c =
    next_some (g.S.LevelMasks.means c.args.s.now) (g.S.LevelMasks.lawful c.args.s.now) c.in_ok-config.config c.in_ok-config.ensures c.args.p
    c.level_indices-i.result.0 c.level_indices-i.result.1 c.level_indices-i.result.2
    c.level_indices-i.ensures.level0 c.level_indices-i.ensures.level1 c.level_indices-i.ensures.bit
    c.bits-2.result c.bits-width.result c.bits-2.ensures c.bits-width.ensures
    c.in_ok-i.i c.in_ok-i.j c.in_ok-i.k c.in_ok-i.ensures
