use Rattle.std.proofs.Common.{◌≡◌, Some, length, IsOk, rules}
use Rattle.packing.specs.Views.{set_source}
use Rattle.serialization.specs.Layout.{image_length}
use Rattle.stylebook.proofs.Images.{image_written}
use Rattle.stylebook.proofs.packed.image.Goals as goal

pub returns : goal.returns
returns g c =
    let numbers = c.in_ok-set.set.blank.numbers in
    let words = c.in_ok-set.set.blank.words.now in
    let config : (set_source numbers words).conf ≡ Some c.in_ok-config.config = search rules in
    let long : c.in_ok-bytes.bytes.len ≡ image_length c.in_ok-config.config c.n.result c.d.result = search rules in
    let room : length c.as_mut_slice-2.result.now ≡ c.in_ok-bytes.bytes.len = search rules in
    let ok : IsOk c.serialize.result = search rules in
    image_written (g.S.LevelMasks.means c.args.source.now) numbers _ words _ c.serialize.new.buffer _ c.in_ok-config.config c.n.result c.d.result c.in_ok-bytes.bytes.len c.serialize.result
    c.in_ok-set.ensures config c.n.ensures c.d.ensures long room ok c.serialize.ensures.writes
