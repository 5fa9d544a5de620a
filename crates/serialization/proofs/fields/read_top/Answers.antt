use Rattle.std.proofs.Common.{◌≡◌, ℕ, ◌+◌, List, [], ◌∷◌, ◌++◌, take, drop, Some, None, refl, ap, ◌∙◌, subst, arith, rules}
use Rattle.bit_block.specs.declared.config.Config.{Config}
use Rattle.reader.specs.declared.fault.ReadFault.{ReadFault}
use Rattle.reader.specs.Streams.{Stream}
use Rattle.reader.specs.Fields.{Run, Took, one, many, size_of}
use Rattle.reader.proofs.Fieldings.{took_then, took_stop, size_of-append, size_of-one}
use Rattle.serialization.specs.Fieldwise.{mask_in}
use Rattle.serialization.specs.Layout.{size, padding, header_size, starts0_end}
use Rattle.serialization.proofs.fields.read_top.Goals as goal

-- the fields, one by one
abbrev first : Config → List Run
first k = one (padding (size k.level0) header_size) ∷ []

abbrev mask : Config → List Run
mask k = one (size k.level0) ∷ []

abbrev starts : List Run
starts = many 8 1 ∷ []

abbrev last : Config → List Run
last k = one (padding (size k.level1) (starts0_end k)) ∷ []

-- up to the starts
three-read : (k : Config) (s t1 t2 t3 : Stream) → Took (first k) s None t1 → Took (mask k) t1 None t2 → Took starts t2 None t3 → Took (first k ++ mask k ++ starts) s None t3
three-read k s t1 t2 t3 p q r = took_then (first k ++ mask k) starts None s t2 t3 (took_then (first k) (mask k) None s t1 t2 p q) r

pub returns-in_err-skip_padding-clause-took : goal.returns-in_err-skip_padding-clause-took
returns-in_err-skip_padding-clause-took g c =
    let k : Config = c.args.config in
    let s : Stream = g.R.Reader.means c.args.reader.now in
    let h = took_stop (first k) (mask k ++ starts ++ last k) c.in_err-skip_padding.field-0.0 s (g.R.Reader.means c.skip_padding.new.reader) c.in_err-skip_padding.ensures in
    search rules

pub returns-in_err-level0-clause-took : goal.returns-in_err-level0-clause-took
returns-in_err-level0-clause-took g c =
    let k : Config = c.args.config in
    let s : Stream = g.R.Reader.means c.args.reader.now in
    let t1 : Stream = g.R.Reader.means c.skip_padding.new.reader in
    let t2 : Stream = g.R.Reader.means c.read_mask.new.reader in
    let e : ReadFault = c.in_err-level0.field-0.0 in
    let h = took_stop (first k ++ mask k) (starts ++ last k) e s t2 (took_then (first k) (mask k) (Some e) s t1 t2 c.in_ok-skip_padding.ensures c.in_err-level0.ensures.took) in
    search rules

pub returns-in_err-starts-clause-took : goal.returns-in_err-starts-clause-took
returns-in_err-starts-clause-took g c =
    let k : Config = c.args.config in
    let s : Stream = g.R.Reader.means c.args.reader.now in
    let t1 : Stream = g.R.Reader.means c.skip_padding.new.reader in
    let t2 : Stream = g.R.Reader.means c.read_mask.new.reader in
    let t3 : Stream = g.R.Reader.means c.read_starts.new.reader in
    let e : ReadFault = c.in_err-starts.field-0.0 in
    let two : Took (first k ++ mask k) s None t2 = took_then (first k) (mask k) None s t1 t2 c.in_ok-skip_padding.ensures c.in_ok-level0.ensures.took in
    let h = took_stop (first k ++ mask k ++ starts) (last k) e s t3 (took_then (first k ++ mask k) starts (Some e) s t2 t3 two c.in_err-starts.ensures.took) in
    search rules

pub returns-in_err-skip_padding-2-clause-took : goal.returns-in_err-skip_padding-2-clause-took
returns-in_err-skip_padding-2-clause-took g c =
    let k : Config = c.args.config in
    let s : Stream = g.R.Reader.means c.args.reader.now in
    let t1 : Stream = g.R.Reader.means c.skip_padding.new.reader in
    let t2 : Stream = g.R.Reader.means c.read_mask.new.reader in
    let t3 : Stream = g.R.Reader.means c.read_starts.new.reader in
    let t4 : Stream = g.R.Reader.means c.skip_padding-2.new.reader in
    let e : ReadFault = c.in_err-skip_padding-2.field-0.0 in
    let three : Took (first k ++ mask k ++ starts) s None t3 = three-read k s t1 t2 t3 c.in_ok-skip_padding.ensures c.in_ok-level0.ensures.took c.in_ok-starts.ensures.took in
    let at : c.new-end.result.level0_starts + 8 ≡ starts0_end k = omega (arith, c.new-end.ensures.starts0) in
    let h = took_then (first k ++ mask k ++ starts) (last k) (Some e) s t3 t4 three (subst (λ (n : ℕ). Took (one (padding (size k.level1) n) ∷ []) t3 (Some e) t4) at c.in_err-skip_padding-2.ensures) in
    search rules

pub returns-clause-took : goal.returns-clause-took
returns-clause-took g c =
    let k : Config = c.args.config in
    let s : Stream = g.R.Reader.means c.args.reader.now in
    let t1 : Stream = g.R.Reader.means c.skip_padding.new.reader in
    let t2 : Stream = g.R.Reader.means c.read_mask.new.reader in
    let t3 : Stream = g.R.Reader.means c.read_starts.new.reader in
    let t4 : Stream = g.R.Reader.means c.skip_padding-2.new.reader in
    let three : Took (first k ++ mask k ++ starts) s None t3 = three-read k s t1 t2 t3 c.in_ok-skip_padding.ensures c.in_ok-level0.ensures.took c.in_ok-starts.ensures.took in
    let at : c.new-end.result.level0_starts + 8 ≡ starts0_end k = omega (arith, c.new-end.ensures.starts0) in
    took_then (first k ++ mask k ++ starts) (last k) None s t3 t4 three (subst (λ (n : ℕ). Took (one (padding (size k.level1) n) ∷ []) t3 None t4) at c.in_ok-skip_padding-2.ensures)

pub returns-clause-gives : goal.returns-clause-gives
returns-clause-gives g c =
    let k : Config = c.args.config in
    let s : Stream = g.R.Reader.means c.args.reader.now in
    let t1 : Stream = g.R.Reader.means c.skip_padding.new.reader in
    let t2 : Stream = g.R.Reader.means c.read_mask.new.reader in
    let one-read : Took (first k) s None t1 = c.in_ok-skip_padding.ensures in
    let two : Took (first k ++ mask k) s None t2 = took_then (first k) (mask k) None s t1 t2 one-read c.in_ok-level0.ensures.took in
    let pad : ℕ = padding (size k.level0) header_size in
    let z1 : size_of (first k) ≡ pad = omega (arith, size_of-one (one pad)) in
    let z2 : size_of (first k ++ mask k) ≡ pad + size k.level0 = omega (arith, z1, size_of-append (first k) (mask k), size_of-one (one (size k.level0))) in
    record {
      conf = refl;
      mask = c.in_ok-level0.ensures.gives ∙ ap (λ (x : Stream). mask_in k.level0 x.front.bytes) one-read.1 ∙ ap (λ (n : ℕ). mask_in k.level0 (drop n s.front.bytes)) z1;
      starts = c.in_ok-starts.ensures.gives ∙ ap (λ (x : Stream). take 8 x.front.bytes) two.1 ∙ ap (λ (n : ℕ). take 8 (drop n s.front.bytes)) z2;
      rows_are = refl;
      blocks_are = refl;
    }
