use Rattle.std.proofs.Common.{◌≡◌, ℕ, [], ◌∷◌, take, drop, Some, None, sym, ap, ◌∙◌, inl, inr, arith, rules}
use Rattle.reader.specs.declared.fault.ReadFault.{ReadFault}
use Rattle.reader.specs.Streams.{Stream}
use Rattle.reader.specs.Fields.{Took, one, size_of}
use Rattle.reader.specs.LittleEndian.{value}
use Rattle.reader.proofs.Fieldings.{took_then, took_stop, size_of-append, size_of-one}
use Rattle.serialization.proofs.Headers.{header_failed, header_mismatch, header_read}
use Rattle.serialization.proofs.fields.read_header.Goals as goal

-- two numbers of two bytes
two-read : (s t u : Stream) → Took (one 2 ∷ []) s None t → Took (one 2 ∷ []) t None u → Took (one 2 ∷ one 2 ∷ []) s None u
two-read s t u p q = took_then (one 2 ∷ []) (one 2 ∷ []) None s t u p q

pub returns-in_err-version : goal.returns-in_err-version
returns-in_err-version g c =
    let s : Stream = g.R.Reader.means c.args.reader.now in
    let t : Stream = g.R.Reader.means c.read_u16.new.reader in
    let f : ReadFault = c.in_err-version.field-0.0 in
    let k = c.in_err-version.ensures.took in
    let h = header_failed s t f (took_stop (one 2 ∷ []) (one 2 ∷ one 4 ∷ []) f s t k) (inl (omega (arith, k.0, size_of-one (one 2)))) in
    search rules

pub returns-then-version-ne-FORMAT_VERSION : goal.returns-then-version-ne-FORMAT_VERSION
returns-then-version-ne-FORMAT_VERSION g c =
    let s : Stream = g.R.Reader.means c.args.reader.now in
    let h = header_mismatch s (g.R.Reader.means c.read_u16.new.reader) c.in_ok-version.version c.in_ok-version.ensures.took c.in_ok-version.ensures.gives c.if-version-ne-FORMAT_VERSION.true in
    record { refused = h.0; left = h.1; rows = tt; blocks = tt }

pub returns-in_err-n : goal.returns-in_err-n
returns-in_err-n g c =
    let s : Stream = g.R.Reader.means c.args.reader.now in
    let t : Stream = g.R.Reader.means c.read_u16.new.reader in
    let u : Stream = g.R.Reader.means c.read_u16-2.new.reader in
    let f : ReadFault = c.in_err-n.field-0.0 in
    let k = took_then (one 2 ∷ []) (one 2 ∷ []) (Some f) s t u c.in_ok-version.ensures.took c.in_err-n.ensures.took in
    let h = header_failed s u f (took_stop (one 2 ∷ one 2 ∷ []) (one 4 ∷ []) f s u k) (inr (sym c.in_ok-version.ensures.gives ∙ c.if-version-ne-FORMAT_VERSION.false)) in
    search rules

pub returns-in_err-d : goal.returns-in_err-d
returns-in_err-d g c =
    let s : Stream = g.R.Reader.means c.args.reader.now in
    let t : Stream = g.R.Reader.means c.read_u16.new.reader in
    let u : Stream = g.R.Reader.means c.read_u16-2.new.reader in
    let v : Stream = g.R.Reader.means c.read_u32.new.reader in
    let f : ReadFault = c.in_err-d.field-0.0 in
    let k = took_then (one 2 ∷ one 2 ∷ []) (one 4 ∷ []) (Some f) s u v (two-read s t u c.in_ok-version.ensures.took c.in_ok-n.ensures.took) c.in_err-d.ensures.took in
    let h = header_failed s v f k (inr (sym c.in_ok-version.ensures.gives ∙ c.if-version-ne-FORMAT_VERSION.false)) in
    search rules

pub returns : goal.returns
returns g c =
    let s : Stream = g.R.Reader.means c.args.reader.now in
    let t : Stream = g.R.Reader.means c.read_u16.new.reader in
    let u : Stream = g.R.Reader.means c.read_u16-2.new.reader in
    let v : Stream = g.R.Reader.means c.read_u32.new.reader in
    let two = two-read s t u c.in_ok-version.ensures.took c.in_ok-n.ensures.took in
    let k = took_then (one 2 ∷ one 2 ∷ []) (one 4 ∷ []) None s u v two c.in_ok-d.ensures.took in
    let h = header_read s v k (sym c.in_ok-version.ensures.gives ∙ c.if-version-ne-FORMAT_VERSION.false) in
    let z : size_of (one 2 ∷ one 2 ∷ []) ≡ 4 = omega (arith, size_of-append (one 2 ∷ []) (one 2 ∷ []), size_of-one (one 2)) in
    record {
      refused = h.0;
      left = h.1;
      rows = c.in_ok-n.ensures.gives ∙ ap (λ (x : Stream). value (take 2 x.front.bytes)) c.in_ok-version.ensures.took.1 ∙ ap (λ (n : ℕ). value (take 2 (drop n s.front.bytes))) (size_of-one (one 2));
      blocks = c.in_ok-d.ensures.gives ∙ ap (λ (x : Stream). value (take 4 x.front.bytes)) two.1 ∙ ap (λ (n : ℕ). value (take 4 (drop n s.front.bytes))) z;
    }
