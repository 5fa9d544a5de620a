use Rattle.std.proofs.Common.{◌≡◌, false, sym, ◌∙◌, true, List, length, Some, None, subst, arith, rules}
use Rattle.std.proofs.lemmas.Bool.{false≢true}
use Rattle.packing.specs.declared.Numbers.{Numbers}
use Rattle.reader.specs.Fields.{Run, Took, faulted}
use Rattle.reader.specs.Streams.{Stream}
use Rattle.reader.proofs.Fieldings.{took_then, took_stop}
use Rattle.serialization.specs.Bodies.{suffice, body_fields, level1_fields, block_fields}
use Rattle.serialization.proofs.BodyWords.{gives_along, took_none, enough, enough_words, lacking, fields_all, fields_none, body_kept, body_written}
use Rattle.serialization.proofs.body.read_body.Goals as goal

pub returns-then-words-words_needed-clause-took : goal.returns-then-words-words_needed-clause-took
returns-then-words-words_needed-clause-took g c =
    let m : Numbers = c.args.numbers.now in
    let s : Stream = g.R.Reader.means c.args.reader.now in
    subst (λ (rs : List Run). Took rs s None s) (fields_none m (length c.args.words.now) (lacking m c.words_needed.result (length c.args.words.now) c.words_needed.ensures c.if-words-words_needed.true)) (took_none s)

pub returns-then-words-words_needed-clause-gives : goal.returns-then-words-words_needed-clause-gives
returns-then-words-words_needed-clause-gives g c =
    let m : Numbers = c.args.numbers.now in
    body_kept m (g.R.Reader.means c.args.reader.now).front.bytes c.args.words.now (lacking m c.words_needed.result (length c.args.words.now) c.words_needed.ensures c.if-words-words_needed.true)

pub read_level1-requires : goal.read_level1-requires
read_level1-requires g c = enough_words c.args.numbers.now c.words_needed.result (length c.args.words.now) c.words_needed.ensures c.if-words-words_needed.false

pub returns-in_err-read_level1-clause-took : goal.returns-in_err-read_level1-clause-took
returns-in_err-read_level1-clause-took g c =
    let m : Numbers = c.args.numbers.now in
    let s : Stream = g.R.Reader.means c.args.reader.now in
    let t : Stream = g.R.Reader.means c.read_level1.new.reader in
    let e = c.in_err-read_level1.field-0.0 in
    let n : suffice m (length c.args.words.now) ≡ true = enough m c.words_needed.result (length c.args.words.now) c.words_needed.ensures c.if-words-words_needed.false in
    let h : Took (body_fields m (length c.args.words.now)) s (Some e) t =
    subst (λ (rs : List Run). Took rs s (Some e) t) (fields_all m (length c.args.words.now) n) (took_stop (level1_fields m) (block_fields m) e s t c.in_err-read_level1.ensures.took) in
    search rules

pub read_blocks-requires : goal.read_blocks-requires
read_blocks-requires g c =
    omega (arith, c.in_ok-read_level1.ensures.gives.long, enough_words c.args.numbers.now c.words_needed.result (length c.args.words.now) c.words_needed.ensures c.if-words-words_needed.false)

pub returns-clause-took : goal.returns-clause-took
returns-clause-took g c =
    let m : Numbers = c.args.numbers.now in
    let s : Stream = g.R.Reader.means c.args.reader.now in
    let t : Stream = g.R.Reader.means c.read_level1.new.reader in
    let u : Stream = g.R.Reader.means c.read_blocks.new.reader in
    let o = faulted c.read_blocks.result in
    let n : suffice m (length c.args.words.now) ≡ true = enough m c.words_needed.result (length c.args.words.now) c.words_needed.ensures c.if-words-words_needed.false in
    subst (λ (rs : List Run). Took rs s o u) (fields_all m (length c.args.words.now) n)
    (took_then (level1_fields m) (block_fields m) o s t u c.in_ok-read_level1.ensures.took c.read_blocks.ensures.took)

pub returns-clause-gives : goal.returns-clause-gives
returns-clause-gives g c =
    let m : Numbers = c.args.numbers.now in
    let s : Stream = g.R.Reader.means c.args.reader.now in
    let t : Stream = g.R.Reader.means c.read_level1.new.reader in
    let n : suffice m (length c.args.words.now) ≡ true = enough m c.words_needed.result (length c.args.words.now) c.words_needed.ensures c.if-words-words_needed.false in
    gives_along c.read_blocks.result _ _
    (λ x h. body_written m s t c.args.words.now c.read_level1.new.words c.read_blocks.new.words n c.in_ok-read_level1.ensures.took c.in_ok-read_level1.ensures.gives h)
    c.read_blocks.ensures.gives

pub returns-then-words-words_needed-clause-small : goal.returns-then-words-words_needed-clause-small
returns-then-words-words_needed-clause-small g c e =
    let l : suffice c.args.numbers.now (length c.args.words.now) ≡ false = lacking c.args.numbers.now c.words_needed.result (length c.args.words.now) c.words_needed.ensures c.if-words-words_needed.true in
    absurd (false≢true (sym l ∙ e))

pub returns-clause-small : goal.returns-clause-small
returns-clause-small g c =
    gives_along c.read_blocks.result _ _ (λ x h e. c.in_ok-read_level1.ensures.small) c.read_blocks.ensures.gives
