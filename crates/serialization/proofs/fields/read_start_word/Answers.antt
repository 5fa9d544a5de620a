use Rattle.std.proofs.Common.{◌≡◌, ℕ, List, length, take, drop, replicate, sym, ap, ◌∙◌, arith}
use Rattle.std.proofs.lemmas.List.{map-id, length-take-le}
use Rattle.std.proofs.lemmas.Bool.Decides.{nat_tests}
use Rattle.reader.specs.LittleEndian.{numbers}
use Rattle.serialization.specs.Fieldwise.{least}
use Rattle.serialization.proofs.Bodies.{starts_front, least-four}
use Rattle.serialization.proofs.fields.read_start_word.Goals as goal

pub returns-clause-small : goal.returns-clause-small
returns-clause-small g c =
    let room : List ℕ = c.read_numbers.new.room in
    let xs : List ℕ = (g.R.Reader.means c.args.reader.now).front.bytes in
    let k : c.min.result ≡ least c.args.count 4 = grind (arith, nat_tests, c.min.ensures) in
    let l : length (take c.min.result (replicate {A = ℕ} 4 0)) ≡ least c.args.count 4 = length-take-le c.min.result (replicate {A = ℕ} 4 0) (omega (arith, k, least-four c.args.count)) ∙ k in
    let e : room ≡ numbers 2 (least c.args.count 4) xs = sym (map-id room) ∙ c.in_ok-read_numbers.ensures.gives ∙ ap (λ (n : ℕ). numbers 2 n xs) l in
    starts_front room (drop c.min.result (replicate {A = ℕ} 4 0)) (numbers 2 (least c.args.count 4) xs) e c.word_of_starts.ensures.small
