use Rattle.std.proofs.Common.{◌≡◌, ℕ, List, [], ◌∷◌, get_or, take, Ok, Err, Result, refl, ◌∙◌, arith, rules}
use Rattle.reader.specs.declared.fault.ReadFault.{ReadFault}
use Rattle.reader.specs.Fields.{Gives}
use Rattle.reader.specs.LittleEndian.{value}
use Rattle.serialization.proofs.fields.read_u8.Goals as goal

-- the number that one byte is
byte : (xs : List ℕ) → value (take 1 xs) ≡ get_or xs 0 0
unfolding value
byte [] = refl
byte (b ∷ bs) = omega arith

-- an answer gives it where it gives the number
first : (r : Result ℕ ReadFault) (xs : List ℕ) → Gives r (λ x. x ≡ value (take 1 xs)) → Gives r (λ x. x ≡ get_or xs 0 0)
first (Ok x) xs e = e ∙ byte xs
first (Err f) xs e = tt

pub returns-clause-gives : goal.returns-clause-gives
returns-clause-gives g c =
    let h = first c.read_number.result (g.R.Reader.means c.args.reader.now).front.bytes c.read_number.ensures.gives in
    search rules
