-- Words that spell no command.
use Rattle.std.proofs.Common.{◌≡◌, ℕ, ◌≤◌, List, [], ◌∷◌, length, get_or, drop, Option, Some, Bor, Result, Ok, Err, arith, refl, ap, sym, subst, ◌∙◌}
use Rattle.std.specs.List.{find}
use Rattle.std.specs.Str.{bytes_eq}
use Rattle.std.specs.Result.{IfErr}
use Rattle.commands.specs.declared.command.Command.{Command}
use Rattle.commands.specs.declared.command.Command.TheVariants.{Draft, Mark, Clear, Has, Next, Load, Read, Check}
use Rattle.commands.specs.declared.command.Span.{Span}
use Rattle.commands.specs.declared.command.Place.{Place}
use Rattle.commands.specs.declared.command.Pair.{Pair}
use Rattle.commands.specs.declared.verb.Layer.TheVariants.{Both, Either, Without, OneOf}
use Rattle.commands.specs.declared.verb.Rule.{Rule}
use Rattle.commands.specs.declared.verb.Rule.TheVariants.{Emphasis, Languages, Notes, Pages}
use Rattle.commands.specs.declared.verb.Verb.{Verb}
use Rattle.commands.specs.declared.verb.Verb.TheVariants as verb
use Rattle.commands.specs.declared.verb.TheConstants.Verb.{ALL}
use Rattle.commands.specs.Verbs.{verb_word}
use Rattle.commands.specs.Commands.{SpellsSpan, SpellsPlace, SpellsPair, SpellsDraft, SpellsLoad, SpellsRead, SpellsOperands, SpellsCommand}
use Rattle.commands.specs.Operands.{Spells, HexDigits}
use Rattle.commands.specs.Options.{SpellsOptions, no_options}
use Rattle.commands.specs.declared.options.LoadOptions.{LoadOptions}
use Rattle.bit_block.specs.declared.config.Config.{Config}

-- the verb that a word names
abbrev named : List ℕ → Option Verb
named word = find (λ v. bytes_eq (verb_word v) word) ALL

-- each verb has a word of its own
named-verb_word : (v : Verb) → named (verb_word v) ≡ Some v
named-verb_word verb.Draft = refl
named-verb_word verb.Mark = refl
named-verb_word verb.Clear = refl
named-verb_word (verb.Layer Both) = refl
named-verb_word (verb.Layer Either) = refl
named-verb_word (verb.Layer Without) = refl
named-verb_word (verb.Layer OneOf) = refl
named-verb_word verb.Has = refl
named-verb_word verb.Next = refl
named-verb_word verb.Runs = refl
named-verb_word verb.Count = refl
named-verb_word verb.Pack = refl
named-verb_word verb.Words = refl
named-verb_word verb.Image = refl
named-verb_word verb.Write = refl
named-verb_word verb.Load = refl
named-verb_word verb.Read = refl
named-verb_word (verb.Check Emphasis) = refl
named-verb_word (verb.Check Languages) = refl
named-verb_word (verb.Check Notes) = refl
named-verb_word (verb.Check Pages) = refl

-- verbs of one word are one
same_verb : (v w : Verb) → verb_word v ≡ verb_word w → v ≡ w
same_verb v w e = let a = sym (named-verb_word v) ∙ ap named e ∙ named-verb_word w in cc

-- where the operands spell no command of the verb that a word names, the two spell none
pub of_verb : (word : List ℕ) (operands : List (Bor (List ℕ))) (v : Verb) → word ≡ verb_word v → ((c : Command) → SpellsOperands v operands c → ⊥) → (c : Command) → SpellsCommand word operands c → ⊥
of_verb word operands v is none c (w, named, spells) =
    let P : Verb → Type 0 = λ u. SpellsOperands u operands c in
    none c (subst P (same_verb w v (sym named ∙ is)) spells)

-- how few operands a verb takes
abbrev pub fewest : Verb → ℕ
fewest verb.Draft = 2
fewest verb.Mark = 3
fewest verb.Clear = 3
fewest (verb.Layer l) = 3
fewest verb.Has = 2
fewest verb.Next = 2
fewest verb.Runs = 1
fewest verb.Count = 1
fewest verb.Pack = 1
fewest verb.Words = 1
fewest verb.Image = 1
fewest verb.Write = 2
fewest verb.Load = 3
fewest verb.Read = 3
fewest (verb.Check r) = 2

-- how many; a command that loads takes any number n
abbrev pub most : Verb → ℕ → ℕ
most verb.Draft n = 3
most verb.Mark n = 3
most verb.Clear n = 3
most (verb.Layer l) n = 3
most verb.Has n = 2
most verb.Next n = 2
most verb.Runs n = 1
most verb.Count n = 1
most verb.Pack n = 2
most verb.Words n = 1
most verb.Image n = 1
most verb.Write n = 2
most verb.Load n = n
most verb.Read n = 3
most (verb.Check r) n = 2

-- what spells a command of a verb has as many operands as the verb takes
pub operand_count : (v : Verb) (operands : List (Bor (List ℕ))) (c : Command) → SpellsOperands v operands c → (fewest v ≤ length operands) × (length operands ≤ most v (length operands))
operand_count verb.Mark (a ∷ (b ∷ (d ∷ []))) c h = (omega arith, omega arith)
operand_count verb.Clear (a ∷ (b ∷ (d ∷ []))) c h = (omega arith, omega arith)
operand_count (verb.Layer l) (a ∷ (b ∷ (d ∷ []))) c h = (omega arith, omega arith)
operand_count verb.Has (a ∷ (b ∷ [])) c h = (omega arith, omega arith)
operand_count verb.Next (a ∷ (b ∷ [])) c h = (omega arith, omega arith)
operand_count (verb.Check r) (a ∷ (b ∷ [])) c h = (omega arith, omega arith)
operand_count verb.Draft (a ∷ (b ∷ [])) c h = (omega arith, omega arith)
operand_count verb.Draft (a ∷ (b ∷ (d ∷ []))) c h = (omega arith, omega arith)
operand_count verb.Pack (a ∷ []) c h = (omega arith, omega arith)
operand_count verb.Pack (a ∷ (b ∷ [])) c h = (omega arith, omega arith)
operand_count verb.Runs (a ∷ []) c h = (omega arith, omega arith)
operand_count verb.Count (a ∷ []) c h = (omega arith, omega arith)
operand_count verb.Words (a ∷ []) c h = (omega arith, omega arith)
operand_count verb.Image (a ∷ []) c h = (omega arith, omega arith)
operand_count verb.Write (a ∷ (b ∷ [])) c h = (omega arith, omega arith)
operand_count verb.Load (a ∷ (b ∷ (d ∷ options))) c h = (omega arith, omega arith)
operand_count verb.Read (a ∷ (b ∷ (d ∷ []))) c h = (omega arith, omega arith)
operand_count v operands c h = absurd h

-- what holds under any error
pub IfErr-all : {T E : Type 0} (P : Type 0) (r : Result T E) → P → IfErr r (λ _. P)
IfErr-all P (Ok x) h = tt
IfErr-all P (Err e) h = h

-- where a word is no configuration, the operands make no draft
pub no_draft : (name config : Bor (List ℕ)) (words : Option (Bor (List ℕ))) → ((k : Config) → Spells config.now k → ⊥) → (c : Command) → SpellsDraft name config words c → ⊥
no_draft name config words none (Draft n k w) h = none k h.1
no_draft name config words none c h = h

-- they load no bytes
pub no_load : (name config bytes : Bor (List ℕ)) (options : List (Bor (List ℕ))) → ((k : Config) → Spells config.now k → ⊥) → (c : Command) → SpellsLoad name config bytes options c → ⊥
no_load name config bytes options none (Load n k b o) h = none k h.1
no_load name config bytes options none c h = h

-- and no file
pub no_read : (name config file : Bor (List ℕ)) → ((k : Config) → Spells config.now k → ⊥) → (c : Command) → SpellsRead name config file c → ⊥
no_read name config file none (Read n k f) h = none k h.1
no_read name config file none c h = h

-- where a word is no hex digits, no bytes are loaded
pub no_bytes : (name config bytes : Bor (List ℕ)) (options : List (Bor (List ℕ))) → ((digits : List ℕ) → HexDigits bytes.now digits → ⊥) → (c : Command) → SpellsLoad name config bytes options c → ⊥
no_bytes name config bytes options none (Load n k b o) h = none b.now h.2
no_bytes name config bytes options none c h = h

-- nor are they with words that are no options
pub no_option : (name config bytes : Bor (List ℕ)) (options : List (Bor (List ℕ))) → ((o : LoadOptions) → SpellsOptions no_options options o → ⊥) → (c : Command) → SpellsLoad name config bytes options c → ⊥
no_option name config bytes options none (Load n k b o) h = none o h.3
no_option name config bytes options none c h = h

-- operands that are no span mark nothing
pub no_mark : (operands : List (Bor (List ℕ))) → ((s : Span) → SpellsSpan operands s → ⊥) → (c : Command) → SpellsOperands verb.Mark operands c → ⊥
no_mark (a ∷ (b ∷ (d ∷ []))) none (Mark s) h = none s h
no_mark operands none c h = absurd h

-- they clear nothing
pub no_clear : (operands : List (Bor (List ℕ))) → ((s : Span) → SpellsSpan operands s → ⊥) → (c : Command) → SpellsOperands verb.Clear operands c → ⊥
no_clear (a ∷ (b ∷ (d ∷ []))) none (Clear s) h = none s h
no_clear operands none c h = absurd h

-- operands that are no place ask of none
pub no_has : (operands : List (Bor (List ℕ))) → ((s : Place) → SpellsPlace operands s → ⊥) → (c : Command) → SpellsOperands verb.Has operands c → ⊥
no_has (a ∷ (b ∷ [])) none (Has s) h = none s h
no_has operands none c h = absurd h

-- they begin no search
pub no_next : (operands : List (Bor (List ℕ))) → ((s : Place) → SpellsPlace operands s → ⊥) → (c : Command) → SpellsOperands verb.Next operands c → ⊥
no_next (a ∷ (b ∷ [])) none (Next s) h = none s h
no_next operands none c h = absurd h

-- operands that are no pair put no rule
pub no_check : (rule : Rule) (operands : List (Bor (List ℕ))) → ((s : Pair) → SpellsPair operands s → ⊥) → (c : Command) → SpellsOperands (verb.Check rule) operands c → ⊥
no_check rule (a ∷ (b ∷ [])) none (Check r p) h = none p h.1
no_check rule operands none c h = absurd h

-- what holds of a list holds of its two elements
pub at_two : {A : Type 0} (P : List A → Type 0) (xs : List A) (a b : A) → length xs ≡ 2 → P xs → P (get_or xs 0 a ∷ (get_or xs 1 b ∷ []))
at_two P [] a b l h = absurd (omega arith)
at_two P (x ∷ []) a b l h = absurd (omega arith)
at_two P (x ∷ (y ∷ [])) a b l h = h
at_two P (x ∷ (y ∷ (z ∷ xs))) a b l h = absurd (omega arith)

-- or of its three
pub at_three : {A : Type 0} (P : List A → Type 0) (xs : List A) (a b d : A) → length xs ≡ 3 → P xs → P (get_or xs 0 a ∷ (get_or xs 1 b ∷ (get_or xs 2 d ∷ [])))
at_three P [] a b d l h = absurd (omega arith)
at_three P (x ∷ []) a b d l h = absurd (omega arith)
at_three P (x ∷ (y ∷ [])) a b d l h = absurd (omega arith)
at_three P (x ∷ (y ∷ (z ∷ []))) a b d l h = h
at_three P (x ∷ (y ∷ (z ∷ (w ∷ xs)))) a b d l h = absurd (omega arith)

-- or of three and those behind them
pub at_least_three : {A : Type 0} (P : List A → Type 0) (xs : List A) (a b d : A) → 3 ≤ length xs → P (get_or xs 0 a ∷ (get_or xs 1 b ∷ (get_or xs 2 d ∷ drop 3 xs))) → P xs
at_least_three P [] a b d l h = absurd (omega arith)
at_least_three P (x ∷ []) a b d l h = absurd (omega arith)
at_least_three P (x ∷ (y ∷ [])) a b d l h = absurd (omega arith)
at_least_three P (x ∷ (y ∷ (z ∷ xs))) a b d l h = h
