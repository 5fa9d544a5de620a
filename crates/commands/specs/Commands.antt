-- What the operands of a command spell.
use Rattle.std.specs.Prelude.{◌≡◌, ℕ, ◌^◌, ◌<◌, List, [], ◌∷◌, Option, Some, None, IsUtf8}
use Rattle.std.specs.Borrow.{Bor}
use Rattle.commands.specs.declared.command.Command.{Command}
use Rattle.commands.specs.declared.command.Command.TheVariants as command
use Rattle.commands.specs.declared.command.Command.TheVariants.{Draft, Mark, Clear, Has, Next, Runs, Count, Pack, Words, Image, Write, Load, Read, Check}
use Rattle.commands.specs.declared.verb.Layer.{Layer}
use Rattle.commands.specs.declared.verb.Verb.{Verb}
use Rattle.commands.specs.declared.verb.Verb.TheVariants as verb
use Rattle.commands.specs.Verbs.{verb_word}
use Rattle.commands.specs.declared.command.Span.{Span}
use Rattle.commands.specs.declared.command.Place.{Place}
use Rattle.commands.specs.declared.command.Pair.{Pair}
use Rattle.commands.specs.Operands.{Decimal, decimal_value, Name, Spells, HexDigits}
use Rattle.commands.specs.Options.{SpellsOptions, no_options}

-- a word that is a name
abbrev pub SpellsName : Bor (List ℕ) → List ℕ → Type 0
SpellsName word name = (name ≡ word.now) × Name word.now

-- a word that is a number of at most 64 bits
abbrev pub SpellsNumber : Bor (List ℕ) → ℕ → Type 0
SpellsNumber word n = Decimal word.now × (decimal_value word.now < 2 ^ 64) × (n ≡ decimal_value word.now)

-- a name and the two ends of a span
abbrev pub SpellsSpan : List (Bor (List ℕ)) → Span → Type 0
SpellsSpan (name ∷ from ∷ to ∷ []) s = SpellsName name s.name.now × SpellsNumber from s.from × SpellsNumber to s.to
SpellsSpan _ s = ⊥

-- a name and a position
abbrev pub SpellsPlace : List (Bor (List ℕ)) → Place → Type 0
SpellsPlace (name ∷ position ∷ []) s = SpellsName name s.name.now × SpellsNumber position s.position
SpellsPlace _ s = ⊥

-- two names
abbrev pub SpellsPair : List (Bor (List ℕ)) → Pair → Type 0
SpellsPair (first ∷ second ∷ []) s = SpellsName first s.first.now × SpellsName second s.second.now
SpellsPair _ s = ⊥

-- a word that is the path of a file: any text
abbrev pub SpellsFile : Bor (List ℕ) → List ℕ → Type 0
SpellsFile word file = (file ≡ word.now) × IsUtf8 word.now

-- a number of words, where one is given
abbrev pub SpellsWords : Option (Bor (List ℕ)) → Option ℕ → Type 0
SpellsWords None None = Unit {0}
SpellsWords (Some word) (Some n) = SpellsNumber word n
SpellsWords _ _ = ⊥

-- the command that makes a draft
abbrev pub SpellsDraft : Bor (List ℕ) → Bor (List ℕ) → Option (Bor (List ℕ)) → Command → Type 0
SpellsDraft name config words (Draft n c k) = SpellsName name n.now × Spells config.now c × SpellsWords words k
SpellsDraft _ _ _ _ = ⊥

-- the command that packs a set
abbrev pub SpellsPack : Bor (List ℕ) → Option (Bor (List ℕ)) → Command → Type 0
SpellsPack name words (Pack n k) = SpellsName name n.now × SpellsWords words k
SpellsPack _ _ _ = ⊥

-- the command that writes the image of a set into a file
abbrev pub SpellsWrite : Bor (List ℕ) → Bor (List ℕ) → Command → Type 0
SpellsWrite name file (Write n f) = SpellsName name n.now × SpellsFile file f.now
SpellsWrite _ _ _ = ⊥

-- the command that loads an image from bytes
abbrev pub SpellsLoad : Bor (List ℕ) → Bor (List ℕ) → Bor (List ℕ) → List (Bor (List ℕ)) → Command → Type 0
SpellsLoad name config bytes options (Load n c b o) = SpellsName name n.now × Spells config.now c × HexDigits bytes.now b.now × SpellsOptions no_options options o
SpellsLoad _ _ _ _ _ = ⊥

-- the command that loads an image from a file
abbrev pub SpellsRead : Bor (List ℕ) → Bor (List ℕ) → Bor (List ℕ) → Command → Type 0
SpellsRead name config file (Read n c f) = SpellsName name n.now × Spells config.now c × SpellsFile file f.now
SpellsRead _ _ _ _ = ⊥

-- the command that lays one set over another
abbrev pub SpellsLayer : Layer → Bor (List ℕ) → List (Bor (List ℕ)) → Command → Type 0
SpellsLayer layer name over (command.Layer l n p) = (l ≡ layer) × SpellsName name n.now × SpellsPair over p
SpellsLayer _ _ _ _ = ⊥

-- the command of a verb and its operands
abbrev pub SpellsOperands : Verb → List (Bor (List ℕ)) → Command → Type 0
SpellsOperands verb.Draft (name ∷ config ∷ []) c = SpellsDraft name config None c
SpellsOperands verb.Draft (name ∷ config ∷ words ∷ []) c = SpellsDraft name config (Some words) c
SpellsOperands verb.Mark (name ∷ from ∷ to ∷ []) (Mark s) = SpellsSpan (name ∷ from ∷ to ∷ []) s
SpellsOperands verb.Clear (name ∷ from ∷ to ∷ []) (Clear s) = SpellsSpan (name ∷ from ∷ to ∷ []) s
SpellsOperands (verb.Layer layer) (name ∷ first ∷ second ∷ []) c = SpellsLayer layer name (first ∷ second ∷ []) c
SpellsOperands verb.Has (name ∷ position ∷ []) (Has p) = SpellsPlace (name ∷ position ∷ []) p
SpellsOperands verb.Next (name ∷ position ∷ []) (Next p) = SpellsPlace (name ∷ position ∷ []) p
SpellsOperands verb.Runs (name ∷ []) (Runs n) = SpellsName name n.now
SpellsOperands verb.Count (name ∷ []) (Count n) = SpellsName name n.now
SpellsOperands verb.Pack (name ∷ []) c = SpellsPack name None c
SpellsOperands verb.Pack (name ∷ words ∷ []) c = SpellsPack name (Some words) c
SpellsOperands verb.Words (name ∷ []) (Words n) = SpellsName name n.now
SpellsOperands verb.Image (name ∷ []) (Image n) = SpellsName name n.now
SpellsOperands verb.Write (name ∷ file ∷ []) c = SpellsWrite name file c
SpellsOperands verb.Load (name ∷ config ∷ bytes ∷ options) c = SpellsLoad name config bytes options c
SpellsOperands verb.Read (name ∷ config ∷ file ∷ []) c = SpellsRead name config file c
SpellsOperands (verb.Check rule) (first ∷ second ∷ []) (Check r p) = (r ≡ rule) × SpellsPair (first ∷ second ∷ []) p
SpellsOperands _ _ _ = ⊥

-- the command of a word and the operands behind it
abbrev pub SpellsCommand : List ℕ → List (Bor (List ℕ)) → Command → Type 0
SpellsCommand word operands c = (v : Verb) × (word ≡ verb_word v) × SpellsOperands v operands c
