-- The words that begin commands.
use Rattle.std.specs.Prelude.{ℕ, List, codes}
use Rattle.commands.specs.declared.verb.Layer.{Layer}
use Rattle.commands.specs.declared.verb.Layer.TheVariants.{Both, Either, Without, OneOf}
use Rattle.commands.specs.declared.verb.Rule.{Rule}
use Rattle.commands.specs.declared.verb.Rule.TheVariants.{Emphasis, Languages, Notes, Pages}
use Rattle.commands.specs.declared.verb.Verb.{Verb}
use Rattle.commands.specs.declared.verb.Verb.TheVariants as verb
use Rattle.commands.specs.declared.verb.Verb.TheVariants.{Draft, Mark, Clear, Has, Next, Runs, Count, Pack, Words, Image, Write, Load, Read, Check}

-- the word of each layer
abbrev pub layer_word : Layer → List ℕ
layer_word Both = codes "both"
layer_word Either = codes "either"
layer_word Without = codes "without"
layer_word OneOf = codes "oneof"

-- the word of each rule
abbrev pub rule_word : Rule → List ℕ
rule_word Emphasis = codes "emphasis"
rule_word Languages = codes "languages"
rule_word Notes = codes "notes"
rule_word Pages = codes "pages"

-- the word of each verb
abbrev pub verb_word : Verb → List ℕ
verb_word Draft = codes "draft"
verb_word Mark = codes "mark"
verb_word Clear = codes "clear"
verb_word (verb.Layer layer) = layer_word layer
verb_word Has = codes "has"
verb_word Next = codes "next"
verb_word Runs = codes "runs"
verb_word Count = codes "count"
verb_word Pack = codes "pack"
verb_word Words = codes "words"
verb_word Image = codes "image"
verb_word Write = codes "write"
verb_word Load = codes "load"
verb_word Read = codes "read"
verb_word (Check rule) = rule_word rule
