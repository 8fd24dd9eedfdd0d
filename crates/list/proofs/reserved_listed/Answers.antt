-- The three words are words.
use Rattle.std.proofs.Common.{refl, arith}
use Rattle.std.proofs.lemmas.Grind.{common_steps}
use Rattle.integer.specs.Integer.{between, up_to}
use Rattle.backoff.specs.Words.{are_words, is_word}
use Rattle.list.specs.Check.{reserved_listed}
use Rattle.list.proofs.reserved_listed.Goals as goal
use Rattle.list.proofs.reserved_listed.Goals.{then-word_listed, else-word_listed}

pub word_listed-requires : goal.word_listed-requires
unfolding are_words is_word up_to between
word_listed-requires c = (c.requires, refl)

pub word_listed-requires-then-word_listed : goal.word_listed-requires-then-word_listed
unfolding are_words is_word up_to between
word_listed-requires-then-word_listed c = (c.requires, refl)

pub word_listed-requires-then-word_listed-2 : goal.word_listed-requires-then-word_listed-2
unfolding are_words is_word up_to between
word_listed-requires-then-word_listed-2 c = (c.requires, refl)

pub returns-then-word_listed-2 : goal.returns-then-word_listed-2
unfolding reserved_listed up_to between
returns-then-word_listed-2 c = grind (arith, common_steps)

pub returns-else-word_listed-2 : goal.returns-else-word_listed-2
unfolding reserved_listed up_to between
returns-else-word_listed-2 c = grind (arith, common_steps)
