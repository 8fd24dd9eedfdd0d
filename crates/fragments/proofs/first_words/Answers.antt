use Rattle.std.proofs.Common.{refl}
use Rattle.fragments.specs.Outcome.{four_places}
use Rattle.fragments.proofs.first_words.Goals as goal

pub returns : goal.returns
unfolding four_places
returns c = rw (c.word_at.ensures, c.word_at-2.ensures, c.word_at-3.ensures, c.word_at-4.ensures) refl
