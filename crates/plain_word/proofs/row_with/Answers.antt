-- The words of the history and the word behind it.
use Rattle.std.proofs.Common.{◌≡◌, sym, ap, arith, true, List, [], ◌∷◌, ◌++◌, ℤ}
use mathlib.Core.List.{map-append}
use lib.ListN.{length-append, length-map}
use mir.Facts.{to_z-of_z}
use Rattle.backoff.specs.Words.{are_words}
use Rattle.backoff.proofs.Words.{words_more, first_some, first_limit, are_words_snoc}
use Rattle.rows.specs.Table.{word_of, words_of}
use Rattle.row_search.specs.Search.{found_row}
use Rattle.row_search.proofs.Search.{finds_no_longer}
use Rattle.plain_word.proofs.row_with.Goals as goal

module _ (h : List ℤ) (z : ℤ) where
  joined : words_of (h ++ (z ∷ [])) ≡ words_of h ++ (word_of z ∷ [])
  unfolding words_of
  joined = map-append (λ (z : ℤ). word_of z) h (z ∷ [])

  joined-are_words : are_words (words_of h) ≡ true → are_words (word_of z ∷ []) ≡ true → are_words (words_of (h ++ (z ∷ []))) ≡ true
  joined-are_words e f = rw (joined, are_words_snoc) (words_more (word_of z) (words_of h) (first_some (word_of z) [] f) (first_limit (word_of z) [] f) e)

pub returns-then-history-ge-LONGEST_ROW : goal.returns-then-history-ge-LONGEST_ROW
unfolding words_of found_row
returns-then-history-ge-LONGEST_ROW c =
    sym (ap (found_row _) (finds_no_longer _ _ (rw (length-append, length-map) (omega (arith, c.if-history-ge-LONGEST_ROW.true)))))

pub row_of-requires : goal.row_of-requires
row_of-requires c =
    (c.requires.0, rw (c.followed-words.ensures, to_z-of_z c.ranges.word) (joined-are_words c.args.history.now c.args.word c.requires.1 c.requires.2))

pub returns : goal.returns
returns c = rw (c.followed-words.ensures, to_z-of_z c.ranges.word, joined c.args.history.now c.args.word) at c.row_of.ensures
