-- Of two words, the first is left without the last, and its key is the word.
use Rattle.std.proofs.Common.{◌≡◌, ℕ, [], ◌∷◌, ◌*◌, ◌<◌, take, ap, sym, ◌∙◌, arith}
use Rattle.backoff.specs.Words.{key}
use Rattle.backoff.proofs.Words.{first_some}
use Rattle.rows.specs.Table.{without_last}
use Rattle.rows.proofs.Table.{words_cons, first_of-two}
use Rattle.rows.proofs.Good.{are_words_lem, are_words-without_last, part_good}
use Rattle.row_search.proofs.Search.{finds_key}
use Rattle.rows_before.proofs.find_shorter.Goals as goal
use Rattle.rows_before.proofs.find_shorter.Goals.{After-digit-word}

key_of-one : (w : ℕ) → key (w ∷ []) ≡ w
unfolding key
key_of-one w = omega arith

some : (c : After-digit-word) → 0 < c.digit-word.result
some c =
    let t = c.args.table.now in
    rw c.digit-word.ensures.0 (first_some _ _ (rw (words_cons t c.args.i c.requires.0 c.requires.2.some) at (are_words_lem t c.args.i c.requires.2)))

pub overflow_sub-row : goal.overflow_sub-row
overflow_sub-row c = some c.before

pub has_key-requires : goal.has_key-requires
has_key-requires c = part_good _ _ (omega arith) c.requires.1

pub returns-then-has_key : goal.returns-then-has_key
returns-then-has_key c =
    let t = c.args.table.now in
    let i = c.args.i in
    let ws = first_of-two t i c.requires.0 (sym c.requires.3 ∙ c.if-m-eq2.true) in
    let at = c.has_key.ensures c.if-has_key.true in
    let same : key (without_last t i) ≡ c.digit-word.result = ap key ws ∙ key_of-one _ ∙ sym c.digit-word.ensures.0 in
    sym (finds_key (take (8 * i) t) (part_good t i (omega arith) c.requires.1) (without_last t i) _ (are_words-without_last t i c.requires.2 c.requires.0) at.0 (omega (arith, at.1)))
