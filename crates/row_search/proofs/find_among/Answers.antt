-- The search by words is the search by key.
use Rattle.std.proofs.Common.{ℕ, sym, ap, ◌∙◌, arith}
use Rattle.std.proofs.lemmas.Bool.Decides.{nat_tests}
use Rattle.rows.specs.Table.{rows_of}
use Rattle.row_search.specs.Search.{find_in}
use Rattle.row_search.specs.ByKey.{find_key}
use Rattle.row_search.proofs.Search.{find-key-words, finds_nothing}
use Rattle.row_search.proofs.find_among.Goals as goal

pub returns-then-is_empty : goal.returns-then-is_empty
returns-then-is_empty c = sym (finds_nothing _ c.args.words.now c.requires.0 (grind (arith, nat_tests)))

pub returns : goal.returns
unfolding find_in
returns c =
    let t = c.args.part.now in
    c.find_between.ensures ∙ ap (λ (k : ℕ). find_key t k (rows_of t)) c.key_of-k.ensures ∙ find-key-words t _ (rows_of t) c.requires.0.row c.requires.2
