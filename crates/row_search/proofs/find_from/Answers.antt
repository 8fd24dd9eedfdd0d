-- The search by words is the search by key.
use Rattle.std.proofs.Common.{◌≡◌, true, ℕ, ap, ◌∙◌, arith}
use Rattle.std.proofs.lemmas.Grind.{common_steps}
use Rattle.rows.specs.Table.{rows_of, words_of}
use Rattle.row_search.specs.Search.{find_in, is_at}
use Rattle.row_search.specs.ByKey.{find_key}
use Rattle.row_search.proofs.Search.{find-key-words}
use Rattle.row_search.proofs.find_from.Goals as goal

found : (c : goal.After-or_else) → is_at c.found_near.result ≡ true → c.found_near.result ≡ find_in c.args.part.now (words_of c.args.words.now)
unfolding find_in
found c a =
    let t = c.args.part.now in
    c.found_near.ensures a ∙ ap (λ (k : ℕ). find_key t k (rows_of t)) c.requires.1 ∙ find-key-words t _ (rows_of t) c.requires.0.0.row c.requires.0.2

pub returns : goal.returns
returns c = let h = found c in grind (arith, common_steps)
