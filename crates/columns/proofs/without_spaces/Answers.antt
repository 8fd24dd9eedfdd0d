-- `columns::without_spaces`: what stands behind the spaces.
use Rattle.std.proofs.Common.{◌≡◌, ℕ, eqb, ltb, not, cond, Bool, true, false, Option, Some, None, unwrap_or, ◌≤◌, length, drop, sym, refl, ap, ◌∙◌, arith, rules, tests}
use borrow.Author.Rules.{part_to_end}
use borrow.Author.Tests.{ltb-false}
use Rattle.std.specs.List.{position_or_len}
use Rattle.std.proofs.lemmas.List.Sums.{prefix_len-le-length}
use Rattle.std.proofs.lemmas.Iterator.{YieldsList-from_slice}
use Rattle.std.proofs.lemmas.Iterator.Search.{position_from_yields_List}
use Rattle.columns.proofs.Scans.{without_position}
use Rattle.columns.proofs.without_spaces.Goals as goal

-- where none is found, the place is behind the text
place : (n l : ℕ) → n ≤ l → unwrap_or (cond (ltb n l) (Some n) None) l ≡ n
place n l h = go (ltb n l) refl
  where
    go : (t : Bool) → ltb n l ≡ t → unwrap_or (cond t (Some n) None) l ≡ n
    go true e = refl
    go false e = let m = ltb-false n l e in omega arith

pub returns-clause-rest : goal.returns-clause-rest
returns-clause-rest c =
    let text = c.args.text.now in
    let first = position_or_len (λ (d : ℕ). not (eqb d 32)) text in
    let found : c.position.result ≡ cond (ltb first (length text)) (Some first) None =
    position_from_yields_List (λ (d : ℕ). not (eqb d 32)) _ _ c.position.result c.position.ensures.ran (YieldsList-from_slice text cc) (λ x b q k. search (rules, tests)) in
    let start : c.unwrap_or-start.result ≡ first =
    c.unwrap_or-start.ensures ∙ ap (λ (o : Option ℕ). unwrap_or o (length text)) found ∙ place first (length text) (prefix_len-le-length (λ (d : ℕ). not (not (eqb d 32))) text) in
    part_to_end text c.unwrap_or-start.result ∙ ap (λ (n : ℕ). drop n text) start ∙ sym (without_position text)
