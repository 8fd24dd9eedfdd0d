-- Laws of the search: the search by key among good rows is the plain search by words, and a row is found at its own place. Assumes nothing.
use Rattle.std.specs.declared.option.Option.{Option}
use Rattle.std.specs.declared.option.Option.TheVariants.{Some, None}
use mathlib.Core.Path.{◌≡◌, refl, sym, ap, ap₂, ◌∙◌}
use mathlib.Core.Bool.{Bool, true, false, cond}
use mathlib.Core.List.{List}
use Prim.Native.Nat.{ℕ, zero, suc, ◌<◌}
use native.Mathlib.Omega.{arith}
use lib.IntN.{ℤ}
use lib.ListN.{length, length-map}
use Rattle.backoff.specs.Limits.{order_limit}
use Rattle.backoff.specs.Words.{same_words, are_words, key}
use Rattle.backoff.proofs.Words.{same_eq}
use Rattle.rows.specs.Table.{rows_of, words_of, words}
use Rattle.rows.specs.Good.{GoodRow, Good}
use Rattle.rows.specs.Keys.{row_key}
use Rattle.rows.proofs.Keys.{same_key}
use Rattle.rows.proofs.Table.{row_in, length_limit, words-length}
use Rattle.rows.proofs.Good.{are_words_lem}
use Rattle.row_search.specs.Search.{find_below, find_in, is_at}
use Rattle.row_search.specs.ByKey.{find_key}
use Rattle.row_search.proofs.ByKey.{find-key_hit}

-- the search by words is the search by key
pub find-key-words : (t : List ℤ) (ws : List ℕ) (n : ℕ) → ((i : ℕ) → i < n → GoodRow t i) → are_words ws ≡ true → find_key t (key ws) n ≡ find_below t ws n
unfolding find_key find_below row_key
find-key-words t ws zero g a = refl
find-key-words t ws (suc n) g a =
    ap₂ (λ (b : Bool) (f : Option ℕ). cond b (Some n) f)
    (sym (same_key (words t n) ws (are_words_lem t n (g n (omega arith))) a))
    (find-key-words t ws n (λ i l. g i (omega arith)) a)

-- what a search found has the words searched for
found_below : (t : List ℤ) (ws : List ℕ) (n j : ℕ) → find_below t ws n ≡ Some j → (j < n) × (words t j ≡ ws)
unfolding find_below
found_below t ws zero j e = absurd (let z : ◌≡◌ {A = ℕ} 0 1 = cc in omega arith)
found_below t ws (suc n) j e = go (same_words (words t n) ws) refl (found_below t ws n j)
  where
    go : (b : Bool) → same_words (words t n) ws ≡ b → (find_below t ws n ≡ Some j → (j < n) × (words t j ≡ ws)) → (j < suc n) × (words t j ≡ ws)
    go true q ih =
        let f : Some n ≡ Some j = rw q at e in
        let z : n ≡ j = cc in
        (omega arith, rw (← z) (same_eq (words t n) ws q))
    go false q ih = let r = ih (rw q at e) in (let l = r.0 in omega arith, r.1)

pub found-words : (t : List ℤ) (ws : List ℕ) (j : ℕ) → find_in t ws ≡ Some j → (j < rows_of t) × (words t j ≡ ws)
unfolding find_in
found-words t ws j e = found_below t ws (rows_of t) j e

pub is-at : (f : Option ℕ) → is_at f ≡ true → (j : ℕ) × (f ≡ Some j)
is-at (Some j) e = (j, refl)
is-at None e = absurd (let z : ◌≡◌ {A = ℕ} 0 1 = cc in omega arith)

-- no row has no words
pub finds_nothing : (t zs : List ℤ) → Good t (rows_of t) → length zs ≡ 0 → find_in t (words_of zs) ≡ None
unfolding words_of
finds_nothing t zs g e = go (find_in t (words_of zs)) refl
  where
    go : (f : Option ℕ) → find_in t (words_of zs) ≡ f → f ≡ None
    go (Some j) q =
        let w = found-words t (words_of zs) j q in
        let some = (g.row j w.0).some in
        let same : length (words t j) ≡ length zs = ap length w.1 ∙ length-map zs _ in
        absurd (omega (arith, words-length t j (row_in t j w.0)))
    go None q = refl

-- no row has more words than a row may have
pub finds_no_longer : (t : List ℤ) (ws : List ℕ) → order_limit < length ws → find_in t ws ≡ None
finds_no_longer t ws l = go (find_in t ws) refl
  where
    go : (f : Option ℕ) → find_in t ws ≡ f → f ≡ None
    go (Some j) q =
        let w = found-words t ws j q in
        absurd (omega (arith, ap length w.1, words-length t j (row_in t j w.0), length_limit t j))
    go None q = refl

-- a row of good rows is found at its own place, and nowhere else
module _ (t : List ℤ) (g : Good t (rows_of t)) where
  pub finds_key : (ws : List ℕ) (j : ℕ) → are_words ws ≡ true → j < rows_of t → row_key t j ≡ key ws → find_in t ws ≡ Some j
  unfolding find_in
  finds_key ws j a l e = sym (find-key-words t ws (rows_of t) g.row a) ∙ find-key_hit t (key ws) (rows_of t) j g l e

  pub finds : (j : ℕ) → j < rows_of t → find_in t (words t j) ≡ Some j
  unfolding row_key
  finds j l = finds_key (words t j) j (are_words_lem t j (g.row j l)) l refl

  pub find_unique : (i j : ℕ) → i < rows_of t → j < rows_of t → words t i ≡ words t j → i ≡ j
  find_unique i j l m e =
      let f : Some i ≡ Some j = sym (finds i l) ∙ ap (find_in t) e ∙ finds j m in
      cc
